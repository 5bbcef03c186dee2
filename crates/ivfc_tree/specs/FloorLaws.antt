-- The laws of a floor, of a view through the hash tree.
use Rattle.std.proofs.Common.{◌≡◌, ℕ, ◌+◌, ◌-◌, ◌*◌, ◌/◌, ◌<◌, ◌≤◌, List, min, refl, ◌∙◌, ap, arith}
use Rattle.std.proofs.lemmas.Nat.{pow_pos, div-mul-add}
use Rattle.std.proofs.Math.Nat.{div-mul-le_self, lt-div-mul-add}
use Rattle.save_bytes.specs.Cells.{IsAlike}
use Rattle.save_bytes.specs.State.{State}
use Rattle.save_bytes.specs.Blocks.{IsGround, HasBlocks, HasAlikeBlocks}
use Rattle.difi.specs.declared.descriptor.Difi.{Difi}
use Rattle.difi.specs.Places.{block_size}
use Rattle.ivfc_tree.specs.declared.path.BlockState.{BlockState}
use Rattle.ivfc_tree.specs.declared.path.BlockState.TheVariants.{Good, Blank as BlankAt, Bad as BadAt}
use Rattle.ivfc_tree.specs.declared.state.IvfcState.{IvfcState}
use Rattle.ivfc_tree.specs.Paths.{block_state, cell_in}
use Rattle.ivfc_tree.specs.View.{view_state}

-- places of one block have one quotient
quotient_in : (x y size : ℕ) → x / size * size ≤ y → y < x / size * size + size → y / size ≡ x / size
quotient_in x y size starts ends =
    let place : y ≡ x / size * size + (y - x / size * size) = omega (arith, starts) in
    let rest : y - x / size * size < size = omega (arith, starts, ends) in
    ap (λ (z : ℕ). z / size) place ∙ div-mul-add (x / size) size (y - x / size * size) rest

module _ (base : State) (part : ℕ) (master : List ℕ) (difi : Difi) (state : IvfcState) where
  pub view_ground : IsGround (view_state base part master difi state)
  view_ground = record { first = refl; single = refl; bottom = λ x. refl }

  pub view_blocks : HasBlocks (view_state base part master difi state).shape
  view_blocks =
      let size = block_size difi.ivfc4 in
      let some = pow_pos difi.ivfc4.log in
      let same : (x y : ℕ) → x / size * size ≤ y → y < x / size * size + min size (difi.ivfc4.size - x / size * size)
      → y / size ≡ x / size =
      λ x y starts ends. quotient_in x y size starts (omega (arith, ends)) in
      record {
        starts = λ x below. div-mul-le_self x size;
        ends = λ x below. omega (arith, lt-div-mul-add {a = x} some, div-mul-le_self x size, below);
        inside = λ x below. omega (arith, div-mul-le_self x size, below);
        same_start = λ x y below starts ends. rw (same x y starts ends) refl;
        same_len = λ x y below starts ends. rw (same x y starts ends) refl;
      }

  alike_in : (found : BlockState) (one other : ℕ) → IsAlike (cell_in found part one) (cell_in found part other)
  alike_in Good one other = tt
  alike_in (BlankAt level block) one other = refl
  alike_in (BadAt level block) one other = refl

  pub view_alike : HasAlikeBlocks (view_state base part master difi state)
  view_alike x y in_x in_y same =
      let size = block_size difi.ivfc4 in
      let some = pow_pos difi.ivfc4.log in
      let block : y / size ≡ x / size = quotient_in x y size
      (omega (arith, same, div-mul-le_self y size)) (omega (arith, same, lt-div-mul-add {a = y} some)) in
      rw block (alike_in (block_state base.cells master difi state 4 (x / size)) _ _)
