-- A block whose bytes became zero: no other block but those whose entries it has comes to anything else by itself.
use Rattle.std.proofs.Common.{◌≡◌, ◌≢◌, ℕ, suc, ◌+◌, ◌-◌, ◌*◌, ◌/◌, ◌<◌, ◌≤◌, List, length, replicate}
use Rattle.std.proofs.Common.{refl, sym, ◌∙◌, ap, subst, arith, ⊎_elim}
use Rattle.std.proofs.lemmas.Bool.{cases_lt, cases_eq}
use Rattle.std.proofs.lemmas.List.{get_or-replicate, length-replicate}
use Rattle.std.proofs.lemmas.Nat.{pow_pos}
use Rattle.save_bytes.specs.Cells.{Cell, Byte, AreBytesAt}
use Rattle.save_bytes.specs.State.{Shape}
use Rattle.save_bytes.specs.Writes.{IsWithin}
use Rattle.save_bytes.proofs.CellLemmas.{bytes_in-is}
use Rattle.difi.specs.declared.descriptor.Difi.{Difi}
use Rattle.difi.specs.Places.{block_size}
use Rattle.ivfc_tree.specs.declared.path.BlockState.TheVariants.{Blank as BlankAt}
use Rattle.ivfc_tree.specs.Levels.{IsLevel, level_of, HasBlock, block_begin, len_of, hash_entry, zero_entry, parent_of}
use Rattle.ivfc_tree.specs.Paths.{own_state}
use Rattle.ivfc_tree.specs.View.{HasTree}
use Rattle.ivfc_tree.specs.ViewLaws.{parent_there}
use Rattle.ivfc_tree.specs.Eases.{ZeroesBlock}
use Rattle.ivfc_tree.proofs.HashLemmas.{hash_entry-below}
use Rattle.ivfc_tree.proofs.LevelLemmas.{block_placed}
use Rattle.ivfc_tree.proofs.ByteLemmas.{in_block_from, block_from, entry_block, own_kept}

module _ (base : Shape) (difi : Difi) (master : List ℕ) (tree : HasTree base difi (length master)) (level block : ℕ)
    (there : HasBlock difi level block) where
  -- a byte of a level that lies in the block lies in its level there
  within_block : (l y : ℕ) → IsLevel l → y < (level_of difi l).size
      → IsWithin (block_begin difi level block) (len_of difi level block) ((level_of difi l).at + y)
      → (l ≡ level) × (block * block_size (level_of difi level) ≤ y) × (y < block * block_size (level_of difi level) +
      block_size (level_of difi level))
  within_block l y here inside within =
      let place = level_of difi level in
      let begins = (block_placed base difi level block tree.levels there).begins in
      ⊎_elim
      (λ (same : l ≡ level).
      let in_level : IsWithin (block_begin difi level block) (len_of difi level block) (place.at + y) =
      subst (λ (n : ℕ). IsWithin (block_begin difi level block) (len_of difi level block) ((level_of difi n).at + y))
      same within in
      (same, omega (arith, in_level.0), omega (arith, in_level.1)))
      (λ (other : l ≢ level).
      absurd (⊎_elim
      (λ (above : l < level). tree.levels.apart l level here.0 above there.in_tree.1 ((level_of difi l).at + y)
      (omega arith) (omega (arith, inside)) (omega (arith, within.0)) (omega (arith, within.1, begins)))
      (λ (behind : level ≤ l). tree.levels.apart level l there.in_tree.0 (omega (arith, behind, other)) here.1
      ((level_of difi l).at + y) (omega (arith, within.0)) (omega (arith, within.1, begins)) (omega arith)
      (omega (arith, inside)))
      (cases_lt l level)))
      (cases_eq l level)

  -- a byte of a level that lies in the block there
  pub of_block : (y : ℕ) → y < (level_of difi level).size → y / block_size (level_of difi level) ≡ block
      → (k : ℕ) × (k < len_of difi level block) × (block_begin difi level block + k ≡ (level_of difi level).at + y)
  of_block y inside is =
      let place = level_of difi level in
      let range = in_block_from y block (block_size place) (pow_pos place.log) is in (
        y - block * block_size place,
        omega (arith, range.0, range.1, inside),
        omega (arith, range.0),
      )

  module _ (one other : ℕ → Cell) (zeroed : ZeroesBlock base.size difi level block one other) where
    -- any other byte of a level is as before
    pub level_byte : (l y : ℕ) → IsLevel l → y < (level_of difi l).size
        → (l ≡ level → y / block_size (level_of difi l) ≢ block) → other ((level_of difi l).at + y) ≡ one
        ((level_of difi l).at + y)
    level_byte l y here inside apart =
        zeroed.others ((level_of difi l).at + y) (omega (arith, inside, tree.levels.inside l here))
        (λ within.
        (let found = within_block l y here inside within in
        apart found.0 (subst (λ (n : ℕ). y / block_size (level_of difi n) ≡ block) (sym found.0)
        (block_from y block (block_size (level_of difi level)) found.1 found.2))))

    -- and each byte of the block is zero
    pub block_byte : (y : ℕ) → y < (level_of difi level).size → y / block_size (level_of difi level) ≡ block
        → other ((level_of difi level).at + y) ≡ Byte 0
    block_byte y inside is =
        let found = of_block y inside is in
        ap other (sym found.2) ∙ zeroed.zeros found.0 found.1

    pub own_stays : (l c : ℕ) → HasBlock difi l c → (l ≡ level → c ≢ block)
        → (l ≡ suc level → parent_of difi level c ≢ block)
        → own_state other master difi l c ≡ own_state one master difi l c
    own_stays l c here apart unentered =
        let place = level_of difi l in
        let begins = (block_placed base difi l c tree.levels here).begins in
        own_kept base difi master tree one other l c here
        (λ k less.
        (let at : block_begin difi l c + k ≡ place.at + (c * block_size place + k) = omega arith in
        let of : (c * block_size place + k) / block_size place ≡ c =
        block_from (c * block_size place + k) c (block_size place) (omega arith) (omega (arith, less)) in
        rw at (level_byte l (c * block_size place + k) here.in_tree (omega (arith, less, begins))
        (λ same in_block. apart same (sym of ∙ in_block)))))
        (λ upper some next k less.
        (let parent = parent_there base difi (length master) upper c tree some
        (subst (λ (n : ℕ). HasBlock difi n c) next here) in
        let log = (tree.levels.logs upper parent.parent.in_tree).0 in
        level_byte upper (32 * c + k) parent.parent.in_tree (omega (arith, less, parent.inside))
        (λ same in_block. unentered (next ∙ ap suc same)
        (subst (λ (n : ℕ). parent_of difi n c ≡ block) same (sym (entry_block c k (level_of difi upper).log log less)
        ∙ in_block)))))

    -- a block whose entry lies in it was never written
    pub own_zero : (c : ℕ) → HasBlock difi (suc level) c → parent_of difi level c ≡ block
        → own_state other master difi (suc level) c ≡ BlankAt (suc level) c
    own_zero c here under =
        let above : suc level - 1 ≡ level = omega arith in
        let parent = parent_there base difi (length master) level c tree there.in_tree.0 here in
        let place = level_of difi level in
        let log = (tree.levels.logs level there.in_tree).0 in
        let zeros : List ℕ = replicate 32 0 in
        let are : AreBytesAt other (place.at + 32 * c) zeros =
        λ k less.
        (let small : k < 32 = omega (arith, less, length-replicate {A = ℕ} 32 0) in
        let at : place.at + 32 * c + k ≡ place.at + (32 * c + k) = omega arith in
        rw (at, get_or-replicate {A = ℕ} 32 k 0 0 small)
        (block_byte (32 * c + k) (omega (arith, small, parent.inside))
        (entry_block c k place.log log small ∙ under))) in
        let entry : hash_entry other master difi (suc level) c ≡ zero_entry =
        hash_entry-below other master difi (suc level) c (omega (arith, there.in_tree.0)) (rw above parent.inside)
        ∙ rw above (bytes_in-is other (place.at + 32 * c) zeros are) in
        rw entry refl
