-- What a hash path comes to.
use Rattle.std.proofs.Common.{◌≡◌, ◌≢◌, ℕ, zero, suc, ◌<◌, ◌≤◌, Bool, true, false, List, refl, sym, ◌∙◌, arith, ⊎_elim}
use Rattle.std.specs.Str.{bytes_eq}
use Rattle.std.proofs.lemmas.Bool.{both_ways, cases_Bool, cases_lt, eq-eqb, ne_eqb}
use Rattle.std.proofs.lemmas.Slice.Eq.{bytes_eq-Decides}
use Rattle.sha2.specs.Sha256.{sha256}
use Rattle.save_bytes.specs.Cells.{Cell}
use Rattle.difi.specs.declared.descriptor.Difi.{Difi}
use Rattle.ivfc_tree.specs.declared.path.BlockState.{BlockState}
use Rattle.ivfc_tree.specs.declared.path.BlockState.TheVariants.{Good, Blank as BlankAt, Bad as BadAt}
use Rattle.ivfc_tree.specs.Levels.{padded_block, hash_entry, zero_entry, parent_of}
use Rattle.ivfc_tree.specs.Paths.{block_above, IsHashed, HasHashPath, FailsFirst, IsStateOf, own_state, after}
use Rattle.ivfc_tree.specs.Paths.{marked_state}

differ : (xs ys : List ℕ) → bytes_eq xs ys ≡ false → xs ≢ ys
differ xs ys other same = both_ways (bytes_eq xs ys) other ((bytes_eq-Decides xs ys).1 same)

-- the blocks above a block of the next level
pub block_above-here : (difi : Difi) (level block : ℕ) → block_above difi (suc level) block (suc level) ≡ block
unfolding block_above
block_above-here difi level block = rw (eq-eqb (suc level) (suc level) refl) refl

pub block_above-higher : (difi : Difi) (level block upper : ℕ) → upper < suc level
    → block_above difi (suc level) block upper ≡ block_above difi level (parent_of difi level block) upper
unfolding block_above
block_above-higher difi level block upper below =
    rw (ne_eqb upper (suc level) (λ same. absurd (omega (arith, same, below)))) refl

module _ (cells : ℕ → Cell) (master : List ℕ) (difi : Difi) where
  abbrev hashed : ℕ → ℕ → Type 0
  hashed = IsHashed cells master difi

  abbrev path : ℕ → ℕ → Type 0
  path = HasHashPath cells master difi

  abbrev fails : ℕ → ℕ → ℕ → ℕ → Type 0
  fails = FailsFirst cells master difi

  -- with a path above it, a block that is hashed has a path
  path_more : (level block : ℕ) → path level (parent_of difi level block) → hashed (suc level) block
      → path (suc level) block
  path_more level block above own upper some within =
      ⊎_elim
      (λ (below : upper < suc level). rw (block_above-higher difi level block upper below)
      (above upper some (omega (arith, below))))
      (λ (last : suc level ≤ upper).
      (let here : upper ≡ suc level = omega (arith, last, within) in
      rw (here, block_above-here difi level block) own))
      (cases_lt upper (suc level))

  -- a path that fails above a block fails there for the block
  fails_more : (level block upper at : ℕ)
      → fails level (parent_of difi level block) upper at → fails (suc level) block upper at
  fails_more level block upper at h = record {
    some = h.some;
    above = omega (arith, h.above);
    there = h.there ∙ sym (block_above-higher difi level block upper (omega (arith, h.above)));
    fails = h.fails;
    before = λ higher some below. rw (block_above-higher difi level block higher (omega (arith, below, h.above)))
        (h.before higher some below);
  }

  -- with a path above it, a block that is not hashed is the first to fail
  fails_here : (level block : ℕ) → path level (parent_of difi level block) → ¬ hashed (suc level) block
      → fails (suc level) block (suc level) block
  fails_here level block above unhashed = record {
    some = omega arith;
    above = omega arith;
    there = sym (block_above-here difi level block);
    fails = unhashed;
    before = λ higher some below. rw (block_above-higher difi level block higher below)
        (above higher some (omega (arith, below)));
  }

  -- a block with a path above it is what its entry and its digest tell
  own_is : (level block : ℕ) → path level (parent_of difi level block)
      → IsStateOf cells master difi (suc level) block (own_state cells master difi (suc level) block)
  own_is level block above =
      let entry = hash_entry cells master difi (suc level) block in
      let digest = sha256 (padded_block cells difi (suc level) block) in
      ⊎_elim
      (λ (none : bytes_eq entry zero_entry ≡ true).
      let zeros = (bytes_eq-Decides entry zero_entry).0 none in
      rw none (fails_here level block above (λ own. own.written zeros), zeros))
      (λ (some : bytes_eq entry zero_entry ≡ false).
      let written = differ entry zero_entry some in
      rw some (⊎_elim
      (λ (good : bytes_eq entry digest ≡ true).
      rw good (path_more level block above
      (record { written = written; digest = (bytes_eq-Decides entry digest).0 good })))
      (λ (bad : bytes_eq entry digest ≡ false).
      rw bad (fails_here level block above (λ own. differ entry digest bad own.digest), written))
      (cases_Bool (bytes_eq entry digest))))
      (cases_Bool (bytes_eq entry zero_entry))

  -- what is found above a block decides, unless it holds
  after_state : (level block : ℕ) (above own : BlockState)
      → IsStateOf cells master difi level (parent_of difi level block) above
      → (path level (parent_of difi level block) → IsStateOf cells master difi (suc level) block own)
      → IsStateOf cells master difi (suc level) block (after above own)
  after_state level block Good own found next = next found
  after_state level block (BlankAt upper at) own found next = (fails_more level block upper at found.0, found.1)
  after_state level block (BadAt upper at) own found next = (fails_more level block upper at found.0, found.1)

  -- where none is marked, what a path comes to is what the definition of a path says
  pub state_is : (marked : ℕ → ℕ → Bool) → ((level block : ℕ) → marked level block ≡ false) → (level block : ℕ)
      → IsStateOf cells master difi level block (marked_state cells master difi marked level block)
  unfolding marked_state
  state_is marked none zero block = λ upper some within. absurd (omega (arith, some, within))
  state_is marked none (suc level) block =
      let above = parent_of difi level block in
      rw (none (suc level) block)
      (after_state level block (marked_state cells master difi marked level above) _ (state_is marked none level above)
      (own_is level block))
