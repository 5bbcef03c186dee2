-- What a block comes to by itself, where some bytes of the base changed.
use Rattle.std.proofs.Common.{◌≡◌, ℕ, zero, suc, ◌+◌, ◌-◌, ◌*◌, ◌/◌, ◌^◌, ◌<◌, ◌≤◌, List, ◌++◌, length, replicate}
use Rattle.std.proofs.Common.{refl, sym, ◌∙◌, ap, arith}
use Rattle.std.proofs.lemmas.Nat.{pow-add, div-mul-add}
use Rattle.std.proofs.Math.Nat.{div-div-eq-div-mul, div-mul-le_self, lt-div-mul-add}
use Rattle.save_bytes.specs.Cells.{Cell}
use Rattle.save_bytes.specs.State.{Shape}
use Rattle.save_bytes.proofs.CellLemmas.{bytes_in-same}
use Rattle.difi.specs.declared.descriptor.Difi.{Difi}
use Rattle.difi.specs.Places.{block_size}
use Rattle.ivfc_tree.specs.Levels.{level_of, HasBlock, block_begin, len_of, padded_block, hash_entry}
use Rattle.ivfc_tree.specs.Paths.{own_state}
use Rattle.ivfc_tree.specs.View.{HasTree}
use Rattle.ivfc_tree.specs.ViewLaws.{parent_there}
use Rattle.ivfc_tree.proofs.HashLemmas.{padded_block-is, hash_entry-below}
use Rattle.ivfc_tree.proofs.LevelLemmas.{block_placed}

-- a place in a block, and the block of a place
pub in_block_from : (x block size : ℕ) → 0 < size → x / size ≡ block → (block * size ≤ x) × (x < block * size + size)
in_block_from x block size some is =
    (rw (← is) (div-mul-le_self x size), rw (← is) (lt-div-mul-add {a = x} some))

pub block_from : (x block size : ℕ) → block * size ≤ x → x < block * size + size → x / size ≡ block
block_from x block size low high =
    let rest : x ≡ block * size + (x - block * size) = omega arith in
    rw rest (div-mul-add block size (x - block * size) (omega arith))

-- each byte of an entry lies in the block in which the entry begins
pub entry_block : (entry k log : ℕ) → 9 ≤ log → k < 32 → (32 * entry + k) / 2 ^ log ≡ 32 * entry / 2 ^ log
entry_block entry k log big small =
    let rest : log ≡ 5 + (log - 5) = omega arith in
    let size : 2 ^ log ≡ 32 * 2 ^ (log - 5) = ap (λ (n : ℕ). 2 ^ n) rest ∙ pow-add 2 5 (log - 5) in
    let turned : 32 * entry + k ≡ entry * 32 + k = omega arith in
    let plain : 32 * entry ≡ entry * 32 + 0 = omega arith in
    let one : (32 * entry + k) / 32 ≡ entry = ap (λ (n : ℕ). n / 32) turned ∙ div-mul-add entry 32 k small in
    let other : 32 * entry / 32 ≡ entry = ap (λ (n : ℕ). n / 32) plain ∙ div-mul-add entry 32 0 (omega arith) in
    rw size
    (sym (div-div-eq-div-mul (32 * entry + k) 32 (2 ^ (log - 5)))
    ∙ ap (λ (n : ℕ). n / 2 ^ (log - 5)) (one ∙ sym other)
    ∙ div-div-eq-div-mul (32 * entry) 32 (2 ^ (log - 5)))

module _ (base : Shape) (difi : Difi) (master : List ℕ) (tree : HasTree base difi (length master))
    (one other : ℕ → Cell)
    (level block : ℕ) (there : HasBlock difi level block) where
  -- a block whose bytes and whose entry are as before comes to the same by itself
  padded_kept : ((k : ℕ) → k < len_of difi level block → other (block_begin difi level block + k) ≡ one
      (block_begin difi level block + k))
      → padded_block other difi level block ≡ padded_block one difi level block
  padded_kept bytes =
      let placed = block_placed base difi level block tree.levels there in
      let at = block_begin difi level block in
      padded_block-is other difi level block placed.begins
      ∙ ap (λ (l : List ℕ). l ++ replicate (block_size (level_of difi level) - len_of difi level block) 0)
      (bytes_in-same other one at at (len_of difi level block) bytes)
      ∙ sym (padded_block-is one difi level block placed.begins)

module _ (base : Shape) (difi : Difi) (master : List ℕ) (tree : HasTree base difi (length master))
    (one other : ℕ → Cell) where
  -- the bytes of a block's entry, where that lies in a level, are as before
  abbrev pub EntryStays : ℕ → ℕ → Type 0
  EntryStays level block = (upper : ℕ) → 1 ≤ upper → level ≡ suc upper → (k : ℕ) → k < 32
      → other ((level_of difi upper).at + (32 * block + k)) ≡ one ((level_of difi upper).at + (32 * block + k))

  entry_kept : (level block : ℕ) → HasBlock difi level block → EntryStays level block
      → hash_entry other master difi level block ≡ hash_entry one master difi level block
  unfolding hash_entry
  entry_kept zero block there entry = absurd (omega (arith, there.in_tree.0))
  entry_kept (suc zero) block there entry = refl
  entry_kept (suc (suc upper)) block there entry =
      let above : suc (suc upper) - 1 ≡ suc upper = omega arith in
      let parent = parent_there base difi (length master) (suc upper) block tree (omega arith) there in
      let inside : 32 * block + 32 ≤ (level_of difi (suc (suc upper) - 1)).size = rw above parent.inside in
      let at = (level_of difi (suc upper)).at in
      hash_entry-below other master difi (suc (suc upper)) block (omega arith) inside
      ∙ rw above (bytes_in-same other one (at + 32 * block) (at + 32 * block) 32
      (λ k less. let place : at + 32 * block + k ≡ at + (32 * block + k) = omega arith in
      rw place (entry (suc upper) (omega arith) refl k less)))
      ∙ sym (hash_entry-below one master difi (suc (suc upper)) block (omega arith) inside)

  pub own_kept : (level block : ℕ) → HasBlock difi level block
      → ((k : ℕ) → k < len_of difi level block → other (block_begin difi level block + k) ≡ one
      (block_begin difi level block + k))
      → EntryStays level block → own_state other master difi level block ≡ own_state one master difi level block
  own_kept level block there bytes entry =
      rw (padded_kept base difi master tree one other level block there bytes, entry_kept level block there entry) refl
