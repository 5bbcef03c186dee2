-- The bytes that are hashed, and those of entries.
use Rattle.std.proofs.Common.{◌≡◌, ℕ, ◌+◌, ◌-◌, ◌*◌, ◌<◌, ◌≤◌, min, List, ◌++◌, length, take, drop, replicate, refl}
use Rattle.std.proofs.Common.{sym, ◌∙◌, ap, subst, arith, append_assoc}
use Rattle.std.proofs.lemmas.List.{take_min, length-drop, append-nil}
use Rattle.std.proofs.lemmas.Bool.{ne_eqb}
use Rattle.sha2.specs.Hashers.{Holds256}
use Rattle.sha2.specs.declared.Sha256.{Sha256}
use Rattle.save_bytes.specs.Cells.{Cell}
use Rattle.save_bytes.specs.CellNumbers.{bytes_in}
use Rattle.save_bytes.proofs.CellLemmas.{length-bytes_in, bytes_in-part}
use Rattle.difi.specs.declared.descriptor.Difi.{Difi}
use Rattle.difi.specs.Places.{block_size}
use Rattle.ivfc_tree.specs.Hashing.{Takes}
use Rattle.ivfc_tree.specs.Levels.{level_of, len_of, ivfc_level, block_bytes, padded_block, hash_entry}

module _ (cells : ℕ → Cell) (difi : Difi) (level block : ℕ) (begins : block * block_size (level_of difi level)
    < (level_of difi level).size) where
  -- the bytes of a block stand side by side in the base
  pub block_bytes-is : block_bytes cells difi level block
      ≡ bytes_in cells ((level_of difi level).at + block * block_size (level_of difi level)) (len_of difi level block)
  block_bytes-is =
      let place = level_of difi level in
      let size = block_size place in
      let from = block * size in
      let rest : List ℕ = drop from (ivfc_level cells difi level) in
      let long : length rest ≡ place.size - from =
      length-drop from (ivfc_level cells difi level) ∙ ap (λ (n : ℕ). n - from)
      (length-bytes_in cells place.at place.size) in
      sym (take_min size rest)
      ∙ ap (λ (n : ℕ). take (min size n) rest) long
      ∙ bytes_in-part cells place.at place.size from (len_of difi level block) (omega (arith, begins))

  -- a block with its zeros
  pub padded_block-is : padded_block cells difi level block
      ≡ bytes_in cells ((level_of difi level).at + block * block_size (level_of difi level)) (len_of difi level block)
      ++ replicate (block_size (level_of difi level) - len_of difi level block) 0
  unfolding padded_block
  padded_block-is = rw (block_bytes-is, length-bytes_in) refl

module _ (cells : ℕ → Cell) (master : List ℕ) (difi : Difi) (level block : ℕ) where
  -- an entry in a level stands side by side in the base
  pub hash_entry-below : 1 < level → 32 * block + 32 ≤ (level_of difi (level - 1)).size
      → hash_entry cells master difi level block ≡ bytes_in cells ((level_of difi (level - 1)).at + 32 * block) 32
  unfolding hash_entry
  hash_entry-below below inside =
      let above = level_of difi (level - 1) in
      rw (ne_eqb level 1 (λ e. omega (arith, e, below)))
      (bytes_in-part cells above.at above.size (32 * block) 32 inside)

  -- an entry in the master hash
  pub hash_entry-first : level ≡ 1 → (entry : List ℕ) → entry ≡ take 32 (drop (32 * block) master)
      → entry ≡ hash_entry cells master difi level block
  unfolding hash_entry
  hash_entry-first first entry is = is ∙ rw first refl

-- before the first piece
pub takes_none : (cells : ℕ → Cell) (at : ℕ) (hasher : Sha256) → Takes hasher hasher (bytes_in cells at 0)
unfolding bytes_in
takes_none cells at hasher message holds = subst (λ (l : List ℕ). Holds256 hasher l) (sym (append-nil message)) holds

-- a piece more
pub takes_more : (first old new : Sha256) (xs ys : List ℕ) → Takes first old xs → Takes old new ys
    → Takes first new (xs ++ ys)
takes_more first old new xs ys before next message holds =
    subst (λ (l : List ℕ). Holds256 new l) (append_assoc message xs ys) (next (message ++ xs) (before message holds))
