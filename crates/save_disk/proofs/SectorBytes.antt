-- The bytes of a sector, and of an image with other bytes in a sector.
use Rattle.std.proofs.Common.{◌≡◌, ℕ, ◌+◌, ◌-◌, ◌*◌, ◌<◌, ◌≤◌, List, ◌++◌, length, get_or, drop, replicate, refl, sym}
use Rattle.std.proofs.Common.{◌∙◌, arith, ⊎_elim, rules, get_or-take, get_or-drop}
use Rattle.std.proofs.lemmas.List.{places, get_or_past, get_or_append_left, get_or-append_right, get_or-replicate}
use Rattle.std.proofs.lemmas.List.{length-replicate}
use Rattle.std.proofs.lemmas.Bool.{cases_lt}
use Rattle.save_disk.specs.Trace.{sector_cut, sector_of, with_sector}

-- a byte of the part of a sector that lies in the image
pub sector_cut-byte : (grain : ℕ) (image : List ℕ) (sector k : ℕ) → k < grain
    → get_or (sector_cut grain image sector) k 0 ≡ get_or image (sector * grain + k) 0
sector_cut-byte grain image sector k h = get_or-take grain (drop (sector * grain) image) k 0 h
    ∙ get_or-drop (sector * grain) image k 0

-- zeros behind a list are what stands past its end
padded-byte : (xs : List ℕ) (n k : ℕ) → get_or (xs ++ replicate n 0) k 0 ≡ get_or xs k 0
padded-byte xs n k =
    ⊎_elim
    (λ (inside : k < length xs). get_or_append_left xs (replicate n 0) 0 k inside)
    (λ (past : length xs ≤ k).
    get_or-append_right xs (replicate n 0) (length xs) k 0 refl past
    ∙ ⊎_elim (λ (below : k - length xs < n). get_or-replicate n (k - length xs) 0 0 below)
    (λ (behind : n ≤ k - length xs). get_or_past (replicate n 0) (k - length xs) 0
    (omega (arith, length-replicate {A = ℕ} n 0, behind))) (cases_lt (k - length xs) n)
    ∙ sym (get_or_past xs k 0 past))
    (cases_lt k (length xs))

-- a byte of a sector is the image's, or zero past its end
pub sector_of-byte : (grain : ℕ) (image : List ℕ) (sector k : ℕ) → k < grain
    → get_or (sector_of grain image sector) k 0 ≡ get_or image (sector * grain + k) 0
sector_of-byte grain image sector k h =
    padded-byte (sector_cut grain image sector) (grain - length (sector_cut grain image sector)) k
    ∙ sector_cut-byte grain image sector k h

module _ (grain : ℕ) (image : List ℕ) (sector : ℕ) (bytes : List ℕ) (begins : sector * grain < length image)
    (whole : length bytes ≡ grain) where
  pub length-with_sector : length (with_sector grain image sector bytes) ≡ length image
  unfolding with_sector
  length-with_sector = search (rules, places)

  pub with_sector-before : (x : ℕ) → x < sector * grain → get_or (with_sector grain image sector bytes) x 0
      ≡ get_or image x 0
  unfolding with_sector
  with_sector-before x before = grind (arith, places)

  pub with_sector-behind : (x : ℕ) → sector * grain + grain ≤ x → x < length image
      → get_or (with_sector grain image sector bytes) x 0 ≡ get_or image x 0
  unfolding with_sector
  with_sector-behind x behind inside = grind (arith, places)

  pub with_sector-inside : (k : ℕ) → k < grain → sector * grain + k < length image
      → get_or (with_sector grain image sector bytes) (sector * grain + k) 0 ≡ get_or bytes k 0
  unfolding with_sector
  with_sector-inside k h inside = grind (arith, places)
