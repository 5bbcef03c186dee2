-- Sectors of a page read one behind the other.
use Rattle.std.proofs.Common.{◌≡◌, ℕ, ◌+◌, ◌-◌, ◌*◌, ◌/◌, ◌<◌, ◌≤◌, List, ◌++◌, length, get_or, take, IsTrue, sym, ◌∙◌}
use Rattle.std.proofs.Common.{ap, subst, min, arith, ⊎_elim}
use Rattle.std.proofs.lemmas.List.{places, take_all, take-append-le}
use Rattle.std.proofs.Math.Nat.{add-mul}
use Rattle.std.proofs.lemmas.Nat.{div-mul-add}
use Rattle.std.proofs.lemmas.Bool.{cases_lt}
use borrow.Rule.Slice.PartMut.{put_mid, mid_of}
use Rattle.save_disk.specs.Trace.{sector_of, image_now}
use Rattle.save_disk.specs.State as disks
use Rattle.save_disk.proofs.SectorBytes.{sector_of-byte}
use Rattle.save_disk.proofs.Told.{read_sure}
use Rattle.save_disk.specs.Grains.{is_grain}
use Rattle.page_image.specs.Frames.{IsByteRead}
use Rattle.page_image.specs.Reading.{AreSectorsRead}
use Rattle.page_image.proofs.SectorLemmas.{page_begins, page_size}

module _ (start n : ℕ) (bytes out : List ℕ) (fits : start + n ≤ length bytes) (long : length out ≡ n) where
  pub part_before : (x : ℕ) → x < start → get_or (put_mid start (start + n - start) bytes out) x 0 ≡ get_or bytes x 0
  part_before x before = grind (arith, places)

  pub part_inside : (k : ℕ) → k < n
      → get_or (put_mid start (start + n - start) bytes out) (start + k) 0 ≡ get_or out k 0
  part_inside k within = grind (arith, places)

-- a byte of a sector that was read
pub own_read : (disk : disks.State) (grain sector : ℕ) (out : List ℕ) → disks.IsSound disk → grain ≡ disk.grain
    → disks.IsRead disk sector out
    → (m : ℕ) → m < grain → IsByteRead disk grain (sector * grain + m) (get_or out m 0)
own_read disk grain sector out sound same read m within = λ told is sure.
    let own : out ≡ sector_of disk.grain (image_now told) sector =
    read_sure disk told sector out sound is
    (subst (λ (s : ℕ). IsTrue (told.sure s)) (div-mul-add sector grain m within) sure) read in
    ap (λ (l : List ℕ). get_or l m 0) (own ∙ ap (λ (n : ℕ). sector_of n (image_now told) sector) (sym same))
    ∙ sector_of-byte grain (image_now told) sector m within

-- a sector more is read
pub sector_read : (disk : disks.State) (grain first sector : ℕ) (bytes out : List ℕ) → disks.IsSound disk
    → grain ≡ disk.grain
    → sector * grain + grain ≤ length bytes → length out ≡ grain → disks.IsRead disk (first + sector) out
    → AreSectorsRead disk grain first bytes (sector * grain)
    → AreSectorsRead disk grain first (put_mid (sector * grain) (sector * grain + grain - sector * grain) bytes out)
    (sector * grain + grain)
sector_read disk grain first sector bytes out sound same fits long read before = λ k below.
    let start : ℕ = sector * grain in
    let now : List ℕ = put_mid start (start + grain - start) bytes out in
    ⊎_elim
    (λ (front : k < start).
    subst (λ (b : ℕ). IsByteRead disk grain (first * grain + k) b)
    (sym (part_before start grain bytes out fits long k front)) (before k front))
    (λ (behind : start ≤ k).
    let m : ℕ = k - start in
    let within : m < grain = omega arith in
    let here : (first + sector) * grain + m ≡ first * grain + k = omega (arith, add-mul first sector grain) in
    let byte : get_or out m 0 ≡ get_or now k 0 =
    sym (part_inside start grain bytes out fits long m within) ∙ ap (λ (y : ℕ). get_or now y 0) (omega arith) in
    subst (λ (b : ℕ). IsByteRead disk grain (first * grain + k) b) byte
    (subst (λ (x : ℕ). IsByteRead disk grain x (get_or out m 0)) here
    (own_read disk grain (first + sector) out sound same read m within)))
    (cases_lt k start)

-- what a whole slice becomes
pub written_back : (n : ℕ) (new rest : List ℕ) → length new ≡ n → take n (new ++ rest) ≡ new
written_back n new rest long = take-append-le n new rest (omega arith) ∙ take_all n new (omega arith)

-- a part of a slice that was handed out whole
pub back_inside : (n start m : ℕ) (bytes out rest : List ℕ) → length bytes ≡ n → start + m ≤ n → length out ≡ m
    → (k : ℕ) → k < m
    → get_or (take n (put_mid start (start + m - start) bytes out ++ rest)) (start + k) 0 ≡ get_or out k 0
back_inside n start m bytes out rest whole fits long k below = grind (arith, places)

pub part_long : (start m : ℕ) (bytes : List ℕ) → start + m ≤ length bytes
    → length (mid_of start (start + m - start) bytes) ≡ m
part_long start m bytes fits = grind (arith, places)

-- the sectors of a page that begin inside have each byte of the page that lies inside
module _ (grain : ℕ) (known : IsTrue (is_grain grain)) (len page first count sectors : ℕ)
    (inside : page < (len + 4095) / 4096)
    (is_first : first ≡ page * (4096 / grain)) (covers : (s : ℕ) → s * grain < len → s < sectors) where
  first_place : first * grain ≡ page * 4096
  first_place = ap (λ (s : ℕ). s * grain) is_first ∙ page_begins grain known page

  pub first_inside : first < sectors
  first_inside = covers first (let place = first_place in omega arith)

  pub page_covered : count ≡ min sectors (first + 4096 / grain) - first → (k : ℕ) → k < 4096 → page * 4096 + k < len
      → k < count * grain
  page_covered is_count k small below =
      let place = first_place in
      let some = first_inside in
      let whole = page_size grain known in
      ⊎_elim
      (λ (few : sectors < first + 4096 / grain).
      let more : sectors ≡ first + count = omega arith in
      let all : len ≤ sectors * grain =
      ⊎_elim (λ (short : sectors * grain < len). absurd (let self = covers sectors short in omega arith)) (λ h. h)
      (cases_lt (sectors * grain) len) in
      let split : sectors * grain ≡ first * grain + count * grain = ap (λ (s : ℕ). s * grain) more
      ∙ add-mul first count grain in
      omega arith)
      (λ (full : first + 4096 / grain ≤ sectors).
      let same : count ≡ 4096 / grain = omega arith in
      let size : count * grain ≡ 4096 = ap (λ (s : ℕ). s * grain) same ∙ whole in
      omega arith)
      (cases_lt sectors (first + 4096 / grain))

  -- and so a page that was read has them
  pub page_read : (disk : disks.State) (out : List ℕ) → AreSectorsRead disk grain first out (count * grain)
      → count ≡ min sectors (first + 4096 / grain) - first → (k : ℕ) → k < 4096 → page * 4096 + k < len
      → IsByteRead disk grain (page * 4096 + k) (get_or out k 0)
  page_read disk out read is_count k small below =
      let place : first * grain + k ≡ page * 4096 + k = (let same = first_place in omega arith) in
      subst (λ (x : ℕ). IsByteRead disk grain x (get_or out k 0)) place (read k (page_covered is_count k small below))
