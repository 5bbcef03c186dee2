-- The sectors that a range meets.
use Rattle.std.proofs.Common.{◌≡◌, ℕ, ◌+◌, ◌-◌, ◌*◌, ◌/◌, ◌%◌, ◌<◌, ◌≤◌, IsTrue, refl, sym, ◌∙◌, ap, subst, arith}
use Rattle.std.proofs.Common.{⊎_elim}
use Rattle.std.proofs.Math.Nat.{mul-le-mul_left, mul-div_cancel, div-mul-le_self}
use Rattle.std.proofs.lemmas.Nat.{div-add-mod', mod_below, le-div}
use Rattle.std.proofs.lemmas.Bool.{cases_lt}
use Rattle.save_disk.specs.Grains.{is_grain, known_grain}
use Rattle.page_image.specs.Layout.{IsEndOf}

-- a sector has bytes
pub some_grain : (grain : ℕ) → IsTrue (is_grain grain) → 1 ≤ grain
some_grain grain known = ⊎_elim (λ (is : grain ≡ 512). omega arith) (λ (is : grain ≡ 4096). omega arith)
    (known_grain grain known)

-- what holds of both grains holds of each
pub by_grain : (grain : ℕ) → IsTrue (is_grain grain) → (P : ℕ → Type 0) → P 512 → P 4096 → P grain
by_grain grain known P narrow wide =
    ⊎_elim (λ (is : grain ≡ 512). subst P (sym is) narrow) (λ (is : grain ≡ 4096). subst P (sym is) wide)
    (known_grain grain known)

module _ (grain : ℕ) (known : IsTrue (is_grain grain)) where
  -- a place lies in the page in which its sector begins
  pub sector_page : (x : ℕ) → x / grain * grain / 4096 ≡ x / 4096
  sector_page x = by_grain grain known (λ (g : ℕ). x / g * g / 4096 ≡ x / 4096) (omega arith) (omega arith)

  -- a sector ends in the page in which it begins
  pub place_page : (s k : ℕ) → k < grain → (s * grain + k) / 4096 ≡ s * grain / 4096
  place_page s k =
      by_grain grain known (λ (g : ℕ). k < g → (s * g + k) / 4096 ≡ s * g / 4096) (λ below. omega arith)
      (λ below. omega arith)

  pub place_rest : (s k : ℕ) → k < grain → (s * grain + k) % 4096 ≡ s * grain % 4096 + k
  place_rest s k =
      by_grain grain known (λ (g : ℕ). k < g → (s * g + k) % 4096 ≡ s * g % 4096 + k) (λ below. omega arith)
      (λ below. omega arith)

  -- two sectors of a page have two marks
  pub own_mark : (s t : ℕ) → s * grain / 4096 ≡ t * grain / 4096 → s * grain % 4096 / 512 ≡ t * grain % 4096 / 512
      → s ≡ t
  own_mark s t =
      by_grain grain known (λ (g : ℕ). s * g / 4096 ≡ t * g / 4096 → s * g % 4096 / 512 ≡ t * g % 4096 / 512 → s ≡ t)
      (λ page mark. omega arith) (λ page mark. omega arith)

  -- from one sector of a page to another the marks go on as the sectors do
  pub marks_rise : (s t : ℕ) → s * grain / 4096 ≡ t * grain / 4096
      → s * grain % 4096 / 512 + t ≡ t * grain % 4096 / 512 + s
  marks_rise s t =
      by_grain grain known (λ (g : ℕ). s * g / 4096 ≡ t * g / 4096 → s * g % 4096 / 512 + t ≡ t * g % 4096 / 512 + s)
      (λ page. omega arith) (λ page. omega arith)

  -- the sectors that begin in a page
  pub page_sectors : (s page : ℕ) → s * grain / 4096 ≡ page → (page * (4096 / grain) ≤ s)
      × (s < page * (4096 / grain) + 4096 / grain)
  page_sectors s page =
      by_grain grain known (λ (g : ℕ). s * g / 4096 ≡ page → (page * (4096 / g) ≤ s)
      × (s < page * (4096 / g) + 4096 / g))
      (λ is. (omega arith, omega arith)) (λ is. (omega arith, omega arith))

  -- and the place at which the first of them does
  pub page_begins : (page : ℕ) → page * (4096 / grain) * grain ≡ page * 4096
  page_begins page = by_grain grain known (λ (g : ℕ). page * (4096 / g) * g ≡ page * 4096) (omega arith) (omega arith)

  pub page_size : 4096 / grain * grain ≡ 4096
  page_size = by_grain grain known (λ (g : ℕ). 4096 / g * g ≡ 4096) refl refl

  -- the first 512 places lie in sector 0
  pub front_sector : (x : ℕ) → x < 512 → x / grain ≡ 0
  front_sector x =
      by_grain grain known (λ (g : ℕ). x < 512 → x / g ≡ 0) (λ below. omega arith) (λ below. omega arith)

  -- and a later sector has none of them
  pub behind_front : (s k : ℕ) → 1 ≤ s → 512 ≤ s * grain + k
  behind_front s k = by_grain grain known (λ (g : ℕ). 1 ≤ s → 512 ≤ s * g + k) (λ some. omega arith)
      (λ some. omega arith)

-- a later place lies in no earlier sector
pub rising : (a b grain : ℕ) → 1 ≤ grain → a ≤ b → a / grain ≤ b / grain
rising a b grain some ordered = le-div (a / grain) b grain some (omega (arith, div-mul-le_self a grain))

-- a sector between that of the first place and that of the last one has one of the places
meets : (at last grain sector : ℕ) → 1 ≤ grain → at ≤ last → at / grain ≤ sector → sector ≤ last / grain
    → (x : ℕ) × (at ≤ x) × (x ≤ last) × (x / grain ≡ sector)
meets at last grain sector some ordered from upto =
    let split = div-add-mod' at grain in
    let rest = mod_below at grain some in
    let split_last = div-add-mod' last grain in
    ⊎_elim
    (λ (later : at / grain < sector).
    let next : at / grain + 1 ≤ sector = omega arith in
    let low = mul-le-mul_left grain next in
    let high = mul-le-mul_left grain upto in
    (sector * grain, omega (arith, low, split, rest), omega (arith, high, split_last), mul-div_cancel sector some))
    (λ (first : sector ≤ at / grain). (at, omega arith, ordered, omega arith))
    (cases_lt (at / grain) sector)

pub sectors_up_to : (at n grain : ℕ) → 1 ≤ grain → 1 ≤ n → IsEndOf ((at + n - 1) / grain + 1) at n grain
sectors_up_to at n grain some places =
    let last : at ≤ at + n - 1 = omega arith in
    record {
      ordered = omega (arith, rising at (at + n - 1) grain some last);
      met = λ k below. (let upto : at + k ≤ at + n - 1 = omega arith in
          omega (arith, rising (at + k) (at + n - 1) grain some upto));
      tight = λ sector from below. (let met = meets at (at + n - 1) grain sector some last from (omega arith) in
          (met.0 - at, omega (arith, met.1, met.2), ap (λ (y : ℕ). y / grain) (omega (arith, met.1)) ∙ met.3));
    }
