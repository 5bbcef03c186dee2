-- Each test of a descriptor as a plain fact, in both directions.
use Rattle.std.proofs.Common.{◌≡◌, ℕ, ◌+◌, ◌*◌, ◌/◌, ◌<◌, ◌≤◌, Bool, false, not, ◌==◌, nat_lt, bytes_eq}
use Rattle.std.proofs.Common.{List, [], ◌∷◌, take, cond, refl, arith}
use Rattle.std.proofs.lemmas.Bool.{ltb-false, le-ltb, eqb-true, eq-eqb, not-false, not_from_true, or_parts, or_from}
use Rattle.std.proofs.lemmas.Slice.Eq.{bytes_eq-Decides}
use Rattle.std.proofs.lemmas.Bool.Decides.{nat_tests}
use Rattle.save_bytes.specs.declared.extent.Extent.{Extent}
use Rattle.save_bytes.specs.Extents.{is_outside, lies_inside}
use Rattle.save_bytes.proofs.ExtentLemmas.{inside, not-lies_inside}
use Rattle.difi.specs.Places.{some_outside}
use Rattle.difi.specs.Sound.{IsBetween}
use Rattle.difi.specs.Conditions.{is_bad_part}

-- a range lies inside 0 to an end where its own end does
pub ends_inside : (extent : Extent) (high : ℕ) → not (lies_inside extent 0 high) ≡ false
    → extent.at + extent.size ≤ high
ends_inside extent high h = (inside extent 0 high h).ends

pub not-ends_inside : (extent : Extent) (high : ℕ) → extent.at + extent.size ≤ high
    → not (lies_inside extent 0 high) ≡ false
not-ends_inside extent high h = not-lies_inside extent 0 high (record { begins = omega arith; ends = h })

-- each of a list lies inside 0 to an end
abbrev pub AllInside : List Extent → ℕ → Type 0
AllInside [] end = Unit {0}
AllInside (extent ∷ extents) end = (extent.at + extent.size ≤ end) × AllInside extents end

pub all_inside : (extents : List Extent) (end : ℕ) → some_outside extents end ≡ false → AllInside extents end
all_inside [] end h = tt
all_inside (extent ∷ extents) end h =
    let parts = or_parts _ _ h in (ends_inside extent end parts.0, all_inside extents end parts.1)

pub some_outside-inside : (extents : List Extent) (end : ℕ) → AllInside extents end → some_outside extents end ≡ false
some_outside-inside [] end h = refl
some_outside-inside (extent ∷ extents) end h = or_from _ _ (not-ends_inside extent end h.0)
    (some_outside-inside extents end h.1)

-- four levels, of which the last is not looked at where it is external
abbrev pub inner : Bool → Extent → Extent → Extent → Extent → List Extent
inner external one two three four = take (cond external 3 4) (one ∷ two ∷ three ∷ four ∷ [])

pub between : (low high n : ℕ) → is_outside low high n ≡ false → IsBetween low high n
between low high n h = grind (arith, nat_tests)

pub is_outside-between : (low high n : ℕ) → IsBetween low high n → is_outside low high n ≡ false
is_outside-between low high n h = grind (arith, nat_tests)

pub not_empty : (n : ℕ) → (n == 0) ≡ false → 0 < n
not_empty n h = grind (arith, nat_tests)

pub eqb-not_empty : (n : ℕ) → 0 < n → (n == 0) ≡ false
eqb-not_empty n h = grind (arith, nat_tests)

pub enough_entries : (bytes blocks : ℕ) → nat_lt (bytes / 32) blocks ≡ false → 32 * blocks ≤ bytes
enough_entries bytes blocks h = let fits = ltb-false (bytes / 32) blocks h in omega arith

pub ltb-enough_entries : (bytes blocks : ℕ) → 32 * blocks ≤ bytes → nat_lt (bytes / 32) blocks ≡ false
ltb-enough_entries bytes blocks h = le-ltb (bytes / 32) blocks (omega arith)

pub part_inside : (part : Extent) (least size : ℕ) → is_bad_part part least size ≡ false → part.at + least ≤ size
part_inside part least size h = grind (arith, nat_tests)

pub is_bad_part-inside : (part : Extent) (least size : ℕ) → least ≤ part.size → part.at + part.size ≤ size
    → is_bad_part part least size ≡ false
is_bad_part-inside part least size long inside = grind (arith, nat_tests)

pub part_size : (part : Extent) (least size : ℕ) → is_bad_part part least size ≡ false → (least ≤ part.size)
    × (part.at + part.size ≤ size)
part_size part least size h = grind (arith, nat_tests)

pub one_of_two : (n : ℕ) → nat_lt 1 n ≡ false → n < 2
one_of_two n h = let below = ltb-false 1 n h in omega arith

pub ltb-one_of_two : (n : ℕ) → n < 2 → nat_lt 1 n ≡ false
ltb-one_of_two n h = le-ltb 1 n (omega arith)

pub named : (found name : List ℕ) → not (bytes_eq found name) ≡ false → found ≡ name
named found name h = (bytes_eq-Decides found name).0 (not-false _ h)

pub not-named : (found name : List ℕ) → found ≡ name → not (bytes_eq found name) ≡ false
not-named found name h = not_from_true _ ((bytes_eq-Decides found name).1 h)

pub numbered : (found version : ℕ) → not (found == version) ≡ false → found ≡ version
numbered found version h = eqb-true found version (not-false _ h)

pub not-numbered : (found version : ℕ) → found ≡ version → not (found == version) ≡ false
not-numbered found version h = not_from_true _ (eq-eqb found version h)
