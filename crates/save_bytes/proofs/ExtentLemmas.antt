-- Laws of ranges of bytes: each test as a plain fact, in both directions, and how the search for two that overlap goes on.
use Rattle.std.proofs.Common.{◌≡◌, ℕ, ◌+◌, ◌<◌, ◌≤◌, max, min, true, false, not, ◌||◌, List, [], ◌∷◌, length, get_or}
use Rattle.std.proofs.Common.{drop, refl, ap, sym, ◌∙◌, inl, inr, arith}
use Rattle.std.specs.List.{list_any}
use Rattle.std.proofs.lemmas.Bool.{cases_lt, ltb-false, ltb-true, lt-ltb, le-ltb, leb-true, le-leb, and_parts}
use Rattle.std.proofs.lemmas.Bool.{and_from, not-false, not_from_true, or_parts, or_from, or_left}
use Rattle.std.proofs.lemmas.List.{drop_more, drop_all}
use Rattle.save_bytes.specs.declared.extent.Extent.{Extent}
use Rattle.save_bytes.specs.Writes.{IsWithin}
use Rattle.save_bytes.specs.Extents.{lies_inside, overlap, some_overlap, LiesInside, AreApart}

-- a range lies inside where the test that it does not fails
pub inside : (extent : Extent) (low high : ℕ) → not (lies_inside extent low high) ≡ false → LiesInside extent low high
inside extent low high h =
    let both = and_parts _ _ (not-false (lies_inside extent low high) h) in
    record { begins = leb-true low extent.at both.0; ends = leb-true (extent.at + extent.size) high both.1 }

pub not-lies_inside : (extent : Extent) (low high : ℕ) → LiesInside extent low high → not (lies_inside extent low high) ≡ false
not-lies_inside extent low high h =
    not_from_true (lies_inside extent low high)
    (and_from _ _ (le-leb low extent.at h.begins) (le-leb (extent.at + extent.size) high h.ends))

-- the later beginning lies in both
pub shared : (one other : Extent) → overlap one other ≡ true
    → (place : ℕ) × IsWithin one.at one.size place × IsWithin other.at other.size place
shared one other h =
    let low = max one.at other.at in
    let below = ltb-true low (min (one.at + one.size) (other.at + other.size)) h in
    (low, (omega arith, omega arith), (omega arith, omega arith))

pub overlap-shared : (one other : Extent) (place : ℕ) → IsWithin one.at one.size place
    → IsWithin other.at other.size place → overlap one other ≡ true
overlap-shared one other place in_one in_other =
    lt-ltb (max one.at other.at) (min (one.at + one.size) (other.at + other.size)) (omega arith)

pub apart : (one other : Extent) → overlap one other ≡ false → AreApart one other
apart one other h = λ x a b c d.
    let reach = ltb-false (max one.at other.at) (min (one.at + one.size) (other.at + other.size)) h in omega arith

pub overlap-apart : (one other : Extent) → AreApart one other → overlap one other ≡ false
overlap-apart one other h = elim (cases_lt (max one.at other.at) (min (one.at + one.size) (other.at + other.size))) [
  | inl less ↦ absurd (h (max one.at other.at) (omega arith) (omega arith) (omega arith) (omega arith))
  | inr more ↦ le-ltb _ _ more
]

-- the first lies apart from each of a list
abbrev pub AreApartFrom : Extent → List Extent → Type 0
AreApartFrom one [] = Unit {0}
AreApartFrom one (other ∷ others) = AreApart one other × AreApartFrom one others

-- each two lie apart
abbrev pub AllApart : List Extent → Type 0
AllApart [] = Unit {0}
AllApart (extent ∷ extents) = AreApartFrom extent extents × AllApart extents

pub apart_from : (one : Extent) (others : List Extent) → list_any (overlap one) others ≡ false → AreApartFrom one others
apart_from one [] h = tt
apart_from one (other ∷ others) h = let parts = or_parts _ _ h in (apart one other parts.0, apart_from one others parts.1)

pub list_any-apart : (one : Extent) (others : List Extent) → AreApartFrom one others → list_any (overlap one) others ≡ false
list_any-apart one [] h = refl
list_any-apart one (other ∷ others) h = or_from _ _ (overlap-apart one other h.0) (list_any-apart one others h.1)

pub all_apart : (extents : List Extent) → some_overlap extents ≡ false → AllApart extents
all_apart [] h = tt
all_apart (extent ∷ extents) h = let parts = or_parts _ _ h in (apart_from extent extents parts.0, all_apart extents parts.1)

pub some_overlap-apart : (extents : List Extent) → AllApart extents → some_overlap extents ≡ false
some_overlap-apart [] h = refl
some_overlap-apart (extent ∷ extents) h = or_from _ _ (list_any-apart extent extents h.0) (some_overlap-apart extents h.1)

module _ (extents : List Extent) (i : ℕ) (d : Extent) (less : i < length extents) where
  -- the first of the rest with those behind it, or two of these
  some_overlap-drop : some_overlap (drop i extents)
      ≡ (list_any (overlap (get_or extents i d)) (drop (i + 1) extents) || some_overlap (drop (i + 1) extents))
  some_overlap-drop = ap some_overlap (drop_more extents i d less)

  -- an extent overlaps one behind it
  pub overlap_here : list_any (overlap (get_or extents i d)) (drop (i + 1) extents) ≡ true → some_overlap (drop i extents) ≡ true
  overlap_here e = some_overlap-drop ∙ or_left _ _ e

  -- an extent overlaps none behind it
  pub no_overlap_here : list_any (overlap (get_or extents i d)) (drop (i + 1) extents) ≡ false
      → some_overlap (drop (i + 1) extents) ≡ some_overlap (drop i extents)
  no_overlap_here e = let step = some_overlap-drop in sym (rw e at step)

pub no_overlap_behind : (extents : List Extent) (i : ℕ) → length extents ≤ i → some_overlap (drop i extents) ≡ false
no_overlap_behind extents i h = ap some_overlap (drop_all i extents h)
