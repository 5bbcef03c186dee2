-- Which places of a level's two copies are live.
use Rattle.std.proofs.Common.{◌≡◌, ℕ, zero, suc, ◌+◌, ◌-◌, ◌<◌, ◌≤◌, true, false, ◌&&◌, ◌||◌, eqb, refl, sym, ◌∙◌, ap}
use Rattle.std.proofs.Common.{arith}
use Rattle.std.proofs.lemmas.Bool.{lt-ltb, le-leb, ltb-true, leb-true, eq-eqb, eqb-true, or_cases, and_parts}
use Rattle.std.proofs.lemmas.Bool.{and_from, and_left, or_left, or_right, cases_Bool}
use Rattle.std.proofs.Common.{⊎_elim}
use Rattle.difi.specs.declared.places.LevelPlace.{LevelPlace}
use Rattle.dpfs_tree.specs.Picks.{copy_place}
use Rattle.live_image.specs.Live.{lies_from, in_chosen_copy, live_level}

-- so many places from one on
pub lies : (at size place : ℕ) → at ≤ place → place < at + size → lies_from at size place ≡ true
lies at size place from below = and_from _ _ (le-leb at place from) (lt-ltb place (at + size) below)

pub lies_where : (at size place : ℕ) → lies_from at size place ≡ true → (at ≤ place) × (place < at + size)
lies_where at size place is = let both = and_parts _ _ is in (leb-true _ _ both.0, ltb-true _ _ both.1)

module _ (part_at : ℕ) (level : LevelPlace) where
  -- a byte lies in the copy from which it is read
  in_copy : (copy_of : ℕ → ℕ) (copy x : ℕ) → x < level.size → copy_of x ≡ copy
      → in_chosen_copy part_at level copy_of copy (copy_place part_at level copy x) ≡ true
  in_copy copy_of copy x inside is =
      let start : ℕ = copy_place part_at level copy 0 in
      let offset : copy_place part_at level copy x - copy_place part_at level copy 0 ≡ x = omega arith in
      and_from _ _ (lies (copy_place part_at level copy 0) level.size (copy_place part_at level copy x) (omega arith)
      (omega (arith, inside)))
      (eq-eqb _ _ (ap copy_of offset ∙ is))

  pub live_there : (copy_of : ℕ → ℕ) (x : ℕ) → copy_of x < 2 → x < level.size
      → live_level part_at level copy_of (copy_place part_at level (copy_of x) x) ≡ true
  unfolding live_level
  live_there copy_of x one inside = by_copy (copy_of x) refl one
    where
      by_copy : (copy : ℕ) → copy_of x ≡ copy → copy < 2
          → (in_chosen_copy part_at level copy_of 0 (copy_place part_at level copy x)
          || in_chosen_copy part_at level copy_of 1 (copy_place part_at level copy x)) ≡ true
      by_copy zero is h = or_left _ _ (in_copy copy_of 0 x inside is)
      by_copy (suc zero) is h = or_right _ _ (in_copy copy_of 1 x inside is)
      by_copy (suc (suc copy)) is h = absurd (omega arith)

  -- the same places are live where each byte is read from the same copy
  module _ (copy_of other : ℕ → ℕ) (same : (x : ℕ) → x < level.size → other x ≡ copy_of x) (place : ℕ) where
    copy_same : (copy : ℕ) → in_chosen_copy part_at level other copy place
        ≡ in_chosen_copy part_at level copy_of copy place
    copy_same copy =
        ⊎_elim
        (λ (here : lies_from (copy_place part_at level copy 0) level.size place ≡ true).
        let there = lies_where (copy_place part_at level copy 0) level.size place here in
        ap (λ (n : ℕ). lies_from (copy_place part_at level copy 0) level.size place && eqb n copy)
        (same (place - copy_place part_at level copy 0) (omega (arith, there.0, there.1))))
        (λ (off : lies_from (copy_place part_at level copy 0) level.size place ≡ false).
        and_left _ _ off ∙ sym (and_left _ _ off))
        (cases_Bool (lies_from (copy_place part_at level copy 0) level.size place))

    pub live_level-same : live_level part_at level other place ≡ live_level part_at level copy_of place
    unfolding live_level
    live_level-same = rw (copy_same 0, copy_same 1) refl

  -- a live place is that of a byte in the copy from which it is read
  pub where_live : (copy_of : ℕ → ℕ) (place : ℕ) → live_level part_at level copy_of place ≡ true
      → (x : ℕ) × (x < level.size) × (place ≡ copy_place part_at level (copy_of x) x) × (copy_of x < 2)
  unfolding live_level
  where_live copy_of place live =
      ⊎_elim (in_that 0 (omega arith)) (in_that 1 (omega arith))
      (or_cases (in_chosen_copy part_at level copy_of 0 place) (in_chosen_copy part_at level copy_of 1 place) live)
    where
      in_that : (copy : ℕ) → copy < 2 → in_chosen_copy part_at level copy_of copy place ≡ true
          → (x : ℕ) × (x < level.size) × (place ≡ copy_place part_at level (copy_of x) x) × (copy_of x < 2)
      in_that copy one is =
          let start : ℕ = copy_place part_at level copy 0 in
          let both = and_parts (lies_from (copy_place part_at level copy 0) level.size place) _ is in
          let there = lies_where (copy_place part_at level copy 0) level.size place both.0 in
          let same : copy_of (place - copy_place part_at level copy 0) ≡ copy = eqb-true _ _ both.1 in (
            place - copy_place part_at level copy 0,
            omega (arith, there.0, there.1),
            rw same (omega (arith, there.0)),
            rw same one,
          )
