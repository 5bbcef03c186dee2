-- The first fault of a list of tests, and of such lists one after another.
use Rattle.std.proofs.Common.{◌≡◌, ℕ, true, false, List, [], ◌∷◌, ◌++◌, Bool, Result, Ok, Err, cond, ap, refl, sym, ◌∙◌}
use Rattle.difi.specs.declared.descriptor.Difi.{Difi}
use Rattle.difi.specs.declared.fault.DifiFault.{DifiFault}
use Rattle.difi.specs.Fields.{fields, ivfc_place, dpfs_place}
use Rattle.difi.specs.Conditions.{difi_tests, name_tests, level_tests, verdict, tests, with_value, reading}

-- the verdict of two lists of tests, the second behind the first
abbrev then_verdict : Result (Unit {0}) DifiFault → Result (Unit {0}) DifiFault → Result (Unit {0}) DifiFault
then_verdict (Ok _) second = second
then_verdict (Err fault) second = Err fault

verdict-append : (xs ys : List (DifiFault × Bool)) → verdict (xs ++ ys) ≡ then_verdict (verdict xs) (verdict ys)
verdict-append [] ys = refl
verdict-append (x ∷ xs) ys = elim x.1 as
    (λ b. cond b (Err x.0) (verdict (xs ++ ys)) ≡ then_verdict (cond b (Err x.0) (verdict xs)) (verdict ys))
    [ true ↦ refl | false ↦ verdict-append xs ys ]

-- where the first fault is none, the first test holds, and those behind it have none
pub holds : (fails : Bool) (fault : DifiFault) (others : Result (Unit {0}) DifiFault)
    → cond fails (Err fault) others ≡ Ok tt → (fails ≡ false) × (others ≡ Ok tt)
holds true fault others h = cc
holds false fault others h = (refl, h)

-- and back
pub passes : (fails : Bool) (fault : DifiFault) (others : Result (Unit {0}) DifiFault) → fails ≡ false → others ≡ Ok tt
    → cond fails (Err fault) others ≡ Ok tt
passes fails fault others none h = rw none h

-- three verdicts that are no fault, and the value
record Passed {A : Type 0} (first second third : Result (Unit {0}) DifiFault) (value found : A) : Type 0 where
  first_passed : first ≡ Ok tt
  second_passed : second ≡ Ok tt
  third_passed : third ≡ Ok tt
  is_value : found ≡ value

passed : {A : Type 0} (first second third : Result (Unit {0}) DifiFault) (value found : A)
    → with_value value (then_verdict first (then_verdict second third)) ≡ Ok found
    → Passed first second third value found
passed (Err fault) second third value found h = cc
passed (Ok _) (Err fault) third value found h = cc
passed (Ok _) (Ok _) (Err fault) value found h = cc
passed (Ok _) (Ok _) (Ok _) value found h =
    record { first_passed = refl; second_passed = refl; third_passed = refl; is_value = cc }

module _ (table : List ℕ) (place size part_len : ℕ) where
  by_groups : reading table place size part_len ≡ with_value (fields table place)
      (then_verdict (verdict (difi_tests table place size))
      (then_verdict (verdict (name_tests table (ivfc_place table place) (dpfs_place table place)))
      (verdict (level_tests (fields table place) part_len))))
  unfolding reading tests
  by_groups =
      let names = name_tests table (ivfc_place table place) (dpfs_place table place) in
      let levels = level_tests (fields table place) part_len in
      ap (with_value (fields table place))
      (verdict-append (difi_tests table place size) (names ++ levels)
      ∙ ap (then_verdict (verdict (difi_tests table place size))) (verdict-append names levels))

  pub reading-difi_fault : (fault : DifiFault) → verdict (difi_tests table place size) ≡ Err fault
      → reading table place size part_len ≡ Err fault
  reading-difi_fault fault on_difi = rw on_difi at by_groups

  pub reading-name_fault : (fault : DifiFault) → verdict (difi_tests table place size) ≡ Ok tt
      → verdict (name_tests table (ivfc_place table place) (dpfs_place table place)) ≡ Err fault
      → reading table place size part_len ≡ Err fault
  reading-name_fault fault on_difi on_names = rw (on_difi, on_names) at by_groups

  pub reading-level_fault : (fault : DifiFault) → verdict (difi_tests table place size) ≡ Ok tt
      → verdict (name_tests table (ivfc_place table place) (dpfs_place table place)) ≡ Ok tt
      → verdict (level_tests (fields table place) part_len) ≡ Err fault
      → reading table place size part_len ≡ Err fault
  reading-level_fault fault on_difi on_names on_levels = rw (on_difi, on_names, on_levels) at by_groups

  pub reading-ok : verdict (difi_tests table place size) ≡ Ok tt
      → verdict (name_tests table (ivfc_place table place) (dpfs_place table place)) ≡ Ok tt
      → verdict (level_tests (fields table place) part_len) ≡ Ok tt
      → reading table place size part_len ≡ Ok (fields table place)
  reading-ok on_difi on_names on_levels = rw (on_difi, on_names, on_levels) at by_groups

-- what passed where the reading is no fault
pub record AllPass (table : List ℕ) (place size part_len : ℕ) (found : Difi) : Type 0 where
  pub difi : verdict (difi_tests table place size) ≡ Ok tt
  pub names : verdict (name_tests table (ivfc_place table place) (dpfs_place table place)) ≡ Ok tt
  pub levels : verdict (level_tests (fields table place) part_len) ≡ Ok tt
  pub value : found ≡ fields table place

pub all_pass : (table : List ℕ) (place size part_len : ℕ) (found : Difi)
    → reading table place size part_len ≡ Ok found → AllPass table place size part_len found
all_pass table place size part_len found h =
    let p = passed _ _ _ (fields table place) found (sym (by_groups table place size part_len) ∙ h) in
    record { difi = p.first_passed; names = p.second_passed; levels = p.third_passed; value = p.is_value }

pub ruleset reading_by_groups = (reading-difi_fault, reading-name_fault, reading-level_fault, reading-ok)
