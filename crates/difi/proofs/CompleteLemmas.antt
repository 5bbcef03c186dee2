-- On a sound descriptor no test fails.
use Rattle.std.proofs.Common.{◌≡◌, ℕ, ◌+◌, ◌<◌, ◌≤◌, Bool, true, false, ◌&&◌, ◌||◌, not, List, Ok, refl}
use Rattle.std.specs.List.{list_any}
use Rattle.std.proofs.lemmas.Bool.{or_from, le-ltb}
use Rattle.save_bytes.specs.declared.extent.Extent.{Extent}
use Rattle.difi.specs.declared.places.LevelPlace.{LevelPlace}
use Rattle.difi.specs.declared.descriptor.Difi.{Difi}
use Rattle.difi.specs.Places.{some_outside, extent_of, copies_of}
use Rattle.difi.specs.Fields.{fields, ivfc_extent, dpfs_extent, master_extent, ivfc_place, dpfs_place}
use Rattle.difi.specs.Conditions.{reading, parts, difi_tests, name_tests, level_tests, verdict, has_bad_log}
use Rattle.difi.specs.Conditions.{has_no_place, has_bad_copies, has_short_bitmap, has_overlapping_copies, pairs}
use Rattle.difi.specs.Conditions.{inner_levels, has_bad_level, has_overlapping_levels, external_extent}
use Rattle.difi.specs.Conditions.{has_bad_external, has_too_few_entries}
use Rattle.difi.specs.Sound.{HasParts, HasBlockSizes, IsPlaced, HasCopies, HasHashLevels, HasExternalLevel}
use Rattle.difi.specs.Sound.{HasSoundLevels, IsSoundDifi, IsDescriptor}
use Rattle.save_bytes.specs.Extents.{lies_inside, overlap, AreApart}
use Rattle.save_bytes.proofs.ExtentLemmas.{AllApart, some_overlap-apart, list_any-apart}
use Rattle.difi.proofs.TestLemmas.{inner, some_outside-inside, not-ends_inside, is_outside-between}
use Rattle.difi.proofs.TestLemmas.{eqb-not_empty, ltb-enough_entries, is_bad_part-inside, ltb-one_of_two, not-named}
use Rattle.difi.proofs.TestLemmas.{not-numbered}
use Rattle.difi.proofs.Verdicts.{passes, reading-ok}

pub has_bad_log-none : (difi : Difi) → HasBlockSizes difi → has_bad_log difi ≡ false
unfolding has_bad_log
has_bad_log-none difi h =
    or_from _ _
    (or_from _ _
    (or_from _ _
    (or_from _ _
    (or_from _ _ (is_outside-between 7 16 _ h.dpfs2) (is_outside-between 7 16 _ h.dpfs3))
    (is_outside-between 9 16 _ h.ivfc1))
    (is_outside-between 9 16 _ h.ivfc2))
    (is_outside-between 9 16 _ h.ivfc3))
    (is_outside-between 9 16 _ h.ivfc4)

has_no_place-placed : (level : LevelPlace) (part_len : ℕ) → IsPlaced level part_len
    → has_no_place level part_len ≡ false
has_no_place-placed level part_len h = or_from _ _ (eqb-not_empty level.size h.some)
    (not-ends_inside (copies_of level) part_len h.inside)

has_bad_copies-none : (difi : Difi) (part_len : ℕ) → HasCopies difi part_len → has_bad_copies difi part_len ≡ false
unfolding has_bad_copies
has_bad_copies-none difi part_len h =
    or_from _ _
    (or_from _ _ (has_no_place-placed difi.dpfs1 part_len h.level1) (has_no_place-placed difi.dpfs2 part_len h.level2))
    (has_no_place-placed difi.dpfs3 part_len h.level3)

has_short_bitmap-none : (difi : Difi) (part_len : ℕ) → HasCopies difi part_len → has_short_bitmap difi ≡ false
unfolding has_short_bitmap
has_short_bitmap-none difi part_len h = or_from _ _ (le-ltb _ _ h.bits1) (le-ltb _ _ h.bits2)

has_overlapping_copies-none : (difi : Difi) (part_len : ℕ) → HasCopies difi part_len
    → has_overlapping_copies difi ≡ false
unfolding has_overlapping_copies
has_overlapping_copies-none difi part_len h = some_overlap-apart (pairs difi)
    ((h.apart12, (h.apart13, tt)), ((h.apart23, tt), (tt, tt)))

inner_apart : (external : Bool) (one two three four : Extent) → AreApart one two → AreApart one three
    → AreApart two three → (external ≡ false → AreApart one four) → (external ≡ false → AreApart two four)
    → (external ≡ false → AreApart three four) → AllApart (inner external one two three four)
inner_apart true one two three four a b c d e f = ((a, (b, tt)), ((c, tt), (tt, tt)))
inner_apart false one two three four a b c d e f =
    ((a, (b, (d refl, tt))), ((c, (e refl, tt)), ((f refl, tt), (tt, tt))))

inner_inside : (external : Bool) (one two three four : Extent) (end : ℕ) → one.at + one.size ≤ end
    → two.at + two.size ≤ end → three.at + three.size ≤ end → (external ≡ false → four.at + four.size ≤ end)
    → some_outside (inner external one two three four) end ≡ false
inner_inside true one two three four end a b c d = some_outside-inside (inner true one two three four) end
    (a, (b, (c, tt)))
inner_inside false one two three four end a b c d =
    some_outside-inside (inner false one two three four) end (a, (b, (c, (d refl, tt))))

pub has_bad_level-none : (difi : Difi) → HasHashLevels difi → has_bad_level difi ≡ false
unfolding has_bad_level
has_bad_level-none difi h =
    or_from _ _
    (or_from _ _ (eqb-not_empty _ h.some1)
    (or_from _ _ (eqb-not_empty _ h.some2)
    (or_from _ _ (eqb-not_empty _ h.some3) (or_from _ _ (eqb-not_empty _ h.some4) refl))))
    (inner_inside difi.external (extent_of difi.ivfc1) (extent_of difi.ivfc2) (extent_of difi.ivfc3)
    (extent_of difi.ivfc4) difi.dpfs3.size h.inside1 h.inside2 h.inside3 h.inside4)

pub has_overlapping_levels-none : (difi : Difi) → HasHashLevels difi → has_overlapping_levels difi ≡ false
unfolding has_overlapping_levels
has_overlapping_levels-none difi h =
    some_overlap-apart (inner_levels difi)
    (inner_apart difi.external (extent_of difi.ivfc1) (extent_of difi.ivfc2) (extent_of difi.ivfc3)
    (extent_of difi.ivfc4) h.apart12 h.apart13 h.apart23 h.apart14 h.apart24 h.apart34)

pub has_too_few_entries-none : (difi : Difi) → HasHashLevels difi → has_too_few_entries difi ≡ false
unfolding has_too_few_entries
has_too_few_entries-none difi h =
    or_from _ _
    (or_from _ _
    (or_from _ _ (ltb-enough_entries _ _ h.entries1) (ltb-enough_entries _ _ h.entries2))
    (ltb-enough_entries _ _ h.entries3))
    (ltb-enough_entries _ _ h.entries4)

external_inside : (external : Bool) (level : Extent) (others : List Extent) (part_len : ℕ)
    → (external ≡ true → level.at + level.size ≤ part_len)
    → (external ≡ true → list_any (overlap level) others ≡ false)
    → (external && (not (lies_inside level 0 part_len) || list_any (overlap level) others)) ≡ false
external_inside true level others part_len inside apart = or_from _ _ (not-ends_inside level part_len (inside refl))
    (apart refl)
external_inside false level others part_len inside apart = refl

has_bad_external-none : (difi : Difi) (part_len : ℕ) → (difi.external ≡ true → HasExternalLevel difi part_len)
    → has_bad_external difi part_len ≡ false
unfolding has_bad_external
has_bad_external-none difi part_len h =
    external_inside difi.external (external_extent difi) (pairs difi) part_len (λ e. (h e).inside)
    (λ e. list_any-apart (external_extent difi) (pairs difi) ((h e).apart1, ((h e).apart2, ((h e).apart3, tt))))

pub levels_pass : (difi : Difi) (part_len : ℕ) → HasSoundLevels difi part_len
    → verdict (level_tests difi part_len) ≡ Ok tt
unfolding level_tests
levels_pass difi part_len h =
    passes _ _ _ (has_bad_log-none difi h.block_sizes)
    (passes _ _ _ (has_bad_copies-none difi part_len h.copies)
    (passes _ _ _ (has_short_bitmap-none difi part_len h.copies)
    (passes _ _ _ (has_overlapping_copies-none difi part_len h.copies)
    (passes _ _ _ (has_bad_level-none difi h.hash_levels)
    (passes _ _ _ (has_overlapping_levels-none difi h.hash_levels)
    (passes _ _ _ (has_bad_external-none difi part_len h.external_level)
    (passes _ _ _ (has_too_few_entries-none difi h.hash_levels) refl)))))))

names_pass : (table : List ℕ) (place size : ℕ) → IsDescriptor table place size
    → verdict (name_tests table (ivfc_place table place) (dpfs_place table place)) ≡ Ok tt
unfolding name_tests
names_pass table place size h =
    passes _ _ _ (not-named _ _ h.ivfc_name)
    (passes _ _ _ (not-numbered _ _ h.ivfc_version)
    (passes _ _ _ (not-named _ _ h.dpfs_name)
    (passes _ _ _ (not-numbered _ _ h.dpfs_version) refl)))

difi_passes : (table : List ℕ) (place size : ℕ) → IsDescriptor table place size → HasParts (fields table place) size
    → (fields table place).selector < 2 → verdict (difi_tests table place size) ≡ Ok tt
unfolding difi_tests fields
difi_passes table place size h p selector =
    passes _ _ _ (not-named _ _ h.difi_name)
    (passes _ _ _ (not-numbered _ _ h.difi_version)
    (passes _ _ _ (is_bad_part-inside (ivfc_extent table place) 0x78 size h.ivfc_long h.ivfc_inside)
    (passes _ _ _ (is_bad_part-inside (dpfs_extent table place) 0x50 size h.dpfs_long h.dpfs_inside)
    (passes _ _ _ (not-ends_inside (master_extent table place) size p.master)
    (passes _ _ _ (some_overlap-apart
    (parts (ivfc_extent table place).at (dpfs_extent table place).at (master_extent table place)) (
      (p.difi_ivfc, (p.difi_dpfs, (p.difi_master, tt))),
      ((p.ivfc_dpfs, (p.ivfc_master, tt)), ((p.dpfs_master, tt), (tt, tt))),
    ))
    (passes _ _ _ (ltb-one_of_two _ selector) refl))))))

-- a sound descriptor is read
pub reading-sound : (table : List ℕ) (place size part_len : ℕ) → IsDescriptor table place size
    → IsSoundDifi (fields table place) size part_len → reading table place size part_len ≡ Ok (fields table place)
reading-sound table place size part_len h sound =
    reading-ok table place size part_len
    (difi_passes table place size h sound.parts sound.levels.selector)
    (names_pass table place size h)
    (levels_pass (fields table place) part_len sound.levels)
