-- A descriptor on which no test fails is sound.
use Rattle.std.proofs.Common.{◌≡◌, ℕ, ◌+◌, ◌<◌, ◌≤◌, Bool, true, false, List, [], ◌∷◌, take, drop, codes, cond, Result}
use Rattle.std.proofs.Common.{Ok, Err, IfOk, IsOk, refl}
use Rattle.std.proofs.lemmas.Bool.{or_parts, ltb-false}
use Rattle.save_bytes.specs.declared.extent.Extent.{Extent}
use Rattle.difi.specs.declared.places.LevelPlace.{LevelPlace}
use Rattle.difi.specs.declared.descriptor.Difi.{Difi}
use Rattle.difi.specs.declared.fault.DifiFault.{DifiFault}
use Rattle.difi.specs.Places.{extent_of, copies_of}
use Rattle.difi.specs.Fields.{fields, word_at, ivfc_extent, dpfs_extent, master_extent, ivfc_place, dpfs_place}
use Rattle.difi.specs.Conditions.{reading, parts, difi_tests, name_tests, level_tests, verdict, has_bad_log}
use Rattle.difi.specs.Conditions.{has_no_place, has_bad_copies, has_short_bitmap, has_overlapping_copies, pairs}
use Rattle.difi.specs.Conditions.{inner_levels, has_bad_level, has_overlapping_levels, external_extent}
use Rattle.difi.specs.Conditions.{has_bad_external, has_too_few_entries}
use Rattle.difi.specs.Sound.{HasParts, HasBlockSizes, IsPlaced, HasCopies, HasHashLevels, HasExternalLevel, IsSoundDifi}
use Rattle.difi.specs.Sound.{IsDescriptor}
use Rattle.save_bytes.proofs.ExtentLemmas.{all_apart, apart_from}
use Rattle.difi.proofs.TestLemmas.{inner, all_inside, ends_inside, between, not_empty, enough_entries}
use Rattle.difi.proofs.TestLemmas.{part_inside, part_size, one_of_two, named, numbered}
use Rattle.difi.proofs.Verdicts.{holds, all_pass}

pub block_sizes : (difi : Difi) → has_bad_log difi ≡ false → HasBlockSizes difi
unfolding has_bad_log
block_sizes difi h =
    let sixth = or_parts _ _ h in
    let fifth = or_parts _ _ sixth.0 in
    let fourth = or_parts _ _ fifth.0 in
    let third = or_parts _ _ fourth.0 in
    let second = or_parts _ _ third.0 in
    record {
      dpfs2 = between 7 16 _ second.0;
      dpfs3 = between 7 16 _ second.1;
      ivfc1 = between 9 16 _ third.1;
      ivfc2 = between 9 16 _ fourth.1;
      ivfc3 = between 9 16 _ fifth.1;
      ivfc4 = between 9 16 _ sixth.1;
    }

placed : (level : LevelPlace) (part_len : ℕ) → has_no_place level part_len ≡ false → IsPlaced level part_len
placed level part_len h =
    let parts = or_parts _ _ h in
    record { some = not_empty level.size parts.0; inside = ends_inside (copies_of level) part_len parts.1 }

copies : (difi : Difi) (part_len : ℕ) → has_bad_copies difi part_len ≡ false → has_short_bitmap difi ≡ false
    → has_overlapping_copies difi ≡ false → HasCopies difi part_len
unfolding has_bad_copies has_short_bitmap has_overlapping_copies
copies difi part_len in_partition long_enough none_overlap =
    let third = or_parts _ _ in_partition in
    let second = or_parts _ _ third.0 in
    let bits = or_parts _ _ long_enough in
    let apart = all_apart (pairs difi) none_overlap in
    record {
      level1 = placed difi.dpfs1 part_len second.0;
      level2 = placed difi.dpfs2 part_len second.1;
      level3 = placed difi.dpfs3 part_len third.1;
      bits1 = ltb-false _ _ bits.0;
      bits2 = ltb-false _ _ bits.1;
      apart12 = apart.0.0;
      apart13 = apart.0.1.0;
      apart23 = apart.1.0.0;
    }

-- the first three of four levels are looked at, and the last where it is not external
inner_is : (external : Bool) (one two three four : Extent)
    → inner external one two three four ≡ one ∷ two ∷ three ∷ cond external [] (four ∷ [])
inner_is true one two three four = refl
inner_is false one two three four = refl

pub hash_tree : (difi : Difi) → has_bad_level difi ≡ false → has_overlapping_levels difi ≡ false
    → has_too_few_entries difi ≡ false → HasHashLevels difi
unfolding has_bad_level has_overlapping_levels has_too_few_entries
hash_tree difi in_level3 none_overlap enough =
    let parts = or_parts _ _ in_level3 in
    let some1 = or_parts _ _ parts.0 in
    let some2 = or_parts _ _ some1.1 in
    let some3 = or_parts _ _ some2.1 in
    let some4 = or_parts _ _ some3.1 in
    let are = inner_is difi.external (extent_of difi.ivfc1) (extent_of difi.ivfc2) (extent_of difi.ivfc3)
    (extent_of difi.ivfc4) in
    let inside = rw are at (all_inside (inner_levels difi) difi.dpfs3.size parts.1) in
    let apart = rw are at (all_apart (inner_levels difi) none_overlap) in
    let inside_all = λ (e : difi.external ≡ false). rw e at inside in
    let apart_all = λ (e : difi.external ≡ false). rw e at apart in
    let fourth = or_parts _ _ enough in
    let third = or_parts _ _ fourth.0 in
    let second = or_parts _ _ third.0 in
    record {
      some1 = not_empty _ some1.0;
      some2 = not_empty _ some2.0;
      some3 = not_empty _ some3.0;
      some4 = not_empty _ some4.0;
      inside1 = inside.0;
      inside2 = inside.1.0;
      inside3 = inside.1.1.0;
      inside4 = λ e. (inside_all e).1.1.1.0;
      apart12 = apart.0.0;
      apart13 = apart.0.1.0;
      apart23 = apart.1.0.0;
      apart14 = λ e. (apart_all e).0.1.1.0;
      apart24 = λ e. (apart_all e).1.0.1.0;
      apart34 = λ e. (apart_all e).1.1.0.0;
      entries1 = enough_entries _ _ second.0;
      entries2 = enough_entries _ _ second.1;
      entries3 = enough_entries _ _ third.1;
      entries4 = enough_entries _ _ fourth.1;
    }

external_level : (difi : Difi) (part_len : ℕ) → has_bad_external difi part_len ≡ false → difi.external ≡ true
    → HasExternalLevel difi part_len
unfolding has_bad_external
external_level difi part_len h external =
    let parts = or_parts _ _ (rw external at h) in
    let apart = apart_from (external_extent difi) (pairs difi) parts.1 in
    record {
      inside = ends_inside (external_extent difi) part_len parts.0;
      apart1 = apart.0;
      apart2 =
          apart.1.0;
      apart3 = apart.1.1.0;
    }

-- what the tests on the levels give
pub record HasTestedLevels (difi : Difi) (part_len : ℕ) : Type 0 where
  pub block_sizes : HasBlockSizes difi
  pub copies : HasCopies difi part_len
  pub hash_levels : HasHashLevels difi
  pub external_level : difi.external ≡ true → HasExternalLevel difi part_len

pub on_levels : (difi : Difi) (part_len : ℕ) → verdict (level_tests difi part_len) ≡ Ok tt
    → HasTestedLevels difi part_len
unfolding level_tests
on_levels difi part_len h =
    let logs = holds _ _ _ h in
    let in_partition = holds _ _ _ logs.1 in
    let bits = holds _ _ _ in_partition.1 in
    let pairs_apart = holds _ _ _ bits.1 in
    let in_level3 = holds _ _ _ pairs_apart.1 in
    let levels_apart = holds _ _ _ in_level3.1 in
    let external = holds _ _ _ levels_apart.1 in
    let entries = holds _ _ _ external.1 in
    record {
      block_sizes = block_sizes difi logs.0;
      copies = copies difi part_len in_partition.0 bits.0 pairs_apart.0;
      hash_levels = hash_tree difi in_level3.0 levels_apart.0 entries.0;
      external_level = external_level difi part_len external.0;
    }

-- what the tests on DIFI give
record HasDifi (table : List ℕ) (place size : ℕ) : Type 0 where
  name : take 4 (drop place table) ≡ codes "DIFI"
  version : word_at table (place + 4) ≡ 0x10000
  ivfc : (0x78 ≤ (ivfc_extent table place).size)
      × ((ivfc_extent table place).at + (ivfc_extent table place).size ≤ size)
  dpfs : (0x50 ≤ (dpfs_extent table place).size)
      × ((dpfs_extent table place).at + (dpfs_extent table place).size ≤ size)
  parts : HasParts (fields table place) size
  selector : (fields table place).selector < 2

on_difi : (table : List ℕ) (place size : ℕ) → verdict (difi_tests table place size) ≡ Ok tt → HasDifi table place size
unfolding difi_tests fields
on_difi table place size h =
    let name = holds _ _ _ h in
    let version = holds _ _ _ name.1 in
    let ivfc = holds _ _ _ version.1 in
    let dpfs = holds _ _ _ ivfc.1 in
    let master = holds _ _ _ dpfs.1 in
    let overlaps = holds _ _ _ master.1 in
    let selector = holds _ _ _ overlaps.1 in
    let apart = all_apart (parts (ivfc_extent table place).at (dpfs_extent table place).at (master_extent table place))
    overlaps.0 in
    record {
      name = named _ _ name.0;
      version = numbered _ _ version.0;
      ivfc = part_size (ivfc_extent table place) _ _ ivfc.0;
      dpfs = part_size (dpfs_extent table place) _ _ dpfs.0;
      parts = record {
        ivfc = part_inside _ _ _ ivfc.0;
        dpfs = part_inside _ _ _ dpfs.0;
        master = ends_inside _ _ master.0;
        difi_ivfc = apart.0.0;
        difi_dpfs = apart.0.1.0;
        difi_master = apart.0.1.1.0;
        ivfc_dpfs = apart.1.0.0;
        ivfc_master = apart.1.0.1.0;
        dpfs_master = apart.1.1.0.0;
      };
      selector = one_of_two _ selector.0;
    }

-- the tests on the names of the other two parts
record HasNames (table : List ℕ) (ivfc dpfs : ℕ) : Type 0 where
  ivfc_name : take 4 (drop ivfc table) ≡ codes "IVFC"
  ivfc_version : word_at table (ivfc + 4) ≡ 0x20000
  dpfs_name : take 4 (drop dpfs table) ≡ codes "DPFS"
  dpfs_version : word_at table (dpfs + 4) ≡ 0x10000

on_names : (table : List ℕ) (ivfc dpfs : ℕ) → verdict (name_tests table ivfc dpfs) ≡ Ok tt → HasNames table ivfc dpfs
unfolding name_tests
on_names table ivfc dpfs h =
    let ivfc_name = holds _ _ _ h in
    let ivfc_version = holds _ _ _ ivfc_name.1 in
    let dpfs_name = holds _ _ _ ivfc_version.1 in
    let dpfs_version = holds _ _ _ dpfs_name.1 in
    record {
      ivfc_name = named _ _ ivfc_name.0;
      ivfc_version = numbered _ _ ivfc_version.0;
      dpfs_name = named _ _ dpfs_name.0;
      dpfs_version = numbered _ _ dpfs_version.0;
    }

-- what a reading that is no fault says
pub record IsRead (table : List ℕ) (place size part_len : ℕ) (difi : Difi) : Type 0 where
  pub fields : difi ≡ fields table place
  pub descriptor : IsDescriptor table place size
  pub sound : IsSoundDifi difi size part_len

pub is_read : (table : List ℕ) (place size part_len : ℕ) (difi : Difi) → reading table place size part_len ≡ Ok difi
    → IsRead table place size part_len difi
is_read table place size part_len difi h =
    let passed = all_pass table place size part_len difi h in
    let first = on_difi table place size passed.difi in
    let names = on_names table (ivfc_place table place) (dpfs_place table place) passed.names in
    let levels = on_levels (fields table place) part_len passed.levels in
    let sound : IsSoundDifi (fields table place) size part_len = record {
      parts = first.parts;
      levels = record {
        selector = first.selector;
        block_sizes = levels.block_sizes;
        copies = levels.copies;
        hash_levels = levels.hash_levels;
        external_level = levels.external_level;
      };
    } in
    record {
      fields = passed.value;
      descriptor = record {
        difi_name = first.name;
        difi_version = first.version;
        ivfc_name = names.ivfc_name;
        ivfc_version = names.ivfc_version;
        dpfs_name = names.dpfs_name;
        dpfs_version = names.dpfs_version;
        ivfc_long = first.ivfc.0;
        ivfc_inside = first.ivfc.1;
        dpfs_long = first.dpfs.0;
        dpfs_inside = first.dpfs.1;
      };
      sound = rw passed.value sound;
    }

pub if_ok : (r : Result Difi DifiFault) (P : Difi → Type 0) → ((difi : Difi) → r ≡ Ok difi → P difi) → IfOk r P
if_ok (Ok difi) P h = h difi refl
if_ok (Err fault) P h = tt

pub ok_value : (r : Result Difi DifiFault) → IsOk r → (difi : Difi) × (r ≡ Ok difi)
ok_value (Ok difi) h = (difi, refl)
ok_value (Err fault) h = cc
