-- A table that keeps the parts of a descriptor has that descriptor, with its own selector.
use Rattle.std.proofs.Common.{◌≡◌, ℕ, ◌+◌, ◌-◌, ◌<◌, ◌≤◌, ◌≢◌, List, length, slice_index, get_or, take, drop, set, Ok}
use Rattle.std.proofs.Common.{sym, ◌∙◌, ap, subst, arith}
use Rattle.std.proofs.lemmas.List.{ext_get_or, length-take, length-drop, length-set, get_or-take, get_or-drop}
use Rattle.std.proofs.lemmas.List.{get_or-set_same, get_or-set_other}
use Rattle.save_bytes.specs.Fields.{number_at}
use Rattle.save_bytes.proofs.FieldLemmas.{number_at-same}
use Rattle.save_bytes.specs.declared.extent.Extent.{Extent}
use Rattle.difi.specs.declared.descriptor.Difi.{Difi}
use Rattle.difi.specs.Fields.{extent_at, level_at, ivfc_place, dpfs_place, fields}
use Rattle.difi.specs.Conditions.{reading}
use Rattle.difi.specs.Sound.{IsSoundDifi, IsDescriptor}
use Rattle.difi.proofs.SoundLemmas.{is_read}
use Rattle.difi.proofs.CompleteLemmas.{reading-sound}

-- n bytes from a place on are the same
abbrev pub KeepsBytes : List ℕ → List ℕ → ℕ → ℕ → Type 0
KeepsBytes old new at n = (k : ℕ) → k < n → slice_index new (at + k) ≡ slice_index old (at + k)

-- the bytes of the three parts are the same, but for the selector
pub record KeepsParts (old new : List ℕ) (difi : Difi) : Type 0 where
  pub len : length new ≡ length old
  pub before_selector : KeepsBytes old new difi.place 0x39
  pub behind_selector : KeepsBytes old new (difi.place + 0x3A) 0x0A
  pub ivfc : KeepsBytes old new (difi.place + difi.ivfc_at) 0x78
  pub dpfs : KeepsBytes old new (difi.place + difi.dpfs_at) 0x50

module _ (old new : List ℕ) (start n : ℕ) (kept : KeepsBytes old new start n) where
  byte_kept : (at : ℕ) → start ≤ at → at < start + n → get_or new at 0 ≡ get_or old at 0
  byte_kept at low high =
      let place : start + (at - start) ≡ at = omega arith in
      let same = kept (at - start) (omega arith) in
      rw place at same

  number_kept : (size at : ℕ) → start ≤ at → at + size ≤ start + n → number_at size new at ≡ number_at size old at
  number_kept size at low high = number_at-same size new old at at
      (λ k h. byte_kept (at + k) (omega arith) (omega arith))

  extent_kept : (at : ℕ) → start ≤ at → at + 16 ≤ start + n → extent_at new at ≡ extent_at old at
  extent_kept at low high =
      let offset = number_kept 8 at low (omega arith) in
      let size = number_kept 8 (at + 8) (omega arith) (omega arith) in
      cc

  level_kept : (at : ℕ) → start ≤ at → at + 20 ≤ start + n → level_at new at ≡ level_at old at
  level_kept at low high =
      let offset = number_kept 8 at low (omega arith) in
      let size = number_kept 8 (at + 8) (omega arith) (omega arith) in
      let log = number_kept 4 (at + 16) (omega arith) (omega arith) in
      cc

  name_kept : length new ≡ length old → (at : ℕ) → start ≤ at → at + 4 ≤ start + n
      → take 4 (drop at new) ≡ take 4 (drop at old)
  name_kept len at low high =
      ext_get_or 0 (take 4 (drop at new)) (take 4 (drop at old))
      (simp (length-take, length-drop, len))
      (λ i h.
      let four : i < 4 = omega (arith, length-take 4 (drop at new)) in
      simp (get_or-take, get_or-drop) (byte_kept (at + i) (omega arith) (omega arith)))

-- the selector is in no fact but its own
with_selector : (difi : Difi) (size part_len selector : ℕ) → IsSoundDifi difi size part_len → selector < 2
    → IsSoundDifi (record difi { selector = selector }) size part_len
with_selector difi size part_len selector h chosen =
    let p = h.parts in
    let b = h.levels.block_sizes in
    let c = h.levels.copies in
    let t = h.levels.hash_levels in
    record {
      parts = record {
        ivfc = p.ivfc;
        dpfs = p.dpfs;
        master = p.master;
        difi_ivfc = p.difi_ivfc;
        difi_dpfs =
            p.difi_dpfs;
        difi_master = p.difi_master;
        ivfc_dpfs = p.ivfc_dpfs;
        ivfc_master =
            p.ivfc_master;
        dpfs_master = p.dpfs_master;
      };
      levels = record {
        selector = chosen;
        block_sizes = record {
          dpfs2 = b.dpfs2;
          dpfs3 = b.dpfs3;
          ivfc1 = b.ivfc1;
          ivfc2 = b.ivfc2;
          ivfc3 =
              b.ivfc3;
          ivfc4 = b.ivfc4;
        };
        copies = record {
          level1 = c.level1;
          level2 = c.level2;
          level3 = c.level3;
          bits1 = c.bits1;
          bits2 =
              c.bits2;
          apart12 = c.apart12;
          apart13 = c.apart13;
          apart23 = c.apart23;
        };
        hash_levels = record {
          some1 = t.some1;
          some2 = t.some2;
          some3 = t.some3;
          some4 = t.some4;
          inside1 = t.inside1;
          inside2 = t.inside2;
          inside3 = t.inside3;
          inside4 = t.inside4;
          apart12 = t.apart12;
          apart13 = t.apart13;
          apart23 = t.apart23;
          apart14 = t.apart14;
          apart24 = t.apart24;
          apart34 = t.apart34;
          entries1 = t.entries1;
          entries2 = t.entries2;
          entries3 = t.entries3;
          entries4 = t.entries4;
        };
        external_level = λ e. let x = h.levels.external_level e in record
            { inside = x.inside; apart1 = x.apart1; apart2 = x.apart2; apart3 = x.apart3 };
      };
    }

module _ (old new : List ℕ) (place : ℕ) (front : KeepsBytes old new place 0x39)
    (back : KeepsBytes old new (place + 0x3A) 0x0A) where
  ivfc_place_kept : ivfc_place new place ≡ ivfc_place old place
  ivfc_place_kept = ap (λ n. place + n)
      (number_kept old new place 0x39 front 8 (place + 0x08) (omega arith) (omega arith))

  dpfs_place_kept : dpfs_place new place ≡ dpfs_place old place
  dpfs_place_kept = ap (λ n. place + n)
      (number_kept old new place 0x39 front 8 (place + 0x18) (omega arith) (omega arith))

  module _ (ivfc : KeepsBytes old new (ivfc_place old place) 0x78)
      (dpfs : KeepsBytes old new (dpfs_place old place) 0x50) where
    ivfc_level : (offset : ℕ) → offset + 20 ≤ 0x78 → level_at new (ivfc_place new place + offset)
        ≡ level_at old (ivfc_place old place + offset)
    ivfc_level offset inside = ap (λ at. level_at new (at + offset)) ivfc_place_kept
        ∙ level_kept old new (ivfc_place old place) 0x78 ivfc (ivfc_place old place + offset) (omega arith)
        (omega arith)

    dpfs_level : (offset : ℕ) → offset + 20 ≤ 0x50 → level_at new (dpfs_place new place + offset)
        ≡ level_at old (dpfs_place old place + offset)
    dpfs_level offset inside = ap (λ at. level_at new (at + offset)) dpfs_place_kept
        ∙ level_kept old new (dpfs_place old place) 0x50 dpfs (dpfs_place old place + offset) (omega arith)
        (omega arith)

    fields_kept : fields new place ≡ record (fields old place) { selector = get_or new (place + 0x39) 0 }
    unfolding fields
    fields_kept =
        let ivfc_at = extent_kept old new place 0x39 front (place + 0x08) (omega arith) (omega arith) in
        let dpfs_at = extent_kept old new place 0x39 front (place + 0x18) (omega arith) (omega arith) in
        let master = extent_kept old new place 0x39 front (place + 0x28) (omega arith) (omega arith) in
        let external = byte_kept old new place 0x39 front (place + 0x38) (omega arith) (omega arith) in
        let external_at = number_kept old new (place + 0x3A) 0x0A back 8 (place + 0x3C) (omega arith) (omega arith) in
        let ivfc1 = ivfc_level 0x10 (omega arith) in
        let ivfc2 = ivfc_level 0x28 (omega arith) in
        let ivfc3 = ivfc_level 0x40 (omega arith) in
        let ivfc4 = ivfc_level 0x58 (omega arith) in
        let dpfs1 = dpfs_level 0x08 (omega arith) in
        let dpfs2 = dpfs_level 0x20 (omega arith) in
        let dpfs3 = dpfs_level 0x38 (omega arith) in
        cc

    descriptor_kept : (size : ℕ) → length new ≡ length old → IsDescriptor old place size → IsDescriptor new place size
    descriptor_kept size len h =
        let ivfc_extent_kept = extent_kept old new place 0x39 front (place + 0x08) (omega arith) (omega arith) in
        let dpfs_extent_kept = extent_kept old new place 0x39 front (place + 0x18) (omega arith) (omega arith) in
        record {
          difi_name = name_kept old new place 0x39 front len place (omega arith) (omega arith) ∙ h.difi_name;
          difi_version = number_kept old new place 0x39 front 4 (place + 4) (omega arith) (omega arith)
              ∙ h.difi_version;
          ivfc_name = ap (λ at. take 4 (drop at new)) ivfc_place_kept
              ∙ name_kept old new (ivfc_place old place) 0x78 ivfc len (ivfc_place old place) (omega arith)
              (omega arith) ∙ h.ivfc_name;
          ivfc_version = ap (λ at. number_at 4 new (at + 4)) ivfc_place_kept
              ∙ number_kept old new (ivfc_place old place) 0x78 ivfc 4 (ivfc_place old place + 4) (omega arith)
              (omega arith) ∙ h.ivfc_version;
          dpfs_name = ap (λ at. take 4 (drop at new)) dpfs_place_kept
              ∙ name_kept old new (dpfs_place old place) 0x50 dpfs len (dpfs_place old place) (omega arith)
              (omega arith) ∙ h.dpfs_name;
          dpfs_version = ap (λ at. number_at 4 new (at + 4)) dpfs_place_kept
              ∙ number_kept old new (dpfs_place old place) 0x50 dpfs 4 (dpfs_place old place + 4) (omega arith)
              (omega arith) ∙ h.dpfs_version;
          ivfc_long = subst (λ (e : Extent). 0x78 ≤ e.size) (sym ivfc_extent_kept) h.ivfc_long;
          ivfc_inside = subst (λ (e : Extent). e.at + e.size ≤ size) (sym ivfc_extent_kept) h.ivfc_inside;
          dpfs_long = subst (λ (e : Extent). 0x50 ≤ e.size) (sym dpfs_extent_kept) h.dpfs_long;
          dpfs_inside = subst (λ (e : Extent). e.at + e.size ≤ size) (sym dpfs_extent_kept) h.dpfs_inside;
        }

-- where the fields of a descriptor at its own place begin the other parts
parts_begin : (table : List ℕ) (place : ℕ) (difi : Difi) → difi ≡ fields table place
    → (place + difi.ivfc_at ≡ ivfc_place table place) × (place + difi.dpfs_at ≡ dpfs_place table place)
unfolding fields
parts_begin table place difi e = (ap (λ (d : Difi). place + d.ivfc_at) e, ap (λ (d : Difi). place + d.dpfs_at) e)

pub reading-kept : (old new : List ℕ) (size part_len : ℕ) (difi : Difi) → KeepsParts old new difi
    → slice_index new (difi.place + 0x39) < 2 → reading old difi.place size part_len ≡ Ok difi
    → reading new difi.place size part_len ≡ Ok (record difi { selector = slice_index new (difi.place + 0x39) })
reading-kept old new size part_len difi kept chosen h =
    let place = difi.place in
    let read = is_read old place size part_len difi h in
    let begin = parts_begin old place difi read.fields in
    let ivfc : KeepsBytes old new (ivfc_place old place) 0x78 =
    subst (λ at. KeepsBytes old new at 0x78) begin.0 kept.ivfc in
    let dpfs : KeepsBytes old new (dpfs_place old place) 0x50 =
    subst (λ at. KeepsBytes old new at 0x50) begin.1 kept.dpfs in
    let front = kept.before_selector in
    let back = kept.behind_selector in
    let same : fields new place ≡ record difi { selector = slice_index new (place + 0x39) } =
    fields_kept old new place front back ivfc dpfs
    ∙ ap (λ (d : Difi). record d { selector = slice_index new (place + 0x39) }) (sym read.fields) in
    let sound = with_selector difi size part_len (slice_index new (place + 0x39)) read.sound chosen in
    reading-sound new place size part_len
    (descriptor_kept old new place front back ivfc dpfs size kept.len read.descriptor)
    (subst (λ (d : Difi). IsSoundDifi d size part_len) (sym same) sound) ∙ ap Ok same

-- a table that changes in the selector and the master hash alone keeps the parts
pub keeps_parts : (old new : List ℕ) (size part_len : ℕ) (difi : Difi) → IsSoundDifi difi size part_len
    → length new ≡ length old → ((x : ℕ) → x ≢ difi.place + 0x39
    → (difi.place + difi.master.at ≤ x → x < difi.place + difi.master.at + difi.master.size → ⊥)
    → slice_index new x ≡ slice_index old x) → KeepsParts old new difi
keeps_parts old new size part_len difi sound len same =
    let p = sound.parts in
    record {
      len = len;
      before_selector = λ k h. same (difi.place + k) (omega arith)
          (λ low high. p.difi_master k (omega arith) (omega arith) (omega arith) (omega arith));
      behind_selector = λ k h. same (difi.place + 0x3A + k) (omega arith)
          (λ low high. p.difi_master (0x3A + k) (omega arith) (omega arith) (omega arith) (omega arith));
      ivfc = λ k h. same (difi.place + difi.ivfc_at + k)
          (λ e. p.difi_ivfc 0x39 (omega arith) (omega arith) (omega arith) (omega arith))
          (λ low high. p.ivfc_master (difi.ivfc_at + k) (omega arith) (omega arith) (omega arith) (omega arith));
      dpfs = λ k h. same (difi.place + difi.dpfs_at + k)
          (λ e. p.difi_dpfs 0x39 (omega arith) (omega arith) (omega arith) (omega arith))
          (λ low high. p.dpfs_master (difi.dpfs_at + k) (omega arith) (omega arith) (omega arith) (omega arith));
    }

pub reading-set : (table : List ℕ) (size part_len selector : ℕ) (difi : Difi) → difi.place + 0x39 < length table
    → selector < 2 → reading table difi.place size part_len ≡ Ok difi
    → reading (set table (difi.place + 0x39) selector) difi.place size part_len ≡ Ok
    (record difi { selector = selector })
reading-set table size part_len selector difi inside chosen h =
    let new = set table (difi.place + 0x39) selector in
    let sound = (is_read table difi.place size part_len difi h).sound in
    let kept = keeps_parts table new size part_len difi sound (length-set table (difi.place + 0x39) selector)
    (λ x other _. get_or-set_other table (difi.place + 0x39) x selector 0 other) in
    let is_set : slice_index new (difi.place + 0x39) ≡ selector =
    get_or-set_same table (difi.place + 0x39) selector 0 inside in
    reading-kept table new size part_len difi kept (rw is_set chosen) h
    ∙ ap (λ s. Ok (record difi { selector = s })) is_set
