-- An image opens exactly where no fault is found.
use Rattle.std.proofs.Common.{◌≡◌, ◌⊎◌, ℕ, zero, suc, ◌<◌, ◌≤◌, List, Bool, true, false, ◌&&◌, not, ◌==◌, bytes_eq, cond}
use Rattle.std.proofs.Common.{Option, Some, None, Result, Ok, Err, refl, sym, ◌∙◌, ap, arith, inl, inr}
use Rattle.std.specs.Prelude.{IsTrue}
use Rattle.std.proofs.lemmas.Bool.{eqb-true, eq-eqb, not-false, not_from_true}
use Rattle.std.proofs.lemmas.Slice.Eq.{bytes_eq-Decides}
use Rattle.sha2.specs.Sha256.{sha256}
use Rattle.save_bytes.specs.declared.extent.Extent.{Extent}
use Rattle.container_header.specs.declared.header.Header.{Header as Fields}
use Rattle.container_header.specs.declared.fault.HeaderFault.{HeaderFault}
use Rattle.container_header.specs.Conditions.{reading}
use Rattle.container_header.proofs.HeaderRead.{reading-ok, reading-is}
use Rattle.difi.specs.declared.descriptor.Difi.{Difi as Descriptor}
use Rattle.difi.specs.declared.fault.DifiFault.{DifiFault}
use Rattle.difi.specs.Conditions.{reading as difi_reading}
use Rattle.difi.proofs.SoundLemmas.{is_read}
use Rattle.difi.proofs.CompleteLemmas.{reading-sound}
use Rattle.container.specs.Signers.{Signing}
use Rattle.container.specs.declared.fault.OpenFault.{OpenFault}
use Rattle.container.specs.Openings.{active_table, tag_in, header_in, part_reading, fault_of}
use Rattle.container.specs.Openings.{descriptor_fault, second_fault, parts_fault, digest_fault, table_fault, tag_fault, first_of}
use Rattle.container.specs.Opens.{IsSoundDescriptor, HasSoundDescriptor, Opens}
use Rattle.container.proofs.FaultLemmas.{none_of_both, header_fault, fault_under}

-- where the first of two is none, both are
both_none : (one other : Option OpenFault) → first_of one other ≡ None → (one ≡ None) × (other ≡ None)
both_none (Some fault) other h = absurd (cc)
both_none None other h = (refl, h)

-- where no fault is named, a test passes that has to
passes : (test : Bool) (fault : OpenFault) → cond test None (Some fault) ≡ None → test ≡ true
passes true fault h = refl
passes false fault h = absurd (cc)

-- and one that must not pass does not
fails : (test : Bool) (fault : OpenFault) → cond test (Some fault) None ≡ None → test ≡ false
fails true fault h = absurd (cc)
fails false fault h = refl

-- where a test passes there is no fault, and elsewhere none is looked for
none_where : (test : Bool) (fault : Option OpenFault) → (test ≡ true → fault ≡ None) → cond test fault None ≡ None
none_where true fault h = h refl
none_where false fault h = refl

-- the tag is the wanted one, where it is demanded
module _ (found want : List ℕ) (fault : OpenFault) where
  tag_passes : (demands : Bool) → (IsTrue demands → found ≡ want)
      → cond (demands && not (bytes_eq found want)) (Some fault) None ≡ None
  tag_passes true h = rw (not_from_true _ ((bytes_eq-Decides found want).1 (h refl))) refl
  tag_passes false h = refl

  tag_found : (demands : Bool) → cond (demands && not (bytes_eq found want)) (Some fault) None ≡ None
      → IsTrue demands → found ≡ want
  tag_found true h demanded = (bytes_eq-Decides found want).0 (not-false _ (fails _ fault h))
  tag_found false h demanded = absurd (cc)

-- a descriptor that has no fault was read
was_read : (part : ℕ) (r : Result Descriptor DifiFault) → descriptor_fault part r ≡ None
    → (difi : Descriptor) × (r ≡ Ok difi)
was_read part (Ok difi) h = (difi, refl)
was_read part (Err fault) h = absurd (cc)

-- the fault of the descriptor at a place in a table, for a partition
abbrev fault_at : ℕ → List ℕ → Extent → Extent → Option OpenFault
fault_at part table place partition = descriptor_fault part (difi_reading table place.at place.size partition.size)

module _ (part : ℕ) (table : List ℕ) (place partition : Extent) where
  sound_none : IsSoundDescriptor table place partition → fault_at part table place partition ≡ None
  sound_none is =
      ap (descriptor_fault part) (reading-sound table place.at place.size partition.size is.descriptor is.sound)

  none_sound : fault_at part table place partition ≡ None → IsSoundDescriptor table place partition
  none_sound none =
      let found = was_read part _ none in
      let read = is_read table place.at place.size partition.size found.0 found.1 in
      record { descriptor = read.descriptor; sound = rw (← read.fields) read.sound }

module _ (table : List ℕ) (header : Fields) where
  digest_none : sha256 table ≡ header.hash → digest_fault table header ≡ None
  digest_none same = rw ((bytes_eq-Decides (sha256 table) header.hash).1 same) refl

  digest_same : digest_fault table header ≡ None → sha256 table ≡ header.hash
  digest_same none = (bytes_eq-Decides (sha256 table) header.hash).0 (passes _ _ none)

  parts_none : 1 ≤ header.parts → ((part : ℕ) → part < header.parts → HasSoundDescriptor table header part)
      → parts_fault table header ≡ None
  parts_none one each =
      none_of_both (descriptor_fault 0 (part_reading table header 0)) (second_fault table header)
      (sound_none 0 table header.desc_a header.part_a (each 0 (omega (arith, one))))
      (none_where (header.parts == 2) _ (λ is.
      let two = eqb-true header.parts 2 is in
      sound_none 1 table header.desc_b header.part_b (each 1 (omega (arith, two)))))

  parts_sound : header.parts ≤ 2 → parts_fault table header ≡ None
      → (part : ℕ) → part < header.parts → HasSoundDescriptor table header part
  parts_sound most none zero less = none_sound 0 table header.desc_a header.part_a (both_none _ _ none).0
  parts_sound most none (suc zero) less =
      let two : header.parts ≡ 2 = omega (arith, most, less) in
      let second : second_fault table header ≡ None = (both_none _ _ none).1 in
      none_sound 1 table header.desc_b header.part_b (rw (eq-eqb header.parts 2 two) at second)
  parts_sound most none (suc (suc part)) less = absurd (omega (arith, most, less))

-- the header of an image, or its fault
read_or_not : (r : Result Fields HeaderFault)
    → ((header : Fields) × (r ≡ Ok header)) ⊎ ((fault : HeaderFault) × (r ≡ Err fault))
read_or_not (Ok header) = inl (header, refl)
read_or_not (Err fault) = inr (fault, refl)

module _ (sign : Signing) (image : List ℕ) where
  -- an image that opens has no fault
  pub no_fault : Opens sign image → fault_of sign image ≡ None
  no_fault opens =
      let header = opens.header in
      let table = active_table image header in
      fault_under sign image header (reading-is image header opens.sound)
      ∙ none_of_both (tag_fault sign image) (table_fault table header)
      (tag_passes (tag_in image) (sign.tag (header_in image)) _ sign.demands opens.tag)
      (none_of_both (digest_fault table header) (parts_fault table header)
      (digest_none table header opens.table)
      (parts_none table header opens.sound.sound.one_part opens.parts))

  opens_under : (header : Fields) → reading image ≡ Ok header → fault_of sign image ≡ None
      → Opens sign image
  opens_under header is none =
      let table = active_table image header in
      let sound = reading-ok image header is in
      let rest : first_of (tag_fault sign image) (table_fault table header) ≡ None =
      sym (fault_under sign image header is) ∙ none in
      let tag = both_none _ _ rest in
      let below = both_none (digest_fault table header) (parts_fault table header) tag.1 in
      record {
        header = header;
        sound = sound;
        table = digest_same table header below.0;
        parts = parts_sound table header sound.sound.two_parts below.1;
        tag = tag_found (tag_in image) (sign.tag (header_in image)) _ sign.demands tag.0;
      }

  -- and one that has none opens
  pub opens_without_fault : fault_of sign image ≡ None → Opens sign image
  opens_without_fault none = elim (read_or_not (reading image)) [
    | inl read ↦ opens_under read.0 read.1 none
    | inr unread ↦ absurd (let fault = header_fault sign image unread.0 unread.1 in cc)
  ]
