-- Parts and their descriptors.
use Rattle.std.proofs.Common.{◌≡◌, ℕ, ◌<◌, ◌≤◌, Bool, true, false, ◌&&◌, List, Option, Some, None, IfSome, Ok}
use Rattle.std.proofs.Common.{refl, sym, ◌∙◌, ap, subst, arith, ⊎_elim}
use Rattle.std.proofs.lemmas.Bool.{cases_lt}
use Rattle.save_bytes.specs.declared.extent.Extent.{Extent}
use Rattle.container_header.specs.declared.header.Header.{Header}
use Rattle.container_header.specs.Sound.{IsSoundHeader}
use Rattle.difi.specs.declared.descriptor.Difi.{Difi}
use Rattle.difi.specs.Fields.{fields}
use Rattle.difi.specs.Sound.{IsSoundDifi}
use Rattle.difi.specs.Conditions.{reading}
use Rattle.container.specs.Openings.{descriptor_of, partition_of, part_reading}
use Rattle.part_store.specs.declared.part.Part.{Part}
use Rattle.part_store.specs.Parts.{HasNoMemory}
use Rattle.part_store.specs.Spots.{SamePart, KeepsMarks}
use Rattle.part_store.specs.SpotLaws.{IsMadeFor-many, KeepsMarks-part}
use Rattle.container.specs.declared.parts.Parts.{Parts}
use Rattle.container.specs.Parts.{part_count, HasDescriptors, IsPartOf, IsPartRead, AreRead, IsWhole, SameSecond}
use Rattle.container.specs.Parts.{KeepsParts}
use Rattle.container.specs.Stores.{HaveNoMemory}

-- a descriptor is read at its place
pub fields_place : (table : List ℕ) (place : ℕ) → (fields table place).place ≡ place
unfolding fields
fields_place table place = refl

-- the reading at the places of a part
pub reading_at : (table : List ℕ) (header : Header) (number : ℕ) (place partition : Extent)
    → place ≡ descriptor_of header number → partition ≡ partition_of header number
    → reading table place.at place.size partition.size ≡ part_reading table header number
reading_at table header number place partition first second =
    ap (λ (e : Extent). reading table e.at e.size partition.size) first
    ∙ ap (λ (e : Extent). reading table (descriptor_of header number).at (descriptor_of header number).size e.size) second

-- the descriptor is sound at the places of a part
pub sound_at : (one two : Difi) (header : Header) (number : ℕ) (place partition : Extent) → two ≡ one
    → place ≡ descriptor_of header number → partition ≡ partition_of header number
    → IsSoundDifi one place.size partition.size
    → IsSoundDifi two (descriptor_of header number).size (partition_of header number).size
sound_at one two header number place partition same first second sound =
    subst (λ (d : Difi). IsSoundDifi d (descriptor_of header number).size (partition_of header number).size) (sym same)
    (subst (λ (e : Extent). IsSoundDifi one (descriptor_of header number).size e.size) second
    (subst (λ (e : Extent). IsSoundDifi one e.size partition.size) first sound))

-- a sound header's descriptors lie in a table of its size
pub sound_descriptors : (header : Header) (image_len : ℕ) → IsSoundHeader header image_len → HasDescriptors header header.table_size
sound_descriptors header image_len sound = record {
  one = sound.one_part;
  two = sound.two_parts;
  each = λ number there.
      ⊎_elim
      (λ (zeroth : number < 1). let is : number ≡ 0 = omega arith in rw is sound.descriptor_a)
      (λ (later : 1 ≤ number). let is : number ≡ 1 = omega arith in let both : header.parts ≡ 2 = omega arith in rw is (sound.descriptor_b both))
      (cases_lt number 1);
}

-- a second part that was read is one of the header's
pub second_of : (table : List ℕ) (header : Header) (second : Option Part) → IfSome second (IsPartRead table header 1) → IfSome second (IsPartOf header 1)
second_of table header None read = tt
second_of table header (Some part) read = read.part_of

-- a part of which nothing but marks was changed is that of its partition still
pub same_part : (header : Header) (number : ℕ) (old new : Part) → SamePart old new → IsPartOf header number old
    → IsPartOf header number new
same_part header number old new same is = record {
  number_is = same.number ∙ is.number_is;
  place = same.place ∙ is.place;
  in_table = ap (λ (difi : Difi). difi.place) same.descriptor ∙ is.in_table;
  sound = rw same.descriptor is.sound;
  contents = rw same.descriptor (record {
    marks = same.copies ∙ is.contents.marks;
    selector = λ one_of_two. rw same.selector (is.contents.selector one_of_two);
  });
  hashes = rw same.descriptor (IsMadeFor-many old.difi old.ivfc new.ivfc same.hashes is.hashes);
}

-- one that keeps its marks is so too, and what its descriptor says
kept_part : (header : Header) (number : ℕ) (old new : Part) → KeepsMarks old new → IsPartOf header number old
    → IsPartOf header number new
kept_part header number old new kept = same_part header number old new (KeepsMarks-part old new kept)

kept_read : (table : List ℕ) (header : Header) (number : ℕ) (old new : Part) → KeepsMarks old new
    → IsPartRead table header number old
    → IsPartRead table header number new
kept_read table header number old new kept is = record {
  part_of = kept_part header number old new kept is.part_of;
  descriptor = is.descriptor ∙ ap Ok (sym kept.descriptor);
  untouched = record {
    contents = rw (kept.descriptor, kept.copies) is.untouched.contents;
    hashes = λ level block. kept.hashes.marks level block ∙ is.untouched.hashes level block;
  };
}

-- what holds of a second part gives what holds of the one that it became
pub second_keeps : (R : Part → Part → Type 0) (P Q : Part → Type 0) → ((old new : Part) → R old new → P old → Q new)
    → (old new : Option Part) → SameSecond R old new → IfSome old P → IfSome new Q
second_keeps R P Q keep None None same is = tt
second_keeps R P Q keep None (Some new) same is = absurd same
second_keeps R P Q keep (Some old) None same is = tt
second_keeps R P Q keep (Some old) (Some new) same is = keep old new same is

pub same_count : (R : Part → Part → Type 0) (old new : Option Part) → SameSecond R old new
    → part_count new ≡ part_count old
same_count R None None same = refl
same_count R None (Some new) same = absurd same
same_count R (Some old) None same = absurd same
same_count R (Some old) (Some new) same = refl

-- so the parts of a container stay whole
whole_by : (R : Part → Part → Type 0) (header : Header) → ((number : ℕ) (old new : Part) → R old new
    → IsPartOf header number old → IsPartOf header number new) → (image_len : ℕ) (table : List ℕ) (old new : Parts)
    → R old.first new.first → SameSecond R old.second new.second → IsWhole header image_len table old
    → IsWhole header image_len table new
whole_by R header keep image_len table old new first second is = record {
  sound = is.sound;
  table_len = is.table_len;
  count = same_count R old.second new.second second ∙ is.count;
  first = keep 0 old.first new.first first is.first;
  second = second_keeps R (IsPartOf header 1) (IsPartOf header 1) (keep 1) old.second new.second second is.second;
}

pub same_whole : (header : Header) (image_len : ℕ) (table : List ℕ) (old new : Parts) → SamePart old.first new.first
    → SameSecond SamePart old.second new.second → IsWhole header image_len table old
    → IsWhole header image_len table new
same_whole header = whole_by SamePart header (same_part header)

pub kept_whole : (header : Header) (image_len : ℕ) (table : List ℕ) (old new : Parts) → KeepsParts old new
    → IsWhole header image_len table old
    → IsWhole header image_len table new
kept_whole header image_len table old new kept =
    whole_by KeepsMarks header (kept_part header) image_len table old new kept.first kept.second

pub kept_as_read : (table : List ℕ) (header : Header) (old new : Parts) → KeepsParts old new
    → AreRead table header old → AreRead table header new
kept_as_read table header old new kept is = record {
  count = same_count KeepsMarks old.second new.second kept.second ∙ is.count;
  first = kept_read table header 0 old.first new.first kept.first is.first;
  second = second_keeps KeepsMarks (IsPartRead table header 1) (IsPartRead table header 1)
      (kept_read table header 1) old.second new.second kept.second is.second;
}

-- where nothing is remembered of each part, nothing is of all
pub none_remembered : (first : Part) (second : Option Part) → HasNoMemory first → IfSome second HasNoMemory
    → HaveNoMemory (record { first = first; second = second })
none_remembered first None one other base table = one base table
none_remembered first (Some part) one other base table = rw (one base table, other base table) (and_same base.told)
  where
    and_same : (b : Bool) → (b && b) ≡ b
    and_same true = refl
    and_same false = refl
