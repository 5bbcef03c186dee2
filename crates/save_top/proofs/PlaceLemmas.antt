-- Where the blocks of a whole container lie.
use Rattle.std.proofs.Common.{◌≡◌, ◌≢◌, ℕ, ◌<◌, ◌≤◌, Bool, true, false, List, Option, Some, IfSome, refl, ap, subst, arith, ⊎_elim}
use Rattle.std.proofs.lemmas.Bool.{cases_eq, eq-eqb, ne_eqb}
use Rattle.container_header.specs.declared.header.Header.{Header}
use Rattle.difi.specs.declared.descriptor.Difi.{Difi}
use Rattle.difi.specs.Sound.{HasSoundLevels}
use Rattle.part_store.specs.declared.part.Part.{Part}
use Rattle.container.specs.Openings.{partition_of}
use Rattle.container.specs.declared.parts.Parts.{Parts}
use Rattle.container.specs.Parts.{part_at, part_count, IsPartOf, IsWhole}
use Rattle.container.proofs.ImageLemmas.{partition_there}

two_parts : (second : Option Part) (part : Part) → second ≡ Some part → part_count second ≡ 2
two_parts second part is = ap part_count is

-- each part of a whole container is that of its number
pub part_is : (header : Header) (image_len : ℕ) (table : List ℕ) (parts : Parts) (number : ℕ) (part : Part)
    → IsWhole header image_len table parts → part_at parts number ≡ Some part → (number < header.parts)
    × IsPartOf header number part
part_is header image_len table parts number part whole there =
    ⊎_elim
    (λ (zeroth : number ≡ 0).
    let first : Some parts.first ≡ Some part = rw (eq-eqb number 0 zeroth) at there in
    let same : parts.first ≡ part = cc in
    (omega (arith, whole.sound.one_part, zeroth), rw zeroth (subst (λ (p : Part). IsPartOf header 0 p) same whole.first)))
    (λ (later : number ≢ 0).
    ⊎_elim
    (λ (one : number ≡ 1).
    let second : parts.second ≡ Some part = rw (ne_eqb number 0 later, eq-eqb number 1 one) at there in
    let both = two_parts parts.second part second in
    let of : IfSome (Some part) (IsPartOf header 1) = rw second at whole.second in
    (omega (arith, one, both, whole.count), rw one of))
    (λ (past : number ≢ 1). absurd (let none = rw (ne_eqb number 0 later, ne_eqb number 1 past) at there in cc))
    (cases_eq number 1))
    (cases_eq number 0)

four_by : (difi : Difi) (part_len : ℕ) (external : Bool) → difi.external ≡ external → HasSoundLevels difi part_len → difi.ivfc4.size ≤ part_len
four_by difi part_len true is levels = omega (arith, (levels.external_level is).inside)
four_by difi part_len false is levels = omega (arith, levels.hash_levels.inside4 is, levels.copies.level3.inside)

-- its level four is no longer than the longest image, in blocks of at most 65,536 bytes
pub record IsSmall (difi : Difi) : Type 0 where
  pub log : difi.ivfc4.log ≤ 16
  pub size : difi.ivfc4.size ≤ 67108864

pub part_small : (header : Header) (image_len : ℕ) (table : List ℕ) (parts : Parts) (number : ℕ) (part : Part)
    → IsWhole header image_len table parts → part_at parts number ≡ Some part → IsSmall part.difi
part_small header image_len table parts number part whole there =
    let is = part_is header image_len table parts number part whole there in
    let levels = is.1.sound.levels in
    let partition = partition_there header image_len number whole.sound is.0 in
    record {
      log = levels.block_sizes.ivfc4.1;
      size = omega (arith, four_by part.difi (partition_of header number).size part.difi.external refl levels, partition.inside.ends, whole.sound.longest);
    }
