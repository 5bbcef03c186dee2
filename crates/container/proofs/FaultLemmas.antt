-- Which fault an image has.
use Rattle.std.proofs.Common.{◌≡◌, ℕ, List, ◌&&◌, not, bytes_eq, if◌then◌else◌, take, drop, Option, Some, None}
use Rattle.std.proofs.Common.{Result, Ok, Err, lit≤, sym, ◌∙◌, ap, subst}
use Rattle.std.proofs.lemmas.List.{take-take, drop-take}
use Rattle.container_header.specs.declared.header.Header.{Header as Fields}
use Rattle.container_header.specs.declared.fault.HeaderFault.{HeaderFault}
use Rattle.container_header.specs.Conditions.{reading}
use Rattle.container.specs.Signers.{Signing}
use Rattle.container.specs.declared.fault.OpenFault.{OpenFault}
use Rattle.container.specs.declared.fault.OpenFault.TheVariants.{Memory, Disk, Header, Tag, TableHash, Difi}
use Rattle.container.specs.Openings.{active_table, tag_in, header_in, tag_fault, table_fault, fault_by, fault_of, first_of, IsCaused}

-- the expected fault is caused
pub caused_by : (expected : Option OpenFault) (fault : OpenFault) → expected ≡ Some fault → IsCaused expected fault
caused_by expected Memory is = tt
caused_by expected Disk is = tt
caused_by expected (Header fault) is = is
caused_by expected (Tag want found) is = is
caused_by expected TableHash is = is
caused_by expected (Difi part fault) is = is

-- a fault that is caused where none is expected is one of memory or of the disk
pub caused_none : (expected : Option OpenFault) (fault : OpenFault) → IsCaused None fault → IsCaused expected fault
caused_none expected Memory is = tt
caused_none expected Disk is = tt
caused_none expected (Header fault) is = absurd (cc)
caused_none expected (Tag want found) is = absurd (cc)
caused_none expected TableHash is = absurd (cc)
caused_none expected (Difi part fault) is = absurd (cc)

-- where the first of two is there, it is the fault
pub caused_first : (one other : Option OpenFault) (fault : OpenFault) → IsCaused one fault → IsCaused (first_of one other) fault
caused_first one other Memory h = tt
caused_first one other Disk h = tt
caused_first one other (Header fault) h = ap (λ (o : Option OpenFault). first_of o other) h
caused_first one other (Tag want found) h = ap (λ (o : Option OpenFault). first_of o other) h
caused_first one other TableHash h = ap (λ (o : Option OpenFault). first_of o other) h
caused_first one other (Difi part fault) h = ap (λ (o : Option OpenFault). first_of o other) h

-- where it is not, the second one is
pub caused_second : (one other : Option OpenFault) (fault : OpenFault) → one ≡ None → IsCaused other fault → IsCaused (first_of one other) fault
caused_second one other fault none h = subst (λ (o : Option OpenFault). IsCaused (first_of o other) fault) (sym none) h

pub none_of_both : (one other : Option OpenFault) → one ≡ None → other ≡ None → first_of one other ≡ None
none_of_both one other first second = ap (λ (o : Option OpenFault). first_of o other) first ∙ second

abbrev tag_between : Signing → List ℕ → List ℕ → Option OpenFault
tag_between sign found header = if sign.demands && not (bytes_eq found (sign.tag header)) then Some (Tag (sign.tag header) found) else None

module _ (sign : Signing) (image : List ℕ) where
  -- the header's fault is the image's
  pub header_fault : (fault : HeaderFault) → reading image ≡ Err fault → fault_of sign image ≡ Some (Header fault)
  unfolding fault_of
  header_fault fault is = ap (λ (r : Result Fields HeaderFault). fault_by sign image r) is

  -- under a sound header the tag's fault is the image's, and else the table's
  pub fault_under : (header : Fields) → reading image ≡ Ok header
      → fault_of sign image ≡ first_of (tag_fault sign image)
      (table_fault (active_table image header) header)
  unfolding fault_of
  fault_under header is = ap (λ (r : Result Fields HeaderFault). fault_by sign image r) is

  pub tag_first : (header : Fields) (fault : OpenFault) → reading image ≡ Ok header
      → tag_fault sign image ≡ Some fault → IsCaused (fault_of sign image) fault
  tag_first header fault is tag =
      caused_by _ fault (fault_under header is
      ∙ ap (λ (o : Option OpenFault). first_of o (table_fault (active_table image header) header)) tag)

  -- under a sound header and its tag the active table has the fault, or none
  pub table_next : (header : Fields) (table : List ℕ) → reading image ≡ Ok header
      → tag_fault sign image ≡ None → table ≡ active_table image header
      → fault_of sign image ≡ table_fault table header
  table_next header table is none same =
      fault_under header is
      ∙ ap (λ (o : Option OpenFault). first_of o (table_fault (active_table image header) header)) none
      ∙ ap (λ (l : List ℕ). table_fault l header) (sym same)

  -- the tag and the header stand in the first 512 bytes
  pub tag_of_front : tag_fault sign (take 512 image) ≡ tag_fault sign image
  tag_of_front =
      let tag : tag_in (take 512 image) ≡ tag_in image = take-take 16 512 image (lit≤ tt) in
      let header : header_in (take 512 image) ≡ header_in image =
      ap (λ (l : List ℕ). take 256 l) (drop-take 256 256 image) ∙ take-take 256 256 (drop 256 image) (lit≤ tt) in
      ap (λ (l : List ℕ). tag_between sign (tag_in (take 512 image)) l) header
      ∙ ap (λ (l : List ℕ). tag_between sign l (header_in image)) tag
