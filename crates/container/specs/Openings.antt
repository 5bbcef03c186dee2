-- What opening an image comes to, over the image's whole list of bytes.
use Rattle.std.specs.Prelude.{◌≡◌, ℕ, ◌&&◌, not, ◌==◌, bytes_eq, List, take, drop, Option, Some, None, Result, Ok, Err, if◌then◌else◌, ⊤}
use Rattle.sha2.specs.Sha256.{sha256}
use Rattle.save_bytes.specs.declared.extent.Extent.{Extent}
use Rattle.container_header.specs.declared.header.Header.{Header}
use Rattle.container_header.specs.declared.fault.HeaderFault.{HeaderFault}
use Rattle.container_header.specs.Conditions.{reading as header_reading}
use Rattle.container_header.specs.Sound.{active_at}
use Rattle.difi.specs.declared.descriptor.Difi.{Difi as Descriptor}
use Rattle.difi.specs.declared.fault.DifiFault.{DifiFault}
use Rattle.difi.specs.Conditions.{reading as difi_reading}
use Rattle.container.specs.Signers.{Signing}
use Rattle.container.specs.declared.fault.OpenFault.{OpenFault}
use Rattle.container.specs.declared.fault.OpenFault.TheVariants.{Memory, Disk, Header as HeaderIs, Tag, TableHash, Difi as DifiIs}

-- what stands before the header, and the header
abbrev pub tag_in : List ℕ → List ℕ
tag_in image = take 16 image

abbrev pub header_in : List ℕ → List ℕ
header_in image = take 256 (drop 256 image)

-- the table that the active byte names
abbrev pub active_table : List ℕ → Header → List ℕ
active_table image header = take header.table_size (drop (active_at header) image)

-- where a part's descriptor stands in the table, and its partition in the image
abbrev pub descriptor_of : Header → ℕ → Extent
descriptor_of header part = if part == 0 then header.desc_a else header.desc_b

abbrev pub partition_of : Header → ℕ → Extent
partition_of header part = if part == 0 then header.part_a else header.part_b

-- the descriptor of a part in a table, or its first fault
abbrev pub part_reading : List ℕ → Header → ℕ → Result Descriptor DifiFault
part_reading table header part = difi_reading table (descriptor_of header part).at (descriptor_of header part).size (partition_of header part).size

abbrev pub descriptor_fault : ℕ → Result Descriptor DifiFault → Option OpenFault
descriptor_fault part (Ok difi) = None
descriptor_fault part (Err fault) = Some (DifiIs part fault)

-- the first of two
abbrev pub first_of : Option OpenFault → Option OpenFault → Option OpenFault
first_of (Some fault) other = Some fault
first_of None other = other

-- the fault of part 1's descriptor, where there is a part 1
abbrev pub second_fault : List ℕ → Header → Option OpenFault
second_fault table header = if header.parts == 2 then descriptor_fault 1 (part_reading table header 1) else None

-- the first fault of the descriptors in a table, part 0's before part 1's
abbrev pub parts_fault : List ℕ → Header → Option OpenFault
parts_fault table header = first_of (descriptor_fault 0 (part_reading table header 0)) (second_fault table header)

-- the active table has the digest that the header says
abbrev pub digest_fault : List ℕ → Header → Option OpenFault
digest_fault table header = if bytes_eq (sha256 table) header.hash then None else Some TableHash

-- the active table alone decides: its digest, then its descriptors
abbrev pub table_fault : List ℕ → Header → Option OpenFault
table_fault table header = first_of (digest_fault table header) (parts_fault table header)

-- a signer that demands its tag finds it
abbrev pub tag_fault : Signing → List ℕ → Option OpenFault
tag_fault sign image =
    if sign.demands && not (bytes_eq (tag_in image) (sign.tag (header_in image)))
    then Some (Tag (sign.tag (header_in image)) (tag_in image)) else None

abbrev pub fault_by : Signing → List ℕ → Result Header HeaderFault → Option OpenFault
fault_by sign image (Ok header) = first_of (tag_fault sign image) (table_fault (active_table image header) header)
fault_by sign image (Err fault) = Some (HeaderIs fault)

-- the first fault of an image under a signer: the header's, the tag's, the table's, the descriptors'
unfoldable pub fault_of : Signing → List ℕ → Option OpenFault
fault_of sign image = fault_by sign image (header_reading image)

-- a fault has its cause; want of memory is free, and that the disk failed is shown by its count
abbrev pub IsCaused : Option OpenFault → OpenFault → Type 0
IsCaused expected Memory = ⊤
IsCaused expected Disk = ⊤
IsCaused expected (HeaderIs fault) = expected ≡ Some (HeaderIs fault)
IsCaused expected (Tag want found) = expected ≡ Some (Tag want found)
IsCaused expected TableHash = expected ≡ Some TableHash
IsCaused expected (DifiIs part fault) = expected ≡ Some (DifiIs part fault)
