-- The texts that the program says.
use Rattle.std.specs.Prelude.{ℕ, zero, suc, ◌==◌, List, [], ◌++◌, length, take, drop, codes, if◌then◌else◌}
use Rattle.std.specs.Int.{div_ceil}
use Rattle.std.specs.Fmt.{decimal}
use Rattle.hex.specs.Hex.{encode_lower}
use Rattle.container_header.specs.declared.header.Kind.{Kind}
use Rattle.container_header.specs.declared.header.Kind.TheVariants.{Disa, Diff}
use Rattle.container_header.specs.declared.header.Header.{Header}
use Rattle.container_header.specs.declared.fault.HeaderFault.{HeaderFault}
use Rattle.container_header.specs.declared.fault.HeaderFault.TheVariants.{NotImage, Version, Layout}
use Rattle.container_header.specs.Sound.{active_at}
use Rattle.difi.specs.declared.fault.DifiFault.{DifiFault}
use Rattle.difi.specs.declared.fault.DifiFault.TheVariants.{Magic as DifiMagic, Version as DifiVersion, Layout as DifiLayout}
use Rattle.container.specs.declared.fault.OpenFault.{OpenFault}
use Rattle.container.specs.declared.fault.OpenFault.TheVariants.{Memory, Disk, Header as HeaderIs, Tag, TableHash, Difi as DifiIs}

-- a name, and numbers one space apart
abbrev pub number_line : List ℕ → ℕ → List ℕ
number_line name number = name ++ decimal number ++ codes "\n"

abbrev pub pair_line : List ℕ → ℕ → ℕ → List ℕ
pair_line name first second = name ++ decimal first ++ codes " " ++ decimal second ++ codes "\n"

abbrev pub triple_line : List ℕ → ℕ → ℕ → ℕ → List ℕ
triple_line name first second third = name ++ decimal first ++ codes " " ++ decimal second ++ codes " " ++ decimal third ++ codes "\n"

-- a name, where a range begins, and its bytes
abbrev pub extent_line : List ℕ → ℕ → ℕ → List ℕ
extent_line name at size = pair_line name at size

abbrev pub kind_line : Kind → List ℕ
kind_line Disa = codes "kind DISA\n"
kind_line Diff = codes "kind DIFF\n"

abbrev pub active_line : ℕ → List ℕ
active_line active = if active == 0 then codes "active primary\n" else codes "active secondary\n"

-- the active table's name, where it stands, and its bytes
abbrev pub table_lines : Header → List ℕ
table_lines header = active_line header.active ++ extent_line (codes "table ") (active_at header) header.table_size

abbrev pub part_lines : Header → List ℕ
part_lines header = extent_line (codes "part A ")
    header.part_a.at header.part_a.size ++ (if header.parts == 2 then extent_line (codes "part B ")
    header.part_b.at header.part_b.size else [])

-- only a DIFF has an identifier
abbrev pub unique_line : Kind → ℕ → List ℕ
unique_line Disa unique = []
unique_line Diff unique = codes "unique " ++ decimal unique ++ codes "\n"

-- what `info` says of a sound image
unfoldable pub info_text : Header → List ℕ
info_text header =
    kind_line header.kind ++ table_lines header ++ part_lines header ++ unique_line header.kind header.unique ++ codes
    "hash " ++ encode_lower header.hash ++ codes "\n"

-- what is said of a header that has a fault
abbrev pub fault_line : HeaderFault → List ℕ
fault_line NotImage = codes "refused NotImage\n"
fault_line Version = codes "refused Version\n"
fault_line (Layout condition) = codes "refused Layout " ++ decimal condition ++ codes "\n"

-- what is said of a part's descriptor that has a fault: the part's number, and which of the three parts of a descriptor, or which condition
abbrev pub difi_line : ℕ → DifiFault → List ℕ
difi_line part (DifiMagic which) = pair_line (codes "refused DifiMagic ") part which
difi_line part (DifiVersion which) = pair_line (codes "refused DifiVersion ") part which
difi_line part (DifiLayout condition) = pair_line (codes "refused DifiLayout ") part condition

-- what is said of an image that was not opened, and nothing where memory was wanting or the disk failed
abbrev pub open_fault_line : OpenFault → List ℕ
open_fault_line Memory = []
open_fault_line Disk = []
open_fault_line (HeaderIs fault) = fault_line fault
open_fault_line (Tag want found) = codes "refused Tag " ++ encode_lower want ++ codes " " ++ encode_lower found ++ codes "\n"
open_fault_line TableHash = codes "refused TableHash\n"
open_fault_line (DifiIs part fault) = difi_line part fault

-- what is said of a part that is not there: how many are
abbrev pub no_part_line : ℕ → List ℕ
no_part_line have = number_line (codes "refused NoPart ") have

-- what is said of a block that is not there: how many the part has
abbrev pub no_block_line : ℕ → List ℕ
no_block_line have = number_line (codes "refused NoBlock ") have

-- what is said of a block that has another digest than its hash tree: the part, the tree's level, and the block on that
abbrev pub damaged_line : ℕ → ℕ → ℕ → List ℕ
damaged_line part level block = triple_line (codes "refused Damaged ") part level block

-- bytes in two digits each
abbrev pub hex_line : List ℕ → List ℕ
hex_line bytes = encode_lower bytes ++ codes "\n"

-- the bytes in so many lines of 32
unfoldable pub hex_lines : ℕ → List ℕ → List ℕ
hex_lines zero bytes = []
hex_lines (suc count) bytes = hex_line (take 32 bytes) ++ hex_lines count (drop 32 bytes)

-- the part, the block and the number of bytes, then the bytes in lines of 32, of which the last may be shorter
unfoldable pub block_text : ℕ → ℕ → List ℕ → List ℕ
block_text part block bytes = triple_line (codes "block ") part block (length bytes) ++ hex_lines (div_ceil (length bytes) 32) bytes
