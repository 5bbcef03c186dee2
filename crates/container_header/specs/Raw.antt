-- A header and its 256 bytes.
use Rattle.std.specs.Prelude.{◌≡◌, ℕ, List, [], ◌∷◌, ◌++◌, length, replicate, Some, ◌==◌, if◌then◌else◌}
use Rattle.save_bytes.specs.Fields.{with_bytes}
use Rattle.container_header.specs.declared.header.Kind.{Kind}
use Rattle.container_header.specs.declared.header.Kind.TheVariants.{Disa, Diff}
use Rattle.container_header.specs.declared.header.Header.{Header}
use Rattle.container_header.specs.Fields.{header_word}
use Rattle.container_header.specs.Conditions.{kind_of, version_of, fields_of}

-- an image's first 512 bytes that hold these bytes as its header
unfoldable pub header_image : List ℕ → List ℕ
header_image raw = replicate 256 0 ++ raw

-- the fields are those of the header's bytes
pub record IsOfRaw (header : Header) : Type 0 where
  pub size_is : length header.raw ≡ 256
  pub kind_is : kind_of (header_image header.raw) ≡ Some header.kind
  pub version_is : header_word (header_image header.raw) 0x04 ≡ version_of header.kind
  pub fields_are : fields_of header.kind (header_image header.raw) ≡ header

-- where the active byte stands in the header, and where the hash of the active table begins
abbrev pub active_place : Kind → ℕ
active_place Disa = 0x68
active_place Diff = 0x30

abbrev pub hash_place : Kind → ℕ
hash_place Disa = 0x6C
hash_place Diff = 0x34

-- the table that is not active
abbrev pub other_table : ℕ → ℕ
other_table active = if active == 0 then 1 else 0

-- the header with the other table active, which has this hash. Its bytes change where these two stand
abbrev pub flipped : Header → List ℕ → Header
flipped header hash = record header {
  active = other_table header.active;
  hash = hash;
  raw = with_bytes (with_bytes header.raw (active_place header.kind) (other_table header.active ∷ []))
      (hash_place header.kind) hash;
}
