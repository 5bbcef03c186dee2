-- The allocation table in a space: an entry has eight cells, which are two words of an index and a flag.
use Rattle.std.specs.Prelude.{◌≡◌, ℕ, ◌+◌, ◌*◌, ◌%◌, ◌^◌, ◌<◌, ◌≤◌, min, IsTrue}
use Rattle.save_bytes.specs.Cells.{Cell, IsByte, Blames}
use Rattle.save_bytes.specs.CellNumbers.{number_in}
use Rattle.save_bytes.specs.State.{Shape}
use Rattle.chain_nodes.specs.declared.info.ChainInfo.{ChainInfo}

-- the cells of each entry; a number past the last entry names the last one, and one past the eighth cell the eighth
unfoldable pub table_in : (ℕ → Cell) → ChainInfo → ℕ → ℕ → Cell
table_in cells info entry k = cells (info.table_at + 8 * min entry info.count + min k 7)

-- an entry's two words
abbrev pub word_u : (ℕ → ℕ → Cell) → ℕ → ℕ
word_u table entry = number_in 4 (table entry) 0

abbrev pub word_v : (ℕ → ℕ → Cell) → ℕ → ℕ
word_v table entry = number_in 4 (table entry) 4

-- the lower 31 bits of a word
abbrev pub index_of : ℕ → ℕ
index_of word = word % 2 ^ 31

-- the word of an index with the flag, which is bit 31
abbrev pub flagged : ℕ → ℕ
flagged index = 2 ^ 31 + index

-- each cell of an entry is a byte
abbrev pub HasWords : (ℕ → ℕ → Cell) → ℕ → Type 0
HasWords table entry = (k : ℕ) → k < 8 → IsByte (table entry k)

-- a cell of an entry is no byte, and names this block
abbrev pub HasFault : (ℕ → ℕ → Cell) → ℕ → ℕ → ℕ → ℕ → Type 0
HasFault table entry part level block = (k : ℕ) × (k < 8) × Blames (table entry k) part level block

-- a space has a table of fewer than 2^31 entries behind entry 0, and a data block for each; each place may be written
pub record HasAllocationTable (shape : Shape) (info : ChainInfo) : Type 0 where
  pub sound : IsTrue shape.sound
  pub first : shape.first ≡ 0
  pub few : info.count < 2 ^ 31
  pub table : info.table_at + 8 * (info.count + 1) ≤ shape.size
  pub region : info.region_at + info.count * info.block ≤ shape.size

-- a number of an entry behind entry 0
pub record IsEntry (count entry : ℕ) : Type 0 where
  pub some : 1 ≤ entry
  pub inside : entry ≤ count
