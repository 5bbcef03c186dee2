-- Where a reading of a file's contents stands.
use Rattle.std.specs.Prelude.{◌≡◌, ℕ, ◌+◌, ◌*◌, ◌<◌, ◌≤◌, List}
use Rattle.save_bytes.specs.Cells.{Cell, IsByte, AreBytesAt}
use Rattle.chain_nodes.specs.declared.node.Lead.TheVariants.{Opens}
use Rattle.chain_nodes.specs.Runs.{IsListPlace}
use Rattle.chain_space.specs.Shown.{block_place}
use Rattle.file_reader.specs.declared.reading.Reading.{Reading}
use Rattle.file_reader.specs.Contents.{IsContentsList, contents_in}

-- the reading's cursor stands behind the run in hand, in the chain that begins with an entry
pub record IsCursorOf (table : ℕ → ℕ → Cell) (entry x : ℕ) (reading : Reading) : Type 0 where
  pub opens : reading.cursor.opens ≡ Opens
  pub first : reading.cursor.first ≡ entry
  pub place : IsListPlace table reading.info.count reading.cursor
  pub passed : reading.cursor.passed * reading.info.block ≡ x + reading.run

-- a reading of contents of so many bytes stands at byte x of them
pub record IsReadingAt (table : ℕ → ℕ → Cell) (start size : ℕ) (list : List ℕ) (x : ℕ) (reading : Reading) : Type 0
  where
    pub contents : IsContentsList table reading.info start size list
    pub left : x + reading.left ≡ size
    pub cursor : 1 ≤ size → IsCursorOf table (start + 1) x reading
    pub run : (k : ℕ) → k < reading.run → block_place reading.info list (x + k) ≡ reading.at + k

-- all bytes can be read, and the reading stands at the first
pub record IsBegun (table : ℕ → ℕ → Cell) (cells : ℕ → Cell) (start size : ℕ) (list : List ℕ) (reading : Reading) :
    Type 0 where
  pub stands : IsReadingAt table start size list 0 reading
  pub bytes : (x : ℕ) → x < size → IsByte (contents_in reading.info list cells x)

-- these are the bytes from x on, and the reading stands behind them
pub record IsPieceRead (table : ℕ → ℕ → Cell) (cells : ℕ → Cell) (start size : ℕ) (list : List ℕ) (x n : ℕ)
    (piece : List ℕ) (reading : Reading) : Type 0 where
  pub bytes : AreBytesAt (contents_in reading.info list cells) x piece
  pub stands : IsReadingAt table start size list (x + n) reading
