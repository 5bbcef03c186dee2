-- A space behind which the bytes of a chain's blocks lie once more.
use Rattle.std.specs.Prelude.{◌≡◌, ℕ, ◌+◌, ◌-◌, ◌*◌, ◌/◌, ◌%◌, ◌^◌, ◌<◌, ◌≤◌, Bool, true, ◌&&◌, ◌||◌, ◌==◌, nat_lt}
use Rattle.std.specs.Prelude.{nat_le, if◌then◌else◌, IsTrue}
use Rattle.std.specs.Prelude.{List, [], slice_index, unwrap_or, Option, Result, IfOk}
use Rattle.std.specs.Result.{result_err}
use Rattle.save_bytes.specs.declared.space.Bad.{Bad}
use Rattle.save_bytes.specs.State.{Shape, State}
use Rattle.save_bytes.specs.Refusals.{NeverDamaged}
use Rattle.save_bytes.specs.Spots.{Spot}
use Rattle.chain_nodes.specs.declared.info.ChainInfo.{ChainInfo}
use Rattle.chain_nodes.specs.declared.node.Lead.TheVariants.{Opens}
use Rattle.chain_nodes.specs.Table.{table_in}
use Rattle.chain_nodes.specs.Runs.{HasLength}
use Rattle.chain_space.specs.Bounded.{some_passes}
use Rattle.chain_space.specs.Walks.{list_in, has_length}

-- the chain's list, if it is as it should be
unfoldable pub found_list : State → ChainInfo → ℕ → Option (List ℕ)
found_list base info first = list_in (table_in base.cells info) info.count info.count Opens first

-- the entries of the chain
unfoldable pub chain_list : State → ChainInfo → ℕ → List ℕ
chain_list base info first = unwrap_or (found_list base info first) []

-- the table links the chain as it should, which has so many blocks at least, and not more than the table has
unfoldable pub is_shown : State → ChainInfo → ℕ → ℕ → Bool
is_shown base info first blocks = has_length blocks info.count (found_list base info first)

-- where byte x of data block i lies, of the blocks of the entries of a list
abbrev pub block_place : ChainInfo → List ℕ → ℕ → ℕ
block_place info list x = info.region_at + (slice_index list (x / info.block) - 1) * info.block + x % info.block

-- where a place of the base, or of the blocks behind it, lies in the base
unfoldable pub place_of : State → ChainInfo → ℕ → ℕ → ℕ
place_of base info first x =
    if nat_lt x base.shape.size then x else block_place info (chain_list base info first) (x - base.shape.size)

-- a place of the allocation table
abbrev pub is_in_table : ChainInfo → ℕ → Bool
is_in_table info x = nat_le info.table_at x && nat_lt x (info.table_at + 8 * (info.count + 1))

-- the place is fixed in the base, or lies in the allocation table, or is a twin of such a place
unfoldable pub is_kept : State → ChainInfo → ℕ → Bool
is_kept base info x =
    some_passes base.shape.size (λ y. (base.is_fixed y || is_in_table info y) && (base.bottom y == base.bottom x))

-- the table and the data blocks lie in the base, each of whose places may be written, and the length has 64 bits
unfoldable pub can_show : Shape → ChainInfo → ℕ → Bool
can_show base info blocks =
    base.sound && ((base.first == 0) && (nat_lt info.count (2 ^ 31)
    && (nat_le (info.table_at + 8 * (info.count + 1)) base.size
    && (nat_le (info.region_at + info.count * info.block) base.size
    && nat_lt (base.size + blocks * info.block) (2 ^ 64)))))

-- The base, and behind it the bytes of the first blocks of a chain. Each byte of these has two places.
abbrev pub shown_state : ChainInfo → ℕ → ℕ → State → State
shown_state info first blocks base = record {
  shape = record {
    size = base.shape.size + blocks * info.block;
    sound = can_show base.shape info blocks;
    plain = base.shape.plain;
    first = base.shape.first;
    doubled = true;
    block_start = base.shape.block_start;
    block_len = base.shape.block_len;
  };
  told = base.told && is_shown base info first blocks;
  cells = λ x. base.cells (place_of base info first x);
  bottom = λ x. base.bottom (place_of base info first x);
  is_fixed = λ x. is_kept base info (place_of base info first x);
  faults = base.faults;
}

-- a put into a place touches what a put into its place in the base does
abbrev pub ShownLands : {A : Type 0} → (A → State) → (A → ℕ → Spot → Type 0) → ChainInfo → ℕ → A → ℕ → Spot → Type 0
ShownLands states lands info first base x spot = lands base (place_of (states base) info first x) spot

-- the table links a chain as it should, which has so many blocks at least, and not more than the table has
pub record LinksBlocks (base : State) (info : ChainInfo) (first blocks : ℕ) : Type 0 where
  pub len : ℕ
  pub linked : HasLength (table_in base.cells info) info.count Opens first len
  pub enough : blocks ≤ len
  pub few : len ≤ info.count

-- Where the bytes from `at` on lie in the base, and how many lie there in one piece: as many as are asked for, up to
-- the end of the base or of a node.
pub record IsLocatedRun (base : State) (info : ChainInfo) (first blocks at most : ℕ)
    (result : Result (ℕ × ℕ) Bad) : Type 0 where
  pub some : IfOk result (λ run. 1 ≤ run.1)
  pub bounded : IfOk result (λ run. run.1 ≤ most)
  pub inside : IfOk result (λ run. at + run.1 ≤ base.shape.size + blocks * info.block)
  pub in_base : IfOk result (λ run. run.0 + run.1 ≤ base.shape.size)
  pub places : IsTrue (shown_state info first blocks base).told
      → IfOk result (λ run. (k : ℕ) → k < run.1 → place_of base info first (at + k) ≡ run.0 + k)
  pub plain : NeverDamaged (result_err result)
