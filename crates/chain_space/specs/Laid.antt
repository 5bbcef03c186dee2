-- A space behind which some of its blocks lie once more.
use Rattle.std.specs.Prelude.{◌≡◌, ℕ, ◌+◌, ◌-◌, ◌*◌, ◌/◌, ◌%◌, ◌^◌, ◌<◌, ◌≤◌, Bool, true, ◌&&◌, ◌==◌, nat_lt, nat_le}
use Rattle.std.specs.Prelude.{if◌then◌else◌}
use Rattle.std.specs.Prelude.{IsTrue, List, length, slice_index}
use Rattle.save_bytes.specs.State.{Shape, State}
use Rattle.save_bytes.specs.Spots.{Spot}
use Rattle.chain_space.specs.Bounded.{each_passes}

-- some blocks of a space: where block 0 lies, how many bytes each has, and which blocks they are
pub record Extra : Type 0 where
  pub region_at : ℕ
  pub block : ℕ
  pub blocks : List ℕ

abbrev pub extra_of : ℕ → ℕ → List ℕ → Extra
extra_of region_at block blocks = record { region_at = region_at; block = block; blocks = blocks }

-- where a place of a base of so many places, or of the blocks behind it, lies in the base
unfoldable pub laid_place : Extra → ℕ → ℕ → ℕ
laid_place extra size x =
    if nat_lt x size then x
    else extra.region_at + slice_index extra.blocks ((x - size) / extra.block) * extra.block + (x - size) % extra.block

-- the k-th of the blocks lies in a base of so many places
abbrev pub is_inside : Extra → ℕ → ℕ → Bool
is_inside extra size k = nat_le (extra.region_at + (slice_index extra.blocks k + 1) * extra.block) size

-- each block lies in the base, each of whose places may be written, and the length has 64 bits
unfoldable pub can_lay : Extra → Shape → Bool
can_lay extra base =
    base.sound && (base.first == 0 && (each_passes (length extra.blocks) (is_inside extra base.size)
    && nat_lt (base.size + length extra.blocks * extra.block) (2 ^ 64)))

-- the base, and behind it the blocks
abbrev pub laid_shape : Extra → Shape → Shape
laid_shape extra base = record {
  size = base.size + length extra.blocks * extra.block;
  sound = can_lay extra base;
  plain = base.plain;
  first = base.first;
  doubled = true;
  block_start = base.block_start;
  block_len = base.block_len;
}

-- Each byte of the blocks has two places. What is told, and the twins and fixed places, are the base's.
abbrev pub laid_state : Extra → State → State
laid_state extra base = record {
  shape = laid_shape extra base.shape;
  told = base.told;
  cells = λ x. base.cells (laid_place extra base.shape.size x);
  bottom = λ x. base.bottom (laid_place extra base.shape.size x);
  is_fixed = λ x. base.is_fixed (laid_place extra base.shape.size x);
  faults = base.faults;
}

-- a put into a place touches what a put into its place in the base does
abbrev pub LaidLands : {A : Type 0} → (A → State) → (A → ℕ → Spot → Type 0) → Extra → A → ℕ → Spot → Type 0
LaidLands states lands extra base x spot = lands base (laid_place extra (states base).shape.size x) spot

-- each block lies in a base of so many places, and the length with the blocks has 64 bits
pub record LieIn (extra : Extra) (size : ℕ) : Type 0 where
  pub inside : (k : ℕ) → k < length extra.blocks → extra.region_at +
      (slice_index extra.blocks k + 1) * extra.block ≤ size
  pub fits : size + length extra.blocks * extra.block < 2 ^ 64

-- the test on what blocks lie behind, as facts
pub record CanLay (extra : Extra) (base : Shape) : Type 0 where
  pub sound : IsTrue base.sound
  pub first : base.first ≡ 0
  pub lie : LieIn extra base.size

-- Where the bytes from `at` on lie in a base of so many places, and how many lie there in one piece: as many as are
-- asked for, up to the end of the base or of a block.
pub record IsLaidRun (extra : Extra) (size at most : ℕ) (run : ℕ × ℕ) : Type 0 where
  pub some : 1 ≤ run.1
  pub bounded : run.1 ≤ most
  pub inside : at + run.1 ≤ size + length extra.blocks * extra.block
  pub in_base : run.0 + run.1 ≤ size
  pub places : (k : ℕ) → k < run.1 → laid_place extra size (at + k) ≡ run.0 + k

-- the place lies in the base where one of the n places from `at` on does
abbrev pub IsLaidSite : Extra → (size at n : ℕ) → ℕ → Type 0
IsLaidSite extra size at n y = (k : ℕ) × (k < n) × (laid_place extra size (at + k) ≡ y)
