-- The store of an open image: part 0's level four, followed by part 1's.
use Rattle.std.specs.Prelude.{◌≡◌, ℕ, ◌+◌, ◌-◌, ◌*◌, ◌^◌, max, Bool, ◌&&◌, false, not, ◌==◌, nat_lt, List, Option}
use Rattle.std.specs.Prelude.{Some, None, if◌then◌else◌}
use Rattle.std.specs.Bool.{MatchBool}
use Rattle.save_bytes.specs.declared.extent.Extent.{Extent}
use Rattle.save_bytes.specs.Extents.{overlap}
use Rattle.save_bytes.specs.State.{State}
use Rattle.save_bytes.specs.declared.space.Bad.{Bad}
use Rattle.save_bytes.specs.Spots.{Spot}
use Rattle.save_bytes.specs.Stays.{Stays}
use Rattle.save_bytes.specs.Reads.{Reads}
use Rattle.difi.specs.declared.places.LevelPlace.{LevelPlace}
use Rattle.difi.specs.declared.descriptor.Difi.{Difi}
use Rattle.part_store.specs.declared.part.Part.{Part}
use Rattle.part_store.specs.Parts.{part_state}
use Rattle.part_store.specs.Spots.{PartLands}
use Rattle.container.specs.declared.parts.Parts.{Parts}
use Rattle.container.specs.Parts.{KeepsParts}

-- the cells of one space followed by those of another, whose damaged blocks are told apart where a test passes
abbrev pub joined : Bool → State → State → State
joined distinct one other = record {
  shape = record {
    size = one.shape.size + other.shape.size;
    sound = distinct && (one.shape.sound && (other.shape.sound && nat_lt (one.shape.size + other.shape.size) (2 ^ 64)));
    plain = false;
    first = 0;
    doubled = false;
    block_start = λ x. if nat_lt x one.shape.size then one.shape.block_start x else one.shape.size + other.shape.block_start (x - one.shape.size);
    block_len = λ x. if nat_lt x one.shape.size then one.shape.block_len x else other.shape.block_len (x - one.shape.size);
  };
  told = one.told && other.told;
  cells = λ x. if nat_lt x one.shape.size then one.cells x else other.cells (x - one.shape.size);
  bottom = λ x. x;
  is_fixed = λ x. false;
  faults = one.faults;
}

-- where both copies of a level end in its partition, and where external level four does, if there is one
abbrev pub copies_end : LevelPlace → ℕ
copies_end level = level.at + 2 * level.size

abbrev pub external_end : Difi → ℕ
external_end difi = if difi.external then difi.external_at + difi.ivfc4.size else 0

-- from a partition's beginning to the end of what its descriptor places in it
abbrev pub taken_of : Part → Extent
taken_of part = record {
  at = part.at;
  size = max (max (copies_end part.difi.dpfs1) (copies_end part.difi.dpfs2))
      (max (copies_end part.difi.dpfs3) (external_end part.difi));
}

-- two parts have different numbers, and no byte is taken by both
abbrev pub are_two : Part → Part → Bool
are_two one other = not (one.number == other.number) && not (overlap (taken_of one) (taken_of other))

abbrev pub state_of : State → Part → Option Part → List ℕ → State
state_of base first None table = part_state base first table
state_of base first (Some second) table =
    joined (are_two first second) (part_state base first table) (part_state base second table)

-- what a contract sees of a store of these parts over an image of which this is seen
abbrev pub store_state : State → Parts → List ℕ → State
store_state base parts table = state_of base parts.first parts.second table

-- nothing is remembered of the parts: their cells are told wherever those of an image are
abbrev pub HaveNoMemory : Parts → Type 0
HaveNoMemory parts = (base : State) (table : List ℕ) → (store_state base parts table).told ≡ base.told

-- What a call on the parts leaves that only reads: the cells stay, and so do the image, the table and the marks. What
-- is remembered stays true.
pub record ReadsParts {A : Type 0} (states : A → State) (keeps : Spot → A → A → Type 0) (lands : A → ℕ → Spot → Type 0)
    (old new : A) (parts parts_new : Parts) (table table_new : List ℕ) (refusal : Option Bad) : Type 0 where
  pub stays : Stays (store_state (states old) parts table) (store_state (states new) parts_new table_new) refusal
  pub reads : Reads states keeps lands old new refusal
  pub kept : KeepsParts parts parts_new
  pub same_table : table_new ≡ table

-- a put at a place of the store touches what it touches in the part that has it
abbrev pub PartsLand : (ℕ → ℕ) → (ℕ → Spot → Type 0) → Part → Option Part → ℕ → Spot → Type 0
PartsLand bytes lands first None x spot = MatchBool (nat_lt x first.difi.ivfc4.size) (PartLands bytes lands first x spot) ⊥
PartsLand bytes lands first (Some second) x spot =
    MatchBool (nat_lt x first.difi.ivfc4.size) (PartLands bytes lands first x spot)
    (PartLands bytes lands second (x - first.difi.ivfc4.size) spot)
