-- What a call leaves that puts into cells of a space of which some may be no bytes.
use Rattle.std.specs.Prelude.{◌≡◌, ℕ, ◌+◌, ◌*◌, ◌<◌, min, IsTrue, List, [], ◌∷◌, Option}
use Rattle.std.specs.List.{Contains}
use Rattle.save_bytes.specs.declared.space.Bad.{Bad}
use Rattle.save_bytes.specs.Cells.{IsByte, IsUnspoilt}
use Rattle.save_bytes.specs.CellNumbers.{number_in}
use Rattle.save_bytes.specs.State.{State}
use Rattle.save_bytes.specs.Refusals.{UnlessDisk, NeverDamaged}
use Rattle.save_bytes.specs.Stays.{SameSpace}
use Rattle.save_bytes.specs.Spots.{Spot, Hold, LandsAsBefore}
use Rattle.save_bytes.specs.Writes.{IsWithin}
use Rattle.save_bytes.specs.Within.{ChangesWithin}
use Rattle.chain_nodes.specs.declared.info.ChainInfo.{ChainInfo}
use Rattle.chain_nodes.specs.declared.node.Node.{Node}

-- no cell of these places is spoilt
abbrev pub AreUnspoilt : State → (ℕ → Type 0) → Type 0
AreUnspoilt s sites = (x : ℕ) → x < s.shape.size → sites x → IsUnspoilt (s.cells x)

-- The cells of all places but some have softened at most, and each spot is left alone that no put into one of these
-- places touches. Everywhere bytes are bytes still, and no cell became spoilt. No damaged cell is met where none of these
-- places has a spoilt one.
pub record Alters {A : Type 0} (states : A → State) (keeps : Spot → A → A → Type 0) (lands : A → ℕ → Spot → Type 0)
    (sites : ℕ → Type 0) (old new : A) (refusal : Option Bad) : Type 0 where
  pub space : SameSpace (IsTrue (states old).told) (states old) (states new) refusal
  pub plain : IsTrue (states old).shape.plain → NeverDamaged refusal
  pub ready : IsTrue (states old).told → AreUnspoilt (states old) sites → NeverDamaged refusal
  pub changes : IsTrue (states old).told → UnlessDisk refusal (ChangesWithin (states old) sites (states new).cells)
  pub unspoilt : IsTrue (states old).told
      → UnlessDisk refusal ((x : ℕ) → x < (states old).shape.size → IsUnspoilt ((states old).cells x)
      → IsUnspoilt ((states new).cells x))
  pub bytes : IsTrue (states old).told
      → UnlessDisk refusal ((x : ℕ) → x < (states old).shape.size → IsByte ((states old).cells x) → IsByte ((states
      new).cells x))
  pub hold : keeps Hold old new
  pub spots : IsTrue (states old).told → (spot : Spot)
      → ((x : ℕ) → x < (states old).shape.size → sites x → ¬ lands old x spot) → keeps spot old new
  pub reach : IsTrue (states old).told → UnlessDisk refusal (LandsAsBefore (states old).shape.size (lands old) (lands
      new))

-- the number stands in the four cells from a place on, and each byte of any other place is as before
pub record IsWordPut (old new : State) (at value : ℕ) : Type 0 where
  pub bytes : (k : ℕ) → k < 4 → IsByte (new.cells (at + k))
  pub number : number_in 4 new.cells at ≡ value
  pub others : (x : ℕ) → x < old.shape.size → ¬ IsWithin at 4 x → IsByte (old.cells x) → new.cells x ≡ old.cells x

-- a place of the words of one of these entries
abbrev pub IsOfEntries : ChainInfo → List ℕ → ℕ → Type 0
IsOfEntries info entries x = (entry : ℕ) × Contains entries entry × IsWithin (info.table_at + 8 * entry) 8 x

-- the entries that may be written where free nodes are cut behind the entry `middle` of a node, before those that begin
-- with `next`
abbrev pub cut_entries : Node → ℕ → ℕ → List ℕ
cut_entries node middle next =
    0 ∷ node.first ∷ min (node.first + 1) middle ∷ middle ∷ min (middle + 1) node.last ∷ min (middle + 2) node.last ∷
    node.last
    ∷ next ∷ []
