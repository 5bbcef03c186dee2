-- What a call on a partition leaves that only reads.
use Rattle.std.specs.Prelude.{◌≡◌, ℕ, List, Option}
use Rattle.save_bytes.specs.declared.space.Bad.{Bad}
use Rattle.save_bytes.specs.State.{State}
use Rattle.save_bytes.specs.Stays.{Stays}
use Rattle.save_bytes.specs.Spots.{Spot}
use Rattle.save_bytes.specs.Reads.{Reads}
use Rattle.difi.specs.declared.descriptor.Difi.{Difi}
use Rattle.ivfc_tree.specs.declared.state.IvfcState.{IvfcState}
use Rattle.ivfc_tree.specs.View.{view_state}
use Rattle.part_store.specs.declared.part.Part.{Part}
use Rattle.part_store.specs.Parts.{part_state}
use Rattle.part_store.specs.Spots.{KeepsPuts, KeepsMarks}

-- The cells by their hash paths over the contents stay, and so do the contents, the master hash and the marks. What is
-- remembered stays true.
pub record ReadsHashed {A : Type 0} (states : A → State) (keeps : Spot → A → A → Type 0) (lands : A → ℕ → Spot → Type 0)
    (number : ℕ) (difi : Difi) (old new : A) (master master_new : List ℕ) (ivfc ivfc_new : IvfcState)
    (refusal : Option Bad) : Type 0 where
  pub stays : Stays (view_state (states old) number master difi ivfc)
      (view_state (states new) number master_new difi ivfc_new) refusal
  pub reads : Reads states keeps lands old new refusal
  pub same_master : master_new ≡ master
  pub puts : KeepsPuts ivfc ivfc_new

-- The cells of a part over its base stay, and so do the base, the table and the part's marks. What it remembers stays
-- true.
pub record ReadsPart {A : Type 0} (states : A → State) (keeps : Spot → A → A → Type 0) (lands : A → ℕ → Spot → Type 0)
    (old new : A) (part part_new : Part) (table table_new : List ℕ) (refusal : Option Bad) : Type 0 where
  pub stays : Stays (part_state (states old) part table) (part_state (states new) part_new table_new) refusal
  pub reads : Reads states keeps lands old new refusal
  pub kept : KeepsMarks part part_new
  pub same_table : table_new ≡ table
