-- What a seal of a view through a hash tree leaves.
use Rattle.std.specs.Prelude.{ℕ, IsTrue, List, Option}
use Rattle.save_bytes.specs.declared.space.Bad.{Bad}
use Rattle.save_bytes.specs.Cells.{Cell}
use Rattle.save_bytes.specs.State.{State}
use Rattle.save_bytes.specs.Refusals.{UnlessDisk}
use Rattle.save_bytes.specs.Stays.{Stays}
use Rattle.save_bytes.specs.Spots.{Spot}
use Rattle.ivfc_tree.specs.declared.view.IvfcView.{IvfcView}
use Rattle.ivfc_tree.specs.Marks.{is_marked}
use Rattle.ivfc_tree.specs.Held.{shown, SameHold}
use Rattle.ivfc_tree.specs.Seals.{CountsOn, SealsTree}
use Rattle.ivfc_tree.specs.Origins.{CameFrom}

-- No cell changes, and no mark. The base and the master hash change in the entries of marked blocks, which are hashed
-- then; what blocks that are not marked tell of the tree as the transaction began stays true.
pub record SealsView {S : Type 0} (states : S → State) (keeps : Spot → S → S → Type 0) (lands : S → ℕ → Spot → Type 0)
    (old new : IvfcView S) (refusal : Option Bad) : Type 0 where
  pub hold : SameHold old new
  pub counts : CountsOn old.state.now new.state.now
  pub stays : Stays (shown states old) (shown states new) refusal
  pub tree : SealsTree states keeps lands old.difi.now (is_marked old.state.now) old.base.now old.master.now
      new.base.now new.master.now refusal
  pub came : IsTrue (shown states old).told → (was : ℕ → Cell) (was_master : List ℕ)
      → CameFrom old.difi.now (is_marked old.state.now) was was_master (states old.base.now).cells old.master.now
      → UnlessDisk refusal
      (CameFrom old.difi.now (is_marked old.state.now) was was_master (states new.base.now).cells new.master.now)
