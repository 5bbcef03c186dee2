-- What calls on a view through a hash tree leave of where its tree came from.
use Rattle.std.specs.Prelude.{ℕ, IsTrue, List, Option}
use Rattle.save_bytes.specs.declared.space.Bad.{Bad}
use Rattle.save_bytes.specs.Cells.{Cell}
use Rattle.save_bytes.specs.State.{State}
use Rattle.save_bytes.specs.Refusals.{UnlessDisk}
use Rattle.ivfc_tree.specs.declared.view.IvfcView.{IvfcView}
use Rattle.ivfc_tree.specs.Marks.{is_marked}
use Rattle.ivfc_tree.specs.Held.{shown}
use Rattle.ivfc_tree.specs.Origins.{CameFrom}

-- the tree came from a tree, with what is marked and the master hash of a view over a base
abbrev pub ViewCameFrom : {S : Type 0} → (S → State) → (ℕ → Cell) → List ℕ → IvfcView S → Type 0
ViewCameFrom states was was_master view =
    CameFrom view.difi.now (is_marked view.state.now) was was_master (states view.base.now).cells view.master.now

-- a call leaves the tree come from where it came from, unless it was refused for the disk's sake
abbrev pub KeepsOrigins : {S : Type 0} → (S → State) → IvfcView S → IvfcView S → Option Bad → Type 0
KeepsOrigins states old new refusal = IsTrue (shown states old).told → (was : ℕ → Cell) (was_master : List ℕ)
    → ViewCameFrom states was was_master old → UnlessDisk refusal (ViewCameFrom states was was_master new)
