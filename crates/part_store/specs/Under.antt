-- What is below a part's cells, as a space: its contents, the master hash, and what is kept of its hash tree.
use Rattle.std.specs.Prelude.{◌≡◌, ℕ, IsTrue, List, length, Option}
use Rattle.save_bytes.specs.declared.space.Bad.{Bad}
use Rattle.save_bytes.specs.Cells.{Cell}
use Rattle.save_bytes.specs.Refusals.{UnlessDisk}
use Rattle.save_bytes.specs.State.{State}
use Rattle.save_bytes.specs.Spots.{Spot, Mark, Frame}
use Rattle.difi.specs.declared.descriptor.Difi.{Difi}
use Rattle.ivfc_tree.specs.declared.state.IvfcState.{IvfcState}
use Rattle.ivfc_tree.specs.Levels.{IsLevel}
use Rattle.ivfc_tree.specs.Marks.{is_marked, SameMarks, AsManyMarks}
use Rattle.ivfc_tree.specs.Held.{HashLands}
use Rattle.ivfc_tree.specs.Origins.{CameFrom}
use Rattle.ivfc_tree.specs.View.{view_state}

-- all that a view through the hash tree may change
pub record Under (A : Type 0) : Type 0 where
  pub contents : A
  pub master : List ℕ
  pub ivfc : IvfcState

abbrev pub under_state : {A : Type 0} → (A → State) → ℕ → Difi → Under A → State
under_state states number difi under = view_state (states under.contents) number under.master difi under.ivfc

-- a block's mark was left alone, or all marks and the master hash
abbrev pub UnderOwn : {A : Type 0} → Spot → Under A → Under A → Type 0
UnderOwn (Mark part level block) old new = IsLevel level
    → is_marked new.ivfc level block ≡ is_marked old.ivfc level block
UnderOwn Frame old new = SameMarks old.ivfc new.ivfc × (new.master ≡ old.master)
UnderOwn spot old new = Unit {0}

-- from the one to the other this spot was left alone; the master hash is as long, and there are as many marks
abbrev pub UnderKeeps : {A : Type 0} → (Spot → A → A → Type 0) → Spot → Under A → Under A → Type 0
UnderKeeps keeps spot old new = (length new.master ≡ length old.master) × AsManyMarks old.ivfc new.ivfc
    × UnderOwn spot old new × keeps spot old.contents new.contents

-- which spots a put may touch
abbrev pub under_lands : {A : Type 0} → (A → ℕ → Spot → Type 0) → Difi → Under A → ℕ → Spot → Type 0
under_lands lands difi under = HashLands (lands under.contents) difi

-- the tree came from contents and a master hash
abbrev pub UnderCameFrom : {A : Type 0} → (A → State) → Difi → (ℕ → Cell) → List ℕ → Under A → Type 0
UnderCameFrom states difi was was_master under =
    CameFrom difi (is_marked under.ivfc) was was_master (states under.contents).cells under.master

-- a call leaves the tree come from where it came from, unless it was refused for the disk's sake
abbrev pub KeepsUnderOrigins : {A : Type 0} → (A → State) → ℕ → Difi → Under A → Under A → Option Bad → Type 0
KeepsUnderOrigins states number difi old new refusal =
    IsTrue (under_state states number difi old).told → (was : ℕ → Cell) (was_master : List ℕ)
    → UnderCameFrom states difi was was_master old → UnlessDisk refusal (UnderCameFrom states difi was was_master new)
