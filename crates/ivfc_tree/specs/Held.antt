-- What a view through the hash tree holds, which spots a call on it leaves alone, and which a put may touch.
use Rattle.std.specs.Prelude.{◌≡◌, ◌⊎◌, ℕ, ◌+◌, ◌/◌, ◌<◌, List, length, Option}
use Rattle.std.specs.Borrow.{MutBor}
use Rattle.save_bytes.specs.declared.space.Bad.{Bad}
use Rattle.save_bytes.specs.State.{State}
use Rattle.save_bytes.specs.Spots.{Spot, Mark, Frame}
use Rattle.difi.specs.declared.descriptor.Difi.{Difi}
use Rattle.difi.specs.Places.{block_size}
use Rattle.ivfc_tree.specs.declared.state.IvfcState.{IvfcState}
use Rattle.ivfc_tree.specs.declared.view.IvfcView.{IvfcView}
use Rattle.ivfc_tree.specs.Levels.{IsLevel, level_of}
use Rattle.ivfc_tree.specs.Marks.{is_marked, SameMarks, AsManyMarks}
use Rattle.ivfc_tree.specs.Paths.{path_block}
use Rattle.ivfc_tree.specs.Known.{Learns}
use Rattle.ivfc_tree.specs.View.{view_state}

-- what a contract sees of a view over a base of which this is seen
abbrev pub shown : {S : Type 0} → (S → State) → IvfcView S → State
shown states view = view_state (states view.base.now) view.part view.master.now view.difi.now view.state.now

-- the view holds these
pub record IsHashViewOf {S : Type 0} (view : IvfcView S) (base : MutBor S) (part : ℕ) (difi : Difi)
    (master : MutBor (List ℕ))
    (state : MutBor IvfcState) : Type 0 where
  pub same_base : view.base.ghost_name ≡ base.ghost_name
  pub base_now : view.base.now ≡ base.now
  pub same_part : view.part ≡ part
  pub same_difi : view.difi.now ≡ difi
  pub same_master : view.master.ghost_name ≡ master.ghost_name
  pub master_now : view.master.now ≡ master.now
  pub same_state : view.state.ghost_name ≡ state.ghost_name
  pub state_now : view.state.now ≡ state.now

-- the same references and fields, a master hash as long, and as many marks; its bytes and they may have changed
pub record SameHold {S : Type 0} (old new : IvfcView S) : Type 0 where
  pub same_base : new.base.ghost_name ≡ old.base.ghost_name
  pub same_part : new.part ≡ old.part
  pub same_difi : new.difi ≡ old.difi
  pub same_master : new.master.ghost_name ≡ old.master.ghost_name
  pub master_len : length new.master.now ≡ length old.master.now
  pub same_state : new.state.ghost_name ≡ old.state.ghost_name
  pub marks : AsManyMarks old.state.now new.state.now

-- a call that looks for a block's state changes nothing of the view itself but what is remembered; the base may have
-- changed
pub record LooksUp {S : Type 0} (level block : ℕ) (old new : IvfcView S) (refusal : Option Bad) : Type 0 where
  pub hold : SameHold old new
  pub master_now : new.master.now ≡ old.master.now
  pub learns : Learns old.difi.now level block old.state.now new.state.now refusal

-- a block's mark was left alone, or all marks and the master hash; other spots are not in the view itself
abbrev pub SameOwn : {S : Type 0} → Spot → IvfcView S → IvfcView S → Type 0
SameOwn (Mark part level block) old new = IsLevel level
    → is_marked new.state.now level block ≡ is_marked old.state.now level block
SameOwn Frame old new = SameMarks old.state.now new.state.now × (new.master.now ≡ old.master.now)
SameOwn spot old new = Unit {0}

-- from the one view to the other this spot was left alone
abbrev pub HashKeeps : {S : Type 0} → (Spot → S → S → Type 0) → Spot → IvfcView S → IvfcView S → Type 0
HashKeeps keeps spot old new = SameHold old new × SameOwn spot old new × keeps spot old.base.now new.base.now

-- byte y of a level lies in the block there that is on the path of byte x of level four
abbrev pub IsOnPath : Difi → ℕ → ℕ → ℕ → Type 0
IsOnPath difi x level y = (y < (level_of difi level).size)
    × (y / block_size (level_of difi level) ≡ path_block difi x level)

-- a put marks the blocks on the path of its place
abbrev pub MarksPath : Difi → ℕ → Spot → Type 0
MarksPath difi x (Mark part level block) = IsLevel level × (block ≡ path_block difi x level)
MarksPath difi x Frame = Unit {0}
MarksPath difi x spot = ⊥

-- a put touches what puts into the bytes of its block and of the blocks above it touch in the base, and these blocks'
-- marks
abbrev pub HashLands : (ℕ → Spot → Type 0) → Difi → ℕ → Spot → Type 0
HashLands lands difi x spot =
    ((level y : ℕ) × IsLevel level × IsOnPath difi x level y × lands ((level_of difi level).at + y) spot)
    ⊎ MarksPath difi x spot

-- of a view, over a base with these
abbrev pub hash_lands : {S : Type 0} → (S → ℕ → Spot → Type 0) → IvfcView S → ℕ → Spot → Type 0
hash_lands lands view = HashLands (lands view.base.now) view.difi.now
