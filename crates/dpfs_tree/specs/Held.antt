-- What a view of a partition's contents holds, and which spots a call on it leaves alone.
use Rattle.std.specs.Prelude.{◌≡◌, ◌⊎◌, ℕ, ◌/◌, ◌^◌, ◌<◌, length}
use Rattle.std.specs.Borrow.{MutBor}
use Rattle.save_bytes.specs.State.{State}
use Rattle.save_bytes.specs.Spots.{Spot, Mark, Frame}
use Rattle.difi.specs.declared.descriptor.Difi.{Difi}
use Rattle.difi.specs.Contents.{view_size}
use Rattle.dpfs_tree.specs.declared.state.DpfsState.{DpfsState}
use Rattle.dpfs_tree.specs.declared.view.DpfsView.{DpfsView}
use Rattle.dpfs_tree.specs.Picks.{bytes_of}
use Rattle.dpfs_tree.specs.Marks.{is_marked, other_place}
use Rattle.dpfs_tree.specs.View.{contents_state}

-- what a contract sees of a view over a base of which this is seen
abbrev pub shown_contents : {S : Type 0} → (S → State) → DpfsView S → State
shown_contents states view = contents_state (states view.base.now) view.part_at view.difi.now view.state.now

-- the view holds these
pub record IsContentsOf {S : Type 0} (view : DpfsView S) (base : MutBor S) (part_at : ℕ) (difi : Difi)
    (state : MutBor DpfsState) : Type 0 where
  pub same_base : view.base.ghost_name ≡ base.ghost_name
  pub base_now : view.base.now ≡ base.now
  pub same_place : view.part_at ≡ part_at
  pub same_difi : view.difi.now ≡ difi
  pub same_state : view.state.ghost_name ≡ state.ghost_name
  pub state_now : view.state.now ≡ state.now

-- the same references and fields, as many marks, and the same selector; base and marks may have changed
pub record SameContents {S : Type 0} (old new : DpfsView S) : Type 0 where
  pub same_base : new.base.ghost_name ≡ old.base.ghost_name
  pub same_place : new.part_at ≡ old.part_at
  pub same_difi : new.difi ≡ old.difi
  pub same_state : new.state.ghost_name ≡ old.state.ghost_name
  pub marks : length new.state.now.touched.items ≡ length old.state.now.touched.items
  pub selector : new.state.now.selector ≡ old.state.now.selector

-- a block's mark was left alone, or all that a state has; other spots are not in the state
abbrev pub SameState : Spot → DpfsState → DpfsState → Type 0
SameState (Mark part level block) old new = level ≡ 0 → is_marked new.touched.items block
    ≡ is_marked old.touched.items block
SameState Frame old new = new ≡ old
SameState spot old new = Unit {0}

-- from the one view to the other this spot was left alone
abbrev pub ContentsKeep : {S : Type 0} → (Spot → S → S → Type 0) → Spot → DpfsView S → DpfsView S → Type 0
ContentsKeep keeps spot old new = SameContents old new × SameState spot old.state.now new.state.now
    × keeps spot old.base.now new.base.now

-- a put at one place writes at the other too: where it is that place, or lies in its block of level 3
abbrev pub IsBeside : Difi → ℕ → ℕ → Type 0
IsBeside difi x y = (y ≡ x)
    ⊎ ((x < difi.dpfs3.size) × (y < difi.dpfs3.size) × (y / 2 ^ difi.dpfs3.log ≡ x / 2 ^ difi.dpfs3.log))

-- a put marks the block of its place, where that is one of level 3
abbrev pub MarksSpot : Difi → ℕ → Spot → Type 0
MarksSpot difi x (Mark part level block) = (x < difi.dpfs3.size) × (level ≡ 0) × (block ≡ x / 2 ^ difi.dpfs3.log)
MarksSpot difi x Frame = x < difi.dpfs3.size
MarksSpot difi x spot = ⊥

-- A put touches what puts of its block into the copy that is not chosen touch, and the block's mark. Marks don't change
-- which places these are.
abbrev pub ContentsLand : (ℕ → ℕ) → ℕ → Difi → ℕ → (ℕ → Spot → Type 0) → ℕ → Spot → Type 0
ContentsLand bytes part_at difi selector lands x spot =
    ((y : ℕ) × (y < view_size difi) × IsBeside difi x y × lands (other_place bytes part_at difi selector y) spot)
    ⊎ MarksSpot difi x spot

-- of a view, over a base with these
abbrev pub contents_land : {S : Type 0} → (S → State) → (S → ℕ → Spot → Type 0) → DpfsView S → ℕ → Spot → Type 0
contents_land states lands view =
    ContentsLand (bytes_of (states view.base.now).cells) view.part_at view.difi.now view.state.now.selector
    (lands view.base.now)
