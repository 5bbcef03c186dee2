-- What a seal of a part leaves: of its base, of its marks, and of its table.
use Rattle.std.specs.Prelude.{◌≡◌, ◌≢◌, ◌⊎◌, ℕ, ◌+◌, ◌-◌, ◌<◌, IsTrue, List, length, slice_index, Option, None, Some}
use Rattle.std.specs.Prelude.{Result, Ok, Err, IfOk, OnErr}
use Rattle.std.specs.Result.{result_err}
use Rattle.save_bytes.specs.declared.space.Bad.{Bad}
use Rattle.save_bytes.specs.State.{State}
use Rattle.save_bytes.specs.Refusals.{NeverDamaged}
use Rattle.save_bytes.specs.Stays.{Stays}
use Rattle.save_bytes.specs.Spots.{Spot, Hold}
use Rattle.save_bytes.specs.Writes.{Writes}
use Rattle.difi.specs.declared.descriptor.Difi.{Difi}
use Rattle.difi.specs.Conditions.{reading}
use Rattle.dpfs_tree.specs.declared.state.DpfsState.{DpfsState}
use Rattle.dpfs_tree.specs.declared.view.DpfsView.{DpfsView}
use Rattle.dpfs_tree.specs.Picks.{bytes_of}
use Rattle.dpfs_tree.specs.View.{contents_state}
use Rattle.dpfs_tree.specs.Held.{shown_contents, SameContents, SameState, ContentsKeep, ContentsLand, contents_land}
use Rattle.dpfs_tree.specs.Seals.{IsSealed}
use Rattle.dpfs_tree.specs.Spares.{Spares}
use Rattle.ivfc_tree.specs.Marks.{is_marked}
use Rattle.ivfc_tree.specs.Seals.{HashSites, MasterSites, CountsOn, HasNoZeroDigest, SealsTree}
use Rattle.part_store.specs.declared.part.Part.{Part}
use Rattle.part_store.specs.Parts.{contents_of, part_state}
use Rattle.part_store.specs.Spots.{SamePart}
use Rattle.part_store.specs.Under.{Under, under_state, KeepsUnderOrigins}
use Rattle.part_store.specs.Ends.{plain_cell, HoldsSealed, KeepsPartOrigins}

-- What a seal of the hashes leaves below the view: the digests of marked blocks in the contents and in the master
-- hash, and where the tree came from.
pub record SealsUnder {A : Type 0} (states : A → State) (keeps : Spot → A → A → Type 0) (lands : A → ℕ → Spot → Type 0)
    (number : ℕ) (difi : Difi) (old new : Under A) (refusal : Option Bad) : Type 0 where
  pub counts : CountsOn old.ivfc new.ivfc
  pub stays : Stays (under_state states number difi old) (under_state states number difi new) refusal
  pub tree : SealsTree states keeps lands difi (is_marked old.ivfc) old.contents old.master new.contents new.master
      refusal
  pub came : KeepsUnderOrigins states number difi old new refusal

-- The hashes could not be sealed over the contents.
pub record RefusesHashes {S : Type 0} (states : S → State) (keeps : Spot → S → S → Type 0) (lands : S → ℕ → Spot
    → Type 0)
    (number : ℕ) (difi : Difi) (old new : Under (DpfsView S)) (result : Result ℕ Bad) : Type 0 where
  pub bad : Bad
  pub refused : result ≡ Err bad
  pub hashes : SealsUnder (shown_contents states) (ContentsKeep keeps) (contents_land states lands) number difi old
      new (Some bad)

-- They were, and then the copies that hold the contents.
pub record SealsBoth {S : Type 0} (states : S → State) (keeps : Spot → S → S → Type 0) (lands : S → ℕ → Spot → Type 0)
    (number : ℕ) (difi : Difi) (old new : Under (DpfsView S)) (result : Result ℕ Bad) : Type 0 where
  pub between : DpfsView S
  pub hashes : SealsUnder (shown_contents states) (ContentsKeep keeps) (contents_land states lands) number difi old
      (record new { contents = between }) None
  pub holds : SameContents between new.contents
  pub marks : new.contents.state.now ≡ between.state.now
  pub sealed : IsSealed states keeps lands between.part_at between.difi.now between.state.now between.base.now
      new.contents.base.now result
  pub spares : Spares states between.part_at between.difi.now between.state.now.selector between.base.now
      new.contents.base.now (result_err result)

abbrev pub SealsContents : {S : Type 0} → (S → State) → (Spot → S → S → Type 0) → (S → ℕ → Spot → Type 0) → ℕ → Difi
    → Under (DpfsView S) → Under (DpfsView S) → Result ℕ Bad → Type 0
SealsContents states keeps lands number difi old new result =
    RefusesHashes states keeps lands number difi old new result ⊎ SealsBoth states keeps lands number difi old new
    result

-- what the view of a part's contents may change: the base, and which blocks are touched
pub record Touched (A : Type 0) : Type 0 where
  pub base : A
  pub dpfs : DpfsState

abbrev pub touched_state : {A : Type 0} → (A → State) → Part → Touched A → State
touched_state states part touched = contents_state (states touched.base) part.at part.difi touched.dpfs

-- from the one to the other this spot was left alone: as many marks, and the same selector
abbrev pub TouchedKeeps : {A : Type 0} → (Spot → A → A → Type 0) → Spot → Touched A → Touched A → Type 0
TouchedKeeps keeps spot old new = (length new.dpfs.touched.items ≡ length old.dpfs.touched.items)
    × (new.dpfs.selector ≡ old.dpfs.selector) × SameState spot old.dpfs new.dpfs × keeps spot old.base new.base

abbrev pub touched_lands : {A : Type 0} → (A → State) → (A → ℕ → Spot → Type 0) → Part → Touched A → ℕ → Spot → Type 0
touched_lands states lands part touched =
    ContentsLand (bytes_of (states touched.base).cells) part.at part.difi touched.dpfs.selector (lands touched.base)

-- hashes were written into the contents of a part: the entries of marked blocks of levels 2 to 4, and nothing else
abbrev pub WritesHashes : {A : Type 0} → (A → State) → (Spot → A → A → Type 0) → (A → ℕ → Spot → Type 0) → Part → A → A
    → DpfsState → Option Bad → Type 0
WritesHashes states keeps lands part old new dpfs refusal =
    Writes (touched_state states part) (TouchedKeeps keeps) (touched_lands states lands part)
    (HashSites part.difi (is_marked part.ivfc)) (record { base = old; dpfs = part.dpfs })
    (record { base = new; dpfs = dpfs }) refusal

-- That was refused.
pub record RefusesFirst {A : Type 0} (states : A → State) (keeps : Spot → A → A → Type 0) (lands : A → ℕ → Spot
    → Type 0)
    (part part_new : Part) (old new : A) (result : Result ℕ Bad) : Type 0 where
  pub bad : Bad
  pub refused : result ≡ Err bad
  pub hashes : WritesHashes states keeps lands part old new part_new.dpfs (Some bad)

-- Or it was done, and then which copies hold the contents was written, where no chosen copy lies.
pub record SealsCopies {A : Type 0} (states : A → State) (keeps : Spot → A → A → Type 0) (lands : A → ℕ → Spot → Type 0)
    (part part_new : Part) (old new : A) (result : Result ℕ Bad) : Type 0 where
  pub between : A
  pub hashes : WritesHashes states keeps lands part old between part_new.dpfs None
  pub sealed : IsSealed states keeps lands part.at part.difi part_new.dpfs between new result
  pub spares : Spares states part.at part.difi part.dpfs.selector between new (result_err result)

abbrev pub SealsBase : {A : Type 0} → (A → State) → (Spot → A → A → Type 0) → (A → ℕ → Spot → Type 0) → Part → Part
    → A → A
    → Result ℕ Bad → Type 0
SealsBase states keeps lands part part_new old new result =
    RefusesFirst states keeps lands part part_new old new result ⊎ SealsCopies states keeps lands part part_new old
    new result

-- a place of a table is one of the entry of a marked block of level 1 in the master hash
abbrev pub IsSealedEntry : Part → ℕ → Type 0
IsSealedEntry part x = (k : ℕ) × (x ≡ part.difi.place + part.difi.master.at + k) × MasterSites part.difi
    (is_marked part.ivfc) 1 k

-- that of the selector in the descriptor
abbrev pub selector_place : Difi → ℕ
selector_place difi = difi.place + 0x39

-- What a seal leaves of the table. It changes in the entries of marked blocks, and in the selector, which is the one
-- that is answered; where the seal is refused that stays. A descriptor that was read from the table is read again,
-- with it.
pub record SealsTable (part : Part) (old new : List ℕ) (result : Result ℕ Bad) : Type 0 where
  pub same_len : length new ≡ length old
  pub others : (x : ℕ) → x ≢ selector_place part.difi → ¬ IsSealedEntry part x → slice_index new x ≡ slice_index old x
  pub selector : IfOk result (λ selector. slice_index new (selector_place part.difi) ≡ selector)
  pub refused : OnErr result (slice_index new (selector_place part.difi) ≡ slice_index old (selector_place part.difi))
  pub descriptor : (size part_len : ℕ) → reading old part.difi.place size part_len ≡ Ok part.difi → IfOk result
      (λ selector.
      reading new part.difi.place size part_len ≡ Ok (record part.difi { selector = selector }))

-- What a seal of the trees leaves. No cell changes, and no mark of the hash tree; more blocks may be touched. What
-- the base and the table hold then is what was sealed, where no marked block's digest is 32 zero bytes.
pub record SealsTrees {A : Type 0} (states : A → State) (keeps : Spot → A → A → Type 0) (lands : A → ℕ → Spot → Type 0)
    (base : A) (part : Part) (table : List ℕ) (base_new : A) (part_new : Part) (table_new : List ℕ)
    (result : Result ℕ Bad)
    : Type 0 where
  pub selector : IfOk result (λ selector. selector ≡ 1 - part.dpfs.selector)
  pub plain : NeverDamaged (result_err result)
  pub stays : Stays (part_state (states base) part table) (part_state (states base_new) part_new table_new)
      (result_err result)
  pub same : SamePart part part_new
  pub counts : CountsOn part.ivfc part_new.ivfc
  pub hold : keeps Hold base base_new
  pub writes : SealsBase states keeps lands part part_new base base_new result
  pub held : IsTrue (part_state (states base) part table).told → IfOk result (λ selector.
      HasNoZeroDigest (contents_of (states base_new) part_new).cells part.difi (is_marked part.ivfc)
      → HoldsSealed (states base_new) part_new table_new selector)
  pub came : KeepsPartOrigins (states base) part table (states base_new) part_new table_new (result_err result)

-- What a seal of a part answers and leaves. The base and the table alone give then the cells that the part had, where
-- no marked block's digest is 32 zero bytes.
pub record IsSealedPart {A : Type 0} (states : A → State) (keeps : Spot → A → A → Type 0) (lands : A → ℕ → Spot
    → Type 0)
    (base : A) (part : Part) (table : List ℕ) (base_new : A) (part_new : Part) (table_new : List ℕ)
    (result : Result ℕ Bad)
    : Type 0 where
  pub trees : SealsTrees states keeps lands base part table base_new part_new table_new result
  pub descriptor : SealsTable part table table_new result
  pub cells : IsTrue (part_state (states base) part table).told → IfOk result (λ selector.
      HasNoZeroDigest (contents_of (states base_new) part_new).cells part.difi (is_marked part.ivfc)
      → (x : ℕ) → x < part.difi.ivfc4.size
      → plain_cell (states base_new) part selector table_new x ≡ (part_state (states base) part table).cells x)
