-- What a view of a partition holds, which spots a call on it leaves alone, and which a put may touch.
use Rattle.std.specs.Prelude.{◌≡◌, ℕ, List, length, Option}
use Rattle.std.specs.Borrow.{MutBor}
use Rattle.save_bytes.specs.declared.space.Bad.{Bad}
use Rattle.save_bytes.specs.State.{State}
use Rattle.save_bytes.specs.Spots.{Spot, Frame}
use Rattle.dpfs_tree.specs.Picks.{bytes_of}
use Rattle.dpfs_tree.specs.Held.{ContentsLand}
use Rattle.ivfc_tree.specs.Held.{HashLands}
use Rattle.part_store.specs.declared.part.Part.{Part}
use Rattle.part_store.specs.declared.view.PartView.{PartView}
use Rattle.part_store.specs.Parts.{part_state}
use Rattle.part_store.specs.Spots.{SamePart, KeepsMarks, PartSpot}
use Rattle.part_store.specs.Ends.{KeepsPartOrigins}

-- what a contract sees of a view over a base of which this is seen
abbrev pub shown : {S : Type 0} → (S → State) → PartView S → State
shown states view = part_state (states view.base.now) view.part.now view.table.now

-- the view holds these
pub record IsPartViewOf {S : Type 0} (view : PartView S) (base : MutBor S) (part : MutBor Part) (table : MutBor (List ℕ)) : Type 0 where
  pub same_base : view.base.ghost_name ≡ base.ghost_name
  pub base_now : view.base.now ≡ base.now
  pub same_part : view.part.ghost_name ≡ part.ghost_name
  pub part_now : view.part.now ≡ part.now
  pub same_table : view.table.ghost_name ≡ table.ghost_name
  pub table_now : view.table.now ≡ table.now

-- the same references, as many marks, and a table as long; the base, the marks and the table's bytes may have changed
pub record SamePartView {S : Type 0} (old new : PartView S) : Type 0 where
  pub same_base : new.base.ghost_name ≡ old.base.ghost_name
  pub same_part : new.part.ghost_name ≡ old.part.ghost_name
  pub part : SamePart old.part.now new.part.now
  pub same_table : new.table.ghost_name ≡ old.table.ghost_name
  pub table_len : length new.table.now ≡ length old.table.now

-- a block's mark was left alone, or the table and all of the part but what it remembers
abbrev pub PartOwn : {S : Type 0} → Spot → PartView S → PartView S → Type 0
PartOwn Frame old new = KeepsMarks old.part.now new.part.now × (new.table.now ≡ old.table.now)
PartOwn spot old new = PartSpot spot old.part.now new.part.now

-- from the one view to the other this spot was left alone
abbrev pub PartKeeps : {S : Type 0} → (Spot → S → S → Type 0) → Spot → PartView S → PartView S → Type 0
PartKeeps keeps spot old new = SamePartView old new × PartOwn spot old new × keeps spot old.base.now new.base.now

-- which spots a put into a view may touch, whatever number a mark has
abbrev pub part_lands : {S : Type 0} → (S → State) → (S → ℕ → Spot → Type 0) → PartView S → ℕ → Spot → Type 0
part_lands states lands view =
    let part = view.part.now in
    HashLands (ContentsLand (bytes_of (states view.base.now).cells) part.at part.difi part.dpfs.selector (lands view.base.now))
    part.difi

-- a view holds this base, this part and this table
pub record IsOver {S : Type 0} (view : PartView S) (base : S) (part : Part) (table : List ℕ) : Type 0 where
  pub base_now : view.base.now ≡ base
  pub part_now : view.part.now ≡ part
  pub table_now : view.table.now ≡ table

-- two views have the same references
pub record SameNames {S : Type 0} (old new : PartView S) : Type 0 where
  pub same_base : new.base.ghost_name ≡ old.base.ghost_name
  pub same_part : new.part.ghost_name ≡ old.part.ghost_name
  pub same_table : new.table.ghost_name ≡ old.table.ghost_name

-- so it is of each view before and behind a call
abbrev pub OfViews : {S : Type 0} → S → Part → List ℕ → S → Part → List ℕ → (PartView S → PartView S → Type 0) → Type 0
OfViews {S} base part table base_new part_new table_new P = (s t : PartView S) → IsOver s base part table
    → IsOver t base_new part_new table_new → SameNames s t → P s t

-- contents and a master hash from which a part's tree came in one view are those from which it comes in another
abbrev pub KeepsViewOrigins : {S : Type 0} → (S → State) → PartView S → PartView S → Option Bad → Type 0
KeepsViewOrigins states old new =
    KeepsPartOrigins (states old.base.now) old.part.now old.table.now (states new.base.now) new.part.now new.table.now
