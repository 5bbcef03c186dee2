-- The lists of holders, as far as they were walked, and the set of their entries.
use Rattle.std.specs.Prelude.{◌≡◌, ℕ, Bool, true, false, ◌==◌, if◌then◌else◌, List}
use Rattle.std.specs.List.{Contains}
use Rattle.save_bytes.specs.Cells.{Cell}
use Rattle.entry_tables.specs.declared.table.EntryKind.{EntryKind}
use Rattle.entry_tables.specs.declared.table.EntryKind.TheVariants.{Dir, File}
use Rattle.entry_tables.specs.Tables.{Tables}
use Rattle.held_lists.specs.declared.set.EntrySet.{EntrySet}
use Rattle.held_lists.specs.Sets.{has_entry}
use Rattle.tree_model.specs.declared.kind.TreeKind.{TreeKind}
use Rattle.tree_rules.specs.declared.information.Places.{Places}
use Rattle.tree_rules.specs.Lists.{Holder, Free, OfTable, OfFile}
use Rattle.tree_rules.specs.Fails.{IsReachedBy}

abbrev pub same_kind : EntryKind → EntryKind → Bool
same_kind Dir Dir = true
same_kind Dir File = false
same_kind File Dir = false
same_kind File File = true

-- two holders are one
abbrev pub same_holder : Holder → Holder → Bool
same_holder Free Free = true
same_holder Free (OfTable table) = false
same_holder Free (OfFile e) = false
same_holder (OfTable table) Free = false
same_holder (OfTable table) (OfTable other) = same_kind table other
same_holder (OfTable table) (OfFile e) = false
same_holder (OfFile e) Free = false
same_holder (OfFile e) (OfTable table) = false
same_holder (OfFile e) (OfFile other) = e == other

-- these lists, with one for a holder
abbrev pub with_list : (Holder → List ℕ) → Holder → List ℕ → Holder → List ℕ
with_list lists holder list other = if same_holder holder other then list else lists other

-- The set has exactly the entries of these lists, none of which is in two, and each is reached in its holder's list.
pub record HoldsLists (kind : TreeKind) (table : ℕ → ℕ → Cell) (p : Places) (t : Tables) (held : EntrySet)
    (lists : Holder → List ℕ) : Type 0 where
  pub each : (holder : Holder) (entry : ℕ) → Contains (lists holder) entry → has_entry held entry ≡ true
  pub only : (entry : ℕ) → has_entry held entry ≡ true → (holder : Holder) × Contains (lists holder) entry
  pub apart : (one other : Holder) (entry : ℕ) → Contains (lists one) entry → Contains (lists other) entry
      → one ≡ other
  pub reached : (holder : Holder) (entry : ℕ) → Contains (lists holder) entry → IsReachedBy kind table p t holder entry
