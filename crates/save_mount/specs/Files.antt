-- The chains of the files, as they were walked.
use Rattle.std.specs.Prelude.{◌≡◌, ◌≢◌, ℕ, List, [], length, Option, IfSome, slice_get, ⊤}
use Rattle.save_bytes.specs.Cells.{Cell}
use Rattle.chain_nodes.specs.Table.{HasFault}
use Rattle.entry_tables.specs.declared.table.EntryKind.{EntryKind}
use Rattle.entry_tables.specs.declared.table.EntryKind.TheVariants.{File}
use Rattle.entry_tables.specs.Tables.{Tables}
use Rattle.entry_tables.specs.Used.{used_entries}
use Rattle.entry_audit.specs.declared.table.ReadEntry.{ReadEntry}
use Rattle.entry_audit.specs.Read.{IsReadOf}
use Rattle.held_lists.specs.declared.set.EntrySet.{EntrySet}
use Rattle.tree_model.specs.declared.kind.TreeKind.{TreeKind}
use Rattle.tree_model.specs.declared.kind.TreeKind.TheVariants.{Save}
use Rattle.tree_rules.specs.declared.information.Places.{Places}
use Rattle.tree_rules.specs.Lists.{Holder, Free, OfTable, OfFile, IsListOf}
use Rattle.tree_rules.specs.Fails.{TreeFailsAt}
use Rattle.save_mount.specs.declared.fault.MountFault.{MountFault}
use Rattle.save_mount.specs.declared.fault.MountFault.TheVariants.{Memory, Disk, Damaged, Broken, NotSave, Layout}
use Rattle.save_mount.specs.Held.{FileNeeds}
use Rattle.save_mount.specs.Holders.{HoldsLists}

-- the entries of the files' table were read: each used one below its count
pub record AreReadFiles (t : Tables) (files : List (Option ReadEntry)) : Type 0 where
  pub count : length files ≡ (t.table File).count
  pub entries : (e : ℕ) → IfSome (slice_get files e) (IsReadOf File t e)

-- One file more has its list, and the other lists are as before.
pub record HasFileList (table : ℕ → ℕ → Cell) (p : Places) (t : Tables) (e : ℕ) (lists : Holder → List ℕ)
    (held : EntrySet) (all : Holder → List ℕ) : Type 0 where
  pub holds : HoldsLists Save table p t held all
  pub free : all Free ≡ lists Free
  pub tables : (entries : EntryKind) → all (OfTable entries) ≡ lists (OfTable entries)
  pub others : (other : ℕ) → other ≢ e → all (OfFile other) ≡ lists (OfFile other)
  pub file : IsListOf Save table p t (OfFile e) (all (OfFile e))

-- Before the first: the set has exactly the entries of these lists, and no file has one.
pub record HasNoFileLists (kind : TreeKind) (table : ℕ → ℕ → Cell) (p : Places) (t : Tables) (held : EntrySet)
    (lists : Holder → List ℕ) : Type 0 where
  pub holds : HoldsLists kind table p t held lists
  pub files : (e : ℕ) → lists (OfFile e) ≡ []

-- Behind the last: each file has its list, and the other lists are as before.
pub record HasFileLists (kind : TreeKind) (table : ℕ → ℕ → Cell) (p : Places) (t : Tables) (lists : Holder → List ℕ)
    (held : EntrySet) (all : Holder → List ℕ) : Type 0 where
  pub holds : HoldsLists kind table p t held all
  pub free : all Free ≡ lists Free
  pub tables : (entries : EntryKind) → all (OfTable entries) ≡ lists (OfTable entries)
  pub files : (e : ℕ) → IsListOf kind table p t (OfFile e) (all (OfFile e))

-- the words of an entry are needed to follow the chain of a used file
abbrev pub NeedsFiles : (ℕ → ℕ → Cell) → Places → Tables → ℕ → Type 0
NeedsFiles table p t entry = (e : ℕ) × used_entries (t.table File) e × FileNeeds table p.chain.count (t.start e) entry

-- Why the files are refused: a rule fails at an entry, or a cell of an entry that is needed is damaged.
abbrev pub HasFilesCause : (ℕ → ℕ → Cell) → Places → Tables → MountFault → Type 0
HasFilesCause table p t Memory = ⊥
HasFilesCause table p t Disk = ⊤
HasFilesCause table p t (Damaged part level block) =
    (entry : ℕ) × NeedsFiles table p t entry × HasFault table entry part level block
HasFilesCause table p t (Broken number entry) = TreeFailsAt Save table p t number entry
HasFilesCause table p t NotSave = ⊥
HasFilesCause table p t (Layout condition) = ⊥
