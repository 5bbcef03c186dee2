-- Both tables of entries, where they stand in cells: how they are read, and why they are refused.
use Rattle.std.specs.Prelude.{◌≡◌, ◌⊎◌, ℕ, ◌+◌, ◌*◌, ◌^◌, ◌<◌, ◌≤◌, ◌↔◌}
use Rattle.std.specs.Prelude.{List, length, get_or, nat_eq, Option, Some, None, Contains, ⊤}
use Rattle.std.specs.List.{IsDistinct}
use Rattle.save_bytes.specs.Cells.{Cell}
use Rattle.save_bytes.specs.Answers.{IsFirstFault}
use Rattle.save_bytes.specs.State.{Shape}
use Rattle.save_bytes.specs.declared.space.Bad.TheVariants as bad
use Rattle.container_header.specs.Conditions.{first_failing}
use Rattle.entry_tables.specs.declared.table.EntryKind.{EntryKind}
use Rattle.entry_tables.specs.declared.table.EntryKind.TheVariants.{Dir, File}
use Rattle.entry_tables.specs.declared.table.TableInfo.{TableInfo}
use Rattle.entry_tables.specs.declared.table.EntryFault.TheVariants as fault
use Rattle.entry_tables.specs.declared.reads.Counts.{Counts}
use Rattle.entry_tables.specs.Kinds.{entry_size}
use Rattle.entry_tables.specs.Tables.{Table, Tables, tables_in, info_of}
use Rattle.entry_tables.specs.Layout.{HasCounts, HasEntryTables}
use Rattle.entry_tables.specs.Rules.{IsOrderly}
use Rattle.entry_tables.specs.Fails.{RuleFailsAt}
use Rattle.entry_audit.specs.declared.table.ReadEntry.{ReadEntry}
use Rattle.entry_audit.specs.declared.table.ReadTables.{ReadTables}
use Rattle.entry_audit.specs.declared.table.TableFault.{TableFault}
use Rattle.entry_audit.specs.declared.table.TableFault.TheVariants as table
use Rattle.entry_audit.specs.Read.{AreReadTables}
use Rattle.entry_audit.specs.Reading.{HasNeededBytes, BlamesOne}
use Rattle.tree_model.specs.declared.kind.TreeKind.{TreeKind}
use Rattle.tree_rules.specs.declared.information.Information.{Information}
use Rattle.tree_rules.specs.Layout.{place_faults, layout_fault}
use Rattle.tree_rules.specs.Reading.{IsRoomOf}
use Rattle.save_mount.specs.declared.fault.MountFault.{MountFault}
use Rattle.save_mount.specs.declared.fault.MountFault.TheVariants.{Memory, Disk, Damaged, Broken, NotSave, Layout}
use Rattle.save_mount.specs.declared.tables.Audited.{Audited}

-- Both tables begin in a space, with so many buckets at most, and no condition fails that needs no table; where none
-- fails at all, their entries lie in the space.
pub record CanAudit (shape : Shape) (kind : TreeKind) (split : Option ℕ) (size : ℕ) (info : Information)
    (dirs files : TableInfo) : Type 0 where
  pub tables : HasEntryTables shape dirs files
  pub few : (table : EntryKind) → (info_of dirs files table).buckets ≤ 32768
  pub faultless : first_failing 1 (place_faults kind split size info) ≡ None
  pub room : (t : Tables) → layout_fault kind split size info t ≡ None → (table : EntryKind)
      → (info_of dirs files table).table_at + (t.table table).most * entry_size table ≤ shape.size

-- the counts of a table
pub record AreCountsOf (t : Table) (counts : Counts) : Type 0 where
  pub count : counts.count ≡ t.count
  pub most : counts.most ≡ t.most

-- the counts of both tables can be read, and are these; no condition fails
pub record AreCounted (kind : TreeKind) (split : Option ℕ) (size : ℕ) (info : Information) (dirs files : TableInfo)
    (cells : ℕ → Cell) (counts : Counts × Counts) : Type 0 where
  pub layout : layout_fault kind split size info (tables_in cells dirs files) ≡ None
  pub known : (table : EntryKind) → HasCounts cells (info_of dirs files table)
  pub dir_counts : AreCountsOf ((tables_in cells dirs files).table Dir) counts.0
  pub file_counts : AreCountsOf ((tables_in cells dirs files).table File) counts.1

-- no more entries than a table may have
pub record AreFew (counts : Counts × Counts) : Type 0 where
  pub dirs : counts.0.count ≤ counts.0.most
  pub few_dirs : counts.0.most ≤ 8194
  pub files : counts.1.count ≤ counts.1.most
  pub few_files : counts.1.most ≤ 8194

-- both tables were read, and all bytes that they need; no condition fails
pub record AreTablesRead (kind : TreeKind) (split : Option ℕ) (size : ℕ) (info : Information) (dirs files : TableInfo)
    (cells : ℕ → Cell) (found : ReadTables × (Counts × Counts)) : Type 0 where
  pub counted : AreCounted kind split size info dirs files cells found.1
  pub read : AreReadTables (tables_in cells dirs files) found.0
  pub bytes : HasNeededBytes dirs files cells

-- the counts of a table can't be read, for the first of their cells that is no byte
abbrev pub HasBadCounts : TableInfo → TableInfo → (ℕ → Cell) → ℕ → ℕ → ℕ → Type 0
HasBadCounts dirs files cells part level block =
    (table : EntryKind) × IsFirstFault cells (info_of dirs files table).table_at 8 part level block

-- Why both tables are refused: a condition fails; or a rule, where no condition does; or a cell of theirs is damaged:
-- one of their counts or, where no condition fails, a needed one as far as the freed entries have their list.
abbrev pub HasTablesCause : TreeKind → Option ℕ → ℕ → Information → TableInfo → TableInfo → (ℕ → Cell) → MountFault
    → Type 0
HasTablesCause kind split size info dirs files cells Memory = ⊤
HasTablesCause kind split size info dirs files cells Disk = ⊤
HasTablesCause kind split size info dirs files cells (Damaged part level block) =
    HasBadCounts dirs files cells part level block
    ⊎ ((layout_fault kind split size info (tables_in cells dirs files) ≡ None)
    × BlamesOne dirs files cells part level block)
HasTablesCause kind split size info dirs files cells (Broken number entry) =
    (layout_fault kind split size info (tables_in cells dirs files) ≡ None)
    × RuleFailsAt (tables_in cells dirs files) number entry
HasTablesCause kind split size info dirs files cells NotSave = ⊥
HasTablesCause kind split size info dirs files cells (Layout condition) =
    layout_fault kind split size info (tables_in cells dirs files) ≡ Some condition

-- or a rule alone
abbrev pub HasRuleCause : Tables → MountFault → Type 0
HasRuleCause t Memory = ⊤
HasRuleCause t Disk = ⊥
HasRuleCause t (Damaged part level block) = ⊥
HasRuleCause t (Broken number entry) = RuleFailsAt t number entry
HasRuleCause t NotSave = ⊥
HasRuleCause t (Layout condition) = ⊥

-- what the fault of a table comes to
abbrev pub table_cause : TableFault → MountFault
table_cause table.Memory = Memory
table_cause (table.Entries (fault.Bad bad.Disk)) = Disk
table_cause (table.Entries (fault.Bad (bad.Damaged part level block))) = Damaged part level block
table_cause (table.Entries (fault.Broken number entry)) = Broken number entry
table_cause (table.Entries (fault.NoEntry most)) = Memory

-- so many of the numbers from 1 below n have nothing that was read
pub record HasUnread (entries : List (Option ReadEntry)) (n count : ℕ) : Type 0 where
  pub list : List ℕ
  pub once : IsDistinct nat_eq list
  pub long : count ≡ length list
  pub each : (e : ℕ) → Contains list e ↔ ((1 ≤ e) × (e < n) × (get_or entries e None ≡ None))

-- numbers of 32 bits count what was read
pub record AreShort (read : ReadTables) : Type 0 where
  pub dirs : length read.dirs.entries.items < 2 ^ 32
  pub files : length read.files.entries.items < 2 ^ 32
  pub dir_heads : length read.dirs.heads.items < 2 ^ 32
  pub file_heads : length read.files.heads.items < 2 ^ 32

-- each table has as many entries as its counts say, and no more than it may
pub record AreLong (found : ReadTables × (Counts × Counts)) : Type 0 where
  pub few : AreFew found.1
  pub dirs : length found.0.dirs.entries.items ≡ found.1.0.count
  pub files : length found.0.files.entries.items ≡ found.1.1.count
  pub short : AreShort found.0

-- Both tables stand at these places in cells, no condition on where all lies fails, and no rule of theirs; all bytes
-- are read that they need, and so many entries can be added.
pub record IsAudited (kind : TreeKind) (split : Option ℕ) (size : ℕ) (info : Information) (dirs files : TableInfo)
    (cells : ℕ → Cell) (audited : Audited) : Type 0 where
  pub dirs_at : audited.dirs ≡ dirs
  pub files_at : audited.files ≡ files
  pub layout : layout_fault kind split size info (tables_in cells dirs files) ≡ None
  pub read : AreReadTables (tables_in cells dirs files) audited.read
  pub orderly : IsOrderly (tables_in cells dirs files)
  pub bytes : HasNeededBytes dirs files cells
  pub free_dirs : IsRoomOf ((tables_in cells dirs files).table Dir) audited.free_dirs
  pub free_files : IsRoomOf ((tables_in cells dirs files).table File) audited.free_files
