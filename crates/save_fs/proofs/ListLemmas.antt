-- The rows of a mounted tree, by the tables that were read.
use Rattle.std.proofs.Common.{◌⊎◌, inl, inr, ℕ, List, Err, sym, ◌∙◌, subst}
use Rattle.std.proofs.lemmas.Option.{none-some}
use Rattle.save_bytes.specs.Cells.{Cell}
use Rattle.entry_tables.specs.declared.table.EntryKind.{EntryKind}
use Rattle.entry_tables.specs.declared.table.EntryKind.TheVariants.{Dir, File}
use Rattle.entry_tables.specs.declared.reads.Counts.{Counts}
use Rattle.entry_audit.specs.declared.table.ReadTables.{ReadTables}
use Rattle.entry_audit.specs.Read.{AreReadTables}
use Rattle.tree_model.specs.declared.kind.TreeKind.TheVariants.{Save}
use Rattle.tree_model.specs.Trees.{Tree}
use Rattle.tree_rules.specs.declared.information.Information.{Information}
use Rattle.tree_rules.specs.declared.information.Places.{Places}
use Rattle.tree_rules.specs.Information.{information_in}
use Rattle.tree_rules.specs.Places.{places_of, table_info, laid_cells, tree_tables}
use Rattle.tree_rules.specs.Lists.{OfTable}
use Rattle.tree_rules.specs.Trees.{table_chains}
use Rattle.tree_rules.specs.Fails.{BreaksAt}
use Rattle.tree_rules.specs.Fails.TreeFailsAt.{OfTables}
use Rattle.tree_rules.specs.Fails.BreaksAt.{InTables as InTheTables}
use Rattle.save_mount.specs.declared.fault.MountFault.{MountFault}
use Rattle.save_mount.specs.declared.fault.MountFault.TheVariants.{Memory, Disk, Damaged, Broken, NotSave, Layout}
use Rattle.entry_tables.specs.declared.table.TableInfo.{TableInfo}
use Rattle.entry_tables.specs.Tables.{info_of}
use Rattle.entry_audit.specs.Reading.{BlamesOne}
use Rattle.save_mount.specs.Audited.{AreTablesRead, HasBadCounts, HasTablesCause}
use Rattle.save_mount.proofs.AuditLemmas.{counts_blamed}
use Rattle.save_mount.specs.Mounted.{IsMemoryOrDisk}
use Rattle.save_mount.specs.Mounts.{AreTableChains, BlamesMount}
use Rattle.save_mount.specs.Mounts.BlamesMount.{InTables}
use Rattle.save_mount.proofs.ExactLemmas.{no_cause}
use Rattle.save_fs.specs.declared.mounted.SaveFs.{SaveFs}
use Rattle.save_fs.specs.Faults.{rows_fault, IsRowsReply}
use Rattle.save_fs.specs.Mounted.{IsMountedOn}
use Rattle.save_fs.proofs.MountLemmas.{places_is}

reply_free : (tree : Tree) (fault : MountFault) → IsMemoryOrDisk fault → IsRowsReply tree (Err (rows_fault fault))
reply_free tree Memory free = tt
reply_free tree Disk free = tt
reply_free tree (Damaged part level block) free = absurd free
reply_free tree (Broken table entry) free = absurd free
reply_free tree NotSave free = absurd free
reply_free tree (Layout condition) free = absurd free

-- a cell of the counts is a needed one
blamed_one : {P : Type 0} (dirs files : TableInfo) (cells : ℕ → Cell) (part level block : ℕ)
    → HasBadCounts dirs files cells part level block ⊎ (P × BlamesOne dirs files cells part level block)
    → BlamesOne dirs files cells part level block
blamed_one dirs files cells part level block (inl bad) =
    (bad.0, counts_blamed bad.0 (info_of dirs files bad.0) cells part level block bad.1)
blamed_one dirs files cells part level block (inr h) = h.1

module _ (size : ℕ) (fs : SaveFs) (cells : ℕ → Cell) (tree : Tree) (h : IsMountedOn size fs cells tree) where
  abbrev p : Places
  p = places_of Save fs.split (information_in cells)

  abbrev chains : EntryKind → List ℕ
  chains = table_chains h.reads.lists

  pub tables_read : (found : ReadTables × (Counts × Counts)) → AreTablesRead Save fs.split size fs.mounted.info
      (table_info size fs.mounted.places Dir) (table_info size fs.mounted.places File)
      (laid_cells size fs.mounted.places chains cells) found
      → AreReadTables (tree_tables size p chains cells) found.0
  tables_read found r = subst (λ (q : Places). AreReadTables (tree_tables size q chains cells) found.0)
      (places_is size fs cells tree h) r.read

  chains_are : AreTableChains Save fs.split cells chains
  chains_are table = h.reads.consistent.listed (OfTable table)

  no_tables_cause : (fault : MountFault) → HasTablesCause Save fs.split size (information_in cells)
      (table_info size p Dir) (table_info size p File) (laid_cells size p chains cells) fault → IsMemoryOrDisk fault
  no_tables_cause Memory cause = tt
  no_tables_cause Disk cause = tt
  no_tables_cause (Damaged part level block) cause =
      let blamed : BlamesMount Save size fs.split cells part level block =
      InTables chains chains_are (blamed_one (table_info size p Dir) (table_info size p File)
      (laid_cells size p chains cells) part level block cause) in
      no_cause Save size fs.split cells h.reads.lists h.reads.consistent (Damaged part level block) blamed
  no_tables_cause (Broken number entry) cause =
      let breaks : BreaksAt Save size fs.split cells number entry =
      InTheTables chains chains_are cause.0 (OfTables cause.1) in
      no_cause Save size fs.split cells h.reads.lists h.reads.consistent (Broken number entry) breaks
  no_tables_cause NotSave cause = absurd cause
  no_tables_cause (Layout condition) cause = absurd (none-some condition (sym h.reads.consistent.layout ∙ cause))

  pub refused_reply : (fault : MountFault) → HasTablesCause Save fs.split size fs.mounted.info
      (table_info size fs.mounted.places Dir) (table_info size fs.mounted.places File)
      (laid_cells size fs.mounted.places chains cells) fault → IsRowsReply tree (Err (rows_fault fault))
  refused_reply fault cause =
      let moved : HasTablesCause Save fs.split size (information_in cells) (table_info size p Dir)
      (table_info size p File) (laid_cells size p chains cells) fault =
      subst (λ (q : Places). HasTablesCause Save fs.split size (information_in cells) (table_info size q Dir)
      (table_info size q File) (laid_cells size q chains cells) fault) (places_is size fs cells tree h)
      (subst (λ (info : Information). HasTablesCause Save fs.split size info (table_info size fs.mounted.places Dir)
      (table_info size fs.mounted.places File) (laid_cells size fs.mounted.places chains cells) fault) h.mount.info_is
      cause) in
      reply_free tree fault (no_tables_cause fault moved)
