-- Both tables, read in a later state, as they were before.
use Rattle.std.proofs.Common.{◌≡◌, ℕ, ◌*◌, ◌<◌, Bool, IsTrue, List, [], ◌∷◌, ◌++◌, nat_lt, Option, None}
use Rattle.std.proofs.Common.{refl, sym, ◌∙◌, ap, subst, inl, inr}
use Rattle.save_bytes.specs.Extents.{some_overlap}
use Rattle.container_header.specs.Conditions.{first_failing}
use Rattle.save_bytes.specs.Cells.{Cell, IsByte, Blames}
use Rattle.save_bytes.specs.CellNumbers.{value_of}
use Rattle.save_bytes.specs.State.{State}
use Rattle.save_bytes.specs.Stays.{Stays}
use Rattle.entry_tables.specs.declared.table.EntryKind.{EntryKind}
use Rattle.entry_tables.specs.declared.table.EntryKind.TheVariants.{Dir, File}
use Rattle.entry_tables.specs.declared.table.TableInfo.{TableInfo}
use Rattle.entry_tables.specs.Kinds.{entry_size, least_freed}
use Rattle.entry_tables.specs.Tables.{Table, Tables, tables_in, info_of}
use Rattle.entry_tables.specs.Rules.{IsOrderly, HasFreedList}
use Rattle.entry_tables.specs.Fails.{RuleFailsAt}
use Rattle.entry_tables.specs.Layout.{IsOfTable, IsNeeded}
use Rattle.entry_audit.specs.Read.{AreReadTables}
use Rattle.entry_audit.specs.Reading.{BlamesOne}
use Rattle.tree_model.specs.declared.kind.TreeKind.{TreeKind}
use Rattle.tree_rules.specs.declared.information.Information.{Information}
use Rattle.tree_rules.specs.declared.information.TableAt.{TableAt}
use Rattle.tree_rules.specs.declared.information.TableAt.TheVariants.{Plainly, InChain}
use Rattle.tree_rules.specs.declared.information.Places.{Places}
use Rattle.tree_rules.specs.Information.{front_len, has_second}
use Rattle.save_bytes.specs.Extents.{is_outside}
use Rattle.tree_rules.specs.Layout.{of_either, is_bad_most}
use Rattle.tree_rules.specs.Layout.{is_too_long, passes_end, plain_extent, extent_from}
use Rattle.tree_rules.specs.Layout.{place_faults, table_faults, taken_extents, layout_fault}
use Rattle.tree_rules.specs.Places.{places_of, table_lies}
use Rattle.tree_rules.specs.Reading.{IsRoomOf}
use Rattle.tree_rules.proofs.SoftLemmas.{tables_same}
use Rattle.save_mount.specs.declared.fault.MountFault.{MountFault}
use Rattle.save_mount.specs.declared.fault.MountFault.TheVariants.{Memory, Disk, Damaged, Broken, NotSave, Layout}
use Rattle.save_mount.specs.declared.tables.Audited.{Audited}
use Rattle.save_mount.specs.Audited.{CanAudit, AreCountsOf, HasTablesCause, IsAudited}
use Rattle.save_mount.proofs.AuditLemmas.{counts_before, counts_fault}
use Rattle.save_mount.proofs.InsideLemmas.{of_table_inside, needed_inside}

-- the conditions hang on the counts of the tables alone
too_long_same : (front block : ℕ) (kind : EntryKind) (t u : Table) (at : TableAt) → t.most ≡ u.most
    → is_too_long front block kind t at ≡ is_too_long front block kind u at
too_long_same front block kind t u (Plainly at) most =
    ap (λ (n : ℕ). passes_end front at (n * entry_size kind)) most
too_long_same front block kind t u (InChain first blocks) most =
    ap (λ (n : ℕ). nat_lt (blocks * block) (n * entry_size kind)) most

plain_same : (kind : EntryKind) (t u : Table) (at : TableAt) → t.most ≡ u.most
    → plain_extent kind t at ≡ plain_extent kind u at
plain_same kind t u (Plainly at) most = ap (λ (n : ℕ). extent_from at (n * entry_size kind) ∷ []) most
plain_same kind t u (InChain first blocks) most = refl

module _ (kind : TreeKind) (split : Option ℕ) (size : ℕ) (info : Information) (t u : Tables)
    (counts : (table : EntryKind) → (t.table table).count ≡ (u.table table).count)
    (mosts : (table : EntryKind) → (t.table table).most ≡ (u.table table).most) where
  taken_same : (second : Bool) (p : Places) → taken_extents second info p t ≡ taken_extents second info p u
  unfolding taken_extents
  taken_same second p = rw (
    plain_same Dir (t.table Dir) (u.table Dir) p.dirs.table (mosts Dir),
    plain_same File (t.table File) (u.table File) p.files.table (mosts File),
  ) refl

  faults_same : table_faults kind split size info t ≡ table_faults kind split size info u
  unfolding table_faults
  faults_same = λ i.
      of_either (λ table. is_bad_most table (mosts table i))
      ∷ of_either (λ table. too_long_same (front_len split size) info.block table (t.table table) (u.table table)
      (table_lies (places_of kind split info) table) (mosts table) i)
      ∷ of_either (λ table. is_outside (least_freed table) (mosts table i) (counts table i))
      ∷ some_overlap (taken_same (has_second kind split) (places_of kind split info) i) ∷ []

  pub layout_by_counts : layout_fault kind split size info t ≡ layout_fault kind split size info u
  layout_by_counts = ap (λ (faults : List Bool). first_failing 1 (place_faults kind split size info ++ faults))
      faults_same

module _ (old mid : State) (stays : Stays old mid None) (told : IsTrue old.told) (kind : TreeKind) (split : Option ℕ)
    (size : ℕ) (info : Information) (dirs files : TableInfo)
    (can : CanAudit old.shape kind split size info dirs files) where
  abbrev t : Tables
  t = tables_in mid.cells dirs files

  abbrev u : Tables
  u = tables_in old.cells dirs files

  counts_same : (table : EntryKind) → AreCountsOf (u.table table)
      (record { count = (t.table table).count; most = (t.table table).most })
  counts_same table = counts_before old mid stays told table (info_of dirs files table) (can.tables table)
      (record { count = (t.table table).count; most = (t.table table).most }) (record { count = refl; most = refl })

  layout_same : layout_fault kind split size info t ≡ layout_fault kind split size info u
  layout_same = layout_by_counts kind split size info t u (λ table. (counts_same table).count)
      (λ table. (counts_same table).most)

  module _ (layout : layout_fault kind split size info t ≡ None) where
    inside : (table : EntryKind) (x : ℕ) → IsOfTable table (info_of dirs files table) (t.table table) x
        → x < old.shape.size
    inside = of_table_inside old.shape mid.cells kind split size info dirs files can layout

    tables_still : t ≡ u
    tables_still = sym (tables_same dirs files mid.cells old.cells
        (λ table x within. ap value_of (sym (stays.cells told x (inside table x within)))))

    pub audited_before : (audited : Audited) → IsAudited kind split size info dirs files mid.cells audited
        → IsAudited kind split size info dirs files old.cells audited
    audited_before audited h = record {
      dirs_at = h.dirs_at;
      files_at = h.files_at;
      layout = sym layout_same ∙ h.layout;
      read = subst (λ (v : Tables). AreReadTables v audited.read) tables_still h.read;
      orderly = subst (λ (v : Tables). IsOrderly v) tables_still h.orderly;
      bytes = λ table x needed.
          let here : IsNeeded table (info_of dirs files table) (t.table table) x =
          subst (λ (v : Tables). IsNeeded table (info_of dirs files table) (v.table table) x) (sym tables_still) needed in
          subst IsByte (stays.cells told x (needed_inside old.shape mid.cells kind split size info dirs files can layout
          table x (h.orderly.freed table) here)) (h.bytes table x here);
      free_dirs = subst (λ (v : Tables). IsRoomOf (v.table Dir) audited.free_dirs) tables_still h.free_dirs;
      free_files = subst (λ (v : Tables). IsRoomOf (v.table File) audited.free_files) tables_still h.free_files;
    }

    blamed_still : (part level block : ℕ) → BlamesOne dirs files mid.cells part level block
        → BlamesOne dirs files old.cells part level block
    blamed_still part level block (table, blamed) = (
      table,
      record {
        place = blamed.place;
        of_table = subst (λ (v : Tables). IsOfTable table (info_of dirs files table) (v.table table) blamed.place)
            tables_still blamed.of_table;
        needed = λ freed. subst (λ (v : Tables). IsNeeded table (info_of dirs files table) (v.table table) blamed.place)
            tables_still (blamed.needed
            (subst (λ (v : Tables). HasFreedList table (v.table table)) (sym tables_still) freed));
        blames = subst (λ (cell : Cell). Blames cell part level block)
            (stays.cells told blamed.place (inside table blamed.place blamed.of_table)) blamed.blames;
      },
    )

  -- and why they are refused
  pub cause_before : (fault : MountFault) → HasTablesCause kind split size info dirs files mid.cells fault
      → HasTablesCause kind split size info dirs files old.cells fault
  cause_before Memory h = tt
  cause_before Disk h = tt
  cause_before (Damaged part level block) (inl (table, first)) = inl (
    table,
    counts_fault old mid stays told table (info_of dirs files table) (can.tables table) part level block first,
  )
  cause_before (Damaged part level block) (inr (layout, blamed)) =
      inr (sym layout_same ∙ layout, blamed_still layout part level block blamed)
  cause_before (Broken number entry) (layout, fails) = (
    sym layout_same ∙ layout,
    subst (λ (v : Tables). RuleFailsAt v number entry) (tables_still layout) fails,
  )
  cause_before NotSave h = absurd h
  cause_before (Layout condition) h = sym layout_same ∙ h
