-- The tables of a mounted filesystem, in a space behind which their data blocks lie once more.
use Rattle.std.proofs.Common.{◌≡◌, ℕ, ◌+◌, ◌<◌, List, IsTrue, Option, None, Err, refl, sym, ap, ◌∙◌, subst, arith}
use Rattle.save_bytes.specs.declared.space.Bad.{Bad}
use Rattle.save_bytes.specs.declared.space.Bad.TheVariants as bad
use Rattle.save_bytes.specs.Cells.{Cell, IsByte}
use Rattle.save_bytes.specs.State.{Shape, State}
use Rattle.chain_nodes.specs.declared.fault.ChainFault.{ChainFault}
use Rattle.chain_nodes.specs.declared.fault.ChainFault.TheVariants as link
use Rattle.chain_nodes.specs.Faults.{refusal_of}
use Rattle.chain_space.specs.declared.laid.BlocksSpace.{BlocksSpace}
use Rattle.chain_space.specs.Laid.{extra_of, CanLay}
use Rattle.chain_space.specs.LaidHeld.{extra_in, laid}
use Rattle.entry_tables.specs.declared.table.EntryKind.{EntryKind}
use Rattle.entry_tables.specs.declared.table.EntryKind.TheVariants.{Dir, File}
use Rattle.entry_tables.specs.declared.table.EntryFault.{EntryFault}
use Rattle.entry_tables.specs.declared.table.EntryFault.TheVariants as entry
use Rattle.entry_tables.specs.declared.table.TableInfo.{TableInfo}
use Rattle.entry_tables.specs.declared.reads.Counts.{Counts}
use Rattle.entry_tables.specs.declared.table.FileFields.{FileFields}
use Rattle.save_bytes.specs.CellNumbers.{number_in}
use Rattle.entry_tables.specs.Tables.{Tables, HasEntry, table_in, tables_in, info_of, most_in, entry_place}
use Rattle.entry_tables.specs.Used.{used_entries}
use Rattle.entry_tables.specs.Rules.{IsOrderly}
use Rattle.entry_tables.specs.Layout.{HasEntryTables, HasCounts, IsNeeded, TellsEntryTable}
use Rattle.entry_tables.specs.Layout.IsNeeded.{OfZero}
use Rattle.entry_tables.specs.Causes.{bad_of, HasEntryCause}
use Rattle.entry_tables.proofs.EntryLemmas.{entry_long, used_entry, field_there}
use Rattle.entry_changes.specs.Bytes.{OkOrDisk}
use Rattle.entry_changes.proofs.WayLemmas.{byte_blames}
use Rattle.entry_audit.specs.Reading.{HasNeededBytes}
use Rattle.tree_model.specs.declared.kind.TreeKind.TheVariants.{Save}
use Rattle.tree_rules.specs.Lists.{Holder}
use Rattle.save_mount.specs.Mounted.{IsMountOf}
use Rattle.tree_rules.specs.declared.information.Information.{Information}
use Rattle.tree_rules.specs.declared.information.Places.{Places}
use Rattle.tree_rules.specs.Information.{information_in}
use Rattle.tree_rules.specs.Layout.{layout_fault}
use Rattle.tree_rules.specs.Places.{places_of, table_info, laid_cells, tree_tables}
use Rattle.tree_rules.specs.Trees.{table_chains}
use Rattle.tree_paths.specs.Causes.{TellsTables}
use Rattle.save_mount.specs.Audited.{CanAudit}
use Rattle.save_mount.specs.Stored.{StandsIn}
use Rattle.save_mount.proofs.AuditLemmas.{tables_told}
use Rattle.save_mount.proofs.TableLemmas.{can_lay, room_in, audit_in, told_in, cells_in}
use Rattle.save_fs.specs.declared.mounted.SaveFs.{SaveFs}
use Rattle.save_fs.specs.Faults.{bad_fault, bad_in, entry_fault, chain_fault, DoneOrDisk}
use Rattle.save_fs.specs.Mounted.{StandsOn, tables_on}
use Rattle.save_fs.proofs.MountLemmas.{places_at}

pub bad_bad : (refusal : Bad) → bad_in (bad_fault refusal) ≡ Option.Some refusal
bad_bad bad.Disk = refl
bad_bad (bad.Damaged part level block) = refl

pub entry_bad : (A : Type 0) (fault : EntryFault) → bad_in (entry_fault fault) ≡ bad_of {A = A} (Err fault)
entry_bad A (entry.Bad refusal) = bad_bad refusal
entry_bad A (entry.Broken table number) = refl
entry_bad A (entry.NoEntry most) = refl

pub chain_bad : (fault : ChainFault) → bad_in (chain_fault fault) ≡ refusal_of (Option.Some fault)
chain_bad (link.Bad refusal) = bad_bad refusal
chain_bad (link.Broken number) = refl
chain_bad (link.Short need have) = refl

-- what answers for the disk's sake alone comes to
pub exact_done : (A B : Type 0) (fault : EntryFault) (P : B → Type 0) → OkOrDisk {A = A} (Err fault)
    → DoneOrDisk {A = B} (Err (entry_fault fault)) P
exact_done A B (entry.Bad bad.Disk) P h = tt
exact_done A B (entry.Bad (bad.Damaged part level block)) P h = absurd h
exact_done A B (entry.Broken table number) P h = absurd h
exact_done A B (entry.NoEntry most) P h = absurd h

exact_from : (A : Type 0) (s : State) (info : TableInfo) (Rule : Type 0) (fault : EntryFault)
    → HasEntryCause {A = A} s File info Rule (λ table number. ⊥) (Err fault) → TellsEntryTable s File info → Rule
    → ((x : ℕ) → IsNeeded File info (table_in s.cells File info) x → IsByte (s.cells x)) → OkOrDisk {A = A} (Err fault)
exact_from A s info Rule (entry.Bad bad.Disk) cause tells rule bytes = tt
exact_from A s info Rule (entry.Bad (bad.Damaged part level block)) cause tells rule bytes =
    let blamed = cause.damaged tells rule in
    byte_blames (s.cells blamed.place) part level block (bytes blamed.place blamed.needed) blamed.blames
exact_from A s info Rule (entry.Broken table number) cause tells rule bytes = cause.broken tells
exact_from A s info Rule (entry.NoEntry most) cause tells rule bytes = cause.never_full

pub stands_in : (shape : Shape) (fs : SaveFs) → StandsOn shape fs → StandsIn shape Save fs.split fs.mounted.info
    fs.mounted.places fs.mounted.blocks.items
stands_in shape fs h = record {
  sound = h.mountable.sound;
  first = h.mountable.first;
  small = h.mountable.small;
  split_inside = h.mountable.inside;
  placed = h.placed.places_are;
  faultless = h.placed.faultless;
  blocks_are = h.placed.blocks_are;
}

-- a view over the store and the tables' blocks
module _ {S : Type 0} (states : S → State) (view : BlocksSpace S) (base : S) (fs : SaveFs)
    (stands : StandsOn (states base).shape fs) (same_base : view.base.now ≡ base)
    (same_extra : extra_in view ≡ extra_of fs.mounted.places.chain.region_at fs.mounted.places.chain.block
    fs.mounted.blocks.items) where
  pub room_of : CanLay (extra_in view) (states view.base.now).shape
  room_of = room_in states view base fs.mounted.places fs.mounted.blocks.items same_base same_extra
      (can_lay (states base).shape Save fs.split fs.mounted.info fs.mounted.places fs.mounted.blocks.items
      (stands_in (states base).shape fs stands))

  pub audit_of : CanAudit (laid states view).shape Save fs.split (states base).shape.size fs.mounted.info
      fs.mounted.dirs fs.mounted.files
  audit_of =
      let size = (states base).shape.size in
      subst (λ (dirs : TableInfo). CanAudit (laid states view).shape Save fs.split size fs.mounted.info dirs
      fs.mounted.files) (sym stands.placed.dirs_at)
      (subst (λ (files : TableInfo). CanAudit (laid states view).shape Save fs.split size fs.mounted.info
      (table_info size fs.mounted.places Dir) files) (sym stands.placed.files_at)
      (audit_in states view base fs.mounted.places fs.mounted.blocks.items same_base same_extra Save fs.split
      fs.mounted.info (stands_in (states base).shape fs stands)))

  pub tables_stand : HasEntryTables (laid states view).shape fs.mounted.dirs fs.mounted.files
  tables_stand = audit_of.tables

  -- what the cells are that hold a tree
  module _ (told : IsTrue (states base).told) (lists : Holder → List ℕ)
      (mount : IsMountOf Save (states base).shape.size fs.split (states base).cells fs.mounted lists) where
    abbrev size : ℕ
    size = (states base).shape.size

    abbrev cells : ℕ → Cell
    cells = (states base).cells

    abbrev chains : EntryKind → List ℕ
    chains = table_chains lists

    abbrev p : Places
    p = places_of Save fs.split (information_in cells)

    abbrev found : Tables
    found = tables_in (laid states view).cells fs.mounted.dirs fs.mounted.files

    still : IsTrue (laid states view).told
    still = told_in states view base fs.mounted.places fs.mounted.blocks.items same_base same_extra told

    same_cells : (laid states view).cells ≡ laid_cells size fs.mounted.places chains cells
    same_cells = cells_in states view base fs.mounted.places fs.mounted.blocks.items same_base same_extra chains
        mount.blocks_are

    pub tables_are : found ≡ tables_on size fs cells lists
    tables_are =
        ap (λ (c : ℕ → Cell). tables_in c fs.mounted.dirs fs.mounted.files) same_cells
        ∙ ap (λ (dirs : TableInfo). tables_in (laid_cells size fs.mounted.places chains cells) dirs fs.mounted.files)
        mount.dirs_at
        ∙ ap (λ (files : TableInfo). tables_in (laid_cells size fs.mounted.places chains cells)
        (table_info size fs.mounted.places Dir) files) mount.files_at

    tables_placed : found ≡ tree_tables size p chains cells
    tables_placed = tables_are ∙ ap (λ (q : Places). tree_tables size q chains cells)
        (places_at size fs.split cells fs.mounted lists mount)

    layout_good : layout_fault Save fs.split size fs.mounted.info found ≡ None
    layout_good = subst (λ (t : Tables). layout_fault Save fs.split size fs.mounted.info t ≡ None) (sym tables_placed)
        (subst (λ (info : Information). layout_fault Save fs.split size info (tree_tables size p chains cells) ≡ None)
        (sym mount.info_is) mount.consistent.layout)

    pub orderly : IsOrderly found
    orderly = subst IsOrderly (sym tables_placed) mount.consistent.orderly

    info_placed : (table : EntryKind) → info_of fs.mounted.dirs fs.mounted.files table ≡ table_info size p table
    info_placed Dir = mount.dirs_at ∙ ap (λ (q : Places). table_info size q Dir)
        (places_at size fs.split cells fs.mounted lists mount)
    info_placed File = mount.files_at ∙ ap (λ (q : Places). table_info size q File)
        (places_at size fs.split cells fs.mounted lists mount)

    cells_placed : (laid states view).cells ≡ laid_cells size p chains cells
    cells_placed = same_cells ∙ ap (λ (q : Places). laid_cells size q chains cells)
        (places_at size fs.split cells fs.mounted lists mount)

    byte_at : (table : EntryKind) (x : ℕ)
        → IsNeeded table (info_of fs.mounted.dirs fs.mounted.files table) (found.table table) x
        → IsByte ((laid states view).cells x)
    byte_at table x need = subst (λ (c : ℕ → Cell). IsByte (c x)) (sym cells_placed)
        (mount.consistent.tables_read table x
        (subst (λ (info : TableInfo). IsNeeded table info ((tree_tables size p chains cells).table table) x)
        (info_placed table)
        (subst (λ (t : Tables). IsNeeded table (info_of fs.mounted.dirs fs.mounted.files table) (t.table table) x)
        tables_placed need)))

    pub needed : HasNeededBytes fs.mounted.dirs fs.mounted.files (laid states view).cells
    needed kind x need = byte_at kind x need

    known : (kind : EntryKind) → HasCounts (laid states view).cells (info_of fs.mounted.dirs fs.mounted.files kind)
    known kind k less = byte_at kind _ (OfZero (record {
      from = omega arith;
      before = omega (arith, less, entry_long kind);
    }))

    abbrev counts : Counts × Counts
    counts = (
      record { count = (found.table Dir).count; most = (found.table Dir).most },
      record { count = (found.table File).count; most = (found.table File).most },
    )

    pub tells : TellsTables (laid states view) fs.mounted.dirs fs.mounted.files
    tells =
        let all = tables_told (laid states view) Save fs.split size fs.mounted.info fs.mounted.dirs fs.mounted.files
        audit_of still counts (record {
          layout = layout_good;
          known = known;
          dir_counts = record { count = refl; most = refl };
          file_counts = record { count = refl; most = refl };
        }) in
        record { tells = λ kind. (all kind).tells; known = known }

    -- an entry of a file
    module _ (e : ℕ) (used : used_entries ((tables_on size fs cells lists).table File) e) where
      used_found : used_entries (found.table File) e
      used_found = subst (λ (t : Tables). used_entries (t.table File) e) (sym tables_are) used

      has : HasEntry (found.table File) e
      has = used_entry (laid states view) File fs.mounted.files (tells.tells File) (tells.known File) e used_found

      pub fields_read : (fields : FileFields)
          → (TellsEntryTable (laid states view) File fs.mounted.files
          → e < most_in (laid states view).cells fs.mounted.files
          → fields.start ≡ number_in 4 (laid states view).cells (entry_place File fs.mounted.files e + 0x1C))
          → (TellsEntryTable (laid states view) File fs.mounted.files
          → e < most_in (laid states view).cells fs.mounted.files
          → fields.wide ≡ number_in 8 (laid states view).cells (entry_place File fs.mounted.files e + 0x20))
          → (fields.start ≡ (tables_on size fs cells lists).start e)
          × (fields.wide ≡ (tables_on size fs cells lists).wide e)
      fields_read fields start wide =
          subst (λ (t : Tables). (fields.start ≡ t.start e) × (fields.wide ≡ t.wide e)) tables_are (
            start (tells.tells File) has.below ∙ sym (field_there (found.table File) e
                (number_in 4 (laid states view).cells (entry_place File fs.mounted.files e + 0x1C)) 0 has),
            wide (tells.tells File) has.below ∙ sym (field_there (found.table File) e
                (number_in 8 (laid states view).cells (entry_place File fs.mounted.files e + 0x20)) 0 has),
          )

      pub fields_exact : (A : Type 0) (fault : EntryFault)
          → HasEntryCause {A = A} (laid states view) File fs.mounted.files
          (used_entries (table_in (laid states view).cells File fs.mounted.files) e) (λ table number. ⊥) (Err fault)
          → OkOrDisk {A = A} (Err fault)
      fields_exact A fault cause = exact_from A (laid states view) fs.mounted.files
          (used_entries (table_in (laid states view).cells File fs.mounted.files) e) fault cause (tells.tells File)
          used_found (needed File)
