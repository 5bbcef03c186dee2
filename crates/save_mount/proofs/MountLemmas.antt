-- A filesystem whose lists and tables are as they should be, and why one is not mounted.
use Rattle.std.proofs.Common.{◌≡◌, ◌⊎◌, ℕ, ◌+◌, ◌++◌, Bool, true, false, List, Option, None, IsTrue, length}
use Rattle.std.proofs.Common.{refl, sym, ◌∙◌, ap, subst, inl, inr, ⊎_elim, ◌≤◌}
use Rattle.std.proofs.lemmas.Bool.{false≢true}
use Rattle.save_bytes.specs.Cells.{Cell, IsByte}
use Rattle.save_bytes.specs.State.{Shape, State}
use Rattle.save_bytes.specs.Stays.{Stays}
use Rattle.chain_nodes.specs.Table.{table_in}
use Rattle.chain_nodes.specs.Chains.{IsFreeList}
use Rattle.chain_space.specs.Laid.{Extra, extra_of, laid_state}
use Rattle.chain_space.proofs.LaidLemmas.{laid_stays}
use Rattle.entry_tables.specs.declared.table.EntryKind.{EntryKind}
use Rattle.entry_tables.specs.declared.table.EntryKind.TheVariants.{Dir, File}
use Rattle.entry_tables.specs.Tables.{Tables, info_of}
use Rattle.entry_tables.specs.Rules.{IsOrderly}
use Rattle.entry_tables.specs.Layout.{IsNeeded}
use Rattle.entry_audit.specs.declared.table.ReadTables.{ReadTables}
use Rattle.entry_audit.specs.Read.{AreReadTables}
use Rattle.held_lists.specs.Sets.{has_entry}
use Rattle.tree_model.specs.declared.kind.TreeKind.{TreeKind}
use Rattle.tree_model.specs.declared.kind.TreeKind.TheVariants.{Save}
use Rattle.tree_rules.specs.declared.information.Information.{Information}
use Rattle.tree_rules.specs.declared.information.Places.{Places}
use Rattle.tree_rules.specs.Information.{information_in, front_len}
use Rattle.tree_rules.specs.Fails.{TreeFailsAt}
use Rattle.tree_rules.specs.Fails.TreeFailsAt.{OfTables}
use Rattle.tree_rules.specs.Fails.BreaksAt.{InTables as BreaksInTables}
use Rattle.tree_rules.specs.Layout.{layout_fault}
use Rattle.tree_rules.specs.Lists.{Holder, Free, OfTable, OfFile, IsTableList, IsListOf}
use Rattle.tree_rules.specs.Places.{table_lies, table_info, table_blocks, laid_cells, tree_tables}
use Rattle.tree_rules.specs.Reading.{IsRoomOf}
use Rattle.tree_rules.specs.Trees.{table_chains, IsConsistentTree}
use Rattle.save_mount.specs.declared.fault.MountFault.{MountFault}
use Rattle.save_mount.specs.declared.fault.MountFault.TheVariants.{Memory, Disk, Damaged, Broken, NotSave, Layout}
use Rattle.save_mount.specs.declared.mounting.Mounted.{Mounted}
use Rattle.save_mount.specs.declared.structure.Structure.{Structure}
use Rattle.save_mount.specs.declared.tables.Audited.{Audited}
use Rattle.save_mount.specs.Audited.{HasTablesCause, IsAudited}
use Rattle.save_mount.specs.Causes.{IsPlaced}
use Rattle.save_mount.specs.Counts.{IsCountOf, IsUnheld, IsLost}
use Rattle.save_mount.specs.Files.{AreReadFiles, HasFileLists, HasFilesCause}
use Rattle.save_mount.specs.Mounts.{places_in, HasMountCause}
use Rattle.save_mount.specs.Mounts.FailsFirst.{WithTheTables}
use Rattle.save_mount.specs.Mounts.BlamesMount.{InTables, InFile}
use Rattle.save_mount.specs.Mounted.{mount_with, IsMountOf}
use Rattle.save_mount.specs.Stored.{StandsIn, AreBlocksOf}
use Rattle.save_mount.specs.Structure.{HasStructure}
use Rattle.save_mount.proofs.AuditLemmas.{counts_blamed}
use Rattle.save_mount.proofs.LaterLemmas.{audited_before, cause_before}
use Rattle.save_mount.proofs.LostLemmas.{count_map}
use Rattle.save_mount.proofs.PlaceLemmas.{information_place}
use Rattle.save_mount.proofs.TableLemmas.{can_lay, can_audit, laid_by}

-- both tables of a later state, as they were before
module _ (s m : State) (stays : Stays s m None) (told : IsTrue s.told) (kind : TreeKind) (split : Option ℕ)
    (info : Information) (p : Places) (blocks : List ℕ) (stands : StandsIn s.shape kind split info p blocks)
    (chains : EntryKind → List ℕ) (are : AreBlocksOf p chains blocks) where
  abbrev extra : Extra
  extra = extra_of p.chain.region_at p.chain.block blocks

  -- a fact of the tables, by the size and the cells
  abbrev Fact : Type 1
  Fact = ℕ → (ℕ → Cell) → Type 0

  later : (Q : Fact) → Q m.shape.size (laid_cells m.shape.size p chains m.cells)
      → Q s.shape.size (laid_state extra m).cells
  later Q q =
      subst (λ (n : ℕ). Q n (laid_state extra m).cells) (ap (λ (shape : Shape). shape.size) stays.space.shape)
      (subst (Q m.shape.size) (sym (laid_by m.shape.size p chains blocks m.cells are)) q)

  before : (Q : Fact) → Q s.shape.size (laid_state extra s).cells
      → Q s.shape.size (laid_cells s.shape.size p chains s.cells)
  before Q q = subst (Q s.shape.size) (laid_by s.shape.size p chains blocks s.cells are) q

  view_stays : Stays (laid_state extra s) (laid_state extra m) None
  view_stays = laid_stays extra s m (can_lay s.shape kind split info p blocks stands) None stays

  pub audited_by : (audited : Audited) → IsAudited kind split m.shape.size info (table_info m.shape.size p Dir)
      (table_info m.shape.size p File) (laid_cells m.shape.size p chains m.cells) audited
      → IsAudited kind split s.shape.size info (table_info s.shape.size p Dir)
      (table_info s.shape.size p File) (laid_cells s.shape.size p chains s.cells) audited
  audited_by audited h =
      let Q : ℕ → (ℕ → Cell) → Type 0 = λ n cells. IsAudited kind split n info (table_info n p Dir)
      (table_info n p File) cells audited in
      let there = later Q h in
      before Q (audited_before (laid_state extra s) (laid_state extra m) view_stays told kind split s.shape.size info
      (table_info s.shape.size p Dir) (table_info s.shape.size p File)
      (can_audit s.shape kind split info p blocks stands) there.layout audited there)

  pub caused_by : (fault : MountFault) → HasTablesCause kind split m.shape.size info (table_info m.shape.size p Dir)
      (table_info m.shape.size p File) (laid_cells m.shape.size p chains m.cells) fault
      → HasTablesCause kind split s.shape.size info (table_info s.shape.size p Dir)
      (table_info s.shape.size p File) (laid_cells s.shape.size p chains s.cells) fault
  caused_by fault h =
      let Q : ℕ → (ℕ → Cell) → Type 0 = λ n cells. HasTablesCause kind split n info (table_info n p Dir)
      (table_info n p File) cells fault in
      before Q (cause_before (laid_state extra s) (laid_state extra m) view_stays told kind split s.shape.size info
      (table_info s.shape.size p Dir) (table_info s.shape.size p File)
      (can_audit s.shape kind split info p blocks stands) fault (later Q h))

-- the files' entries, of both tables that were read
pub files_read : (t : Tables) (read : ReadTables) → AreReadTables t read → AreReadFiles t read.files.entries.items
files_read t read are = record { count = (are File).count; entries = (are File).entries }

module _ (kind : TreeKind) (size : ℕ) (split : Option ℕ) (cells : ℕ → Cell) where
  -- the lists and tables of a filesystem with this information, which lies in these places
  pub record IsWhole (info : Information) (p : Places) (found done : Structure) (audited : Audited)
      (lists all : Holder → List ℕ) : Type 0 where
    pub structure : HasStructure cells p found lists
    pub tables : IsAudited kind split size info (table_info size p Dir) (table_info size p File)
        (laid_cells size p (table_chains lists) cells) audited
    pub files : HasFileLists kind (table_in cells p.chain) p (tree_tables size p (table_chains lists) cells) lists
        done.held all
    pub blocks : done.blocks.items ≡ found.blocks.items
    pub free : done.free ≡ found.free

  abbrev here : Places
  here = places_in kind split cells

  module _ (inside : front_len split size ≤ size) (read : Information) (placed : IsPlaced kind size split cells read)
      (found done : Structure) (audited : Audited) (lists all : Holder → List ℕ)
      (h : IsWhole (information_in cells) here found done audited lists all) where
    chains_same : table_chains all ≡ table_chains lists
    chains_same = λ i entries. h.files.tables entries i

    by_chains : (Q : (EntryKind → List ℕ) → Type 0) → Q (table_chains lists) → Q (table_chains all)
    by_chains Q q = subst Q (sym chains_same) q

    listed : (holder : Holder) → IsListOf kind (table_in cells here.chain) here
        (tree_tables size here (table_chains all) cells) holder (all holder)
    listed Free = subst (λ (list : List ℕ). IsFreeList (table_in cells here.chain) here.chain.count list)
        (sym h.files.free) h.structure.free
    listed (OfTable entries) = subst (λ (list : List ℕ). IsTableList (table_in cells here.chain) here.chain.count
        (table_lies here entries) list) (sym (h.files.tables entries)) (h.structure.tables entries)
    listed (OfFile e) = by_chains (λ chains. IsListOf kind (table_in cells here.chain) here
        (tree_tables size here chains cells) (OfFile e) (all (OfFile e))) (h.files.files e)

    needed : (table : EntryKind) (x : ℕ) → IsNeeded table (table_info size here table)
        ((tree_tables size here (table_chains lists) cells).table table) x
        → IsByte (laid_cells size here (table_chains lists) cells x)
    needed Dir x need = h.tables.bytes Dir x need
    needed File x need = h.tables.bytes File x need

    pub whole_tree : IsConsistentTree kind size split cells all
    whole_tree = record {
      inside = inside;
      lettered = placed.header.lettered;
      layout = by_chains (λ chains. layout_fault kind split size (information_in cells)
          (tree_tables size here chains cells) ≡ None) h.tables.layout;
      listed = listed;
      apart = h.files.holds.apart;
      orderly = by_chains (λ chains. IsOrderly (tree_tables size here chains cells)) h.tables.orderly;
      header_read = placed.header.read;
      information_read = λ k less. subst (λ (n : ℕ). IsByte (cells (n + k))) (sym (information_place cells))
          (placed.read k less);
      tables_read = by_chains (λ chains. (table : EntryKind) (x : ℕ) → IsNeeded table (table_info size here table)
          ((tree_tables size here chains cells).table table) x → IsByte (laid_cells size here chains cells x)) needed;
    }

    held_or_not : (b : Bool) → (b ≡ true) ⊎ (b ≡ false)
    held_or_not true = inl refl
    held_or_not false = inr refl

    lost_lists : (count lost : ℕ) → IsCountOf (IsUnheld count done.held) lost → IsCountOf (IsLost count all) lost
    lost_lists count lost = count_map (IsUnheld count done.held) (IsLost count all) lost
        (λ x out. record {
          there = out.there;
          kept_out = λ holder within. false≢true (sym out.out ∙ h.files.holds.each holder x within);
        })
        (λ x gone. record {
          there = gone.there;
          out = ⊎_elim
              (λ (is : has_entry done.held x ≡ true).
              (let one = h.files.holds.only x is in absurd (gone.kept_out one.0 one.1)))
              (λ (not : has_entry done.held x ≡ false). not)
              (held_or_not (has_entry done.held x));
        })

    mounted_here : (lost : ℕ) → IsCountOf (IsUnheld here.chain.count done.held) lost
        → IsMountOf kind size split cells (mount_with kind (information_in cells) here done audited lost) all
    mounted_here lost count = record {
      consistent = whole_tree;
      kind_is = λ i. kind;
      info_is = refl;
      places_are = refl;
      dirs_at = h.tables.dirs_at;
      files_at = h.tables.files_at;
      blocks_are = h.blocks ∙ by_chains (λ chains. found.blocks.items
          ≡ table_blocks here.dirs.table (chains Dir) ++ table_blocks here.files.table (chains File))
          h.structure.blocks;
      held_are = λ entry. (λ is. h.files.holds.only entry is, λ one. h.files.holds.each one.0 entry one.1);
      free_blocks = h.free ∙ h.structure.free_len ∙ ap (λ (l : List ℕ). length l) (sym h.files.free);
      free_dirs = by_chains (λ chains. IsRoomOf ((tree_tables size here chains cells).table Dir) audited.free_dirs)
          h.tables.free_dirs;
      free_files = by_chains (λ chains. IsRoomOf ((tree_tables size here chains cells).table File) audited.free_files)
          h.tables.free_files;
      lost_are = lost_lists here.chain.count lost count;
    }

  -- what is kept of such a filesystem
  pub mounted_by : (inside : front_len split size ≤ size) (info : Information) (p : Places)
      → IsPlaced kind size split cells info → p ≡ here → (found done : Structure) (audited : Audited)
      (lists all : Holder → List ℕ) → IsWhole info p found done audited lists all → (m : Mounted)
      → m ≡ mount_with kind info p done audited m.lost → IsCountOf (IsUnheld p.chain.count done.held) m.lost
      → IsMountOf kind size split cells m all
  mounted_by inside info p placed p_is found done audited lists all h m is count =
      let at_info : IsWhole (information_in cells) p found done audited lists all =
      subst (λ (i : Information). IsWhole i p found done audited lists all) placed.info_is h in
      let at_here : IsWhole (information_in cells) here found done audited lists all =
      subst (λ (q : Places). IsWhole (information_in cells) q found done audited lists all) p_is at_info in
      let mounted = mounted_here inside info placed found done audited lists all at_here m.lost
      (subst (λ (q : Places). IsCountOf (IsUnheld q.chain.count done.held) m.lost) p_is count) in
      subst (λ (n : Mounted). IsMountOf kind size split cells n all)
      (sym (is ∙ ap (λ (i : Information). mount_with kind i p done audited m.lost) placed.info_is
      ∙ ap (λ (q : Places). mount_with kind (information_in cells) q done audited m.lost) p_is)) mounted

  module _ (info : Information) (placed : IsPlaced kind size split cells info) (found : Structure)
      (lists : Holder → List ℕ) where
    tables_here : HasStructure cells here found lists → (fault : MountFault)
        → HasTablesCause kind split size (information_in cells) (table_info size here Dir) (table_info size here File)
        (laid_cells size here (table_chains lists) cells) fault → HasMountCause kind size split cells fault
    tables_here structure Memory cause = tt
    tables_here structure Disk cause = tt
    tables_here structure (Damaged part level block) (inl (table, first)) =
        InTables (table_chains lists) structure.tables (
          table,
          counts_blamed table (info_of (table_info size here Dir) (table_info size here File) table)
              (laid_cells size here (table_chains lists) cells) part level block first,
        )
    tables_here structure (Damaged part level block) (inr (layout, blamed)) =
        InTables (table_chains lists) structure.tables blamed
    tables_here structure (Broken number entry) (layout, fails) =
        BreaksInTables (table_chains lists) structure.tables layout (OfTables fails)
    tables_here structure NotSave cause = absurd cause
    tables_here structure (Layout condition) cause =
        (placed.header, WithTheTables (table_chains lists) structure.tables cause)

    files_here : HasStructure cells here found lists
        → layout_fault kind split size (information_in cells) (tree_tables size here (table_chains lists) cells) ≡ None
        → kind ≡ Save → (fault : MountFault) → HasFilesCause (table_in cells here.chain) here
        (tree_tables size here (table_chains lists) cells) fault → HasMountCause kind size split cells fault
    files_here structure layout is_save Memory cause = absurd cause
    files_here structure layout is_save Disk cause = tt
    files_here structure layout is_save (Damaged part level block) (entry, (e, used, needs), fault) =
        InFile is_save (table_chains lists) structure.tables e entry used needs fault
    files_here structure layout is_save (Broken number entry) cause =
        BreaksInTables (table_chains lists) structure.tables layout
        (subst (λ (k : TreeKind). TreeFailsAt k (table_in cells here.chain) here
        (tree_tables size here (table_chains lists) cells) number entry) (sym is_save) cause)
    files_here structure layout is_save NotSave cause = absurd cause
    files_here structure layout is_save (Layout condition) cause = absurd cause

    -- why its tables are refused, as why it is
    pub tables_refused : (p : Places) → p ≡ here → HasStructure cells p found lists → (fault : MountFault)
        → HasTablesCause kind split size info (table_info size p Dir) (table_info size p File)
        (laid_cells size p (table_chains lists) cells) fault → HasMountCause kind size split cells fault
    tables_refused p p_is structure fault cause =
        tables_here (subst (λ (q : Places). HasStructure cells q found lists) p_is structure) fault
        (subst (λ (q : Places). HasTablesCause kind split size (information_in cells) (table_info size q Dir)
        (table_info size q File) (laid_cells size q (table_chains lists) cells) fault) p_is
        (subst (λ (i : Information). HasTablesCause kind split size i (table_info size p Dir) (table_info size p File)
        (laid_cells size p (table_chains lists) cells) fault) placed.info_is cause))

    -- and the chains of its files
    pub files_refused : (p : Places) → p ≡ here → HasStructure cells p found lists
        → layout_fault kind split size info (tree_tables size p (table_chains lists) cells) ≡ None
        → kind ≡ Save → (fault : MountFault) → HasFilesCause (table_in cells p.chain) p
        (tree_tables size p (table_chains lists) cells) fault → HasMountCause kind size split cells fault
    files_refused p p_is structure layout is_save fault cause =
        files_here (subst (λ (q : Places). HasStructure cells q found lists) p_is structure)
        (subst (λ (q : Places). layout_fault kind split size (information_in cells)
        (tree_tables size q (table_chains lists) cells) ≡ None) p_is
        (subst (λ (i : Information). layout_fault kind split size i (tree_tables size p (table_chains lists) cells)
        ≡ None) placed.info_is layout)) is_save fault
        (subst (λ (q : Places). HasFilesCause (table_in cells q.chain) q (tree_tables size q (table_chains lists) cells)
        fault) p_is cause)
