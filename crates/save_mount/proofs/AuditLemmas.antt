-- Both tables, read after one another, as they were before.
use Rattle.std.proofs.Common.{◌≡◌, ℕ, ◌+◌, ◌<◌, ◌≤◌, [], IsTrue, Option, Some}
use Rattle.std.proofs.Common.{None, refl, sym, ◌∙◌, ap, subst, arith, inl, inr}
use Rattle.std.proofs.lemmas.Option.{none-some}
use Rattle.save_bytes.specs.declared.space.Bad.{Bad}
use Rattle.save_bytes.specs.declared.space.Bad.TheVariants as bad
use Rattle.save_bytes.specs.Cells.{Cell, IsByte, Blames}
use Rattle.save_bytes.specs.CellNumbers.{value_of, number_in}
use Rattle.save_bytes.specs.State.{State}
use Rattle.save_bytes.specs.Answers.{IsFirstFault}
use Rattle.save_bytes.specs.Refusals.{IfDamaged}
use Rattle.save_bytes.specs.Stays.{Stays}
use Rattle.container_header.specs.Conditions.{first_failing}
use Rattle.entry_tables.specs.declared.table.EntryKind.{EntryKind}
use Rattle.entry_tables.specs.declared.table.EntryKind.TheVariants.{Dir, File}
use Rattle.entry_tables.specs.declared.table.EntryFault.TheVariants as fault
use Rattle.entry_tables.specs.declared.table.TableInfo.{TableInfo}
use Rattle.entry_tables.specs.declared.reads.Counts.{Counts}
use Rattle.entry_tables.specs.Kinds.{entry_size}
use Rattle.entry_tables.specs.Tables.{Table, Tables, table_in, tables_in, info_of}
use Rattle.entry_tables.specs.Fails.{OfFreed, NamesWrongly}
use Rattle.entry_tables.specs.Layout.{LiesWithin, HasCounts, HasEntryTable, IsNeeded}
use Rattle.entry_tables.specs.Layout.{OfZero, InZero}
use Rattle.entry_tables.proofs.EntryLemmas.{entry_long}
use Rattle.entry_audit.specs.declared.table.ReadTables.{ReadTables}
use Rattle.entry_audit.specs.declared.table.TableFault.{TableFault}
use Rattle.entry_audit.specs.declared.table.TableFault.TheVariants as table
use Rattle.entry_audit.specs.Read.{AreReadTables}
use Rattle.entry_audit.specs.Reading.{AreTold, BlamesCell, BlamesOne, FreedFailsAt, HasReadCause, HasNeededBytes}
use Rattle.entry_audit.specs.Reading.{count_of, space_bad}
use Rattle.entry_audit.proofs.StayLemmas.{told_later, blamed_later}
use Rattle.tree_model.specs.declared.kind.TreeKind.{TreeKind}
use Rattle.tree_rules.specs.declared.information.Information.{Information}
use Rattle.tree_rules.specs.Layout.{place_faults, table_faults, layout_fault}
use Rattle.tree_rules.specs.Places.{places_of}
use Rattle.tree_rules.specs.Sound.{HasLayout}
use Rattle.tree_rules.proofs.LayoutLemmas.{layout_from}
use Rattle.tree_rules.proofs.SoftLemmas.{number_between, tables_same}
use Rattle.save_mount.specs.declared.fault.MountFault.{MountFault}
use Rattle.save_mount.specs.declared.fault.MountFault.TheVariants.{Memory, Disk, Damaged, Broken, NotSave, Layout}
use Rattle.save_mount.specs.Causes.{bad_of}
use Rattle.save_mount.specs.Audited.{CanAudit, AreCountsOf, AreCounted, AreFew}
use Rattle.save_mount.specs.Audited.{HasBadCounts, HasTablesCause, HasRuleCause, table_cause}
use Rattle.save_mount.proofs.InsideLemmas.{entry_inside, of_table_inside, needed_inside}
use Rattle.save_mount.proofs.PlaceLemmas.{table_decides}

-- the counts of a table that were read later
module _ (old mid : State) (stays : Stays old mid None) (told : IsTrue old.told) (kind : EntryKind) (info : TableInfo)
    (table : HasEntryTable old.shape kind info) where
  word_before : (at : ℕ) → at + 4 ≤ info.table_at + 8 → number_in 4 mid.cells at ≡ number_in 4 old.cells at
  word_before at fits = number_between 4 old.cells mid.cells at (λ x low high.
      ap value_of (stays.cells told x (omega (arith, high, fits, table.zero, entry_long kind))))

  pub counts_before : (counts : Counts) → AreCountsOf (table_in mid.cells kind info) counts
      → AreCountsOf (table_in old.cells kind info) counts
  counts_before counts h = record {
    count = h.count ∙ word_before info.table_at (omega arith);
    most = h.most ∙ word_before (info.table_at + 4) (omega arith);
  }

  pub known_before : HasCounts mid.cells info → HasCounts old.cells info
  known_before known k h = subst IsByte
      (stays.cells told (info.table_at + k) (omega (arith, h, table.zero, entry_long kind))) (known k h)

  -- a fault of the counts
  pub counts_fault : (part level block : ℕ) → IsFirstFault mid.cells info.table_at 8 part level block
      → IsFirstFault old.cells info.table_at 8 part level block
  counts_fault part level block first =
      let same : (k : ℕ) → k < 8 → mid.cells (info.table_at + k) ≡ old.cells (info.table_at + k) = λ k less.
      stays.cells told (info.table_at + k) (omega (arith, less, table.zero, entry_long kind)) in
      record {
        k = first.k;
        within = first.within;
        fault = subst (λ (cell : Cell). Blames cell part level block) (same first.k first.within) first.fault;
        before = λ j less. subst IsByte (same j (omega (arith, less, first.within))) (first.before j less);
      }

-- a fault of the counts is one of a needed cell
pub counts_blamed : (kind : EntryKind) (info : TableInfo) (cells : ℕ → Cell) (part level block : ℕ)
    → IsFirstFault cells info.table_at 8 part level block → BlamesCell kind info cells part level block
counts_blamed kind info cells part level block first =
    let within : LiesWithin info.table_at (entry_size kind) (info.table_at + first.k) = record {
      from = omega arith;
      before = omega (arith, first.within, entry_long kind);
    } in
    record {
      place = info.table_at + first.k;
      of_table = InZero within;
      needed = λ list. OfZero within;
      blames = first.fault;
    }

module _ (kind : TreeKind) (split : Option ℕ) (size : ℕ) (info : Information) where
  -- what a refusal of the space comes to
  pub bad_cause : (dirs files : TableInfo) (cells : ℕ → Cell) (fault : MountFault) (refusal : Bad)
      → bad_of fault ≡ Some refusal → IfDamaged (Some refusal) (HasBadCounts dirs files cells)
      → HasTablesCause kind split size info dirs files cells fault
  bad_cause dirs files cells Memory refusal is h = absurd (none-some refusal is)
  bad_cause dirs files cells Disk refusal is h = tt
  bad_cause dirs files cells (Damaged part level block) refusal is h =
      inl (subst (λ (found : Option Bad). IfDamaged found (HasBadCounts dirs files cells)) (sym is) h)
  bad_cause dirs files cells (Broken number entry) refusal is h = absurd (none-some refusal is)
  bad_cause dirs files cells NotSave refusal is h = absurd (none-some refusal is)
  bad_cause dirs files cells (Layout condition) refusal is h = absurd (none-some refusal is)

  -- the counts of tables
  abbrev counted_table : Counts → Table
  counted_table counts = record {
    count = counts.count;
    most = counts.most;
    buckets = 0;
    head = λ b. 0;
    parent = λ e. 0;
    name = λ e. [];
    sibling = λ e. 0;
    link = λ e. 0;
  }

  abbrev counted_on : Counts → Counts → EntryKind → Table
  counted_on dirs files Dir = counted_table dirs
  counted_on dirs files File = counted_table files

  abbrev counted_tables : Counts → Counts → Tables
  counted_tables dirs files = record {
    table = counted_on dirs files;
    first = λ kind d. 0;
    start = λ e. 0;
    wide = λ e. 0;
  }

  module _ (faultless : first_failing 1 (place_faults kind split size info) ≡ None) (dirs files : Counts)
      (found : Option ℕ) (decides : (t : Tables) → dirs.count ≡ (t.table Dir).count → dirs.most ≡ (t.table Dir).most
      → files.count ≡ (t.table File).count → files.most ≡ (t.table File).most
      → found ≡ first_failing 6 (table_faults kind split size info t)) where
    -- which condition fails of tables that have these counts
    pub layout_is : (t : Tables) → AreCountsOf (t.table Dir) dirs → AreCountsOf (t.table File) files
        → layout_fault kind split size info t ≡ found
    layout_is t d f = table_decides kind split size info t faultless ∙ sym (decides t d.count d.most f.count f.most)

    pub few_counts : found ≡ None → AreFew (dirs, files)
    few_counts none =
        let t = counted_tables dirs files in
        let h = layout_from kind split size info t
        (layout_is t (record { count = refl; most = refl }) (record { count = refl; most = refl }) ∙ none) in
        record {
          dirs = (h.counts Dir).most;
          few_dirs = (h.most Dir).most;
          files = (h.counts File).most;
          few_files = omega (arith, (h.most File).most);
        }

-- tables of which no condition fails lie in the space as a whole
module _ (s : State) (kind : TreeKind) (split : Option ℕ) (size : ℕ) (info : Information) (dirs files : TableInfo)
    (can : CanAudit s.shape kind split size info dirs files) (told : IsTrue s.told) (counts : Counts × Counts)
    (counted : AreCounted kind split size info dirs files s.cells counts) where
  abbrev t : Tables
  t = tables_in s.cells dirs files

  pub tables_told : AreTold s dirs files counts.0.count counts.1.count
  tables_told table = record {
    tells = record {
      told = told;
      entries = λ known e below. entry_inside s.shape s.cells kind split size info dirs files can counted.layout table e
          below;
      least = λ known. (h.counts table).least;
      most = λ known. (h.counts table).most;
    };
    known = counted.known table;
    counted = count_is table;
  } where
    h : HasLayout kind split size info (places_of kind split info) t
    h = layout_from kind split size info t counted.layout

    count_is : (table : EntryKind) → (t.table table).count ≡ count_of counts.0.count counts.1.count table
    count_is Dir = sym counted.dir_counts.count
    count_is File = sym counted.file_counts.count

  -- what was read later
  module _ (mid : State) (stays : Stays s mid None) where
    pub told_still : AreTold mid dirs files counts.0.count counts.1.count
    told_still table = told_later s mid stays table (info_of dirs files table) (can.tables table)
        (count_of counts.0.count counts.1.count table) (tables_told table)

    pub tables_before : tables_in mid.cells dirs files ≡ t
    tables_before = tables_same dirs files s.cells mid.cells
        (λ table x within. ap value_of (stays.cells told x
        (of_table_inside s.shape s.cells kind split size info dirs files can counted.layout table x within)))

    pub blamed_before : (part level block : ℕ) → BlamesOne dirs files mid.cells part level block
        → BlamesOne dirs files s.cells part level block
    blamed_before part level block h = (
      h.0,
      blamed_later s mid stays h.0 (info_of dirs files h.0) (can.tables h.0)
          (count_of counts.0.count counts.1.count h.0) part level block (tables_told h.0) h.1,
    )

    pub bytes_before : (read : ReadTables) → AreReadTables t read → HasNeededBytes dirs files mid.cells
        → HasNeededBytes dirs files s.cells
    bytes_before read are bytes table x needed =
        subst IsByte (stays.cells told x
        (needed_inside s.shape s.cells kind split size info dirs files can counted.layout table x (are table).freed
        needed))
        (bytes table x (subst (λ (t : Tables). IsNeeded table (info_of dirs files table) (t.table table) x)
        (sym tables_before) needed))

    -- why they are refused
    pub tables_cause : (fault : TableFault) → HasReadCause mid.shape.plain
        (AreTold mid dirs files counts.0.count counts.1.count) (BlamesOne dirs files mid.cells)
        (FreedFailsAt (tables_in mid.cells dirs files)) (Some fault)
        → HasTablesCause kind split size info dirs files s.cells (table_cause fault)
    tables_cause table.Memory h = tt
    tables_cause (table.Entries (fault.Bad bad.Disk)) h = tt
    tables_cause (table.Entries (fault.Bad (bad.Damaged part level block))) h =
        inr (counted.layout, blamed_before part level block (h.damaged told_still))
    tables_cause (table.Entries (fault.Broken number entry)) h =
        let fails = h.broken told_still in (
          counted.layout,
          OfFreed fails.0 fails.1
              (subst (λ (t : Tables). NamesWrongly fails.0 (t.table fails.0) entry) tables_before fails.2),
        )
    tables_cause (table.Entries (fault.NoEntry most)) h = tt

-- the refusal that the fault of a table passes on
pub bad_of_table : (fault : TableFault) → bad_of (table_cause fault) ≡ space_bad (Some fault)
bad_of_table table.Memory = refl
bad_of_table (table.Entries (fault.Bad bad.Disk)) = refl
bad_of_table (table.Entries (fault.Bad (bad.Damaged part level block))) = refl
bad_of_table (table.Entries (fault.Broken number entry)) = refl
bad_of_table (table.Entries (fault.NoEntry most)) = refl

-- a rule alone
pub rule_cause : (kind : TreeKind) (split : Option ℕ) (size : ℕ) (info : Information) (dirs files : TableInfo)
    (cells : ℕ → Cell) (fault : MountFault)
    → layout_fault kind split size info (tables_in cells dirs files) ≡ None
    → HasRuleCause (tables_in cells dirs files) fault → HasTablesCause kind split size info dirs files cells fault
rule_cause kind split size info dirs files cells Memory layout h = tt
rule_cause kind split size info dirs files cells Disk layout h = tt
rule_cause kind split size info dirs files cells (Damaged part level block) layout h = absurd h
rule_cause kind split size info dirs files cells (Broken number entry) layout h = (layout, h)
rule_cause kind split size info dirs files cells NotSave layout h = absurd h
rule_cause kind split size info dirs files cells (Layout condition) layout h = absurd h
