-- Where cells hold a tree, there is no cause of a refusal.
use Rattle.std.proofs.Common.{◌≡◌, ℕ, ◌+◌, ◌^◌, ◌<◌, List, Option, Some, sym, ◌∙◌, subst, arith}
use Rattle.std.proofs.lemmas.Option.{none-some}
use Rattle.save_bytes.specs.Cells.{Cell, IsByte, Blames, Byte, Blank, Spoilt}
use Rattle.chain_nodes.specs.declared.info.ChainInfo.{ChainInfo}
use Rattle.chain_nodes.specs.declared.node.Lead.TheVariants.{Opens}
use Rattle.chain_nodes.specs.Table.{table_in, HasFault}
use Rattle.chain_nodes.proofs.ExactLemmas.{no_failure, no_free_need}
use Rattle.entry_tables.specs.declared.table.EntryKind.{EntryKind}
use Rattle.entry_tables.specs.declared.table.EntryKind.TheVariants.{Dir, File}
use Rattle.entry_tables.specs.Tables.{Tables}
use Rattle.entry_tables.specs.Used.{used_entries}
use Rattle.entry_audit.specs.Reading.{BlamesOne}
use Rattle.tree_model.specs.declared.kind.TreeKind.{TreeKind}
use Rattle.tree_model.specs.declared.kind.TreeKind.TheVariants.{Save}
use Rattle.tree_layout.specs.Headers.{IsOther, HasBadHeader}
use Rattle.tree_layout.specs.Headers.IsOther.{IsTooShort, BeginsElse}
use Rattle.tree_layout.specs.Headers.HasBadHeader.{AtFront, BehindFront}
use Rattle.tree_rules.specs.declared.information.TableAt.{TableAt}
use Rattle.tree_rules.specs.declared.information.TableAt.TheVariants.{Plainly, InChain}
use Rattle.tree_rules.specs.declared.information.Places.{Places}
use Rattle.tree_rules.specs.Information.{information_in}
use Rattle.tree_rules.specs.Layout.{layout_fault}
use Rattle.tree_rules.specs.Lists.{Holder, Free, OfTable, OfFile, IsTableList, IsFileList, IsListOfFile}
use Rattle.tree_rules.specs.Lists.IsFileList.{HasNone, HasSome}
use Rattle.tree_rules.specs.Places.{table_lies, table_info, laid_cells}
use Rattle.tree_rules.specs.Trees.{table_chains, IsConsistentTree}
use Rattle.tree_rules.proofs.FailLaws.{nothing_breaks}
use Rattle.tree_rules.proofs.LayoutLemmas.{layout_from}
use Rattle.tree_rules.proofs.ListLaws.{one_table_list}
use Rattle.tree_rules.proofs.OneTree.{few_entries}
use Rattle.save_mount.specs.declared.fault.MountFault.{MountFault}
use Rattle.save_mount.specs.declared.fault.MountFault.TheVariants.{Memory, Disk, Damaged, Broken, NotSave, Layout}
use Rattle.save_mount.specs.Held.{TableNeeds, FileNeeds}
use Rattle.save_mount.specs.Structure.{NeedsStructure}
use Rattle.save_mount.specs.Structure.NeedsStructure.{NeedsFree, NeedsChain}
use Rattle.save_mount.specs.Mounts.{places_in, tables_of, AreTableChains, FailsFirst, BlamesMount, HasMountCause}
use Rattle.save_mount.specs.Mounts.FailsFirst.{WithAnyTables, WithTheTables}
use Rattle.save_mount.specs.Mounts.BlamesMount.{InHeader, InInformation, InLists, InTables, InFile}
use Rattle.save_mount.specs.Mounted.{IsMemoryOrDisk}
use Rattle.save_mount.proofs.PlaceLemmas.{information_place}

byte_blames : (cell : Cell) (part level block : ℕ) → IsByte cell → ¬ Blames cell part level block
byte_blames (Byte value) part level block is blames = blames
byte_blames (Blank p l b) part level block is blames = is
byte_blames (Spoilt p l b) part level block is blames = is

-- a list that is as it should be needs no entry that is not
table_needs : (table : ℕ → ℕ → Cell) (count : ℕ) → count < 2 ^ 31 → (at : TableAt) (list : List ℕ)
    → IsTableList table count at list → (entry : ℕ) → ¬ TableNeeds table count at entry
table_needs table count few (Plainly at) list is entry needs = needs
table_needs table count few (InChain first blocks) list is entry fails =
    no_failure table count few Opens (first + 1) list is.0.linked entry fails

file_needs : (table : ℕ → ℕ → Cell) (chain : ChainInfo) → chain.count < 2 ^ 31 → (start size : ℕ) (list : List ℕ)
    → IsFileList table chain start size list → (entry : ℕ) → ¬ FileNeeds table chain.count start entry
file_needs table chain few start size list (HasNone none empty is) entry (below, fails) =
    omega (arith, none, below, few)
file_needs table chain few start size list (HasSome below is enough) entry (less, fails) =
    no_failure table chain.count few Opens (start + 1) list is.linked entry fails

module _ (kind : TreeKind) (size : ℕ) (split : Option ℕ) (cells : ℕ → Cell) (lists : Holder → List ℕ)
    (h : IsConsistentTree kind size split cells lists) where
  abbrev p : Places
  p = places_in kind split cells

  abbrev table : ℕ → ℕ → Cell
  table = table_in cells p.chain

  abbrev t : Tables
  t = tables_of kind size split cells (table_chains lists)

  few : p.chain.count < 2 ^ 31
  few = few_entries kind size split cells lists h

  chains_same : (chains : EntryKind → List ℕ) → AreTableChains kind split cells chains → chains ≡ table_chains lists
  chains_same chains are = λ i entries. one_table_list table p.chain.count few (table_lies p entries) (chains entries)
      (lists (OfTable entries)) (are entries) (h.listed (OfTable entries)) i

  header_whole : (part level block : ℕ) → ¬ HasBadHeader kind size cells part level block
  header_whole part level block (AtFront fits first) =
      byte_blames (cells (0 + first.k)) part level block (h.header_read (0 + first.k) (omega (arith, first.within)))
      first.fault
  header_whole part level block (BehindFront fits lettered first) =
      byte_blames (cells (8 + first.k)) part level block (h.header_read (8 + first.k) (omega (arith, first.within)))
      first.fault

  lists_whole : (entry part level block : ℕ) → NeedsStructure table p entry → ¬ HasFault table entry part level block
  lists_whole entry part level block (NeedsFree need) fault =
      no_free_need table p.chain.count (lists Free) few (h.listed Free).read (h.listed Free).linked entry part level
      block need fault
  lists_whole entry part level block (NeedsChain entries needs) fault =
      table_needs table p.chain.count few (table_lies p entries) (lists (OfTable entries)) (h.listed (OfTable entries))
      entry needs

  tables_whole : (part level block : ℕ) → ¬ BlamesOne (table_info size p Dir) (table_info size p File)
      (laid_cells size p (table_chains lists) cells) part level block
  tables_whole part level block (Dir, blamed) =
      byte_blames (laid_cells size p (table_chains lists) cells blamed.place) part level block
      (h.tables_read Dir blamed.place (blamed.needed (h.orderly.freed Dir))) blamed.blames
  tables_whole part level block (File, blamed) =
      byte_blames (laid_cells size p (table_chains lists) cells blamed.place) part level block
      (h.tables_read File blamed.place (blamed.needed (h.orderly.freed File))) blamed.blames

  file_whole : (e entry : ℕ) → kind ≡ Save → used_entries (t.table File) e
      → ¬ FileNeeds table p.chain.count (t.start e) entry
  file_whole e entry is_save used =
      file_needs table p.chain few (t.start e) (t.wide e) (lists (OfFile e))
      (subst (λ (k : TreeKind). IsListOfFile k table p.chain t e (lists (OfFile e))) is_save
      ((h.listed (OfFile e)).0 used)) entry

  nothing_blamed : (part level block : ℕ) → ¬ BlamesMount kind size split cells part level block
  nothing_blamed part level block (InHeader bad) = header_whole part level block bad
  nothing_blamed part level block (InInformation header first) =
      byte_blames (cells ((information_in cells).at + first.k)) part level block
      (h.information_read first.k first.within)
      (subst (λ (n : ℕ). Blames (cells (n + first.k)) part level block) (sym (information_place cells)) first.fault)
  nothing_blamed part level block (InLists entry needs fault) = lists_whole entry part level block needs fault
  nothing_blamed part level block (InTables chains are blamed) =
      tables_whole part level block
      (subst (λ (c : EntryKind → List ℕ). BlamesOne (table_info size p Dir) (table_info size p File)
      (laid_cells size p c cells) part level block) (chains_same chains are) blamed)
  nothing_blamed part level block (InFile is_save chains are e entry used needs fault) =
      let both = subst (λ (c : EntryKind → List ℕ). used_entries ((tables_of kind size split cells c).table File) e
      × FileNeeds table p.chain.count ((tables_of kind size split cells c).start e) entry)
      (chains_same chains are) (used, needs) in
      file_whole e entry is_save both.0 both.1

  nothing_first : (condition : ℕ) → ¬ FailsFirst kind size split cells condition
  nothing_first condition (WithAnyTables fails) = none-some condition (sym h.layout ∙ fails t)
  nothing_first condition (WithTheTables chains are fails) = none-some condition (sym h.layout
      ∙ subst (λ (c : EntryKind → List ℕ). layout_fault kind split size (information_in cells)
      (tables_of kind size split cells c) ≡ Some condition) (chains_same chains are) fails)

  not_other : ¬ IsOther kind size cells
  not_other (IsTooShort short) =
      let places = (layout_from kind split size (information_in cells) t h.layout).places in
      omega (arith, short, places.behind_header, places.information_inside, h.inside)
  not_other (BeginsElse fits read other) = other h.lettered

  pub no_cause : (fault : MountFault) → HasMountCause kind size split cells fault → IsMemoryOrDisk fault
  no_cause Memory cause = tt
  no_cause Disk cause = tt
  no_cause (Damaged part level block) cause = nothing_blamed part level block cause
  no_cause (Broken number entry) cause = nothing_breaks kind size split cells lists h number entry cause
  no_cause NotSave cause = not_other cause
  no_cause (Layout condition) cause = nothing_first condition cause.1
