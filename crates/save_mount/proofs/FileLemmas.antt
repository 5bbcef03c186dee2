-- The chains of files, as lists of their holders.
use Rattle.std.proofs.Common.{◌≡◌, ℕ, ◌+◌, ◌<◌, ◌≤◌, ◌^◌, IsTrue, Option, Some, None, List, [], length}
use Rattle.std.proofs.Common.{get_or, refl, sym, ◌∙◌, ap, subst, arith, inl, inr}
use Rattle.std.proofs.lemmas.Bool.{eq-eqb, ne_eqb, cases_lt}
use Rattle.std.proofs.lemmas.Option.{slice_get-get_or}
use Rattle.save_bytes.specs.declared.space.Bad.TheVariants as bad
use Rattle.save_bytes.specs.Cells.{Cell}
use Rattle.save_bytes.specs.State.{State}
use Rattle.chain_nodes.specs.declared.info.ChainInfo.{ChainInfo}
use Rattle.chain_nodes.specs.declared.fault.ChainFault.{ChainFault}
use Rattle.chain_nodes.specs.declared.fault.ChainFault.TheVariants as chain
use Rattle.chain_nodes.specs.declared.node.Lead.TheVariants.{Opens}
use Rattle.chain_nodes.specs.Table.{table_in}
use Rattle.chain_nodes.specs.Chains.{IsLinkedBy}
use Rattle.chain_nodes.specs.Faults.{FaultsOnly}
use Rattle.entry_tables.specs.declared.table.EntryKind.{EntryKind}
use Rattle.entry_tables.specs.declared.table.EntryKind.TheVariants.{File}
use Rattle.entry_tables.specs.Tables.{Tables}
use Rattle.entry_tables.specs.Used.{used_entries}
use Rattle.entry_audit.specs.declared.table.ReadEntry.{ReadEntry}
use Rattle.entry_audit.specs.Read.{IsReadOf}
use Rattle.held_lists.specs.declared.set.EntrySet.{EntrySet}
use Rattle.held_lists.specs.Walks.{TakesAll, IsListFault}
use Rattle.tree_model.specs.declared.kind.TreeKind.TheVariants.{Save}
use Rattle.tree_rules.specs.declared.information.Places.{Places}
use Rattle.tree_rules.specs.Lists.{Holder, Free, OfTable, OfFile, no_block, IsFileList, IsListOf}
use Rattle.tree_rules.specs.Lists.IsFileList.{HasNone, HasSome}
use Rattle.tree_rules.specs.Fails.{file_first, IsWrongFile, TreeFailsAt}
use Rattle.tree_rules.specs.Fails.TreeFailsAt.{OfWrongFile}
use Rattle.save_mount.specs.declared.fault.MountFault.TheVariants.{Broken}
use Rattle.save_mount.specs.Causes.{list_fault}
use Rattle.save_mount.specs.Held.{IsFileFault, FileNeeds}
use Rattle.save_mount.specs.Holders.{with_list, HoldsLists}
use Rattle.save_mount.specs.Files.{AreReadFiles, HasFileList, HasNoFileLists, HasFileLists, HasFilesCause}
use Rattle.save_mount.proofs.HolderLemmas.{holds_more, list_fails}

-- where the list of a file with data blocks begins
some_first : (start : ℕ) → start < 2 ^ 31 → file_first Save start ≡ start + 1
some_first start few = rw (ne_eqb start no_block (λ same. omega (arith, same, few))) refl

-- the list of a file as one that is linked
file_linked : (table : ℕ → ℕ → Cell) (chain : ChainInfo) (start size : ℕ) (list : List ℕ) → chain.count < 2 ^ 31
    → IsFileList table chain start size list → IsLinkedBy table chain.count Opens (file_first Save start) list
file_linked table chain start size list few (HasNone is empty none) = record {
  nodes = [];
  linked = tt;
  starts = rw (eq-eqb start no_block is) refl;
  entries = sym none;
}
file_linked table chain start size list few (HasSome below is enough) =
    subst (λ (first : ℕ). IsLinkedBy table chain.count Opens first list)
    (sym (some_first start (omega (arith, below, few)))) is.linked

module _ (table : ℕ → ℕ → Cell) (p : Places) (t : Tables) where
  module _ (held : EntrySet) (lists : Holder → List ℕ) (holds : HoldsLists Save table p t held lists) (e : ℕ) where
    -- what is not used has no list
    pub unused_holds : (¬ used_entries (t.table File) e) → lists (OfFile e) ≡ []
        → HasFileList table p t e lists held lists
    unused_holds unused none = record {
      holds = holds;
      free = refl;
      tables = λ entries. refl;
      others = λ other different. refl;
      file = (λ used. absurd (unused used), λ not. none);
    }

    module _ (few : p.chain.count < 2 ^ 31) (read : ReadEntry) (is : IsReadOf File t e (Some read))
        (none : lists (OfFile e) ≡ []) where
      pub file_holds : (new : EntrySet) (list : List ℕ) → IsFileList table p.chain read.start read.wide list
          → TakesAll held new list → HasFileList table p t e lists new (with_list lists (OfFile e) list)
      file_holds new list has takes =
          let own : IsFileList table p.chain (t.start e) (t.wide e) list =
          subst (λ (size : ℕ). IsFileList table p.chain (t.start e) size list) is.1.own.1
          (subst (λ (start : ℕ). IsFileList table p.chain start read.wide list) is.1.own.0 has) in
          let self : with_list lists (OfFile e) list (OfFile e) ≡ list = rw (eq-eqb e e refl) refl in
          record {
            holds = holds_more Save table p t held lists holds (OfFile e) is.0 none new list takes
                (file_linked table p.chain (t.start e) (t.wide e) list few own);
            free = refl;
            tables = λ entries. refl;
            others = λ other different. rw (ne_eqb e other (λ same. different (sym same))) refl;
            file = subst (λ (l : List ℕ). IsListOf Save table p t (OfFile e) l) (sym self)
                (λ used. own, λ unused. absurd (unused is.0));
          }

      pub wrong_cause : IsWrongFile table p.chain read.start read.wide → HasFilesCause table p t (Broken 3 e)
      wrong_cause wrong =
          OfWrongFile refl refl is.0
          (subst (λ (size : ℕ). IsWrongFile table p.chain (t.start e) size) is.1.own.1
          (subst (λ (start : ℕ). IsWrongFile table p.chain start read.wide) is.1.own.0 wrong))

      file_fails : (entry : ℕ) → IsFileFault table p.chain.count read.start held entry
          → TreeFailsAt Save table p t 1 entry
      file_fails entry (below, fault) =
          list_fails Save table p t held lists holds (OfFile e) is.0 none entry
          (subst (λ (first : ℕ). IsListFault table p.chain.count Opens first held entry)
          (sym (some_first read.start (omega (arith, below, few))) ∙ ap (file_first Save) is.1.own.0) fault)

      file_needs : (entry : ℕ) → FileNeeds table p.chain.count read.start entry
          → FileNeeds table p.chain.count (t.start e) entry
      file_needs entry needs = subst (λ (start : ℕ). FileNeeds table p.chain.count start entry) is.1.own.0 needs

  -- the files below a number have their lists, and no other has one
  pub record HasFilesBelow (lists : Holder → List ℕ) (n : ℕ) (held : EntrySet) (all : Holder → List ℕ) : Type 0 where
    pub holds : HoldsLists Save table p t held all
    pub free : all Free ≡ lists Free
    pub tables : (entries : EntryKind) → all (OfTable entries) ≡ lists (OfTable entries)
    pub done : (e : ℕ) → e < n → IsListOf Save table p t (OfFile e) (all (OfFile e))
    pub rest : (e : ℕ) → n ≤ e → all (OfFile e) ≡ []

  pub below_none : (lists : Holder → List ℕ) (held : EntrySet) → HasNoFileLists Save table p t held lists
      → HasFilesBelow lists 0 held lists
  below_none lists held h = record {
    holds = h.holds;
    free = refl;
    tables = λ entries. refl;
    done = λ e below. absurd (omega (arith, below));
    rest = λ e past. h.files e;
  }

  module _ (lists : Holder → List ℕ) (n : ℕ) (held : EntrySet) (all : Holder → List ℕ)
      (h : HasFilesBelow lists n held all) where
    pub below_more : (new : EntrySet) (next : Holder → List ℕ) → HasFileList table p t n all new next
        → HasFilesBelow lists (n + 1) new next
    below_more new next more = record {
      holds = more.holds;
      free = more.free ∙ h.free;
      tables = λ entries. more.tables entries ∙ h.tables entries;
      done = λ e below. elim (cases_lt e n) [
        | inl before ↦ subst (λ (l : List ℕ). IsListOf Save table p t (OfFile e) l)
            (sym (more.others e (λ same. omega (arith, same, before)))) (h.done e before)
        | inr behind ↦ (let here : e ≡ n = omega (arith, below, behind) in
            subst (λ (x : ℕ). IsListOf Save table p t (OfFile x) (next (OfFile x))) (sym here) more.file)
      ];
      rest = λ e past. more.others e (λ same. omega (arith, same, past)) ∙ h.rest e (omega (arith, past));
    }

    pub below_all : (files : List (Option ReadEntry)) → AreReadFiles t files → length files ≤ n
        → HasFileLists Save table p t lists held all
    below_all files read past = record {
      holds = h.holds;
      free = h.free;
      tables = h.tables;
      files = λ e. elim (cases_lt e n) [
        | inl before ↦ h.done e before
        | inr behind ↦ (
          λ used. absurd (omega (arith, used.below, read.count, past, behind)),
          λ unused. h.rest e behind,
        )
      ];
    }

-- what was read of an entry
pub file_at : (t : Tables) (files : List (Option ReadEntry)) (e : ℕ) → AreReadFiles t files → e < length files
    → IsReadOf File t e (get_or files e None)
file_at t files e read below = rw (slice_get-get_or files e None below) at (read.entries e)

-- what the fault of a file's chain comes to
pub chain_cause : (s : State) (p : Places) (t : Tables) (held : EntrySet) (lists : Holder → List ℕ)
    → HoldsLists Save (table_in s.cells p.chain) p t held lists → (e : ℕ) → p.chain.count < 2 ^ 31 → (read : ReadEntry)
    → IsReadOf File t e (Some read) → lists (OfFile e) ≡ [] → (fault : ChainFault) → IsTrue s.told
    → FaultsOnly s p.chain (IsFileFault (table_in s.cells p.chain) p.chain.count read.start held)
    (FileNeeds (table_in s.cells p.chain) p.chain.count read.start) (Some fault)
    → HasFilesCause (table_in s.cells p.chain) p t (list_fault fault)
chain_cause s p t held lists holds e few read is none (chain.Bad bad.Disk) told h = tt
chain_cause s p t held lists holds e few read is none (chain.Bad (bad.Damaged part level block)) told h =
    let damaged = h.damaged told in (
      damaged.0,
      (e, is.0, file_needs (table_in s.cells p.chain) p t held lists holds e few read is none damaged.0 damaged.1),
      damaged.2,
    )
chain_cause s p t held lists holds e few read is none (chain.Broken entry) told h =
    file_fails (table_in s.cells p.chain) p t held lists holds e few read is none entry (h.broken told)
chain_cause s p t held lists holds e few read is none (chain.Short need have) told h = absurd h.never_short
