-- The free list and the chains of the tables, as lists of their holders.
use Rattle.std.proofs.Common.{◌≡◌, ℕ, false, List, [], ◌++◌, refl, sym, ◌∙◌, ap, subst}
use Rattle.save_bytes.specs.Cells.{Cell}
use Rattle.chain_nodes.specs.declared.node.Lead.TheVariants.{Opens}
use Rattle.chain_nodes.specs.Table.{table_in}
use Rattle.chain_nodes.specs.Chains.{IsLinkedBy}
use Rattle.chain_nodes.specs.Faults.IsFreeBroken.{AtRoot as RootBroken}
use Rattle.entry_tables.specs.declared.table.EntryKind.{EntryKind}
use Rattle.entry_tables.specs.declared.table.EntryKind.TheVariants.{Dir, File}
use Rattle.entry_tables.specs.Tables.{Tables}
use Rattle.held_lists.specs.declared.set.EntrySet.{EntrySet}
use Rattle.held_lists.specs.Sets.{has_entry}
use Rattle.held_lists.specs.Walks.{TakesAll, IsListFault}
use Rattle.tree_model.specs.declared.kind.TreeKind.{TreeKind}
use Rattle.tree_rules.specs.declared.information.TableAt.{TableAt}
use Rattle.tree_rules.specs.declared.information.TableAt.TheVariants.{Plainly, InChain}
use Rattle.tree_rules.specs.declared.information.Places.{Places}
use Rattle.tree_rules.specs.Places.{table_lies, table_blocks}
use Rattle.tree_rules.specs.Lists.{Holder, Free, OfTable, IsTableList}
use Rattle.tree_rules.specs.Fails.{table_first}
use Rattle.tree_rules.specs.Fails.TreeFailsAt.{OfList, OfShort}
use Rattle.save_mount.specs.declared.structure.Structure.{Structure}
use Rattle.save_mount.specs.Held.{IsFreeFault, IsTableFault}
use Rattle.save_mount.specs.Held.IsFreeFault.{AtRoot, InFree}
use Rattle.save_mount.specs.Held.IsChainFault.{InTableChain, TooFewBlocks}
use Rattle.save_mount.specs.Holders.{with_list, HoldsLists}
use Rattle.save_mount.specs.Structure.{IsFreeHeld, HasStructure, FailsInStructure}
use Rattle.save_mount.proofs.HolderLemmas.{holds_none, holds_more, list_fails}

abbrev pub no_lists : Holder → List ℕ
no_lists holder = []

-- the list of a table as one that is linked
table_linked : (table : ℕ → ℕ → Cell) (count : ℕ) (at : TableAt) (list : List ℕ) → IsTableList table count at list
    → IsLinkedBy table count Opens (table_first at) list
table_linked table count (Plainly at) list none = subst (IsLinkedBy table count Opens 0) (sym none)
    (record { nodes = []; linked = tt; starts = refl; entries = refl })
table_linked table count (InChain first blocks) list h = h.0.linked

module _ (cells : ℕ → Cell) (p : Places) where
  abbrev table : ℕ → ℕ → Cell
  table = table_in cells p.chain

  pub free_holds : (found : Structure) (h : IsFreeHeld table p.chain.count found) (kind : TreeKind) (t : Tables)
      → HoldsLists kind table p t found.held (with_list no_lists Free h.list)
  free_holds found h kind t = holds_more kind table p t h.none no_lists (holds_none kind table p t h.none h.is_none)
      Free tt refl found.held h.list h.takes h.free.linked

  pub free_fails : (none : EntrySet) → ((entry : ℕ) → has_entry none entry ≡ false) → (entry : ℕ)
      → IsFreeFault table p.chain.count none entry → FailsInStructure cells p entry
  free_fails none is_none entry (AtRoot is words past) kind t = OfList Free tt refl (RootBroken is words past)
  free_fails none is_none entry (InFree fault) kind t =
      list_fails kind table p t none no_lists (holds_none kind table p t none is_none) Free tt refl entry fault

  module _ (held : EntrySet) (lists : Holder → List ℕ)
      (holds : (kind : TreeKind) (t : Tables) → HoldsLists kind table p t held lists) (entries : EntryKind)
      (none : lists (OfTable entries) ≡ []) where
    pub table_holds : (new : EntrySet) (list : List ℕ) → IsTableList table p.chain.count (table_lies p entries) list
        → TakesAll held new list → (kind : TreeKind) (t : Tables)
        → HoldsLists kind table p t new (with_list lists (OfTable entries) list)
    table_holds new list is takes kind t = holds_more kind table p t held lists (holds kind t) (OfTable entries) tt none
        new list takes (table_linked table p.chain.count (table_lies p entries) list is)

    fails_at : (at : TableAt) → table_lies p entries ≡ at → (entry : ℕ)
        → IsTableFault table p.chain.count at held entry → FailsInStructure cells p entry
    fails_at (Plainly x) lies entry fault kind t = absurd fault
    fails_at (InChain first blocks) lies entry (InTableChain fault) kind t =
        list_fails kind table p t held lists (holds kind t) (OfTable entries) tt none entry
        (subst (λ (at : TableAt). IsListFault table p.chain.count Opens (table_first at) held entry) (sym lies) fault)
    fails_at (InChain first blocks) lies entry (TooFewBlocks named list chain short) kind t = OfShort entries refl (record {
      blocks = blocks;
      first = first;
      lies = lies;
      named = named;
      list = list;
      chain = chain;
      short = short;
    })

    pub table_fails : (entry : ℕ) → IsTableFault table p.chain.count (table_lies p entries) held entry
        → FailsInStructure cells p entry
    table_fails entry fault = fails_at (table_lies p entries) refl entry fault

  -- all of them
  pub structure_of : (begun : Structure) (h : IsFreeHeld table p.chain.count begun) (half done : Structure)
      (dirs files : List ℕ) → IsTableList table p.chain.count (table_lies p Dir) dirs
      → TakesAll begun.held half.held dirs → half.blocks.items ≡ begun.blocks.items ++ table_blocks (table_lies p Dir) dirs
      → half.free ≡ begun.free
      → IsTableList table p.chain.count (table_lies p File) files
      → TakesAll half.held done.held files
      → done.blocks.items ≡ half.blocks.items ++ table_blocks (table_lies p File) files → done.free ≡ half.free
      → (lists : Holder → List ℕ) × HasStructure cells p done lists
  structure_of begun h half done dirs files dirs_list dirs_held dirs_blocks dirs_free files_list files_held files_blocks
      files_free =
      let first = with_list no_lists Free h.list in
      let second = with_list first (OfTable Dir) dirs in (
        with_list second (OfTable File) files,
        record {
          holds = table_holds half.held second
              (table_holds begun.held first (free_holds begun h) Dir refl half.held dirs dirs_list dirs_held)
              File refl done.held files files_list files_held;
          free = h.free;
          free_len = files_free ∙ dirs_free ∙ h.len;
          tables = λ entries. (table_of entries);
          files = λ e. refl;
          blocks = files_blocks ∙ ap (λ (l : List ℕ). l ++ table_blocks p.files.table files)
              (dirs_blocks ∙ ap (λ (l : List ℕ). l ++ table_blocks p.dirs.table dirs) h.no_blocks);
        },
      ) where
        table_of : (entries : EntryKind) → IsTableList table p.chain.count (table_lies p entries)
            (with_list (with_list (with_list no_lists Free h.list) (OfTable Dir) dirs) (OfTable File) files
            (OfTable entries))
        table_of Dir = dirs_list
        table_of File = files_list
