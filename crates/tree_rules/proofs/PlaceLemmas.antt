-- The places of a filesystem's structure lie in the store.
use Rattle.std.proofs.Common.{◌≡◌, ℕ, zero, suc, ◌+◌, ◌-◌, ◌*◌, ◌/◌, ◌%◌, ◌<◌, ◌≤◌, List, [], ◌∷◌, ◌++◌}
use Rattle.std.proofs.Common.{take, slice_index, sym, subst, arith, ⊎_elim}
use Rattle.std.proofs.lemmas.Bool.{cases_lt, lt-ltb, le-ltb}
use Rattle.std.proofs.lemmas.Nat.{mod_below}
use Rattle.std.proofs.Math.Nat.{mul-le-mul_right}
use Rattle.std.specs.List.{range_with_len, All}
use Rattle.std.proofs.lemmas.List.Elements.{All-from_get_or, All-take, All-map, All-append}
use Rattle.std.proofs.lemmas.List.FromFn.{get_or-range_with_len, length-range_with_len}
use Rattle.save_bytes.specs.Cells.{Cell}
use Rattle.chain_nodes.specs.declared.info.ChainInfo.{ChainInfo}
use Rattle.chain_nodes.specs.declared.node.Node.{Node}
use Rattle.chain_nodes.specs.declared.node.Lead.{Lead}
use Rattle.chain_nodes.specs.declared.node.Lead.TheVariants.{Follows}
use Rattle.chain_nodes.specs.Table.{IsEntry}
use Rattle.chain_nodes.specs.Chains.{AreNodes, entries_of, IsLinkedBy}
use Rattle.chain_space.specs.Laid.{laid_place}
use Rattle.entry_tables.specs.declared.table.EntryKind.{EntryKind}
use Rattle.entry_tables.specs.declared.table.EntryKind.TheVariants.{Dir, File}
use Rattle.entry_tables.specs.Tables.{Tables}
use Rattle.entry_tables.specs.Used.{used_entries}
use Rattle.entry_tables.specs.Rules.{HasFreedList}
use Rattle.tree_model.specs.declared.kind.TreeKind.{TreeKind}
use Rattle.tree_model.specs.declared.kind.TreeKind.TheVariants.{Save, Vsxe}
use Rattle.tree_rules.specs.declared.information.TableAt.{TableAt}
use Rattle.tree_rules.specs.declared.information.TableAt.TheVariants.{Plainly, InChain}
use Rattle.tree_rules.specs.declared.information.Places.{Places}
use Rattle.tree_rules.specs.Places.{blocks_in_chain, table_blocks, tables_extra}
use Rattle.tree_rules.specs.Lists.{Holder, Free, OfTable, OfFile, IsTableList, IsFileList, IsListOfFile, IsListOf}
use Rattle.tree_rules.specs.Lists.IsFileList.{HasNone, HasSome}
use Rattle.tree_rules.proofs.ListLaws.{used_or_not}
use Rattle.tree_rules.specs.Places.{table_lies}

All-range : (P : ℕ → Type 0) (a n : ℕ) → ((x : ℕ) → a ≤ x → x < a + n → P x) → All P (range_with_len a n)
All-range P a n holds = All-from_get_or P (range_with_len a n) 0 (λ i less.
    (let below : i < n = omega (arith, less, length-range_with_len a n) in
    rw (get_or-range_with_len a n i 0 below) (holds (a + i) (omega arith) (omega (arith, below)))))

All-none : (P : ℕ → Type 0) (list : List ℕ) → list ≡ [] → All P list
All-none P list none = subst (All P) (sym none) (λ k d less. absurd (omega (arith, less)))

-- each entry of a list is one of the table's
module _ (table : ℕ → ℕ → Cell) (count : ℕ) where
  nodes_entries : (lead : Lead) (nodes : List Node) (next : ℕ) → AreNodes table count lead nodes next
      → All (IsEntry count) (entries_of nodes)
  nodes_entries lead [] next h = λ k d less. absurd (omega (arith, less))
  nodes_entries lead (node ∷ nodes) next h = All-append (IsEntry count)
      (range_with_len node.first (node.last + 1 - node.first)) (entries_of nodes)
      (All-range (IsEntry count) node.first (node.last + 1 - node.first) (λ x low high. record {
        some = omega (arith, low, h.0.starts);
        inside = omega (arith, high, h.0.ends, h.0.ordered);
      }))
      (nodes_entries (Follows node.first) nodes next h.1)

  pub linked_entries : (lead : Lead) (first : ℕ) (list : List ℕ) → IsLinkedBy table count lead first list
      → All (IsEntry count) list
  linked_entries lead first list h = subst (All (IsEntry count)) h.entries (nodes_entries lead h.nodes 0 h.linked)

  table_entries : (at : TableAt) (list : List ℕ) → IsTableList table count at list → All (IsEntry count) list
  table_entries (Plainly at) list h = All-none (IsEntry count) list h
  table_entries (InChain first blocks) list h = linked_entries _ _ list h.0.linked

file_entries : (table : ℕ → ℕ → Cell) (chain : ChainInfo) (start size : ℕ) (list : List ℕ)
    → IsFileList table chain start size list → All (IsEntry chain.count) list
file_entries table chain start size list (HasNone none empty is) = All-none (IsEntry chain.count) list is
file_entries table chain start size list (HasSome less chains enough) =
    linked_entries table chain.count _ _ list chains.linked

entries_of_file : (kind : TreeKind) (table : ℕ → ℕ → Cell) (chain : ChainInfo) (t : Tables) (e : ℕ) (list : List ℕ)
    → IsListOfFile kind table chain t e list → All (IsEntry chain.count) list
entries_of_file Save table chain t e list h = file_entries table chain (t.start e) (t.wide e) list h
entries_of_file Vsxe table chain t e list h = All-none (IsEntry chain.count) list h

pub listed_entries : (kind : TreeKind) (table : ℕ → ℕ → Cell) (p : Places) (t : Tables)
    → HasFreedList File (t.table File) → (holder : Holder) (list : List ℕ) → IsListOf kind table p t holder list
    → All (IsEntry p.chain.count) list
listed_entries kind table p t freed Free list h = linked_entries table p.chain.count _ _ list h.linked
listed_entries kind table p t freed (OfTable entries) list h =
    table_entries table p.chain.count (table_lies p entries) list h
listed_entries kind table p t freed (OfFile e) list h =
    ⊎_elim
    (λ (used : used_entries (t.table File) e). entries_of_file kind table p.chain t e list (h.0 used))
    (λ (unused : ¬ used_entries (t.table File) e). All-none (IsEntry p.chain.count) list (h.1 unused))
    (used_or_not File (t.table File) e freed)

-- a number of a data block
blocks_few : (count : ℕ) (at : TableAt) (list : List ℕ) → All (IsEntry count) list
    → All (λ block. block < count) (table_blocks at list)
blocks_few count at list all =
    let taken = All-take (IsEntry count) (blocks_in_chain at) list all in
    All-map (λ block. block < count) (λ entry. entry - 1) (take (blocks_in_chain at) list) (λ k d less.
    (let entry = taken k d less in omega (arith, entry.some, entry.inside)))

block_few : (count : ℕ) → 1 ≤ count → (blocks : List ℕ) → All (λ block. block < count) blocks → (k : ℕ)
    → slice_index blocks k < count
block_few count some [] all k = omega (arith, some)
block_few count some (x ∷ xs) all zero = all 0 0 (omega arith)
block_few count some (x ∷ xs) all (suc k) = block_few count some xs (λ i d less. all (suc i) d (omega (arith, less))) k

-- each place of the tables lies in the store, wherever a table's data blocks are
pub laid_below : (size : ℕ) (p : Places) (chains : EntryKind → List ℕ)
    → ((table : EntryKind) → All (IsEntry p.chain.count) (chains table)) → 1 ≤ p.chain.count → 1 ≤ p.chain.block
    → p.chain.region_at + p.chain.count * p.chain.block ≤ size → (x : ℕ) → laid_place
    (tables_extra p chains) size x < size
unfolding laid_place
laid_below size p chains all some wide inside x =
    ⊎_elim
    (λ (front : x < size). rw (lt-ltb x size front) front)
    (λ (behind : size ≤ x).
    let blocks = table_blocks p.dirs.table (chains Dir) ++ table_blocks p.files.table (chains File) in
    let few = block_few p.chain.count some blocks
    (All-append (λ block. block < p.chain.count) _ _ (blocks_few p.chain.count p.dirs.table (chains Dir) (all Dir))
    (blocks_few p.chain.count p.files.table (chains File) (all File))) ((x - size) / p.chain.block) in
    rw (le-ltb x size behind) (place_below _ few))
    (cases_lt x size) where
      place_below : (block : ℕ) → block < p.chain.count
          → p.chain.region_at + block * p.chain.block + (x - size) % p.chain.block < size
      place_below block few =
          let rest : (x - size) % p.chain.block < p.chain.block = mod_below (x - size) p.chain.block wide in
          let whole : (block + 1) * p.chain.block ≤ p.chain.count * p.chain.block =
          mul-le-mul_right p.chain.block (omega (arith, few)) in
          omega (arith, rest, whole, inside)
