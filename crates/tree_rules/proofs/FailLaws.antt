-- Where cells hold a tree, no rule fails.
use Rattle.std.proofs.Common.{◌≡◌, ℕ, ◌+◌, ◌^◌, ◌<◌, List, [], ◌++◌}
use Rattle.std.proofs.Common.{Option, refl, sym, ap, subst, ◌∙◌, arith, inl, nat_eq}
use Rattle.std.proofs.lemmas.Bool.{eq-eqb, ne_eqb}
use Rattle.std.proofs.lemmas.List.Elements.{Contains-append_left}
use Rattle.std.specs.List.{Contains, IsDistinct}
use Rattle.save_bytes.specs.Cells.{Cell}
use Rattle.chain_nodes.specs.declared.info.ChainInfo.{ChainInfo}
use Rattle.chain_nodes.specs.declared.node.Lead.{Lead}
use Rattle.chain_nodes.specs.declared.node.Lead.TheVariants.{Opens}
use Rattle.chain_nodes.specs.Table.{table_in}
use Rattle.chain_nodes.specs.Chains.{entries_of, IsLinkedBy}
use Rattle.chain_nodes.specs.Faults.{IsBroken}
use Rattle.chain_nodes.proofs.ListLemmas.{entries_of-append}
use Rattle.chain_nodes.proofs.CountLemmas.{distinct_once}
use Rattle.chain_nodes.proofs.DistinctLemmas.{distinct_left}
use Rattle.chain_nodes.proofs.FrontLemmas.{front_of}
use Rattle.chain_nodes.proofs.ExactLemmas.{no_break, no_free_break, chain_few}
use Rattle.entry_tables.specs.declared.table.EntryKind.{EntryKind}
use Rattle.entry_tables.specs.declared.table.EntryKind.TheVariants.{Dir, File}
use Rattle.entry_tables.specs.Tables.{Tables}
use Rattle.entry_tables.specs.Rules.{IsOrderly}
use Rattle.entry_tables.proofs.FailLemmas.{nowhere_fails}
use Rattle.entry_tables.proofs.LinkLemmas.{linked_distinct}
use Rattle.tree_model.specs.declared.kind.TreeKind.{TreeKind}
use Rattle.tree_model.specs.declared.kind.TreeKind.TheVariants.{Save, Vsxe}
use Rattle.tree_rules.specs.Information.{information_in}
use Rattle.tree_rules.specs.declared.information.TableAt.{TableAt}
use Rattle.tree_rules.specs.declared.information.TableAt.TheVariants.{Plainly, InChain}
use Rattle.tree_rules.specs.declared.information.Places.{Places}
use Rattle.tree_rules.specs.Places.{places_of, tree_tables}
use Rattle.tree_rules.specs.Lists.{Holder, Free, OfTable, OfFile, no_block, IsTableList, IsFileList, IsListOfFile}
use Rattle.tree_rules.specs.Lists.{IsListOf}
use Rattle.tree_rules.specs.Lists.IsFileList.{HasNone, HasSome}
use Rattle.tree_rules.specs.Trees.{table_chains, IsConsistentTree}
use Rattle.tree_rules.specs.Fails.{lead_of, first_of, file_first, table_first, IsHolder, IsListBroken, IsReachedBy}
use Rattle.tree_rules.specs.Fails.{IsTwiceIn, IsShortTable, IsWrongFile, TreeFailsAt, BreaksAt}
use Rattle.tree_rules.specs.Fails.IsWrongFile.{NoneButBytes, PastTheBlocks, TooShort}
use Rattle.tree_rules.specs.Fails.TreeFailsAt.{OfList, OfTwo, OfTwice, OfShort, OfTables, OfWrongFile}
use Rattle.tree_rules.specs.Fails.BreaksAt.{BeforeTables, InTables}
use Rattle.tree_rules.proofs.ListLaws.{one_table_list, one_chain}
use Rattle.tree_rules.proofs.OneTree.{few_entries, tables_same}
use Rattle.tree_rules.specs.Places.{table_lies}

-- a holder's list as one that is linked, which has none where it begins with none
pub record HasLinks (table : ℕ → ℕ → Cell) (count : ℕ) (lead : Lead) (first : ℕ) (list : List ℕ) : Type 0 where
  pub linked : IsLinkedBy table count lead first list
  pub once : IsDistinct nat_eq list

no_links : (table : ℕ → ℕ → Cell) (count : ℕ) (lead : Lead) (list : List ℕ) → list ≡ []
    → HasLinks table count lead 0 list
no_links table count lead list none = rw none (record {
  linked = record { nodes = []; linked = tt; starts = refl; entries = refl };
  once = linked_distinct (λ e. e) 0 [] refl;
})

table_links : (table : ℕ → ℕ → Cell) (count : ℕ) (at : TableAt) (list : List ℕ) → IsTableList table count at list
    → HasLinks table count Opens (table_first at) list
table_links table count (Plainly at) list h = no_links table count Opens list h
table_links table count (InChain first blocks) list h = record { linked = h.0.linked; once = h.0.once }

file_links : (table : ℕ → ℕ → Cell) (chain : ChainInfo) → chain.count < 2 ^ 31 → (start size : ℕ) (list : List ℕ)
    → IsFileList table chain start size list → HasLinks table chain.count Opens (file_first Save start) list
file_links table chain few start size list (HasNone none empty is) =
    rw (eq-eqb start no_block none) (no_links table chain.count Opens list is)
file_links table chain few start size list (HasSome less chains enough) =
    rw (ne_eqb start no_block (λ same. absurd (omega (arith, same, less, few))))
    (record { linked = chains.linked; once = chains.once })

links_of_file : (kind : TreeKind) (table : ℕ → ℕ → Cell) (chain : ChainInfo) → chain.count < 2 ^ 31 → (t : Tables)
    (e : ℕ) (list : List ℕ) → IsListOfFile kind table chain t e list
    → HasLinks table chain.count Opens (file_first kind (t.start e)) list
links_of_file Save table chain few t e list h = file_links table chain few (t.start e) (t.wide e) list h
links_of_file Vsxe table chain few t e list h = no_links table chain.count Opens list h

-- a file's list agrees with its size
rightly : (table : ℕ → ℕ → Cell) (chain : ChainInfo) → chain.count < 2 ^ 31 → (start size : ℕ) (list : List ℕ)
    → IsFileList table chain start size list → ¬ IsWrongFile table chain start size
rightly table chain few start size list (HasNone none empty is) (NoneButBytes is_none some) = omega (arith, empty, some)
rightly table chain few start size list (HasNone none empty is) (PastTheBlocks other past) = other none
rightly table chain few start size list (HasNone none empty is) (TooShort less xs chains short) =
    omega (arith, none, less, few)
rightly table chain few start size list (HasSome less chains enough) (NoneButBytes is_none some) =
    omega (arith, is_none, less, few)
rightly table chain few start size list (HasSome less chains enough) (PastTheBlocks other past) =
    omega (arith, less, past)
rightly table chain few start size list (HasSome less chains enough) (TooShort less' xs chains' short) =
    let same = one_chain table chain.count few (start + 1) xs list chains' chains in
    omega (arith, enough, rw same at short)

module _ (kind : TreeKind) (table : ℕ → ℕ → Cell) (p : Places) (few : p.chain.count < 2 ^ 31) (t : Tables)
    (lists : Holder → List ℕ)
    (listed : (holder : Holder) → IsListOf kind table p t holder (lists holder)) where
  links : (holder : Holder) → IsHolder t holder
      → HasLinks table p.chain.count (lead_of holder) (first_of kind table p t holder) (lists holder)
  links Free there = record { linked = (listed Free).linked; once = (listed Free).once }
  links (OfTable entries) there =
      table_links table p.chain.count (table_lies p entries) (lists (OfTable entries)) (listed (OfTable entries))
  links (OfFile e) there = links_of_file kind table p.chain few t e (lists (OfFile e)) ((listed (OfFile e)).0 there)

  unbroken : (lead : Lead) (first : ℕ) (list : List ℕ) → HasLinks table p.chain.count lead first list → (entry : ℕ)
      → ¬ IsBroken table p.chain.count lead first entry
  unbroken lead first list h entry = no_break table p.chain.count few lead first list h.linked
      (chain_few table p.chain.count lead first list h.linked h.once) entry

  list_whole : (holder : Holder) → IsHolder t holder → (entry : ℕ) → ¬ IsListBroken kind table p t holder entry
  list_whole Free there entry =
      no_free_break table p.chain.count (lists Free) few (links Free there).linked (links Free there).once entry
  list_whole (OfTable entries) there entry = unbroken Opens _ _ (links (OfTable entries) there) entry
  list_whole (OfFile e) there entry = unbroken Opens _ _ (links (OfFile e) there) entry

  -- what is reached is in the list, of which these nodes are the front
  reached_front : (holder : Holder) (entry : ℕ) → (r : IsReachedBy kind table p t holder entry)
      → (rest : List ℕ) × (lists holder ≡ entries_of r.nodes ++ rest)
  reached_front holder entry r =
      let own = links holder r.is_holder in
      let rest = front_of table p.chain.count few (lead_of holder) r.nodes own.linked.nodes r.next 0 r.named
      (omega arith)
      r.linked own.linked.linked (r.starts ∙ sym own.linked.starts) (inl refl) in (
        entries_of rest.rest,
        sym own.linked.entries ∙ ap entries_of rest.whole ∙ entries_of-append r.nodes rest.rest,
      )

  reached_within : (holder : Holder) (entry : ℕ) → IsReachedBy kind table p t holder entry → Contains
      (lists holder) entry
  reached_within holder entry r =
      let front = reached_front holder entry r in
      rw front.1 (Contains-append_left (entries_of r.nodes) front.0 entry r.within)

  -- and no entry is twice in them
  twice_not : (holder : Holder) (entry : ℕ) → ¬ IsTwiceIn kind table p t holder entry
  twice_not holder entry two =
      let front = reached_front holder entry two.reached in
      let once = distinct_left (entries_of two.reached.nodes) front.0
      (subst (λ (l : List ℕ). IsDistinct nat_eq l) front.1 (links holder two.reached.is_holder).once) in
      omega (arith, two.twice, distinct_once (entries_of two.reached.nodes) once entry)

  short_not : (entries : EntryKind) (entry : ℕ) → ¬ IsShortTable table p entries entry
  short_not entries entry short =
      let own : IsTableList table p.chain.count (InChain short.first short.blocks) (lists (OfTable entries)) =
      subst (λ (at : TableAt). IsTableList table p.chain.count at (lists (OfTable entries))) short.lies
      (listed (OfTable entries)) in
      let same = one_chain table p.chain.count few (short.first + 1) short.list
      (lists (OfTable entries)) short.chain own.0 in
      omega (arith, own.1, rw same at short.short)

  module _ (apart : (one other : Holder) (entry : ℕ) → Contains (lists one) entry → Contains (lists other) entry
      → one ≡ other) (orderly : IsOrderly t) where
    pub nothing_fails : (number entry : ℕ) → ¬ TreeFailsAt kind table p t number entry
    nothing_fails number entry (OfList holder there is broken) = list_whole holder there entry broken
    nothing_fails number entry (OfTwo one other different is here there) =
        different (apart one other entry (reached_within one entry here) (reached_within other entry there))
    nothing_fails number entry (OfTwice holder is two) = twice_not holder entry two
    nothing_fails number entry (OfShort entries is short) = short_not entries entry short
    nothing_fails number entry (OfTables fails) = nowhere_fails t number entry orderly fails
    nothing_fails number entry (OfWrongFile is_save is used wrong) =
        rightly table p.chain few (t.start entry) (t.wide entry) (lists (OfFile entry))
        (subst (λ (k : TreeKind). IsListOfFile k table p.chain t entry (lists (OfFile entry))) is_save
        ((listed (OfFile entry)).0 used)) wrong

-- where cells hold a tree, no rule fails anywhere
module _ (kind : TreeKind) (size : ℕ) (split : Option ℕ) (cells : ℕ → Cell) (lists : Holder → List ℕ)
    (h : IsConsistentTree kind size split cells lists) where
  abbrev p : Places
  p = places_of kind split (information_in cells)

  abbrev t : Tables
  t = tree_tables size p (table_chains lists) cells

  no_failure : (number entry : ℕ) → ¬ TreeFailsAt kind (table_in cells p.chain) p t number entry
  no_failure = nothing_fails kind (table_in cells p.chain) p
      (few_entries kind size split cells lists h) t lists h.listed
      h.apart h.orderly

  pub nothing_breaks : (number entry : ℕ) → ¬ BreaksAt kind size split cells number entry
  nothing_breaks number entry (BeforeTables fails) = no_failure number entry (fails t)
  nothing_breaks number entry (InTables chains are none fails) =
      let few = few_entries kind size split cells lists h in
      let same : (entries : EntryKind) → chains entries ≡ table_chains lists entries =
      λ entries. one_table_list (table_in cells p.chain) p.chain.count few (table_lies p entries) (chains entries)
      (lists (OfTable entries)) (are entries) (h.listed (OfTable entries)) in
      no_failure number entry (subst (λ (u : Tables). TreeFailsAt kind (table_in cells p.chain) p u number entry)
      (tables_same size p chains (table_chains lists) cells (same Dir) (same File)) fails)
