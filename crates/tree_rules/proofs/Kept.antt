-- A tree stays, with its lists and tables, where the cells of its structure have softened at most.
use Rattle.std.proofs.Common.{◌≡◌, ℕ, ◌+◌, ◌*◌, ◌<◌, ◌≤◌, true, false, List}
use Rattle.std.proofs.Common.{Option, Bool, if◌then◌else◌, refl, sym, ap, subst, ◌∙◌, arith}
use Rattle.std.proofs.lemmas.Nat.{pow_pos}
use Rattle.std.specs.List.{Contains, All}
use Rattle.std.proofs.lemmas.List.Elements.{All-contains}
use Rattle.save_bytes.specs.Cells.{Cell, Byte, Blank, Spoilt, IsByte}
use Rattle.save_bytes.specs.CellNumbers.{value_of, number_in}
use Rattle.save_bytes.specs.Within.{MaySoften}
use Rattle.save_bytes.proofs.WithinLemmas.{value_softens}
use Rattle.chain_nodes.specs.declared.info.ChainInfo.{ChainInfo}
use Rattle.chain_nodes.specs.Table.{table_in, word_v, index_of, HasWords, IsEntry}
use Rattle.chain_nodes.specs.Chains.{IsChain, IsFreeList}
use Rattle.chain_nodes.proofs.TableLemmas.{table_cell, number_in-same}
use Rattle.chain_nodes.specs.Edits.{KeepsEntry}
use Rattle.chain_nodes.proofs.OwnLemmas.{list_rests}
use Rattle.chain_space.specs.Laid.{laid_place}
use Rattle.entry_tables.specs.declared.table.EntryKind.{EntryKind}
use Rattle.entry_tables.specs.declared.table.EntryKind.TheVariants.{Dir, File}
use Rattle.entry_tables.specs.Tables.{Tables, info_of}
use Rattle.entry_tables.specs.Layout.{LiesWithin, IsNeeded, IsOfTable}
use Rattle.entry_tables.specs.Layout.IsNeeded.{OfZero, OfBucket, OfUsed, OfFreed}
use Rattle.entry_tables.specs.Layout.IsOfTable.{InZero, InEntry, InBucket}
use Rattle.entry_tables.specs.Rules.{CanBeFreed}
use Rattle.entry_tables.proofs.LinkLemmas.{whole_front}
use Rattle.entry_tables.proofs.EntryLemmas.{link_last}
use Rattle.std.proofs.lemmas.List.{append-nil}
use Rattle.tree_model.specs.declared.kind.TreeKind.{TreeKind}
use Rattle.tree_model.specs.declared.kind.TreeKind.TheVariants.{Save, Vsxe}
use Rattle.tree_rules.specs.declared.information.Information.{Information}
use Rattle.tree_rules.specs.Information.{information_at, information_in, IsLettered, header_len}
use Rattle.tree_rules.specs.Information.{information_len, front_len, has_second, buckets_field, table_field}
use Rattle.tree_rules.specs.declared.information.TableAt.{TableAt}
use Rattle.tree_rules.specs.declared.information.TableAt.TheVariants.{Plainly, InChain}
use Rattle.tree_rules.specs.declared.information.Places.{Places}
use Rattle.tree_rules.specs.Places.{places_of, table_info, tables_extra, laid_cells}
use Rattle.tree_rules.specs.Places.{tree_tables}
use Rattle.tree_rules.specs.Sound.{HasLayout}
use Rattle.tree_rules.specs.Lists.{Holder, Free, OfTable, OfFile, IsTableList, IsFileList, IsListOfFile, IsListOf}
use Rattle.tree_rules.specs.Lists.IsFileList.{HasNone, HasSome}
use Rattle.tree_rules.specs.Trees.{table_chains, IsTreeOf, IsConsistentTree}
use Rattle.tree_rules.specs.Structure.{allocation_place, IsStructure, KeepsStructure, KeepsTree}
use Rattle.tree_rules.specs.Structure.IsStructure.{InHeader, InInformation, InFirstEntry, InList, InTable}
use Rattle.tree_rules.proofs.LayoutLemmas.{layout_from}
use Rattle.tree_rules.proofs.SoftLemmas.{bytes_between, number_between, tables_same}
use Rattle.tree_rules.proofs.PlaceLemmas.{listed_entries, laid_below}
use Rattle.tree_rules.specs.Places.{table_lies}
use Rattle.tree_rules.specs.Information.{table_fields}

-- a byte that softens stays
byte_stays : (cell new : Cell) → MaySoften cell new → IsByte cell → new ≡ cell
byte_stays (Byte value) new soft is = soft
byte_stays (Blank part level block) new soft is = elim is [ ]
byte_stays (Spoilt part level block) new soft is = elim is [ ]

still_byte : (cell new : Cell) → MaySoften cell new → IsByte cell → IsByte new
still_byte cell new soft is = rw (byte_stays cell new soft is) is

-- lists whose own entries keep their words
module _ (old new : ℕ → ℕ → Cell) (count : ℕ) where
  chain_kept : (first : ℕ) (list : List ℕ) → ((x : ℕ) → Contains list x → KeepsEntry old new x)
      → IsChain old count first list → IsChain new count first list
  chain_kept first list kept h = record {
    some = h.some;
    linked = list_rests old new count _ first list kept h.linked;
    once = h.once;
  }

  table_list_kept : (at : TableAt) (list : List ℕ) → ((x : ℕ) → Contains list x → KeepsEntry old new x)
      → IsTableList old count at list → IsTableList new count at list
  table_list_kept (Plainly at) list kept h = h
  table_list_kept (InChain first blocks) list kept h = (chain_kept (first + 1) list kept h.0, h.1)

  free_kept : (list : List ℕ) → ((x : ℕ) → Contains list x → KeepsEntry old new x) → HasWords new 0
      → word_v new 0 ≡ word_v old 0 → IsFreeList old count list → IsFreeList new count list
  free_kept list kept read same h = record {
    read = read;
    linked = rw same (list_rests old new count _ (index_of (word_v old 0)) list kept h.linked);
    once = h.once;
  }

file_list_kept : (old new : ℕ → ℕ → Cell) (chain : ChainInfo) (start size : ℕ) (list : List ℕ)
    → ((x : ℕ) → Contains list x → KeepsEntry old new x) → IsFileList old chain start size list
    → IsFileList new chain start size list
file_list_kept old new chain start size list kept (HasNone none empty is) = HasNone none empty is
file_list_kept old new chain start size list kept (HasSome less chains enough) =
    HasSome less (chain_kept old new chain.count (start + 1) list kept chains) enough

list_of_file_kept : (kind : TreeKind) (old new : ℕ → ℕ → Cell) (chain : ChainInfo) (t : Tables) (e : ℕ) (list : List ℕ)
    → ((x : ℕ) → Contains list x → KeepsEntry old new x) → IsListOfFile kind old chain t e list
    → IsListOfFile kind new chain t e list
list_of_file_kept Save old new chain t e list kept h = file_list_kept old new chain (t.start e) (t.wide e) list kept h
list_of_file_kept Vsxe old new chain t e list kept h = h

list_kept : (kind : TreeKind) (old new : ℕ → ℕ → Cell) (p : Places) (t : Tables) (holder : Holder) (list : List ℕ)
    → ((x : ℕ) → Contains list x → KeepsEntry old new x) → HasWords new 0 → word_v new 0 ≡ word_v old 0
    → IsListOf kind old p t holder list → IsListOf kind new p t holder list
list_kept kind old new p t Free list kept read same h = free_kept old new p.chain.count list kept read same h
list_kept kind old new p t (OfTable entries) list kept read same h =
    table_list_kept old new p.chain.count (table_lies p entries) list kept h
list_kept kind old new p t (OfFile e) list kept read same h =
    (λ used. list_of_file_kept kind old new p.chain t e list kept (h.0 used), h.1)

module _ (kind : TreeKind) (size : ℕ) (split : Option ℕ) (cells new : ℕ → Cell) (info : Information)
    (lists : Holder → List ℕ) (p : Places) (t : Tables) (p_is : p ≡ places_of kind split info)
    (h : IsTreeOf kind size split cells info lists p t)
    (kept : KeepsStructure size info p lists t cells new) where
  layout : HasLayout kind split size info p t
  layout = rw p_is (layout_from kind split size info t h.layout)

  count_is : p.chain.count ≡ info.count
  unfolding places_of
  count_is = ap (λ (q : Places). q.chain.count) p_is

  chain_is : p.chain.table_at ≡ info.chain_at
  unfolding places_of
  chain_is = ap (λ (q : Places). q.chain.table_at) p_is

  block_is : p.chain.block ≡ info.block
  unfolding places_of
  block_is = ap (λ (q : Places). q.chain.block) p_is

  entries : (holder : Holder) → All (IsEntry p.chain.count) (lists holder)
  entries holder = listed_entries kind (table_in cells p.chain) p t (h.orderly.freed File) holder (lists holder)
      (h.listed holder)

  entry_inside : (entry x : ℕ) → entry ≤ p.chain.count → LiesWithin (allocation_place p entry) 8 x → x < size
  entry_inside entry x low within = omega (
    arith,
    within.before,
    low,
    count_is,
    chain_is,
    layout.places.chain_inside,
    h.inside,
  )

  end_inside : (test : Bool) → (if test then size else front_len split size) ≤ size
  end_inside true = omega arith
  end_inside false = h.inside

  wide : 1 ≤ p.chain.block
  wide = rw (block_is, layout.places.block) (pow_pos layout.places.log)

  region_there : p.chain.region_at + p.chain.count * p.chain.block ≤ size
  region_there = rw (count_is, block_is) (omega (arith, layout.places.region_inside, end_inside (has_second kind split)))

  laid_there : (y : ℕ) → laid_place (tables_extra p (table_chains lists)) size y < size
  laid_there = laid_below size p (table_chains lists) (λ table. entries (OfTable table))
      (omega (arith, count_is, layout.places.count.least)) wide region_there

  inside : (x : ℕ) → IsStructure size info p lists t x → x < size
  inside x (InHeader below) = omega (arith, below, layout.places.behind_header, layout.places.information_inside, h.inside)
  inside x (InInformation within) = omega (arith, within.before, layout.places.information_inside, h.inside)
  inside x (InFirstEntry within) = entry_inside 0 x (omega arith) within
  inside x (InList holder entry listed within) =
      entry_inside entry x
      (All-contains (IsEntry p.chain.count) (lists holder) entry (entries holder) listed).inside within
  inside x (InTable table y of_table there) = subst (λ (z : ℕ). z < size) there (laid_there y)

  soft : (x : ℕ) → IsStructure size info p lists t x → MaySoften (cells x) (new x)
  soft x is = kept x (inside x is) is

  value_same : (x : ℕ) → IsStructure size info p lists t x → value_of (new x) ≡ value_of (cells x)
  value_same x is = value_softens (cells x) (new x) (soft x is)

  header_same : (x : ℕ) → x < header_len → value_of (new x) ≡ value_of (cells x)
  header_same x below = value_same x (InHeader below)

  lettered : IsLettered kind new
  lettered = record {
    letters = bytes_between cells new 0 4 (λ x low high. header_same x (omega (arith, high))) ∙ h.lettered.letters;
    version = number_between 4 cells new 4 (λ x low high. header_same x (omega (arith, high))) ∙ h.lettered.version;
  }

  field : (n x : ℕ) → info.at ≤ x → x + n ≤ info.at + information_len → number_in n new x ≡ number_in n cells x
  field n x behind fits = number_between n cells new x (λ y low high.
      value_same y (InInformation (record { from = omega (arith, behind, low); before = omega (arith, high, fits) })))

  fields_same : (table : EntryKind) → table_fields new info.at table ≡ table_fields cells info.at table
  fields_same table = λ i. record {
    buckets_at = field 8 (info.at + buckets_field table) (omega arith) (omega (arith, buckets_fit table)) i;
    buckets = field 4 (info.at + buckets_field table + 8) (omega arith) (omega (arith, buckets_fit table)) i;
    table_at = field 8 (info.at + table_field table) (omega arith) (omega (arith, table_fits table)) i;
    first = field 4 (info.at + table_field table) (omega arith) (omega (arith, table_fits table)) i;
    blocks = field 4 (info.at + table_field table + 4) (omega arith) (omega (arith, table_fits table)) i;
  } where
    buckets_fit : (table : EntryKind) → buckets_field table + 12 ≤ 0x68
    buckets_fit Dir = omega arith
    buckets_fit File = omega arith

    table_fits : (table : EntryKind) → table_field table + 8 ≤ 0x68
    table_fits Dir = omega arith
    table_fits File = omega arith

  information_same : information_at new info.at ≡ information_at cells info.at
  unfolding information_at
  information_same = λ i. record {
    at = info.at;
    block = field 4 (info.at + 4) (omega arith) (omega arith) i;
    dirs = fields_same Dir i;
    files = fields_same File i;
    chain_at = field 8 (info.at + 0x28) (omega arith) (omega arith) i;
    count = field 4 (info.at + 0x30) (omega arith) (omega arith) i;
    region_at = field 8 (info.at + 0x38) (omega arith) (omega arith) i;
  }

  -- the words of the entries of a list
  words_kept : (holder : Holder) (entry : ℕ) → Contains (lists holder) entry
      → KeepsEntry (table_in cells p.chain) (table_in new p.chain) entry
  words_kept holder entry listed k less byte =
      let few = (All-contains (IsEntry p.chain.count) (lists holder) entry (entries holder) listed).inside in
      let there = table_cell cells p.chain entry k few less in
      let later = table_cell new p.chain entry k few less in
      later ∙ byte_stays _ _ (soft (allocation_place p entry + k)
      (InList holder entry listed (record { from = omega arith; before = omega (arith, less) })))
      (subst IsByte there byte) ∙ sym there

  first_kept : (k : ℕ) → k < 8 → table_in new p.chain 0 k ≡ table_in cells p.chain 0 k
  first_kept k less =
      let there = table_cell cells p.chain 0 k (omega arith) less in
      let later = table_cell new p.chain 0 k (omega arith) less in
      let listed : IsFreeList (table_in cells p.chain) p.chain.count (lists Free) = h.listed Free in
      later ∙ byte_stays _ _ (soft (allocation_place p 0 + k)
      (InFirstEntry (record { from = omega arith; before = omega (arith, less) })))
      (subst IsByte there (listed.read k less)) ∙ sym there

  first_read : HasWords (table_in new p.chain) 0
  first_read k less =
      let listed : IsFreeList (table_in cells p.chain) p.chain.count (lists Free) = h.listed Free in
      subst IsByte (sym (first_kept k less)) (listed.read k less)

  first_word : word_v (table_in new p.chain) 0 ≡ word_v (table_in cells p.chain) 0
  first_word = number_in-same 4 (table_in new p.chain 0) (table_in cells p.chain 0) 4 4 (λ k less.
      first_kept (4 + k) (omega (arith, less)))

  -- the tables, by the chains of both
  chains : EntryKind → List ℕ
  chains = table_chains lists

  laid_soft : (table : EntryKind) (y : ℕ) → IsOfTable table (table_info size p table) (t.table table) y
      → MaySoften (laid_cells size p (table_chains lists) cells y) (laid_cells size p (table_chains lists) new y)
  unfolding laid_cells
  laid_soft table y of_table = soft _ (InTable table y of_table refl)

  tables_stay : tree_tables size p (table_chains lists) cells ≡ t → tree_tables size p (table_chains lists) new ≡ t
  tables_stay is =
      tables_same (table_info size p Dir) (table_info size p File) (laid_cells size p (table_chains lists) cells)
      (laid_cells size p (table_chains lists) new)
      (λ table y of_table. value_softens _ _ (laid_soft table y (of_info table y of_table))) ∙ is where
        of_info : (table : EntryKind) (y : ℕ)
            → IsOfTable table (info_of (table_info size p Dir) (table_info size p File) table)
            ((tree_tables size p (table_chains lists) cells).table table) y
            → IsOfTable table (table_info size p table) (t.table table) y
        of_info Dir y of_table =
            subst (λ (u : Tables). IsOfTable Dir (table_info size p Dir) (u.table Dir) y) is of_table
        of_info File y of_table =
            subst (λ (u : Tables). IsOfTable File (table_info size p File) (u.table File) y) is of_table

  needed_of_table : (table : EntryKind) (y : ℕ) → IsNeeded table (table_info size p table) (t.table table) y
      → IsOfTable table (table_info size p table) (t.table table) y
  needed_of_table table y (OfZero within) = InZero within
  needed_of_table table y (OfBucket bucket below within) = InBucket bucket below within
  needed_of_table table y (OfUsed e used within) =
      InEntry e (omega (arith, used.below, (layout.counts table).most)) within
  needed_of_table table y (OfFreed e list freed listed within) =
      let own = h.orderly.freed table in
      let same : list ≡ own.0 =
      whole_front (t.table table).link ((t.table table).link 0) own.0 list own.1.leads freed ∙ append-nil own.0 in
      let can = All-contains (CanBeFreed table (t.table table)) own.0 e own.1.inside
      (subst (λ (l : List ℕ). Contains l e) same listed) in
      InEntry e (omega (arith, can.1, (layout.counts table).most)) (record {
        from = omega (arith, within.from);
        before = omega (arith, within.before, link_last table);
      })

  pub tree_kept : IsTreeOf kind size split new info lists p t
  tree_kept = record {
    inside = h.inside;
    lettered = lettered;
    layout = h.layout;
    listed = λ holder. list_kept kind (table_in cells p.chain) (table_in new p.chain) p t holder (lists holder)
        (words_kept holder) first_read first_word (h.listed holder);
    apart = h.apart;
    orderly = h.orderly;
    header_read = λ x below. still_byte _ _ (soft x (InHeader below)) (h.header_read x below);
    information_read = λ k less. still_byte _ _
        (soft (info.at + k) (InInformation (record { from = omega arith; before = omega (arith, less) })))
        (h.information_read k less);
    tables_read = λ table y needed. still_byte _ _ (laid_soft table y (needed_of_table table y needed))
        (h.tables_read table y needed);
  }

-- so cells that hold a tree hold it still, with the same lists and the same tables
module _ (kind : TreeKind) (size : ℕ) (split : Option ℕ) (cells new : ℕ → Cell) (lists : Holder → List ℕ)
    (h : IsConsistentTree kind size split cells lists) where
  abbrev info : Information
  info = information_in cells

  abbrev p : Places
  p = places_of kind split info

  abbrev t : Tables
  t = tree_tables size p (table_chains lists) cells

  module _ (kept : KeepsStructure size info p lists t cells new) where
    information_kept : information_in new ≡ information_in cells
    unfolding information_in information_at
    information_kept =
        let at_same : number_in 8 new 8 ≡ number_in 8 cells 8 = number_between 8 cells new 8 (λ x low high.
        header_same kind size split cells new info lists p t refl h kept x (omega (arith, high))) in
        ap (information_at new) at_same ∙ information_same kind size split cells new info lists p t refl h kept

    pub consistent_kept : KeepsTree kind size split cells new lists
    consistent_kept =
        let tables_kept = tables_stay kind size split cells new info lists p t refl h kept refl in
        let same : IsTreeOf kind size split new info lists p t =
        tree_kept kind size split cells new info lists p t refl h kept in
        record {
          tree = subst (λ (i : Information). IsTreeOf kind size split new i lists (places_of kind split i)
              (tree_tables size (places_of kind split i) (table_chains lists) new)) (sym information_kept)
              (subst (λ (u : Tables). IsTreeOf kind size split new info lists p u) (sym tables_kept) same);
          information = information_kept;
          tables = ap (λ (i : Information). tree_tables size (places_of kind split i) (table_chains lists) new)
              information_kept ∙ tables_kept;
        }
