-- The list of a chain whose bytes are shown, and where these lie.
use Rattle.std.proofs.Common.{◌≡◌, ℕ, ◌+◌, ◌-◌, ◌*◌, ◌/◌, ◌%◌, ◌^◌, ◌<◌, ◌≤◌, true, false, ltb, IsTrue, List, [], ◌∷◌}
use Rattle.std.proofs.Common.{◌++◌, length, get_or}
use Rattle.std.proofs.Common.{unwrap_or, MatchOption, IsSomeAnd, Option, Some, None, refl, sym, ◌∙◌, ap, subst, arith}
use Rattle.std.proofs.Common.{⊎_elim, length-append}
use Rattle.std.proofs.lemmas.Bool.{and_parts, and_from, cases_lt, lt-ltb, le-ltb, le-leb, eq-eqb, leb-true, false≢true}
use Rattle.std.proofs.lemmas.List.{get_or_append_left, get_or-append_right}
use Rattle.std.proofs.lemmas.Nat.{div-add-mod'}
use Rattle.std.proofs.Math.Nat.{div-lt_iff_lt-mul, mul-add-div_right, mul-add-mod_self_right, mul-le-mul_right}
use Rattle.std.specs.List.{range_with_len}
use Rattle.std.proofs.lemmas.List.FromFn.{length-range_with_len, get_or-range_with_len}
use Rattle.save_bytes.specs.Cells.{Cell}
use Rattle.save_bytes.specs.State.{State, Shape}
use Rattle.chain_nodes.specs.declared.info.ChainInfo.{ChainInfo}
use Rattle.chain_nodes.specs.declared.info.Run.{Run}
use Rattle.save_bytes.specs.declared.space.Bad.TheVariants.{Disk, Damaged}
use Rattle.chain_nodes.specs.declared.fault.ChainFault.{ChainFault}
use Rattle.chain_nodes.specs.declared.fault.ChainFault.TheVariants.{Broken, Short}
use Rattle.chain_nodes.specs.declared.fault.ChainFault.TheVariants.{Bad as Refused}
use Rattle.chain_nodes.specs.Faults.{FailsAt, IsBroken, FaultsOnly}
use Rattle.chain_nodes.specs.declared.node.Node.{Node}
use Rattle.chain_nodes.specs.declared.node.Lead.{Lead}
use Rattle.chain_nodes.specs.declared.node.Lead.TheVariants.{Opens, Follows}
use Rattle.chain_nodes.specs.Table.{table_in, HasAllocationTable}
use Rattle.chain_nodes.specs.Chains.{AreNodes, entries_of, IsLinkedBy}
use Rattle.chain_nodes.specs.Runs.{HasPosition, IsRunIn, IsRestOfNode}
use Rattle.chain_space.specs.Walks.{list_in, has_length}
use Rattle.chain_space.specs.Shown.{found_list, chain_list, is_shown, place_of, can_show}
use Rattle.chain_nodes.proofs.ExactLemmas.{no_failure, no_break, same_list, run_in}
use Rattle.chain_space.proofs.WalkLemmas.{list_in-linked, linked-list_in}

module _ (table : ℕ → ℕ → Cell) (count : ℕ) where
  nodes_few : (lead : Lead) (nodes : List Node) (next : ℕ) → AreNodes table count lead nodes next
      → length nodes ≤ length (entries_of nodes)
  nodes_few lead [] next h = omega arith
  nodes_few lead (node ∷ nodes) next h =
      let len : ℕ = node.last + 1 - node.first in
      omega (
        arith,
        h.0.ordered,
        nodes_few (Follows node.first) nodes next h.1,
        length-append (range_with_len node.first len) (entries_of nodes),
        length-range_with_len node.first len,
      )

  -- each entry lies in the table
  entry_inside : (lead : Lead) (nodes : List Node) (next pos : ℕ) → AreNodes table count lead nodes next
      → pos < length (entries_of nodes) → (1 ≤ get_or (entries_of nodes) pos 0)
      × (get_or (entries_of nodes) pos 0 ≤ count)
  entry_inside lead [] next pos h less = absurd (omega (arith, less))
  entry_inside lead (node ∷ nodes) next pos h less =
      let len : ℕ = node.last + 1 - node.first in
      let run = range_with_len node.first len in
      let run_len = length-range_with_len node.first len in
      ⊎_elim
      (λ (here : pos < len).
      let within : pos < length run = omega (arith, here, run_len) in
      let is : get_or (run ++ entries_of nodes) pos 0 ≡ node.first + pos =
      get_or_append_left run (entries_of nodes) 0 pos within ∙ get_or-range_with_len node.first len pos 0 here in
      (omega (arith, is, h.0.starts), omega (arith, is, h.0.ends, h.0.ordered)))
      (λ (behind : len ≤ pos).
      let is : get_or (run ++ entries_of nodes) pos 0 ≡ get_or (entries_of nodes) (pos - len) 0 =
      get_or-append_right run (entries_of nodes) len pos 0 run_len behind in
      let rest = entry_inside (Follows node.first) nodes next (pos - len) h.1 (omega
      (arith, less, behind, run_len, length-append run (entries_of nodes))) in
      (omega (arith, is, rest.0), omega (arith, is, rest.1)))
      (cases_lt pos len)

  pub list_entry : (lead : Lead) (first : ℕ) (list : List ℕ) (pos : ℕ) → IsLinkedBy table count lead first list
      → pos < length list → (1 ≤ get_or list pos 0) × (get_or list pos 0 ≤ count)
  list_entry lead first list pos linked less =
      subst (λ (l : List ℕ). (1 ≤ get_or l pos 0) × (get_or l pos 0 ≤ count)) linked.entries
      (entry_inside lead linked.nodes 0 pos linked.linked
      (subst (λ (l : List ℕ). pos < length l) (sym linked.entries) less))

-- the list of a chain that is shown
pub record IsShown (base : State) (info : ChainInfo) (first blocks : ℕ) : Type 0 where
  pub list : List ℕ
  pub found : found_list base info first ≡ Some list
  pub is : chain_list base info first ≡ list
  pub linked : IsLinkedBy (table_in base.cells info) info.count Opens first list
  pub enough : blocks ≤ length list
  pub few : length list ≤ info.count

shown_by : (base : State) (info : ChainInfo) (first blocks : ℕ) (found : Option (List ℕ))
    → found_list base info first ≡ found → has_length blocks info.count found ≡ true → IsShown base info first blocks
unfolding chain_list found_list
shown_by base info first blocks None is good = absurd (false≢true good)
shown_by base info first blocks (Some list) is good = record {
  list = list;
  found = is;
  is = ap (λ (o : Option (List ℕ)). unwrap_or o []) is;
  linked = list_in-linked (table_in base.cells info) info.count info.count Opens first list is;
  enough = leb-true blocks (length list) (and_parts _ _ good).0;
  few = leb-true (length list) info.count (and_parts _ _ good).1;
}

pub is_shown-true : (base : State) (info : ChainInfo) (first blocks : ℕ) → is_shown base info first blocks ≡ true
    → IsShown base info first blocks
unfolding is_shown
is_shown-true base info first blocks good = shown_by base info first blocks (found_list base info first) refl good

-- a list that is as it should be is found
pub linked-found : (base : State) (info : ChainInfo) (first : ℕ) (list : List ℕ) → info.count < 2 ^ 31
    → IsLinkedBy (table_in base.cells info) info.count Opens first list → length list ≤ info.count
    → found_list base info first ≡ Some list
unfolding found_list
linked-found base info first list few linked small =
    let table = table_in base.cells info in
    let enough : length linked.nodes ≤ info.count =
    omega (arith, small, ap length linked.entries, nodes_few table info.count Opens linked.nodes 0 linked.linked)
    in
    subst (λ (f : ℕ). list_in table info.count info.count Opens f ≡ Some list) linked.starts
    (linked-list_in table info.count few info.count Opens linked.nodes linked.linked enough
    ∙ ap (λ (l : List ℕ). Some l) linked.entries)

pub true-is_shown : (base : State) (info : ChainInfo) (first blocks : ℕ) (list : List ℕ) → info.count < 2 ^ 31
    → IsLinkedBy (table_in base.cells info) info.count Opens first list → length list ≤ info.count
    → blocks ≤ length list → is_shown base info first blocks ≡ true
unfolding is_shown
true-is_shown base info first blocks list few linked small enough =
    rw (linked-found base info first list few linked small) (and_from _ _ (le-leb blocks (length list) enough)
    (le-leb (length list) info.count small))

pub true-can_show : (base : Shape) (info : ChainInfo) (blocks : ℕ) → HasAllocationTable base info
    → base.size + blocks * info.block < 2 ^ 64 → can_show base info blocks ≡ true
unfolding can_show
true-can_show base info blocks table fits =
    and_from _ _ table.sound (and_from _ _ (eq-eqb _ _ table.first)
    (and_from _ _ (lt-ltb _ _ table.few)
    (and_from _ _ (le-leb _ _ table.table) (and_from _ _ (le-leb _ _ table.region) (lt-ltb _ _ fits)))))

-- bytes of blocks that follow each other
module _ (block : ℕ) (some : 0 < block) where
  -- a byte lies in a block
  pub block_inside : (at blocks : ℕ) → at < blocks * block → at / block < blocks
  block_inside at blocks inside = (div-lt_iff_lt-mul {k = block} {x = at} {y = blocks} some).1 inside

  -- the k-th byte behind one of a block
  pub step_div : (at k : ℕ) → (at + k) / block ≡ at / block + (at % block + k) / block
  step_div at k =
      let whole : at + k ≡ at / block * block + (at % block + k) = omega (arith, div-add-mod' at block) in
      rw whole (mul-add-div_right some (at / block) (at % block + k))

  pub step_mod : (at k : ℕ) → (at + k) % block ≡ (at % block + k) % block
  step_mod at k =
      let whole : at + k ≡ at / block * block + (at % block + k) = omega (arith, div-add-mod' at block) in
      rw whole (mul-add-mod_self_right (at / block) block (at % block + k))

sum : (region b j block skipped k m : ℕ) → j * block + m ≡ skipped + k
    → region + (b + j + 1 - 1) * block + m ≡ region + b * block + skipped + k
sum region b j block skipped k m is =
    let one : b + j + 1 - 1 ≡ b + j = omega arith in
    rw one (omega (arith, is))

-- the bytes of a run lie side by side
pub run_places : (base : State) (info : ChainInfo) (first at k : ℕ) (run : Run) → 0 < info.block
    → IsRunIn (chain_list base info first) (at / info.block) run → at % info.block + k < run.len * info.block
    → place_of base info first (base.shape.size + at + k) ≡ info.region_at + run.block * info.block + at % info.block
    + k
unfolding place_of
run_places base info first at k run some in_run less =
    let list = chain_list base info first in
    let size = base.shape.size in
    let block = info.block in
    let j : ℕ = (at % block + k) / block in
    let within : j < run.len = block_inside block some (at % block + k) run.len less in
    let behind : ltb (size + at + k) size ≡ false = le-ltb (size + at + k) size (omega arith) in
    let rest : size + at + k - size ≡ at + k = omega arith in
    let entry : get_or list (at / block + j) 0 ≡ run.block + j + 1 = in_run.blocks j within in
    rw (behind, rest, step_div block some at k, entry, step_mod block some at k)
    (sum info.region_at run.block j block (at % block) k ((at % block + k) % block)
    (div-add-mod' (at % block + k) block))

-- a run that was found is one of the list that is shown
pub found_run : (base : State) (info : ChainInfo) (first blocks pos : ℕ) (found : Option Run) → info.count < 2 ^ 31
    → IsShown base info first blocks → pos < blocks
    → MatchOption found (¬ HasPosition (table_in base.cells info) info.count Opens first pos)
    (IsRestOfNode (table_in base.cells info) info.count Opens first pos)
    → IsSomeAnd found (IsRunIn (chain_list base info first) pos)
found_run base info first blocks pos None few shown less none =
    none (λ other linked. subst (λ (l : List ℕ). pos < length l)
    (sym (same_list (table_in base.cells info) info.count few Opens first shown.list shown.linked other linked))
    (omega (arith, shown.enough, less)))
found_run base info first blocks pos (Some run) few shown less rest =
    subst (λ (l : List ℕ). IsRunIn l pos run) (sym shown.is) (run_in
    (table_in base.cells info) info.count few Opens first shown.list shown.linked pos run rest)

-- no fault but the disk's
pub shown_fault : (base : State) (info : ChainInfo) (first blocks : ℕ) (fault : ChainFault) → info.count < 2 ^ 31
    → IsShown base info first blocks → IsTrue base.told
    → FaultsOnly base info (IsBroken (table_in base.cells info) info.count Opens first)
    (FailsAt (table_in base.cells info) info.count Opens first) (Some fault) → fault ≡ Refused Disk
shown_fault base info first blocks (Refused Disk) few shown told faults = refl
shown_fault base info first blocks (Refused (Damaged part level block)) few shown told faults =
    let fault = faults.damaged told in
    absurd (no_failure (table_in base.cells info) info.count few Opens first shown.list shown.linked fault.0 fault.1)
shown_fault base info first blocks (Broken entry) few shown told faults =
    absurd (no_break (table_in base.cells info) info.count few Opens first shown.list shown.linked shown.few entry
    (faults.broken told))
shown_fault base info first blocks (Short need have) few shown told faults = absurd faults.never_short

-- a block has some bytes where blocks have
pub block_some : (at blocks block : ℕ) → at < blocks * block → 0 < block
block_some at blocks block inside =
    ⊎_elim
    (λ (some : 0 < block). some)
    (λ (none : block ≤ 0).
    let zero_block : block ≡ 0 = omega arith in
    let here : at < blocks * 0 = subst (λ (n : ℕ). at < blocks * n) zero_block inside in
    absurd (omega (arith, here)))
    (cases_lt 0 block)

-- the bytes of a run lie in the region
pub run_inside : (region size block count b len : ℕ) → b + len ≤ count → region + count * block ≤ size
    → region + b * block + len * block ≤ size
run_inside region size block count b len fits in_size = omega (arith, mul-le-mul_right block fits)

pub one_block : (block len : ℕ) → 1 ≤ len → block ≤ len * block
one_block block len some = omega (arith, mul-le-mul_right block some)
