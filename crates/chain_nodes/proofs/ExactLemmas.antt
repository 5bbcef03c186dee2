-- Where the table is as it should be, no call on a list fails but for the disk's sake.
use Rattle.std.proofs.Common.{◌≡◌, ℕ, zero, suc, ◌+◌, ◌-◌, ◌^◌, ◌<◌, ◌≤◌, IsTrue, List, [], ◌∷◌, ◌++◌, length, Result}
use Rattle.std.proofs.Common.{Ok, Err, IfOk, refl, sym, ◌∙◌}
use Rattle.std.proofs.Common.{nat_eq, ap, subst, arith, inl, ⊎_elim, length-append}
use Rattle.std.proofs.lemmas.List.{append-nil, get_or_append_left, get_or-append-add}
use Rattle.std.proofs.lemmas.Bool.{cases_lt}
use Rattle.std.specs.Result.{result_err}
use Rattle.std.specs.List.{range_with_len, IsDistinct}
use Rattle.std.proofs.lemmas.List.FromFn.{length-range_with_len, get_or-range_with_len}
use Rattle.save_bytes.specs.declared.space.Bad.TheVariants.{Disk, Damaged}
use Rattle.save_bytes.specs.Cells.{Cell, Byte, Blank, Spoilt, IsByte, Blames}
use Rattle.save_bytes.specs.State.{State}
use Rattle.chain_nodes.specs.declared.info.ChainInfo.{ChainInfo}
use Rattle.chain_nodes.specs.declared.info.Run.{Run}
use Rattle.chain_nodes.specs.declared.fault.ChainFault.{ChainFault}
use Rattle.chain_nodes.specs.declared.fault.ChainFault.TheVariants.{Broken, Short}
use Rattle.chain_nodes.specs.declared.fault.ChainFault.TheVariants.{Bad as Refused}
use Rattle.chain_nodes.specs.declared.node.Node.{Node}
use Rattle.chain_nodes.specs.declared.node.Lead.{Lead}
use Rattle.chain_nodes.specs.declared.node.Lead.TheVariants.{OpensFree, Follows}
use Rattle.chain_nodes.specs.Table.{table_in, word_v, index_of, HasWords, HasFault}
use Rattle.chain_nodes.specs.Chains.{IsInner, IsNode, start_of, AreNodes, lead_after, entries_of, occurrences}
use Rattle.chain_nodes.specs.Chains.{IsLinkedBy}
use Rattle.chain_nodes.specs.Faults.{IsLong, IsHead, IsSecond, IsFaulty, FailsAt, IsShared, IsBroken, IsFreeBroken}
use Rattle.chain_nodes.specs.Faults.{IsFreeNeeded, FaultsOnly}
use Rattle.chain_nodes.specs.Faults.IsFaulty.{AtFirst, AtSecond, AtLast}
use Rattle.chain_nodes.specs.Faults.IsBroken.{Unlike, Shared}
use Rattle.chain_nodes.specs.Faults.IsFreeBroken.{AtRoot, InList}
use Rattle.chain_nodes.specs.Faults.IsFreeNeeded.{Root, Listed}
use Rattle.chain_nodes.specs.Runs.{DoneUnlessDisk, IsRunIn, IsRestOfNode}
use Rattle.chain_nodes.proofs.ListLemmas.{entries_of-append}
use Rattle.chain_nodes.specs.Between.{count_between}
use Rattle.chain_nodes.proofs.CountLemmas.{count_between-split, count_between-none, count_between-one}
use Rattle.chain_nodes.proofs.CountLemmas.{count_between-all, distinct_once}
use Rattle.chain_nodes.proofs.FrontLemmas.{front_of, same_node, start_small}

-- of numbers that stand once each there are no more than there are numbers
few_between : (n : ℕ) (list : List ℕ) → ((x : ℕ) → occurrences x list ≤ 1) → count_between 1 n list ≤ n
few_between zero list once = omega (arith, count_between-none 1 0 list (omega arith))
few_between (suc n) list once =
    let last : count_between (n + 1) (n + 1) list ≤ 1 = omega (arith, count_between-one (n + 1) list, once (n + 1)) in
    let all : count_between 1 (n + 1) list ≤ n + 1 =
    ⊎_elim
    (λ (some : 0 < n). omega (
      arith,
      last,
      few_between n list once,
      count_between-split 1 n (n + 1) list
          (omega arith) (omega arith),
    ))
    (λ (none : n ≤ 0).
    let zero_n : n ≡ 0 = omega arith in
    let here : count_between 1 (n + 1) list ≤ 1 = subst (λ (m : ℕ). count_between (m + 1)
    (n + 1) list ≤ 1) zero_n last in
    omega (arith, here))
    (cases_lt 0 n) in
    let next : n + 1 ≡ suc n = omega arith in
    subst (λ (m : ℕ). count_between 1 m list ≤ m) next all

-- so nodes in which no entry stands twice have no more of them than the table
pub nodes_few : (table : ℕ → ℕ → Cell) (count : ℕ) (lead : Lead) (nodes : List Node) (next : ℕ)
    → AreNodes table count lead nodes next → IsDistinct nat_eq (entries_of nodes) → length (entries_of nodes) ≤ count
nodes_few table count lead nodes next linked once =
    omega (
      arith,
      count_between-all table count lead nodes next linked,
      few_between count (entries_of nodes) (distinct_once (entries_of nodes) once),
    )

-- and a chain has no more blocks
pub chain_few : (table : ℕ → ℕ → Cell) (count : ℕ) (lead : Lead) (first : ℕ) (list : List ℕ)
    → IsLinkedBy table count lead first list → IsDistinct nat_eq list → length list ≤ count
chain_few table count lead first list linked once =
    subst (λ (l : List ℕ). length l ≤ count) linked.entries
    (nodes_few table count lead linked.nodes 0 linked.linked
    (subst (λ (l : List ℕ). IsDistinct nat_eq l) (sym linked.entries) once))

module _ (table : ℕ → ℕ → Cell) (count : ℕ) (few : count < 2 ^ 31) where
  module _ (lead : Lead) (node : Node) (next : ℕ) (inside : next ≤ count) (h : IsNode table count lead node next) where
    next_small : index_of (word_v table node.first) ≤ count
    next_small =
        ⊎_elim
        (λ (long : node.first < node.last). omega (arith, h.several long))
        (λ (one : node.last ≤ node.first). (let same : node.first ≡ node.last = omega (arith, h.ordered) in omega
        (arith, h.single same)))
        (cases_lt node.first node.last)

    has_more : IsLong table node.first → node.first < node.last
    has_more long =
        ⊎_elim
        (λ (more : node.first < node.last). more)
        (λ (one : node.last ≤ node.first). (let same : node.first ≡ node.last = omega (arith, h.ordered) in absurd
        (omega (arith, h.single same))))
        (cases_lt node.first node.last)

    head_of : IsHead table count lead node.first
    head_of = record { read = h.read; u = h.u; next = next_small; room = λ long. omega (arith, has_more long, h.ends) }

    second_of : node.first < node.last → IsSecond table count node.first
    second_of more = record {
      read = (h.second more).read;
      u = (h.second more).u;
      behind =
          omega (arith, (h.second more).v);
      inside = omega (arith, (h.second more).v, h.ends);
    }

    last_of : node.first < node.last → (entry : ℕ) → entry ≡ word_v table (node.first + 1)
        → IsInner table (record { first = node.first; last = entry }) entry
    last_of more entry is =
        let same : node.last ≡ entry = sym (h.second more).v ∙ sym is in
        subst (λ (l : ℕ). IsInner table (record { first = node.first; last = l }) l) same (h.last more)

    -- none of a node's entries is at fault
    no_fault : (entry : ℕ) → ¬ IsFaulty table count lead node.first entry
    no_fault entry (AtFirst is isnt) = isnt head_of
    no_fault entry (AtSecond head long is isnt) = isnt (second_of (has_more long))
    no_fault entry (AtLast head long second is isnt) = isnt (last_of (has_more long) entry is)

  start_in : (lead : Lead) (nodes : List Node) → AreNodes table count lead nodes 0 → start_of nodes 0 ≤ count
  start_in lead [] h = omega arith
  start_in lead (node ∷ nodes) h = omega (arith, h.0.ordered, h.0.ends)

  no_more : (lead : Lead) (rest : List Node) → AreNodes table count lead rest 0 → start_of rest 0 ≡ 0
      → entries_of rest ≡ []
  no_more lead [] h none = refl
  no_more lead (node ∷ nodes) h none = absurd (omega (arith, h.0.starts))

  -- the entries of a list begin with those of its first node
  pub record BeginsWith (node : Node) (entries : List ℕ) : Type 0 where
    pub others : List ℕ
    pub whole : entries ≡ range_with_len node.first (node.last + 1 - node.first) ++ others

  begins_with : (lead : Lead) (node : Node) (next : ℕ) (rest : List Node) → next ≤ count
      → IsNode table count lead node next → AreNodes table count lead rest 0 → start_of rest 0 ≡ node.first
      → BeginsWith node (entries_of rest)
  begins_with lead node next [] named is_node h starts = absurd (omega (arith, is_node.starts))
  begins_with lead node next (x ∷ xs) named is_node h starts =
      let same = same_node table count lead node x next (start_of xs 0) (omega arith)
      (start_small table count (Follows x.first) xs 0 few (omega arith) h.1) is_node h.0 (sym starts) in
      record {
        others = entries_of xs;
        whole = ap (λ (n : Node). range_with_len n.first
            (n.last + 1 - n.first) ++ entries_of xs) (sym same.node);
      }

  -- a node stands where a list goes on
  pub no_fault_in : (lead : Lead) (rest : List Node) (first entry : ℕ) → AreNodes table count lead rest 0
      → start_of rest 0 ≡ first → 1 ≤ first → ¬ IsFaulty table count lead first entry
  no_fault_in lead [] first entry h starts some faulty = omega arith
  no_fault_in lead (node ∷ nodes) first entry h starts some faulty =
      no_fault lead node (start_of nodes 0) (start_in (Follows node.first) nodes h.1) h.0 entry
      (subst (λ (f : ℕ). IsFaulty table count lead f entry) (sym starts) faulty)

  module _ (lead : Lead) (first : ℕ) (list : List ℕ) (linked : IsLinkedBy table count lead first list) where
    -- nothing fails in a list that is as it should be
    pub no_failure : (entry : ℕ) → ¬ FailsAt table count lead first entry
    no_failure entry fails =
        let rest = front_of table count few lead fails.nodes linked.nodes fails.next 0 fails.named.inside
        (omega arith) fails.linked linked.linked (fails.starts ∙ sym linked.starts) (inl refl) in
        no_fault_in (lead_after lead fails.nodes) rest.rest fails.next entry rest.linked rest.starts fails.named.some
        fails.faulty

    -- nor does an entry have two places, where the list is no longer than the table
    no_sharing : length list ≤ count → (entry : ℕ) → ¬ IsShared table count lead first entry
    no_sharing small entry shared =
        let rest = front_of table count few lead shared.nodes linked.nodes shared.next 0 shared.named (omega arith)
        shared.linked linked.linked (shared.starts ∙ sym linked.starts) (inl refl) in
        let whole : list ≡ entries_of shared.nodes ++ entries_of rest.rest = sym linked.entries
        ∙ ap entries_of rest.whole ∙ entries_of-append shared.nodes rest.rest in
        omega (
          arith,
          small,
          shared.many,
          ap length whole,
          length-append (entries_of shared.nodes)
              (entries_of rest.rest),
        )

    -- what begins a list lies in the table
    pub linked_first : first ≤ count
    linked_first = omega (arith, linked.starts, start_in lead linked.nodes linked.linked)

    pub no_break : length list ≤ count → (entry : ℕ) → ¬ IsBroken table count lead first entry
    no_break small entry (Unlike read fails) = no_failure entry fails
    no_break small entry (Shared shared) = no_sharing small entry shared

    -- the table fixes the list
    pub same_list : (other : List ℕ) → IsLinkedBy table count lead first other → other ≡ list
    same_list other there =
        let rest = front_of table count few lead linked.nodes there.nodes 0 0 (omega arith) (omega arith)
        linked.linked there.linked (linked.starts ∙ sym there.starts) (inl refl) in
        sym there.entries ∙ ap entries_of rest.whole ∙ entries_of-append linked.nodes rest.rest
        ∙ ap (λ (l : List ℕ). entries_of linked.nodes ++ l)
        (no_more (lead_after lead linked.nodes) rest.rest rest.linked rest.starts)
        ∙ append-nil (entries_of linked.nodes) ∙ linked.entries

    -- and so each run of it
    pub run_in : (pos : ℕ) (run : Run) → IsRestOfNode table count lead first pos run → IsRunIn list pos run
    run_in pos run part =
        let front = entries_of part.nodes in
        let rest = front_of table count few lead part.nodes linked.nodes part.node.first 0
        (omega (arith, part.is_node.ordered, part.is_node.ends)) (omega arith) part.linked linked.linked
        (part.starts ∙ sym linked.starts) (inl refl) in
        let begins = begins_with (lead_after lead part.nodes) part.node part.next rest.rest part.named part.is_node
        rest.linked rest.starts in
        let len : ℕ = part.node.last + 1 - part.node.first in
        let here = range_with_len part.node.first len in
        let whole : list ≡ front ++ (here ++ begins.others) = sym linked.entries ∙ ap entries_of rest.whole
        ∙ entries_of-append part.nodes rest.rest ∙ ap (λ (l : List ℕ). front ++ l) begins.whole in
        let skipped : ℕ = pos - length front in
        record {
          inside = rw whole (omega (
            arith,
            length-append front (here ++ begins.others),
            length-append here begins.others,
            length-range_with_len part.node.first len,
            part.before,
            part.block,
            part.last,
            part.is_node.starts,
          ));
          blocks = λ k within.
              (let place : pos + k ≡ length front + (skipped + k) = omega (arith, part.before) in
              let in_node : skipped + k < len = omega (arith, part.before, part.block, part.last, part.is_node.starts)
              in
              let in_here : skipped + k < length here = omega
              (arith, in_node, length-range_with_len part.node.first len) in
              let value : part.node.first + (skipped + k) ≡ run.block + k + 1 = omega (arith, part.block) in
              rw (whole, place) (get_or-append-add front (here ++ begins.others) (skipped + k) 0
              ∙ get_or_append_left here begins.others 0 (skipped + k) in_here
              ∙ get_or-range_with_len part.node.first len (skipped + k) 0 in_node ∙ value));
        }

-- no cell of an entry that is read is at fault
module _ (s : State) (info : ChainInfo) (told : IsTrue s.told) where
  -- a call with no fault but the disk's is done, or fails for the disk's sake
  pub done_unless_disk : {A : Type 0} {B N : ℕ → Type 0} (P : A → Type 0) (result : Result A ChainFault)
      → ((entry : ℕ) → ¬ B entry) → ((entry part level block : ℕ) → N entry
      → ¬ HasFault (table_in s.cells info) entry part level block) → FaultsOnly s info B N (result_err result)
      → IfOk result P → DoneUnlessDisk result P
  done_unless_disk P (Ok value) no_break no_need faults ok = ok
  done_unless_disk P (Err (Refused Disk)) no_break no_need faults ok = tt
  done_unless_disk P (Err (Refused (Damaged part level block))) no_break no_need faults ok =
      let fault = faults.damaged told in
      no_need fault.0 part level block fault.1 fault.2
  done_unless_disk P (Err (Broken entry)) no_break no_need faults ok = no_break entry (faults.broken told)
  done_unless_disk P (Err (Short need have)) no_break no_need faults ok = faults.never_short

-- a cell that is no byte
no_byte : (cell : Cell) (part level block : ℕ) → Blames cell part level block → ¬ IsByte cell
no_byte (Byte value) part level block blames is = blames
no_byte (Blank p l b) part level block blames is = is
no_byte (Spoilt p l b) part level block blames is = is

pub no_words : (table : ℕ → ℕ → Cell) (entry part level block : ℕ) → HasWords table entry
    → ¬ HasFault table entry part level block
no_words table entry part level block words (k, small, blames) =
    no_byte (table entry k) part level block blames (words k small)

-- nothing fails in the free list
pub no_free_break : (table : ℕ → ℕ → Cell) (count : ℕ) (list : List ℕ) → count < 2 ^ 31
    → IsLinkedBy table count OpensFree (index_of (word_v table 0)) list → IsDistinct nat_eq list
    → (entry : ℕ) → ¬ IsFreeBroken table count entry
no_free_break table count list few linked once entry (AtRoot is read above) =
    omega (arith, linked.starts, start_in table count few OpensFree linked.nodes linked.linked)
no_free_break table count list few linked once entry (InList broken) =
    no_break table count few OpensFree (index_of (word_v table 0)) list linked
    (chain_few table count OpensFree (index_of (word_v table 0)) list linked once) entry broken

pub no_free_need : (table : ℕ → ℕ → Cell) (count : ℕ) (list : List ℕ) → count < 2 ^ 31 → HasWords table 0
    → IsLinkedBy table count OpensFree (index_of (word_v table 0)) list → (entry part level block : ℕ)
    → IsFreeNeeded table count entry → ¬ HasFault table entry part level block
no_free_need table count list few words linked entry part level block (Root is) fault =
    no_words table 0 part level block words (subst (λ (e : ℕ). HasFault table e part level block) is fault)
no_free_need table count list few words linked entry part level block (Listed fails) fault =
    no_failure table count few OpensFree (index_of (word_v table 0)) list linked entry fails

-- a call on a list that is as it should be is done, or fails for the disk's sake
pub list_done : {A : Type 0} (P : A → Type 0) (s : State) (info : ChainInfo) (lead : Lead) (first : ℕ) (list : List ℕ)
    (result : Result A ChainFault) → info.count < 2 ^ 31 → IsTrue s.told
    → IsLinkedBy (table_in s.cells info) info.count lead first list → IsDistinct nat_eq list
    → FaultsOnly s info (IsBroken (table_in s.cells info) info.count lead first) (FailsAt
    (table_in s.cells info) info.count lead first)
    (result_err result) → IfOk result P → DoneUnlessDisk result P
list_done P s info lead first list result few told linked once faults ok =
    let table = table_in s.cells info in
    done_unless_disk s info told P result
    (no_break table info.count few lead first list linked (chain_few table info.count lead first list linked once))
    (λ entry part level block fails _. no_failure table info.count few lead first list linked entry fails) faults ok
