-- A list of nodes rests on the words of its own entries alone, and a node that is cut in two has the same entries.
use Rattle.std.proofs.Common.{◌≡◌, ℕ, zero, suc, ◌+◌, ◌-◌, ◌<◌, ◌≤◌, List, [], ◌∷◌, ◌++◌, sym, ◌∙◌, ap}
use Rattle.std.proofs.Common.{subst, arith}
use Rattle.std.proofs.Common.{append_assoc, refl}
use Rattle.std.specs.List.{range_with_len, Contains}
use Rattle.std.proofs.lemmas.List.Elements.{Contains-append_left, Contains-append_right}
use Rattle.std.proofs.lemmas.List.FromFn.{length-range_with_len, get_or-range_with_len}
use Rattle.save_bytes.specs.Cells.{Cell}
use Rattle.chain_nodes.specs.declared.node.Node.{Node}
use Rattle.chain_nodes.specs.declared.node.Lead.{Lead}
use Rattle.chain_nodes.specs.declared.node.Lead.TheVariants.{Follows}
use Rattle.chain_nodes.specs.Table.{word_u, word_v, HasWords}
use Rattle.chain_nodes.specs.Edits.{KeepsEntry}
use Rattle.chain_nodes.specs.Chains.{IsLead, IsInner, IsNode, start_of, AreNodes, entries_of, IsLinkedBy}
use Rattle.chain_nodes.proofs.TableLemmas.{number_in-same}

-- a number of a run
pub range_contains : (a n x : ℕ) → a ≤ x → x < a + n → Contains (range_with_len a n) x
range_contains a n x from below =
    let k : ℕ = x - a in
    let place : a + k ≡ x = omega arith in
    (k, omega (arith, length-range_with_len a n), get_or-range_with_len a n k x (omega arith) ∙ place)

-- an entry of a node, in a list that begins with the node
pub entry_of : (node : Node) (nodes : List Node) (x : ℕ) → node.first ≤ x → x ≤ node.last
    → Contains (entries_of (node ∷ nodes)) x
entry_of node nodes x from up_to =
    let len : ℕ = node.last + 1 - node.first in
    Contains-append_left (range_with_len node.first len) (entries_of nodes) x (range_contains node.first len x from
    (omega arith))

module _ (old new : ℕ → ℕ → Cell) where
  pub words_read : (entry : ℕ) → KeepsEntry old new entry → HasWords old entry → HasWords new entry
  words_read entry kept words k less = rw (kept k less (words k less)) (words k less)

  pub same_u : (entry : ℕ) → KeepsEntry old new entry → HasWords old entry → word_u new entry ≡ word_u old entry
  same_u entry kept words = number_in-same 4 (new entry) (old entry) 0 0 (λ k less.
      (let none : 0 + k ≡ k = omega arith in
      let small : k < 8 = omega (arith, less) in
      rw none (kept k small (words k small))))

  pub same_v : (entry : ℕ) → KeepsEntry old new entry → HasWords old entry → word_v new entry ≡ word_v old entry
  same_v entry kept words = number_in-same 4 (new entry) (old entry) 4 4 (λ k less.
      (let small : 4 + k < 8 = omega (arith, less) in kept (4 + k) small (words (4 + k) small)))

  pub same_inner : (node : Node) (entry : ℕ) → KeepsEntry old new entry → IsInner old node entry → IsInner new node
      entry
  same_inner node entry kept h = record {
    read = words_read entry kept h.read;
    u = same_u entry kept h.read ∙ h.u;
    v = same_v entry kept h.read ∙ h.v;
  }

  -- a node is one by the words of its own entries
  node_rests : (count : ℕ) (lead : Lead) (node : Node) (next : ℕ)
      → ((x : ℕ) → node.first ≤ x → x ≤ node.last → KeepsEntry old new x) → IsNode old count lead node next
      → IsNode new count lead node next
  node_rests count lead node next kept h =
      let first = kept node.first (omega arith) h.ordered in
      record {
        starts = h.starts;
        ordered = h.ordered;
        ends = h.ends;
        read = words_read node.first first h.read;
        u = subst (λ (w : ℕ). IsLead lead w) (sym (same_u node.first first h.read)) h.u;
        single = λ same. same_v node.first first h.read ∙ h.single same;
        several = λ more. same_v node.first first h.read ∙ h.several more;
        second = λ more. same_inner node (node.first + 1) (kept (node.first + 1) (omega arith) (omega (arith, more)))
            (h.second more);
        last = λ more. same_inner node node.last (kept node.last h.ordered (omega arith)) (h.last more);
      }

  pub nodes_rest : (count : ℕ) (lead : Lead) (nodes : List Node) (next : ℕ)
      → ((x : ℕ) → Contains (entries_of nodes) x → KeepsEntry old new x) → AreNodes old count lead nodes next
      → AreNodes new count lead nodes next
  nodes_rest count lead [] next kept h = tt
  nodes_rest count lead (node ∷ nodes) next kept h = (
    node_rests count lead node (start_of nodes next) (λ x from up_to. kept x (entry_of node nodes x from up_to)) h.0,
    nodes_rest count (Follows node.first) nodes next (λ x within. kept x
        (Contains-append_right (range_with_len node.first (node.last + 1 - node.first))
        (entries_of nodes) x within)) h.1,
  )

  -- so is a list
  pub list_rests : (count : ℕ) (lead : Lead) (first : ℕ) (list : List ℕ) → ((x : ℕ) → Contains list x → KeepsEntry
      old new x)
      → IsLinkedBy old count lead first list → IsLinkedBy new count lead first list
  list_rests count lead first list kept h = record {
    nodes = h.nodes;
    linked = nodes_rest count lead h.nodes 0 (λ x within. kept x
        (subst (λ (l : List ℕ). Contains l x) h.entries within)) h.linked;
    starts = h.starts;
    entries = h.entries;
  }

-- a run that is cut in two has the same numbers
range_cut : (a m n : ℕ) → range_with_len a (m + n) ≡ range_with_len a m ++ range_with_len (a + m) n
range_cut a zero n =
    let none : a + 0 ≡ a = omega arith in
    let all : 0 + n ≡ n = omega arith in
    rw (none, all) refl
range_cut a (suc m) n =
    let more : suc m + n ≡ suc (m + n) = omega arith in
    let there : a + 1 + m ≡ a + suc m = omega arith in
    let rest : range_with_len (a + 1) (m + n) ≡ range_with_len (a + 1) m ++ range_with_len (a + suc m) n =
    subst (λ (b : ℕ). range_with_len (a + 1) (m + n) ≡ range_with_len (a + 1) m ++ range_with_len b n) there
    (range_cut (a + 1) m n) in
    rw more (ap (λ (l : List ℕ). a ∷ l) rest)

-- a node that is cut in two has the same entries
pub node_cut : (first middle last : ℕ) (nodes : List Node) → first ≤ middle → middle < last
    → entries_of (record { first = first; last = last } ∷ nodes)
    ≡ entries_of (record { first = first; last = middle } ∷ record { first = middle + 1; last = last } ∷ nodes)
node_cut first middle last nodes ordered less =
    let m : ℕ = middle + 1 - first in
    let n : ℕ = last + 1 - (middle + 1) in
    let whole : last + 1 - first ≡ m + n = omega arith in
    let behind : first + m ≡ middle + 1 = omega arith in
    let cut : range_with_len first (last + 1 - first) ≡ range_with_len first m ++ range_with_len (middle + 1) n =
    ap (λ (k : ℕ). range_with_len first k) whole ∙ range_cut first m n
    ∙ ap (λ (b : ℕ). range_with_len first m ++ range_with_len b n) behind in
    ap (λ (l : List ℕ). l ++ entries_of nodes) cut
    ∙ append_assoc (range_with_len first m) (range_with_len (middle + 1) n) (entries_of nodes)
