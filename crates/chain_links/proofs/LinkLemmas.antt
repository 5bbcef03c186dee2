-- Nodes and lists of nodes, after several entries were written.
use Rattle.std.proofs.Common.{◌≡◌, ℕ, ◌+◌, ◌-◌, ◌<◌, ◌≤◌, nat_eq, List, [], ◌∷◌, ◌++◌, refl, sym, ◌∙◌, ap, subst}
use Rattle.std.proofs.Common.{arith}
use Rattle.std.proofs.Common.{⊎_elim}
use Rattle.std.proofs.lemmas.Bool.{cases_lt}
use Rattle.save_bytes.specs.Cells.{Cell, IsByte}
use Rattle.chain_nodes.specs.declared.node.Node.{Node}
use Rattle.chain_nodes.specs.Table.{index_of, flagged}
use Rattle.chain_nodes.specs.Chains.{IsLead, IsInner, AreNodes, lead_after, entries_of}
use Rattle.chain_nodes.specs.Edits.{KeepsEntry, IsEntrySet, AreJoinable, AreBefore, AreBehind}
use Rattle.std.specs.List.{Contains, IsDistinct}
use Rattle.std.proofs.lemmas.List.Elements.{Contains-append_left}
use Rattle.chain_nodes.specs.declared.node.Lead.{Lead}
use Rattle.chain_nodes.specs.declared.node.Lead.TheVariants.{OpensFree}
use Rattle.chain_nodes.proofs.ListLemmas.{entries_of-append}
use Rattle.chain_nodes.proofs.DistinctLemmas.{distinct_apart}
use Rattle.chain_nodes.proofs.EditLemmas.{run_of, entry_within, kept_inner, nodes_kept}
use Rattle.chain_nodes.proofs.OwnLemmas.{words_read, same_u, same_inner, range_contains, nodes_rest}

-- an entry that was written as a node's second or last one
pub set_inner : (old new : ℕ → ℕ → Cell) (count : ℕ) (node : Node) (entry : ℕ)
    → IsEntrySet old new count entry (flagged node.first) node.last → IsInner new node entry
set_inner old new count node entry set = record { read = set.words; u = set.u_is; v = set.v_is }

-- the second entry, after the last one was written too
pub inner_stays : (old new : ℕ → ℕ → Cell) (count : ℕ) (node : Node) (last : ℕ)
    → IsEntrySet old new count last (flagged node.first) node.last → node.first < last → last ≤ count
    → IsInner old node (node.first + 1) → IsInner new node (node.first + 1)
inner_stays old new count node last set more inside inner =
    ⊎_elim
    (λ (apart : node.first + 1 < last).
    same_inner old new node (node.first + 1)
    (set.others (node.first + 1) (omega (arith, apart, inside)) (λ same. omega (arith, apart, same))) inner)
    (λ (up_to : last ≤ node.first + 1).
    let is : last ≡ node.first + 1 = omega (arith, up_to, more) in
    subst (λ (e : ℕ). IsInner new node e) is (set_inner old new count node last set))
    (cases_lt (node.first + 1) last)

-- where the entries behind a node's first one were written, up to its last one
module _ (old new : ℕ → ℕ → Cell) (count : ℕ) (node : Node)
    (kept : (x : ℕ) → x ≤ count → ¬ ((node.first < x) × (x ≤ node.last)) → KeepsEntry old new x)
    (second : node.first < node.last → IsInner new node (node.first + 1))
    (last : node.first < node.last → IsInner new node node.last)
    (some : 1 ≤ node.first) (ordered : node.first ≤ node.last) (inside : node.last ≤ count) where
  -- nodes that do not have these are as before
  pub nodes_apart : (lead : Lead) (nodes : List Node) (next : ℕ) → ((x : ℕ) → Contains (entries_of nodes) x → ¬
      Contains (run_of node) x)
      → AreNodes old count lead nodes next → AreNodes new count lead nodes next
  nodes_apart lead nodes next apart h = nodes_rest old new count lead nodes next
      (λ x within. kept x (entry_within old count lead nodes next x h within).1
      (λ (from, up_to). apart x within
      (range_contains node.first (node.last + 1 - node.first) x (omega (arith, from)) (omega (
        arith,
        up_to,
        ordered,
      ))))) h

  -- the nodes before them can be closed
  pub can_close : (lead : Lead) (xs : List Node) → AreBefore old count lead xs node
      → AreJoinable new count lead OpensFree xs node [] 0
  can_close lead xs h =
      let first_kept : KeepsEntry old new node.first = kept node.first (omega (arith, ordered, inside)) (λ (
        from,
        up_to,
      ). omega (arith, from)) in
      record {
        front = nodes_apart lead xs node.first
            (λ x within here. distinct_apart (entries_of xs) (run_of node ++ [])
            (subst (λ (l : List ℕ). IsDistinct nat_eq l) (entries_of-append xs (node ∷ [])) h.once) x within
            (Contains-append_left (run_of node) [] x here)) h.front;
        ends = record {
          starts = some;
          ordered = ordered;
          ends = inside;
          read = words_read old new node.first first_kept h.read;
          u = subst (λ (w : ℕ). IsLead (lead_after lead xs) w) (sym (same_u old new node.first first_kept h.read))
              h.u;
          second = second;
          last = last;
        };
        behind = tt;
        starts = refl;
        once = h.once;
      }

  -- and after the first one was written too, as that of a free list's first node, those behind them can be linked
  pub can_open : (set : ℕ → ℕ → Cell) → IsEntrySet new set count node.first 0 0 → (lead : Lead) (ys : List Node)
      (next : ℕ)
      → AreBehind old count lead node ys next → AreJoinable set count OpensFree lead [] node ys next
  can_open set first lead ys next h =
      let apart : (x : ℕ) → Contains (entries_of ys) x → ¬ Contains (run_of node) x = λ x there here.
      distinct_apart (run_of node) (entries_of ys) h.once x here there in
      record {
        front = tt;
        ends = record {
          starts = some;
          ordered = ordered;
          ends = inside;
          read = first.words;
          u = ap index_of first.u_is;
          second = λ more. kept_inner new set count node.first 0 0 first node (node.first + 1) (omega (
            arith,
            more,
            inside,
          ))
              (λ same. omega (arith, same)) (second more);
          last = λ more. kept_inner new set count node.first 0 0 first node node.last inside
              (λ same. omega (arith, same, more)) (last more);
        };
        behind = nodes_kept new set count node.first 0 0 first lead ys 0
            (λ there. apart node.first there (range_contains node.first (node.last + 1 - node.first) node.first
            (omega arith)
            (omega (arith, ordered)))) (nodes_apart lead ys 0 apart h.linked);
        starts = h.starts;
        once = h.once;
      }

pub kept_twice : (old mid new : ℕ → ℕ → Cell) (x : ℕ) → KeepsEntry old mid x → KeepsEntry mid new x → KeepsEntry old
    new x
kept_twice old mid new x first second k less byte =
    let same = first k less byte in
    second k less (subst (λ (c : Cell). IsByte c) (sym same) byte) ∙ same
