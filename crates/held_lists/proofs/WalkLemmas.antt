-- A list that is walked under a set: one node more, and where it is at fault.
use Rattle.std.proofs.Common.{◌≡◌, ℕ, ◌+◌, ◌-◌, ◌≤◌, true, IsTrue, List, [], ◌∷◌, ◌++◌, length, None}
use Rattle.std.proofs.Common.{sym, ◌∙◌, ap, arith, ⊎_elim, subst, length-append, Option}
use Rattle.std.proofs.lemmas.List.{append-nil}
use Rattle.std.proofs.lemmas.List.FromFn.{length-range_with_len}
use Rattle.std.proofs.lemmas.List.Elements.{Contains-append_right}
use Rattle.std.specs.List.{range_with_len, Contains}
use Rattle.save_bytes.specs.Cells.{Cell}
use Rattle.save_bytes.specs.State.{State}
use Rattle.save_bytes.specs.Stays.{Stays}
use Rattle.chain_nodes.specs.declared.info.ChainInfo.{ChainInfo}
use Rattle.chain_nodes.specs.declared.fault.ChainFault.{ChainFault}
use Rattle.chain_nodes.specs.declared.node.Node.{Node}
use Rattle.chain_nodes.specs.declared.node.Lead.{Lead}
use Rattle.chain_nodes.specs.declared.node.Lead.TheVariants.{Follows}
use Rattle.chain_nodes.specs.Table.{table_in, HasWords, HasAllocationTable}
use Rattle.chain_nodes.specs.Chains.{IsNode, start_of, AreNodes, lead_after, entries_of, occurrences}
use Rattle.chain_nodes.specs.Faults.{FailsAt, IsFaulty, FaultsOnly}
use Rattle.chain_nodes.proofs.ListLemmas.{start_of-append, lead_after-append, AreNodes-append, entries_of-append}
use Rattle.chain_nodes.proofs.OwnLemmas.{range_contains}
use Rattle.chain_nodes.proofs.ExactLemmas.{nodes_few}
use Rattle.chain_nodes.proofs.TableLemmas.{table_stays}
use Rattle.chain_nodes.proofs.FaultLemmas.{FaultsOnly-later, FaultsOnly-map}
use Rattle.held_lists.specs.declared.set.EntrySet.{EntrySet}
use Rattle.held_lists.specs.declared.walk.Place.{Place}
use Rattle.held_lists.specs.Sets.{has_entry, IsInRun, TakesRun}
use Rattle.held_lists.specs.Walks.{TakesAll, IsWalkedBy, IfWalked, HasFront, IsListFault}
use Rattle.held_lists.specs.Walks.IsListFault.{Unlike, Twice, Held}
use Rattle.held_lists.proofs.TakeLemmas.{takes_more, occurs_twice}

module _ (table : ℕ → ℕ → Cell) (count : ℕ) (lead : Lead) (first : ℕ) (before : EntrySet) (nodes : List Node)
    (at : Place) (held : EntrySet) (w : IsWalkedBy table count lead first before nodes at held) where
  -- a fault of the node behind the place is one of the list
  pub node_fails : 1 ≤ at.next → (entry : ℕ) → IsFaulty table count at.lead at.next entry
      → FailsAt table count lead first entry
  node_fails some entry faulty = record {
    nodes = nodes;
    next = at.next;
    linked = w.linked;
    starts = w.starts;
    named = record { some = some; inside = w.named };
    faulty = subst (λ (l : Lead). IsFaulty table count l at.next entry) w.led faulty;
  }

  module _ (node : Node) (next : ℕ) (is_node : IsNode table count at.lead node next) (starts : node.first ≡ at.next)
      (named : next ≤ count) where
    abbrev pub more : List Node
    more = nodes ++ node ∷ []

    abbrev run_len : ℕ
    run_len = node.last + 1 - node.first

    linked_more : AreNodes table count lead more next
    linked_more =
        let here : IsNode table count (lead_after lead nodes) node next =
        subst (λ (l : Lead). IsNode table count l node next) w.led is_node in
        AreNodes-append table count lead nodes (node ∷ []) next
        (subst (λ (n : ℕ). AreNodes table count lead nodes n) (sym starts) w.linked) (here, tt)

    starts_more : start_of more next ≡ first
    starts_more =
        start_of-append nodes (node ∷ []) next ∙ ap (λ (n : ℕ). start_of nodes n) starts ∙ w.starts

    entries_more : entries_of more ≡ entries_of nodes ++ range_with_len node.first run_len
    entries_more =
        entries_of-append nodes (node ∷ [])
        ∙ ap (λ (l : List ℕ). entries_of nodes ++ l) (append-nil (range_with_len node.first run_len))

    lengths : length (entries_of more) ≡ length (entries_of nodes) + run_len
    lengths =
        ap (λ (l : List ℕ). length l) entries_more
        ∙ length-append (entries_of nodes) (range_with_len node.first run_len)
        ∙ ap (λ (n : ℕ). length (entries_of nodes) + n) (length-range_with_len node.first run_len)

    front_more : HasFront table count lead first more
    front_more = record { next = next; named = named; linked = linked_more; starts = starts_more }

    -- an entry of the node that was in the set
    pub met_fault : (entry : ℕ) → IsInRun node.first run_len entry → has_entry held entry ≡ true
        → IsListFault table count lead first before entry
    met_fault entry run is =
        let within : Contains (range_with_len node.first run_len) entry =
        range_contains node.first run_len entry run.from run.before in
        ⊎_elim
        (λ (old : has_entry before entry ≡ true). Held more front_more
        (subst (λ (l : List ℕ). Contains l entry) (sym entries_more)
        (Contains-append_right (entries_of nodes) (range_with_len node.first run_len) entry within)) old)
        (λ (own : Contains (entries_of nodes) entry). Twice more front_more
        (subst (λ (l : List ℕ). 2 ≤ occurrences entry l) (sym entries_more)
        (occurs_twice entry (entries_of nodes) (range_with_len node.first run_len) own within)))
        (w.takes.only entry is)

    module _ (new : EntrySet) (run : TakesRun held new node.first run_len) where
      takes_node : TakesAll before new (entries_of more)
      takes_node = subst (λ (l : List ℕ). TakesAll before new l) (sym entries_more)
          (takes_more before held new (entries_of nodes) node.first run_len w.takes run)

      -- no more entries are taken than there are
      pub taken_few : at.passed + run_len ≤ count
      taken_few =
          let few = nodes_few table count lead more next linked_more takes_node.once in
          omega (arith, few, lengths, w.passed)

      pub walked_more : (behind : Place) → behind.lead ≡ Follows node.first → behind.next ≡ next
          → behind.passed ≡ at.passed + run_len → IsWalkedBy table count lead first before more behind new
      walked_more behind led is_next passed = record {
        linked = subst (λ (n : ℕ). AreNodes table count lead more n) (sym is_next) linked_more;
        starts = subst (λ (n : ℕ). start_of more n ≡ first) (sym is_next) starts_more;
        named = omega (arith, is_next, named);
        led = led ∙ sym (lead_after-append lead nodes (node ∷ []));
        passed = omega (arith, passed, w.passed, lengths);
        takes = takes_node;
      }

module _ {s t : State} {info : ChainInfo} (has_table : HasAllocationTable s.shape info) (stays : Stays s t None) where
  -- a step that was walked in a later state
  pub walked_later : {at behind : Place} {held new : EntrySet} {node : Node}
      → (IsTrue t.told → (lead : Lead) (first : ℕ) (before : EntrySet) (nodes : List Node)
      → IsWalkedBy (table_in t.cells info) info.count lead first before nodes at held
      → IsWalkedBy (table_in t.cells info) info.count lead first before (nodes ++ node ∷ []) behind new)
      → IsTrue s.told → (lead : Lead) (first : ℕ) (before : EntrySet) (nodes : List Node)
      → IsWalkedBy (table_in s.cells info) info.count lead first before nodes at held
      → IsWalkedBy (table_in s.cells info) info.count lead first before (nodes ++ node ∷ []) behind new
  walked_later {at} {behind} {held} {new} {node} step told lead first before nodes w =
      subst (λ (c : ℕ → ℕ → Cell). IsWalkedBy c info.count lead first before nodes at held
      → IsWalkedBy c info.count lead first before (nodes ++ node ∷ []) behind new)
      (table_stays s t info has_table stays told)
      (step (stays.space.told told) lead first before nodes) w

  -- the faults of a list, named by a later step
  pub faults_later : (lead : Lead) (first : ℕ) (before : EntrySet) (at : Place) (held : EntrySet)
      (fault : Option ChainFault)
      → (IsTrue s.told → (nodes : List Node)
      × IsWalkedBy (table_in s.cells info) info.count lead first before nodes at held)
      → FaultsOnly t info
      (λ e. IfWalked (table_in t.cells info) info.count at held
      (λ lead first before. IsListFault (table_in t.cells info) info.count lead first before e))
      (λ e. IfWalked (table_in t.cells info) info.count at held
      (λ lead first before. FailsAt (table_in t.cells info) info.count lead first e)) fault
      → FaultsOnly s info (IsListFault (table_in s.cells info) info.count lead first before)
      (FailsAt (table_in s.cells info) info.count lead first) fault
  faults_later lead first before at held fault walked faults =
      FaultsOnly-later s t info fault has_table stays
      (λ told e faulty. subst (λ (c : ℕ → ℕ → Cell). IsWalkedBy c info.count lead first before (walked told).0 at held
      → IsListFault c info.count lead first before e) (table_stays s t info has_table stays told)
      (faulty lead first before (walked told).0) (walked told).1)
      (λ told e fails. subst (λ (c : ℕ → ℕ → Cell). IsWalkedBy c info.count lead first before (walked told).0 at held
      → FailsAt c info.count lead first e) (table_stays s t info has_table stays told)
      (fails lead first before (walked told).0) (walked told).1)
      faults

-- the faults of the node behind a place, named by a call that reads it
pub node_faults : (s : State) (info : ChainInfo) (at : Place) (held : EntrySet) (fault : Option ChainFault)
    → 1 ≤ at.next
    → FaultsOnly s info (λ e. HasWords (table_in s.cells info) e
    × IsFaulty (table_in s.cells info) info.count at.lead at.next e)
    (IsFaulty (table_in s.cells info) info.count at.lead at.next) fault
    → FaultsOnly s info
    (λ e. IfWalked (table_in s.cells info) info.count at held
    (λ lead first before. IsListFault (table_in s.cells info) info.count lead first before e))
    (λ e. IfWalked (table_in s.cells info) info.count at held
    (λ lead first before. FailsAt (table_in s.cells info) info.count lead first e)) fault
node_faults s info at held fault some faults = FaultsOnly-map s info fault
    (λ told e faulty lead first before nodes w. Unlike faulty.0
    (node_fails (table_in s.cells info) info.count lead first before nodes at held w some e faulty.1))
    (λ told e faulty lead first before nodes w.
    node_fails (table_in s.cells info) info.count lead first before nodes at held w some e faulty)
    faults
