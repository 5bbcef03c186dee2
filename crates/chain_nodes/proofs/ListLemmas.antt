-- Going over the nodes of a list, one by one.
use Rattle.std.proofs.Common.{◌≡◌, ℕ, ◌+◌, ◌-◌, ◌<◌, ◌≤◌, IsTrue, List, [], ◌∷◌, ◌++◌, Option, None, refl, sym, ◌∙◌, ap}
use Rattle.std.proofs.Common.{subst, arith, append_assoc}
use Rattle.std.proofs.Common.{length-append}
use Rattle.std.proofs.lemmas.List.{append-nil}
use Rattle.std.specs.List.{range_with_len}
use Rattle.std.proofs.lemmas.List.FromFn.{length-range_with_len}
use Rattle.save_bytes.specs.Cells.{Cell}
use Rattle.save_bytes.specs.State.{State}
use Rattle.save_bytes.specs.Stays.{Stays}
use Rattle.chain_nodes.specs.declared.info.ChainInfo.{ChainInfo}
use Rattle.chain_nodes.specs.declared.info.Run.{Run}
use Rattle.chain_nodes.specs.declared.fault.ChainFault.{ChainFault}
use Rattle.chain_nodes.specs.declared.node.Node.{Node}
use Rattle.chain_nodes.specs.declared.node.Lead.{Lead}
use Rattle.chain_nodes.specs.declared.node.Lead.TheVariants.{OpensFree, Follows}
use Rattle.chain_nodes.specs.declared.walk.Cursor.{Cursor}
use Rattle.chain_nodes.specs.Table.{table_in, word_v, index_of, HasWords, HasAllocationTable, IsEntry}
use Rattle.chain_nodes.specs.Chains.{IsNode, start_of, AreNodes, lead_after, entries_of}
use Rattle.chain_nodes.specs.Faults.{IsFaulty, FailsAt, IsBroken, IsFreeBroken, IsFreeNeeded, FaultsOnly}
use Rattle.chain_nodes.specs.Faults.IsBroken.{Unlike}
use Rattle.chain_nodes.specs.Faults.IsFreeBroken.{InList}
use Rattle.chain_nodes.specs.Faults.IsFreeNeeded.{Listed}
use Rattle.chain_nodes.specs.Runs.{IsReached, IsRestOfNode}
use Rattle.chain_nodes.proofs.TableLemmas.{table_stays}
use Rattle.chain_nodes.proofs.FaultLemmas.{FaultsOnly-later}

pub start_of-append : (xs ys : List Node) (next : ℕ) → start_of (xs ++ ys) next ≡ start_of xs (start_of ys next)
start_of-append [] ys next = refl
start_of-append (x ∷ xs) ys next = refl

pub lead_after-append : (lead : Lead) (xs ys : List Node) → lead_after lead (xs ++ ys) ≡ lead_after
    (lead_after lead xs) ys
lead_after-append lead [] ys = refl
lead_after-append lead (x ∷ xs) ys = lead_after-append (Follows x.first) xs ys

pub entries_of-append : (xs ys : List Node) → entries_of (xs ++ ys) ≡ entries_of xs ++ entries_of ys
entries_of-append [] ys = refl
entries_of-append (x ∷ xs) ys =
    ap (λ (l : List ℕ). range_with_len x.first (x.last + 1 - x.first) ++ l) (entries_of-append xs ys)
    ∙ sym (append_assoc (range_with_len x.first (x.last + 1 - x.first)) (entries_of xs) (entries_of ys))

module _ (table : ℕ → ℕ → Cell) (count : ℕ) where
  pub AreNodes-append : (lead : Lead) (xs ys : List Node) (next : ℕ) → AreNodes table count lead xs (start_of ys next)
      → AreNodes table count (lead_after lead xs) ys next → AreNodes table count lead (xs ++ ys) next
  AreNodes-append lead [] ys next h k = k
  AreNodes-append lead (x ∷ xs) ys next h k =
      (rw (start_of-append xs ys next) h.0, AreNodes-append (Follows x.first) xs ys next h.1 k)

  module _ (lead : Lead) (first : ℕ) where
    -- a cursor before the first node
    unfoldable pub reached_start : (cursor : Cursor) → first ≤ count → cursor.lead ≡ lead → cursor.next ≡ first
        → cursor.passed ≡ 0 → IsReached table count lead first cursor
    reached_start cursor inside led next none = record {
      nodes = [];
      linked = tt;
      starts = next;
      named = omega arith;
      led = led;
      behind = none;
    }

    -- behind one more node
    unfoldable pub reached_more : (cursor behind : Cursor) (node : Node) → IsReached table count lead first cursor
        → IsNode table count cursor.lead node behind.next → behind.next ≤ count → node.first ≡ cursor.next
        → behind.lead ≡ Follows node.first → behind.passed ≡ cursor.passed + (node.last + 1 - node.first)
        → IsReached table count lead first behind
    reached_more cursor behind node reached is_node named starts led passed =
        let here : IsNode table count (lead_after lead reached.nodes) node behind.next =
        subst (λ (l : Lead). IsNode table count l node behind.next) reached.led is_node in
        record {
          nodes = reached.nodes ++ node ∷ [];
          linked = AreNodes-append lead reached.nodes (node ∷ []) behind.next (rw starts reached.linked) (here, tt);
          starts = start_of-append reached.nodes (node ∷ []) behind.next ∙ rw starts reached.starts;
          named = named;
          led = led ∙ sym (lead_after-append lead reached.nodes (node ∷ []));
          behind = passed ∙ simp (entries_of-append, length-append, append-nil, length-range_with_len)
              (ap (λ (n : ℕ). n + (node.last + 1 - node.first)) reached.behind);
        }

    -- so by a node that was read, and what names the one behind it
    pub reached_step : (cursor behind : Cursor) (node : Node) (next : ℕ) → IsReached table count lead first cursor
        → IsNode table count cursor.lead node next → next ≤ count → node.first ≡ cursor.next
        → behind.lead ≡ Follows node.first
        → behind.next ≡ next → behind.passed ≡ cursor.passed + (node.last + 1 - node.first)
        → IsReached table count lead first behind
    reached_step cursor behind node next reached is_node inside starts led named passed =
        reached_more cursor behind node reached (subst (λ (n : ℕ). IsNode table count cursor.lead node n)
        (sym named) is_node)
        (omega (arith, named)) starts led passed

    -- the rest of a run
    pub rest_of_run : (from skipped : ℕ) (run : Run) → IsRestOfNode table count lead first from run
        → skipped < run.len → IsRestOfNode table count lead first (from + skipped)
        (record { block = run.block + skipped; len = run.len - skipped })
    rest_of_run from skipped run rest less = record {
      nodes = rest.nodes;
      node = rest.node;
      next = rest.next;
      linked = rest.linked;
      starts = rest.starts;
      is_node = rest.is_node;
      named = rest.named;
      before = omega (arith, rest.before);
      block = omega (arith, rest.before, rest.block);
      last = omega (arith, rest.last);
    }

    fails_at : (cursor : Cursor) → IsReached table count lead first cursor → IsEntry count cursor.next → (entry : ℕ)
        → IsFaulty table count cursor.lead cursor.next entry → FailsAt table count lead first entry
    fails_at cursor reached named entry faulty = record {
      nodes = reached.nodes;
      next = cursor.next;
      linked = reached.linked;
      starts = reached.starts;
      named = named;
      faulty = subst (λ (l : Lead). IsFaulty table count l cursor.next entry) reached.led faulty;
    }

module _ {s t : State} {info : ChainInfo} {lead : Lead} (table : HasAllocationTable s.shape info)
    (stays : Stays s t None) where
  -- a fault of the node behind a cursor is one of the list
  pub list_faults : (first : ℕ) (cursor : Cursor) (fault : Option ChainFault) → IsEntry info.count cursor.next
      → FaultsOnly t info
      (λ e. HasWords (table_in t.cells info) e × IsFaulty (table_in t.cells info) info.count cursor.lead cursor.next e)
      (IsFaulty (table_in t.cells info) info.count cursor.lead cursor.next) fault
      → FaultsOnly s info
      (λ e. IsReached (table_in s.cells info) info.count lead first cursor
      → IsBroken (table_in s.cells info) info.count lead first e)
      (λ e. IsReached (table_in s.cells info) info.count lead first cursor
      → FailsAt (table_in s.cells info) info.count lead first e) fault
  list_faults first cursor fault named faults =
      let faulty = λ (told : IsTrue s.told) (e : ℕ) (h : IsFaulty
      (table_in t.cells info) info.count cursor.lead cursor.next e)
      (reached : IsReached (table_in s.cells info) info.count lead first cursor).
      fails_at (table_in s.cells info) info.count lead first cursor reached named e
      (subst (λ (c : ℕ → ℕ → Cell). IsFaulty c info.count cursor.lead cursor.next e)
      (table_stays s t info table stays told) h) in
      FaultsOnly-later s t info fault table stays
      (λ told e breaks reached. Unlike
      (subst (λ (c : ℕ → ℕ → Cell). HasWords c e) (table_stays s t info table stays told) breaks.0)
      (faulty told e breaks.1 reached))
      faulty
      faults

  -- what a later call says of a list up to a place, where that place was reached
  pub said_later : (Q : (ℕ → ℕ → Cell) → Lead → ℕ → Type 0) (first : ℕ) (cursor : Cursor) → cursor.opens ≡ lead
      → cursor.first ≡ first
      → (IsTrue t.told → IsReached (table_in t.cells info) info.count cursor.opens cursor.first cursor
      → Q (table_in t.cells info) cursor.opens cursor.first)
      → IsTrue s.told → IsReached (table_in s.cells info) info.count lead first cursor
      → Q (table_in s.cells info) lead first
  said_later Q first cursor opens same says told =
      let here = subst (λ (c : ℕ → ℕ → Cell). IsReached c info.count cursor.opens cursor.first cursor
      → Q c cursor.opens cursor.first)
      (table_stays s t info table stays told) (says (stays.space.told told)) in
      let led = subst (λ (l : Lead). IsReached (table_in s.cells info) info.count l cursor.first cursor
      → Q (table_in s.cells info) l cursor.first) opens here in
      subst (λ (f : ℕ). IsReached (table_in s.cells info) info.count lead f cursor
      → Q (table_in s.cells info) lead f) same led

  -- the faults of a list, named by a later call
  pub list_faults_later : (first : ℕ) (cursor : Cursor) (fault : Option ChainFault) → cursor.opens ≡ lead
      → cursor.first ≡ first
      → (IsTrue s.told → IsReached (table_in s.cells info) info.count lead first cursor)
      → FaultsOnly t info
      (λ e. IsReached (table_in t.cells info) info.count cursor.opens cursor.first cursor
      → IsBroken (table_in t.cells info) info.count cursor.opens cursor.first e)
      (λ e. IsReached (table_in t.cells info) info.count cursor.opens cursor.first cursor
      → FailsAt (table_in t.cells info) info.count cursor.opens cursor.first e) fault
      → FaultsOnly s info (IsBroken (table_in s.cells info) info.count lead first)
      (FailsAt (table_in s.cells info) info.count lead first) fault
  list_faults_later first cursor fault opens same reached =
      FaultsOnly-later s t info fault table stays
      (λ told e broken. said_later (λ c l f. IsBroken c info.count l f e) first cursor opens same (λ _. broken) told
      (reached told))
      (λ told e fails. said_later (λ c l f. FailsAt c info.count l f e) first cursor opens same (λ _. fails) told
      (reached told))

  -- the rest of a run that was read in a later state
  pub rest_later : (first : ℕ) (cursor : Cursor) (pos skipped : ℕ) (run : Run) → cursor.opens ≡ lead
      → cursor.first ≡ first
      → (IsTrue t.told → IsReached (table_in t.cells info) info.count cursor.opens cursor.first cursor
      → IsRestOfNode (table_in t.cells info) info.count cursor.opens cursor.first cursor.passed run)
      → cursor.passed + skipped ≡ pos → skipped < run.len → IsTrue s.told
      → IsReached (table_in s.cells info) info.count lead first cursor
      → IsRestOfNode (table_in s.cells info) info.count lead first pos
      (record { block = run.block + skipped; len = run.len - skipped })
  rest_later first cursor pos skipped run opens same rest is less told reached =
      let here = said_later (λ c l f. IsRestOfNode c info.count l f cursor.passed run) first cursor opens same rest
      told reached in
      let part : Run = record { block = run.block + skipped; len = run.len - skipped } in
      subst (λ (p : ℕ). IsRestOfNode (table_in s.cells info) info.count lead first p part) is
      (rest_of_run (table_in s.cells info) info.count lead first cursor.passed skipped run here less)

-- the faults of the free list, named by a later call
pub free_faults_later : (s t : State) (info : ChainInfo) (first : ℕ) (fault : Option ChainFault)
    → HasAllocationTable s.shape info → Stays s t None
    → (IsTrue s.told → first ≡ index_of (word_v (table_in s.cells info) 0))
    → FaultsOnly t info (IsBroken (table_in t.cells info) info.count OpensFree first)
    (FailsAt (table_in t.cells info) info.count OpensFree first) fault
    → FaultsOnly s info (IsFreeBroken (table_in s.cells info) info.count) (IsFreeNeeded
    (table_in s.cells info) info.count) fault
free_faults_later s t info first fault table stays is =
    let there = λ (told : IsTrue s.told) (Q : (ℕ → ℕ → Cell) → ℕ → Type 0) (h : Q (table_in t.cells info) first).
    subst (λ (f : ℕ). Q (table_in s.cells info) f) (is told)
    (subst (λ (c : ℕ → ℕ → Cell). Q c first) (table_stays s t info table stays told) h) in
    FaultsOnly-later s t info fault table stays
    (λ told e broken. InList (there told (λ c f. IsBroken c info.count OpensFree f e) broken))
    (λ told e fails. Listed (there told (λ c f. FailsAt c info.count OpensFree f e) fails))
