-- Places of the old chain and of the free list behind it.
use Rattle.std.proofs.Common.{◌≡◌, ℕ, ◌+◌, ◌-◌, ◌^◌, ◌<◌, ◌≤◌, min, nat_eq, true, List, [], ◌∷◌, ◌++◌, length}
use Rattle.std.proofs.Common.{refl, sym, ◌∙◌, ap, subst, arith, Option, Some, None, take}
use Rattle.std.proofs.lemmas.List.{get_or-take, length-take}
use Rattle.std.proofs.Common.{IsTrue, Result}
use Rattle.std.specs.List.{IsDistinct}
use Rattle.save_bytes.specs.State.{State}
use Rattle.save_bytes.specs.Stays.{Stays}
use Rattle.chain_nodes.specs.declared.info.ChainInfo.{ChainInfo}
use Rattle.chain_nodes.specs.declared.fault.ChainFault.{ChainFault}
use Rattle.chain_nodes.proofs.TableLemmas.{table_stays}
use Rattle.save_bytes.specs.Cells.{Cell}
use Rattle.chain_nodes.specs.declared.info.Run.{Run}
use Rattle.chain_nodes.specs.declared.node.Node.{Node}
use Rattle.chain_nodes.specs.declared.node.Lead.{Lead}
use Rattle.chain_nodes.specs.declared.node.Lead.TheVariants.{Opens, OpensFree}
use Rattle.chain_nodes.specs.declared.walk.Cursor.{Cursor}
use Rattle.chain_nodes.specs.Table.{table_in, word_v, index_of, HasAllocationTable}
use Rattle.chain_nodes.specs.Chains.{start_of, AreNodes, entries_of, IsLinkedBy}
use Rattle.chain_nodes.specs.Faults.{FailsAt, IsBroken}
use Rattle.chain_nodes.specs.Faults.IsFreeBroken.{InList}
use Rattle.chain_nodes.specs.Faults.IsFreeNeeded.{Listed}
use Rattle.chain_nodes.specs.Runs.{IsListPlace, IsAtEnd, HasLength, DoneUnlessDisk, IsRunIn}
use Rattle.chain_nodes.proofs.EditLemmas.{no_nodes_behind}
use Rattle.chain_nodes.proofs.ExactLemmas.{same_list}
use Rattle.alloc_chain.specs.declared.plan_places.PlanCursor.{PlanCursor}
use Rattle.alloc_chain.specs.Swaps.{IsOptChain, CanSwap}
use Rattle.alloc_chain.specs.PlanRuns.{HasPlanPosition, IsPlanBroken, IsPlanNeeded}
use Rattle.alloc_chain.specs.PlanRuns.IsPlanBroken.{InOld as BrokenInOld, InFree as BrokenInFree}
use Rattle.alloc_chain.specs.PlanRuns.IsPlanNeeded.{ForOld, ForFree}
use Rattle.alloc_chain.specs.PlanPlaces.{old_first, HasOptLength, IsPlanPlace, IsBehindOld}
use Rattle.alloc_chain.specs.PlanPlaces.IsPlanPlace.{InOld, InFree}
use Rattle.alloc_chain.proofs.PlanRunLemmas.{done_map, run_left, run_right}

-- the first blocks of a run, in the front of a list
pub run_cut : (list : List ℕ) (n pos : ℕ) (run cut : Run) → pos ≤ n → cut.block ≡ run.block
    → cut.len ≡ min run.len (n - pos) → IsRunIn list pos run → IsRunIn (take n list) pos cut
run_cut list n pos run cut below block len h = record {
  inside = omega (arith, length-take n list, h.inside, len, below);
  blocks = λ k within.
      get_or-take n list (pos + k) 0 (omega (arith, within, len)) ∙ h.blocks k (omega (arith, within, len))
      ∙ ap (λ (b : ℕ). b + k + 1) (sym block);
}

module _ (table : ℕ → ℕ → Cell) (count : ℕ) where
  -- a list of which nothing lies behind a place
  pub length_at_end : (cursor : Cursor) → IsListPlace table count cursor → IsAtEnd cursor
      → HasLength table count cursor.opens cursor.first cursor.passed
  length_at_end cursor place none = (
    entries_of place.reached.nodes,
    record {
      nodes = place.reached.nodes;
      linked = subst (λ (n : ℕ). AreNodes table count cursor.opens place.reached.nodes n) none place.reached.linked;
      starts = subst (λ (n : ℕ). start_of place.reached.nodes n ≡ cursor.first) none place.reached.starts;
      entries = refl;
    },
    place.reached.behind,
  )

  -- a list that begins with no entry has none
  none_linked : (lead : Lead) (list : List ℕ) → IsLinkedBy table count lead 0 list → list ≡ []
  none_linked lead list linked =
      sym linked.entries ∙ ap entries_of (no_nodes_behind table count lead linked.nodes linked.linked linked.starts)

  opt_length : (old : Option ℕ) (n : ℕ) → HasLength table count Opens (old_first old) n → HasOptLength table count old n
  opt_length None n (list, linked, is) =
      ([], refl, is ∙ ap (λ (l : List ℕ). length l) (none_linked Opens list linked))
  opt_length (Some first) n h = h

  -- behind the old chain the free list begins
  pub place_behind_old : (old : Option ℕ) (cursor here : PlanCursor) → IsBehindOld cursor → here.free ≡ true
      → here.list.opens ≡ OpensFree → here.list.first ≡ index_of (word_v table 0)
      → here.before ≡ min (cursor.before + cursor.list.passed) cursor.wanted
      → min (cursor.before + cursor.list.passed) cursor.wanted < cursor.wanted
      → IsListPlace table count here.list → IsPlanPlace table count old cursor → IsPlanPlace table count old here
  place_behind_old old cursor here behind free opens first before less place
      (InFree is is_opens is_first length_is at) =
      absurd (cc (behind.in_old, is))
  place_behind_old old cursor here behind free opens first before less place (InOld is is_opens is_first none at) =
      let ends = length_at_end cursor.list at behind.at_end in
      let led = subst (λ (l : Lead). HasLength table count l cursor.list.first cursor.list.passed) is_opens ends in
      let whole = subst (λ (f : ℕ). HasLength table count Opens f cursor.list.passed) is_first led in
      let same : cursor.list.passed ≡ here.before = omega (arith, none, before, less) in
      InFree free opens first
      (opt_length old here.before (subst (λ (n : ℕ). HasLength table count Opens (old_first old) n) same whole)) place

  -- behind one more run
  pub place_step : (old : Option ℕ) (here behind : PlanCursor) → behind.free ≡ here.free → behind.before ≡ here.before
      → behind.list.opens ≡ here.list.opens → behind.list.first ≡ here.list.first
      → (IsListPlace table count here.list → IsListPlace table count behind.list)
      → IsPlanPlace table count old here → IsPlanPlace table count old behind
  place_step old here behind free before opens first list (InOld is is_opens is_first none at) =
      InOld (free ∙ is) (opens ∙ is_opens) (first ∙ is_first) (before ∙ none) (list at)
  place_step old here behind free before opens first list (InFree is is_opens is_first length_is at) =
      InFree (free ∙ is) (opens ∙ is_opens) (first ∙ is_first)
      (subst (λ (n : ℕ). HasOptLength table count old n) (sym before) length_is) (list at)

  -- the list of a place
  pub list_place : (old : Option ℕ) (here : PlanCursor) → IsPlanPlace table count old here
      → IsListPlace table count here.list
  list_place old here (InOld is is_opens is_first none at) = at
  list_place old here (InFree is is_opens is_first length_is at) = at

  none_behind : (lead : Lead) (nodes : List Node) (next : ℕ) → AreNodes table count lead nodes next
      → start_of nodes next ≡ 0 → next ≡ 0
  none_behind lead [] next h none = none
  none_behind lead (node ∷ nodes) next h none = absurd (omega (arith, h.0.starts, none))

  -- a place of a list that begins with no entry is its end
  at_none : (cursor : Cursor) → IsListPlace table count cursor → cursor.first ≡ 0 → IsAtEnd cursor
  at_none cursor at none =
      none_behind cursor.opens at.reached.nodes cursor.next at.reached.linked (at.reached.starts ∙ none)

  -- where it is broken, so is one of the two lists
  pub place_broken : (old : Option ℕ) (here : PlanCursor) (entry : ℕ) → ¬ IsBehindOld here
      → IsPlanPlace table count old here → IsBroken table count here.list.opens here.list.first entry
      → IsPlanBroken table count old entry
  place_broken None here entry moved (InOld is is_opens is_first none at) broken =
      absurd (moved (record { in_old = is; at_end = at_none here.list at is_first }))
  place_broken (Some first) here entry moved (InOld is is_opens is_first none at) broken =
      BrokenInOld first refl (subst (λ (f : ℕ). IsBroken table count Opens f entry) is_first
      (subst (λ (l : Lead). IsBroken table count l here.list.first entry) is_opens broken))
  place_broken old here entry moved (InFree is is_opens is_first length_is at) broken =
      BrokenInFree (InList (subst (λ (f : ℕ). IsBroken table count OpensFree f entry) is_first
      (subst (λ (l : Lead). IsBroken table count l here.list.first entry) is_opens broken)))

  pub place_needed : (old : Option ℕ) (here : PlanCursor) (entry : ℕ) → ¬ IsBehindOld here
      → IsPlanPlace table count old here → FailsAt table count here.list.opens here.list.first entry
      → IsPlanNeeded table count old entry
  place_needed None here entry moved (InOld is is_opens is_first none at) fails =
      absurd (moved (record { in_old = is; at_end = at_none here.list at is_first }))
  place_needed (Some first) here entry moved (InOld is is_opens is_first none at) fails =
      ForOld first refl (subst (λ (f : ℕ). FailsAt table count Opens f entry) is_first
      (subst (λ (l : Lead). FailsAt table count l here.list.first entry) is_opens fails))
  place_needed old here entry moved (InFree is is_opens is_first length_is at) fails =
      ForFree (Listed (subst (λ (f : ℕ). FailsAt table count OpensFree f entry) is_first
      (subst (λ (l : Lead). FailsAt table count l here.list.first entry) is_opens fails)))

  -- behind the last free block there is no position
  pub no_position : (old : Option ℕ) (here : PlanCursor) → ¬ IsBehindOld here → IsAtEnd here.list
      → IsPlanPlace table count old here → ¬ HasPlanPosition table count old (here.before + here.list.passed)
  no_position old here moved ends (InOld is is_opens is_first none at) has =
      moved (record { in_old = is; at_end = ends })
  no_position old here moved ends (InFree is is_opens is_first (mine, linked, before) at) has =
      let led = subst (λ (l : Lead). HasLength table count l here.list.first here.list.passed) is_opens
      (length_at_end here.list at ends) in
      let (free, listed, passed) = subst (λ (f : ℕ). HasLength table count OpensFree f here.list.passed) is_first led in
      omega (arith, has mine free linked listed, before, passed)

  -- the list of a place, and its runs in the whole
  pub record HasPlanList (here : PlanCursor) (whole : List ℕ) : Type 0 where
    pub list : List ℕ
    pub linked : IsLinkedBy table count here.list.opens here.list.first list
    pub once : IsDistinct nat_eq list
    pub within : (run : Run) → IsRunIn list here.list.passed run → IsRunIn whole (here.before + here.list.passed) run

  module _ (few : count < 2 ^ 31) (mine free : List ℕ) where
    of_old : (old : Option ℕ) → IsOptChain table count old mine → IsLinkedBy table count Opens (old_first old) mine
    of_old None none = record { nodes = []; linked = tt; starts = refl; entries = sym none }
    of_old (Some first) chain = chain.linked

    once_old : (old : Option ℕ) → IsOptChain table count old mine → IsDistinct nat_eq mine
    unfolding IsDistinct
    once_old None none = subst (λ (l : List ℕ). IsDistinct nat_eq l) (sym none) tt
    once_old (Some first) chain = chain.once

    old_length : (old : Option ℕ) (n : ℕ) → IsOptChain table count old mine → HasOptLength table count old n
        → n ≡ length mine
    old_length None n none (list, is, length_is) =
        length_is ∙ ap (λ (l : List ℕ). length l) (is ∙ sym none)
    old_length (Some first) n chain (list, linked, length_is) =
        length_is ∙ ap (λ (l : List ℕ). length l) (same_list table count few Opens first mine chain.linked list linked)

    pub plan_list : (old : Option ℕ) (here : PlanCursor) → CanSwap table count old mine free
        → IsPlanPlace table count old here → HasPlanList here (mine ++ free)
    plan_list old here can (InOld is is_opens is_first none at) = record {
      list = mine;
      linked = subst (λ (l : Lead). IsLinkedBy table count l here.list.first mine) (sym is_opens)
          (subst (λ (f : ℕ). IsLinkedBy table count Opens f mine) (sym is_first) (of_old old can.chain));
      once = once_old old can.chain;
      within = λ run h.
          (let place : here.list.passed ≡ here.before + here.list.passed = omega (arith, none) in
          subst (λ (p : ℕ). IsRunIn (mine ++ free) p run) place (run_left mine free here.list.passed run h));
    }
    plan_list old here can (InFree is is_opens is_first length_is at) =
        let before = old_length old here.before can.chain length_is in
        record {
          list = free;
          linked = subst (λ (l : Lead). IsLinkedBy table count l here.list.first free) (sym is_opens)
              (subst (λ (f : ℕ). IsLinkedBy table count OpensFree f free) (sym is_first) can.listed.linked);
          once = can.listed.once;
          within = λ run h.
              (let place : here.list.passed ≡ here.before + here.list.passed - length mine = omega (arith, before) in
              run_right mine free (here.before + here.list.passed) run (omega (arith, before))
              (subst (λ (p : ℕ). IsRunIn free p run) place h));
        }

    -- each position of the two lists is one of the plan
    pub position_in : (old : Option ℕ) (pos : ℕ) → IsOptChain table count old mine
        → IsLinkedBy table count OpensFree (index_of (word_v table 0)) free → pos < length mine + length free
        → HasPlanPosition table count old pos
    position_in old pos chain listed less other rest linked there =
        let one = old_length old (length other) chain (other, linked, refl) in
        let two = ap (λ (l : List ℕ). length l)
        (same_list table count few OpensFree (index_of (word_v table 0)) free listed rest there) in
        omega (arith, one, two, less)

-- What a call says of a place that another one gave, in the words of the table before both.
module _ (s m : State) (info : ChainInfo) (table : HasAllocationTable s.shape info) (stays : Stays s m None)
    (told : IsTrue s.told) (old : Option ℕ) (here : PlanCursor)
    (place : IsPlanPlace (table_in s.cells info) info.count old here) where
  later : table_in m.cells info ≡ table_in s.cells info
  later = table_stays s m info table stays told

  at_later : IsListPlace (table_in m.cells info) info.count here.list
  at_later = subst (λ (t : ℕ → ℕ → Cell). IsListPlace t info.count here.list) (sym later)
      (list_place (table_in s.cells info) info.count old here place)

  pub said_here : (Q : (ℕ → ℕ → Cell) → Type 0)
      → (IsListPlace (table_in m.cells info) info.count here.list → Q (table_in m.cells info))
      → Q (table_in s.cells info)
  said_here Q said = subst Q later (said at_later)

  pub place_said : (behind : PlanCursor) → behind.free ≡ here.free → behind.before ≡ here.before
      → behind.list.opens ≡ here.list.opens → behind.list.first ≡ here.list.first
      → (IsListPlace (table_in m.cells info) info.count here.list
      → IsListPlace (table_in m.cells info) info.count behind.list)
      → IsPlanPlace (table_in s.cells info) info.count old behind
  place_said behind free before opens first said =
      place_step (table_in s.cells info) info.count old here behind free before opens first
      (λ _. said_here (λ t. IsListPlace t info.count behind.list) said) place

  pub run_said : (mine free : List ℕ) → CanSwap (table_in s.cells info) info.count old mine free
      → (result : Result (Run × Cursor) ChainFault)
      → (IsListPlace (table_in m.cells info) info.count here.list → (list : List ℕ)
      → IsLinkedBy (table_in m.cells info) info.count here.list.opens here.list.first list → IsDistinct nat_eq list
      → DoneUnlessDisk result (λ step. IsRunIn list here.list.passed step.0))
      → DoneUnlessDisk result (λ step. IsRunIn (mine ++ free) (here.before + here.list.passed) step.0)
  run_said mine free can result said =
      let listed = plan_list (table_in s.cells info) info.count table.few mine free old here can place in
      done_map (λ (step : Run × Cursor). IsRunIn listed.list here.list.passed step.0)
      (λ (step : Run × Cursor). IsRunIn (mine ++ free) (here.before + here.list.passed) step.0) result
      (λ step is. listed.within step.0 is)
      (said at_later listed.list
      (subst (λ (t : ℕ → ℕ → Cell). IsLinkedBy t info.count here.list.opens here.list.first listed.list) (sym later)
      listed.linked) listed.once)
