-- What a swap answers, and what it leaves.
use Rattle.std.proofs.Common.{◌≡◌, ℕ, ◌+◌, ◌*◌, ◌≤◌, List, [], ◌∷◌, ◌++◌, length, nat_eq, Option, Some, None}
use Rattle.std.proofs.Common.{refl, sym, ◌∙◌, ap, subst, arith, ⊎_elim, zero, suc}
use Rattle.std.proofs.lemmas.List.Elements.{Contains-append_cases}
use Rattle.std.specs.List.{Contains, IsDistinct}
use Rattle.save_bytes.specs.declared.space.Bad.TheVariants.{Disk, Damaged}
use Rattle.save_bytes.specs.Cells.{Cell, Byte, Blank, Spoilt, IsByte, IsUnspoilt}
use Rattle.save_bytes.specs.State.{State, HasNoTwins}
use Rattle.save_bytes.specs.Refusals.{NeverDamaged}
use Rattle.save_bytes.specs.Within.{MaySoften, ChangesWithin}
use Rattle.save_bytes.proofs.WithinLemmas.{ChangesWithin-wider}
use Rattle.chain_nodes.specs.declared.info.ChainInfo.{ChainInfo}
use Rattle.chain_nodes.specs.declared.node.Node.{Node}
use Rattle.chain_nodes.specs.declared.node.Lead.TheVariants.{Opens, OpensFree}
use Rattle.chain_nodes.specs.declared.fault.ChainFault.{ChainFault}
use Rattle.chain_nodes.specs.declared.fault.ChainFault.TheVariants.{Broken, Short}
use Rattle.chain_nodes.specs.declared.fault.ChainFault.TheVariants.{Bad as Refused}
use Rattle.chain_nodes.specs.Table.{table_in, word_v, index_of, HasAllocationTable}
use Rattle.chain_nodes.specs.Edits.{KeepsEntry}
use Rattle.chain_nodes.specs.Runs.{DoneUnlessDisk}
use Rattle.chain_nodes.proofs.OwnLemmas.{list_rests, words_read, same_v}
use Rattle.std.proofs.lemmas.Grind.{get_or_default_zero}
use Rattle.std.proofs.Common.{get_or, inr, Result, Ok, Err}
use Rattle.chain_links.proofs.AlterLemmas.{soft_unspoilt}
use Rattle.chain_nodes.specs.Chains.{IsLinkedBy, IsChain, IsFreeList, entries_of}
use Rattle.chain_nodes.specs.Faults.{refusal_of}
use Rattle.chain_nodes.proofs.ListLemmas.{entries_of-append}
use Rattle.chain_nodes.proofs.DistinctLemmas.{distinct_both}
use Rattle.chain_nodes.proofs.TableLemmas.{table_cell}
use Rattle.chain_nodes.proofs.ExactLemmas.{chain_few}
use Rattle.chain_nodes.proofs.EditLemmas.{entry_within}
use Rattle.alloc_chain.specs.declared.plan.Plan.{Plan}
use Rattle.chain_links.specs.Alters.{AreUnspoilt, IsOfEntries}
use Rattle.alloc_chain.specs.Plans.{IsPlanIn, IsSameCut, HasNodes, IsListPlan}
use Rattle.alloc_chain.proofs.SameLemmas.{same_length, same_cut}
use Rattle.alloc_chain.specs.Swaps.{IsOptChain, ShareNone, IsSwapped, IsSwapEntry, IsSwapRefusal, IsSwapSite}
use Rattle.alloc_chain.specs.Swaps.{plan_entries, CanSwap, CanTake, HasSoftened, IsSwapAnswer}
use Rattle.alloc_chain.proofs.SwapLemmas.{plan_in, others_stay}
use Rattle.chain_links.proofs.WordLemmas.{entry_kept}

module _ (table : ℕ → ℕ → Cell) (count : ℕ) (mine free : List ℕ) (listed : IsFreeList table count free) (share :
    ShareNone mine free)
  where
    both_once : (old : List Node) → entries_of old ≡ mine → IsDistinct nat_eq mine
        → IsDistinct nat_eq (entries_of (old ++ listed.linked.nodes))
    both_once old is once =
        subst (λ (l : List ℕ). IsDistinct nat_eq l)
        (sym (entries_of-append old listed.linked.nodes ∙ ap (λ (l : List ℕ). l ++ entries_of listed.linked.nodes) is
        ∙ ap (λ (l : List ℕ). mine ++ l) listed.linked.entries))
        (distinct_both mine free once listed.once share)

    has_nodes : (given : Option ℕ) → IsOptChain table count given mine → HasNodes table count given mine free
    has_nodes None none =
        let free_once = subst (λ (l : List ℕ). IsDistinct nat_eq l) (sym listed.linked.entries) listed.once in
        let few = chain_few table count OpensFree _ free listed.linked listed.once in
        record {
          old_nodes = [];
          free_nodes = listed.linked.nodes;
          can = record {
            old_nodes = refl;
            free_nodes = record {
              read = listed.read;
              starts = listed.linked.starts;
              linked = listed.linked.linked;
              once = free_once;
            };
            few_old = omega arith;
            few_free = omega (arith, few, ap length listed.linked.entries);
          };
          apart = record {
            chain = tt;
            listed = record {
              read = listed.read;
              starts = listed.linked.starts;
              linked = listed.linked.linked;
              once = free_once;
            };
            once = free_once;
          };
          old_is = sym none;
          free_is = listed.linked.entries;
        }
    has_nodes (Some first) chain =
        let free_once = subst (λ (l : List ℕ). IsDistinct nat_eq l) (sym listed.linked.entries) listed.once in
        let few = chain_few table count OpensFree _ free listed.linked listed.once in
        let few_old = chain_few table count Opens first mine chain.linked chain.once in
        record {
          old_nodes = chain.linked.nodes;
          free_nodes = listed.linked.nodes;
          can = record {
            old_nodes = (chain.some, chain.linked.linked, chain.linked.starts);
            free_nodes = record {
              read = listed.read;
              starts = listed.linked.starts;
              linked = listed.linked.linked;
              once = free_once;
            };
            few_old = omega (arith, few_old, ap length chain.linked.entries);
            few_free = omega (arith, few, ap length listed.linked.entries);
          };
          apart = record {
            chain = chain.linked.linked;
            listed = record {
              read = listed.read;
              starts = listed.linked.starts;
              linked = listed.linked.linked;
              once = free_once;
            };
            once = both_once chain.linked.nodes chain.linked.entries chain.once;
          };
          old_is = chain.linked.entries;
          free_is = listed.linked.entries;
        }

pub nodes_of : (table : ℕ → ℕ → Cell) (count : ℕ) (given : Option ℕ) (mine free : List ℕ)
    → CanSwap table count given mine free → HasNodes table count given mine free
nodes_of table count given mine free can = has_nodes table count mine free can.listed can.share_none given can.chain

-- a refusal in words of the lists
pub refusal_lists : (table : ℕ → ℕ → Cell) (n : ℕ) (one other mine free : List ℕ) (fault : ChainFault) → one ≡ mine →
    other ≡ free
    → IsSwapRefusal table n one other fault → IsSwapRefusal table n mine free fault
refusal_lists table n one other mine free fault same also h =
    subst (λ (l : List ℕ). IsSwapRefusal table n mine l fault) also
    (subst (λ (l : List ℕ). IsSwapRefusal table n l other fault) same h)

pub take_lists : (table : ℕ → ℕ → Cell) (n : ℕ) (one other mine free : List ℕ) → one ≡ mine → other ≡ free
    → CanTake table n one other → CanTake table n mine free
take_lists table n one other mine free same also h =
    subst (λ (l : List ℕ). CanTake table n mine l) also (subst (λ (l : List ℕ). CanTake table n l other) same h)

pub swapped_lists : (table : ℕ → ℕ → Cell) (count n : ℕ) (old free : List Node) (mine list : List ℕ) (taken : Option
    ℕ)
    → entries_of old ≡ mine → entries_of free ≡ list → IsSwapped table count n (entries_of (old ++ free)) taken
    → IsSwapped table count n (mine ++ list) taken
swapped_lists table count n old free mine list taken old_is free_is h =
    subst (λ (l : List ℕ). IsSwapped table count n l taken)
    (entries_of-append old free ∙ ap (λ (l : List ℕ). l ++ entries_of free) old_is ∙ ap (λ (l : List ℕ). mine ++ l)
    free_is) h

-- the words of a plan are words of the lists
pub plan_sites : (table : ℕ → ℕ → Cell) (info : ChainInfo) (given : Option ℕ) (n : ℕ) (mine free : List ℕ) (plan : Plan)
    → IsListPlan table info.count given n mine free plan → IsPlanIn info.count plan → (x : ℕ)
    → IsOfEntries info (plan_entries plan) x → IsSwapSite info mine free x
plan_sites table info given n mine free plan is inside x (entry, within, of) =
    let nodes = is.nodes in
    let here = plan_in table info.count n nodes.old_nodes nodes.free_nodes nodes.apart.chain
    nodes.apart.listed.linked plan is.planned inside entry within in (
      entry,
      subst (λ (l : List ℕ). IsSwapEntry mine l entry) nodes.free_is
          (subst (λ (l : List ℕ). IsSwapEntry l (entries_of nodes.free_nodes) entry) nodes.old_is here),
      of,
    )

-- a word that is spoilt is one of the lists
pub refused_ready : (s : State) (info : ChainInfo) (given : Option ℕ) (n : ℕ) (mine free : List ℕ) →
    HasAllocationTable s.shape info
    → CanSwap (table_in s.cells info) info.count given mine free → (fault : ChainFault)
    → IsSwapRefusal (table_in s.cells info) n mine free fault → AreUnspoilt s (IsSwapSite info mine free)
    → NeverDamaged (refusal_of (Some fault))
refused_ready s info given n mine free table can (Refused Disk) h un = tt
refused_ready s info given n mine free table can (Broken entry) h un = tt
refused_ready s info given n mine free table can (Short need have) h un = tt
refused_ready s info given n mine free table can (Refused (Damaged part level block)) h un =
    let entry : ℕ = get_or (mine ++ free) h.k 0 in
    let k = h.spoilt.0 in
    let less = h.spoilt.1 in
    let within : Contains (mine ++ free) entry = (
      h.k,
      h.inside,
      get_or_default_zero (mine ++ free) h.k entry h.inside,
    ) in
    let inside : entry ≤ info.count =
    entry_inside (nodes_of (table_in s.cells info) info.count given mine free can) entry within in
    let cell = table_cell s.cells info entry k inside less in
    subst (λ (c : Cell). IsUnspoilt c) (sym cell ∙ h.spoilt.2)
    (un (info.table_at + 8 * entry + k) (omega (arith, table.table, inside, less))
    (entry, inr within, (omega arith, omega (arith, less))))
  where
    entry_inside : HasNodes (table_in s.cells info) info.count given mine free → (entry : ℕ)
        → Contains (mine ++ free) entry → entry ≤ info.count
    entry_inside nodes entry within =
        (let whole = subst (λ (l : List ℕ). Contains l entry)
        (ap (λ (l : List ℕ). mine ++ l) (sym nodes.free_is) ∙ ap (λ (l : List ℕ). l ++ entries_of nodes.free_nodes)
        (sym nodes.old_is))
        within in
        ⊎_elim
        (λ (left : Contains (entries_of nodes.old_nodes) entry).
        (entry_within (table_in s.cells info) info.count Opens nodes.old_nodes 0 entry nodes.apart.chain left).1)
        (λ (right : Contains (entries_of nodes.free_nodes) entry).
        (entry_within (table_in s.cells info) info.count OpensFree nodes.free_nodes 0 entry nodes.apart.listed.linked
        right).1)
        (Contains-append_cases (entries_of nodes.old_nodes) (entries_of nodes.free_nodes) entry whole))

-- no chain changes that shares no entry with the lists
pub others_kept : (s t : State) (info : ChainInfo) (mine free : List ℕ) → HasAllocationTable s.shape info →
    HasNoTwins s
    → ChangesWithin s (IsSwapSite info mine free) t.cells → (first : ℕ) (list : List ℕ) → ShareNone list (mine ++ free)
    → IsChain (table_in s.cells info) info.count first list → IsChain (table_in t.cells info) info.count first list
others_kept s t info mine free table single changes first list apart chain =
    let wider = ChangesWithin-wider s (IsSwapSite info mine free) (IsOfEntries info (0 ∷ (mine ++ free))) t.cells
    (λ x below (entry, is, of). (entry, among entry is, of)) changes in
    others_stay (table_in s.cells info) (table_in t.cells info) info.count first mine free list
    (λ x some inside out. entry_kept s t info (0 ∷ (mine ++ free)) table single wider x inside (none_of x some out))
    apart chain
  where
    among : (entry : ℕ) → IsSwapEntry mine free entry → Contains (0 ∷ (mine ++ free)) entry
    among entry is =
        ⊎_elim
        (λ (none : entry ≡ 0). (0, omega arith, sym none))
        (λ (within : Contains (mine ++ free) entry). (suc within.0, omega (arith, within.1), within.2))
        is

    none_of : (x : ℕ) → 1 ≤ x → ¬ Contains (mine ++ free) x → ¬ Contains (0 ∷ (mine ++ free)) x
    none_of x some out (zero, within, is) = omega (arith, some, is)
    none_of x some out (suc k, within, is) = out (k, omega (arith, within), is)

-- a swap that can be made is refused by the disk alone
pub swap_exact : (old new : ℕ → ℕ → Cell) (count n : ℕ) (mine free : List ℕ) (result : Result (Option ℕ) ChainFault)
    → IsSwapAnswer old new count n mine free result → CanTake old n mine free
    → DoneUnlessDisk result (IsSwapped new count n (mine ++ free))
swap_exact old new count n mine free (Ok taken) h can = h.1
swap_exact old new count n mine free (Err (Refused Disk)) h can = tt
swap_exact old new count n mine free (Err (Refused (Damaged part level block))) h can =
    subst (λ (c : Cell). IsUnspoilt c) h.spoilt.2 (can.cut h.k h.near h.inside h.spoilt.0 h.spoilt.1)
swap_exact old new count n mine free (Err (Broken entry)) h can = h
swap_exact old new count n mine free (Err (Short need have)) h can = absurd (omega (arith, h.1, h.2, can.enough))

-- a byte stays where cells soften
soft_same : (cell new : Cell) → MaySoften cell new → IsByte cell → new ≡ cell
soft_same (Byte value) new soft is = soft
soft_same (Blank part level block) new soft is = absurd is
soft_same (Spoilt part level block) new soft is = absurd is

module _ (old new : ℕ → ℕ → Cell) (soft : HasSoftened old new) where
  pub can_take_later : (n : ℕ) (mine free : List ℕ) → CanTake old n mine free → CanTake new n mine free
  can_take_later n mine free can = record {
    enough = can.enough;
    cut = λ k near inside j less.
        (let entry : ℕ = get_or (mine ++ free) k 0 in
        soft_unspoilt (old entry j) (new entry j) (soft entry j) (can.cut k near inside j less));
  }

  soft_entry : (entry : ℕ) → KeepsEntry old new entry
  soft_entry entry k less is = soft_same (old entry k) (new entry k) (soft entry k) is

  soft_chain : (count : ℕ) (given : Option ℕ) (mine : List ℕ) → IsOptChain old count given mine
      → IsOptChain new count given mine
  soft_chain count None mine h = h
  soft_chain count (Some first) mine h = record {
    some = h.some;
    linked = list_rests old new count Opens first mine (λ x within. soft_entry x) h.linked;
    once = h.once;
  }

  pub can_swap_later : (count : ℕ) (given : Option ℕ) (mine free : List ℕ) → CanSwap old count given mine free
      → CanSwap new count given mine free
  can_swap_later count given mine free can = record {
    chain = soft_chain count given mine can.chain;
    listed = record {
      read = words_read old new 0 (soft_entry 0) can.listed.read;
      linked = subst (λ (word : ℕ). IsLinkedBy new count OpensFree (index_of word) free)
          (sym (same_v old new 0 (soft_entry 0) can.listed.read))
          (list_rests old new count OpensFree (index_of (word_v old 0)) free (λ x within. soft_entry x)
          can.listed.linked);
      once = can.listed.once;
    };
    share_none = can.share_none;
  }

-- a plan takes just the blocks of the old chain where as many are wanted as it has
module _ (table : ℕ → ℕ → Cell) (count : ℕ) (given : Option ℕ) (n : ℕ) (mine free : List ℕ) (plan : Plan)
    (is : IsListPlan table count given n mine free plan) (inside : IsPlanIn count plan) where
  pub taken_as_old : IsSameCut plan.given plan.boundary → n ≡ length mine
  taken_as_old same =
      same_length is.nodes.old_nodes is.nodes.free_nodes n count is.nodes.apart.once plan.given plan.boundary
      is.planned.given is.planned.cut inside.given inside.boundary same
      ∙ ap (λ (l : List ℕ). length l) is.nodes.old_is

  pub old_as_taken : n ≡ length mine → IsSameCut plan.given plan.boundary
  old_as_taken same =
      same_cut is.nodes.old_nodes is.nodes.free_nodes n count is.nodes.apart.once plan.given plan.boundary
      is.planned.given is.planned.cut inside.given inside.boundary
      (same ∙ sym (ap (λ (l : List ℕ). length l) is.nodes.old_is))
