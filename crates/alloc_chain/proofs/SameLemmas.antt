-- Where a swap takes just the blocks of the chain that it gives back.
use Rattle.std.proofs.Common.{◌≡◌, ◌≢◌, ℕ, ◌+◌, ◌-◌, ◌<◌, ◌≤◌, nat_eq, List, [], ◌∷◌, ◌++◌, length, get_or, take, drop}
use Rattle.std.proofs.Common.{sym, ◌∙◌, ap, subst, arith, ⊎_elim, Option, None, Some, IfSome}
use Rattle.std.proofs.lemmas.Bool.{cases_lt}
use Rattle.std.proofs.lemmas.Grind.{get_or_default_zero}
use Rattle.std.proofs.lemmas.List.{get_or-take, get_or-drop, take-append-drop, length-take}
use Rattle.std.proofs.Math.Seq.{take-append_seam, drop-append_seam}
use Rattle.std.proofs.Math.ListN.{length-drop}
use Rattle.std.specs.List.{IsDistinct}
use Rattle.save_bytes.specs.Cells.{Cell}
use Rattle.chain_nodes.specs.declared.node.Node.{Node}
use Rattle.chain_nodes.specs.Chains.{entries_of}
use Rattle.chain_nodes.proofs.DistinctLemmas.{distinct_apart}
use Rattle.alloc_chain.specs.declared.plan.Boundary.{Boundary}
use Rattle.alloc_chain.specs.declared.plan.Given.{Given}
use Rattle.alloc_chain.specs.Plans.{IsEndedBy, IsBoundary, IsBoundaryIn, IsGivenIn, AreGivenBy, AreCutBy, IsSameCut}
use Rattle.alloc_chain.specs.Swaps.{CanSwap, IsSwapped, IsOptChain}
use Rattle.alloc_chain.proofs.PlanLemmas.{length_around}
use Rattle.alloc_chain.proofs.ReadyLemmas.{entry_around}
use Rattle.chain_nodes.specs.Chains.{IsFreeList}
use Rattle.std.proofs.Common.{append_assoc, length-append}
use Rattle.chain_nodes.proofs.ListLemmas.{entries_of-append}

-- no number stands at two places of a list in which each stands once
distinct_places : (list : List ℕ) → IsDistinct nat_eq list → (i j : ℕ) → i < j → j < length list
    → get_or list i 0 ≢ get_or list j 0
distinct_places list once i j less inside same =
    let x : ℕ = get_or list i 0 in
    let halves = subst (λ (l : List ℕ). IsDistinct nat_eq l) (sym (take-append-drop j list)) once in
    distinct_apart (take j list) (drop j list) halves x (
      i,
      omega (arith, length-take j list, less, inside),
      get_or-take j list i x less ∙ get_or_default_zero list i x (omega (arith, less, inside)),
    ) (
      0,
      omega (arith, length-drop j list, inside),
      get_or-drop j list 0 x ∙ ap (λ (k : ℕ). get_or list k x) (sum_none j)
          ∙ get_or_default_zero list j x inside ∙ sym same,
    )
  where
    sum_none : (j : ℕ) → j + 0 ≡ j
    sum_none j = omega arith

module _ (old free : List Node) (n count : ℕ) (once : IsDistinct nat_eq (entries_of (old ++ free))) where
  -- where the last entry of the old chain stands
  tail_place : (given : Given) → IsEndedBy old given → IsGivenIn count given
      → (1 ≤ length (entries_of old))
      × (get_or (entries_of (old ++ free)) (length (entries_of old) - 1) 0 ≡ given.tail.last)
  tail_place given is inside =
      let tail = given.tail in
      let count_is = ap (λ (l : List Node). length (entries_of l)) is.whole ∙ length_around is.front tail [] in
      let j : ℕ = tail.last - tail.first in
      let whole : old ++ free ≡ is.front ++ tail ∷ free =
      ap (λ (l : List Node). l ++ free) is.whole ∙ append_assoc is.front (tail ∷ []) free in
      let place : length (entries_of old) - 1 ≡ length (entries_of is.front) + j =
      omega (arith, count_is, inside.ordered) in
      let last : tail.first + j ≡ tail.last = omega (arith, inside.ordered) in (
        omega (arith, count_is, inside.ordered),
        ap (λ (l : List Node). get_or (entries_of l) (length (entries_of old) - 1) 0) whole
            ∙ ap (λ (k : ℕ). get_or (entries_of (is.front ++ tail ∷ free)) k 0) place
            ∙ entry_around is.front tail free j (omega (arith, last)) ∙ last,
      )

  -- where the last entry before the cut stands
  middle_place : (boundary : Boundary) → IsBoundary (old ++ free) 0 n boundary → IsBoundaryIn count boundary
      → (n ≤ length (entries_of (old ++ free))) × (get_or (entries_of (old ++ free)) (n - 1) 0 ≡ boundary.middle)
  middle_place boundary is inside =
      let node = boundary.node in
      let j : ℕ = boundary.middle - node.first in
      let count_is = ap (λ (l : List Node). length (entries_of l)) is.whole ∙ length_around is.before node is.after in
      let place : n - 1 ≡ length (entries_of is.before) + j = omega (arith, is.counted, inside.from) in
      let middle : node.first + j ≡ boundary.middle = omega (arith, inside.from) in (
        omega (arith, count_is, is.counted, inside.from, inside.up_to),
        ap (λ (l : List Node). get_or (entries_of l) (n - 1) 0) is.whole
            ∙ ap (λ (k : ℕ). get_or (entries_of (is.before ++ node ∷ is.after)) k 0) place
            ∙ entry_around is.before node is.after j (omega (arith, middle, inside.up_to)) ∙ middle,
      )

  old_within : length (entries_of old) ≤ length (entries_of (old ++ free))
  old_within = omega (
    arith,
    ap length (entries_of-append old free),
    length-append (entries_of old) (entries_of free),
  )

  -- if the cut is where the old chain ends, so many blocks are taken as it has
  pub same_length : (given : Option Given) (boundary : Option Boundary) → AreGivenBy old given
      → AreCutBy (old ++ free) n boundary → IfSome given (IsGivenIn count) → IfSome boundary (IsBoundaryIn count)
      → IsSameCut given boundary → n ≡ length (entries_of old)
  same_length None None is cut inside within same =
      cut ∙ sym (ap (λ (l : List Node). length (entries_of l)) is)
  same_length None (Some boundary) is cut inside within same = absurd same
  same_length (Some given) None is cut inside within same = absurd same
  same_length (Some given) (Some boundary) is cut inside within same =
      let list = entries_of (old ++ free) in
      let tail = tail_place given is inside in
      let middle = middle_place boundary cut.1 within in
      ⊎_elim
      (λ (fewer : n < length (entries_of old)).
      absurd (distinct_places list once (n - 1) (length (entries_of old) - 1) (omega (arith, fewer, cut.0))
      (omega (arith, tail.0, old_within)) (middle.1 ∙ same ∙ sym tail.1)))
      (λ (enough : length (entries_of old) ≤ n). ⊎_elim
      (λ (more : length (entries_of old) < n).
      absurd (distinct_places list once (length (entries_of old) - 1) (n - 1) (omega (arith, more, tail.0))
      (omega (arith, middle.0, cut.0)) (tail.1 ∙ sym same ∙ sym middle.1)))
      (λ (few : n ≤ length (entries_of old)). omega (arith, few, enough))
      (cases_lt (length (entries_of old)) n))
      (cases_lt n (length (entries_of old)))

  -- and the other way
  pub same_cut : (given : Option Given) (boundary : Option Boundary) → AreGivenBy old given
      → AreCutBy (old ++ free) n boundary → IfSome given (IsGivenIn count) → IfSome boundary (IsBoundaryIn count)
      → n ≡ length (entries_of old) → IsSameCut given boundary
  same_cut None None is cut inside within same = tt
  same_cut None (Some boundary) is cut inside within same =
      omega (arith, same, cut.0, ap (λ (l : List Node). length (entries_of l)) is)
  same_cut (Some given) None is cut inside within same =
      omega (arith, same, cut, (tail_place given is inside).0)
  same_cut (Some given) (Some boundary) is cut inside within same =
      sym (middle_place boundary cut.1 within).1
      ∙ ap (λ (k : ℕ). get_or (entries_of (old ++ free)) (k - 1) 0) same ∙ (tail_place given is inside).1

-- then nothing has to be written
pub same_swapped : (table : ℕ → ℕ → Cell) (count n : ℕ) (given : Option ℕ) (mine free : List ℕ)
    → CanSwap table count given mine free → n ≡ length mine → IsSwapped table count n (mine ++ free) given
same_swapped table count n given mine free can same =
    let taken : take n (mine ++ free) ≡ mine =
    ap (λ (k : ℕ). take k (mine ++ free)) same ∙ take-append_seam mine free in
    let left : drop n (mine ++ free) ≡ free =
    ap (λ (k : ℕ). drop k (mine ++ free)) same ∙ drop-append_seam mine free in
    record {
      chain = subst (λ (l : List ℕ). IsOptChain table count given l) (sym taken) can.chain;
      rest = subst (λ (l : List ℕ). IsFreeList table count l) (sym left) can.listed;
    }
