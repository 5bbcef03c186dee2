-- Runs of entries that are taken into a set, one behind another.
use Rattle.std.proofs.Common.{◌≡◌, ◌⊎◌, ℕ, zero, suc, ◌+◌, ◌<◌, ◌≤◌, Bool, true, false, List, [], ◌∷◌, ◌++◌}
use Rattle.std.proofs.Common.{get_or, nat_eq, sym, ◌∙◌, arith, ⊎_elim, inl, inr, cond, eqb}
use Rattle.std.proofs.lemmas.Bool.{cases_lt, eq-eqb, ne_eqb, true≢false}
use Rattle.std.proofs.lemmas.List.Sums.{sum_by-cons, sum_by-append}
use Rattle.std.proofs.lemmas.List.FromFn.{length-range_with_len, get_or-range_with_len}
use Rattle.std.proofs.lemmas.List.Elements.{Contains-append_left, Contains-append_right, Contains-append_cases}
use Rattle.std.proofs.lemmas.Map.Keys.{IsDistinct-from_apart}
use Rattle.std.specs.List.{range_with_len, Contains, IsDistinct}
use Rattle.chain_nodes.specs.Chains.{occurrences}
use Rattle.chain_nodes.proofs.OwnLemmas.{range_contains}
use Rattle.chain_nodes.proofs.EditLemmas.{range_bounds}
use Rattle.chain_nodes.proofs.DistinctLemmas.{distinct_both}
use Rattle.held_lists.specs.declared.set.EntrySet.{EntrySet}
use Rattle.held_lists.specs.Sets.{has_entry, IsInRun, TakesRun}
use Rattle.held_lists.specs.Walks.{TakesAll}

-- no number stands twice in a run
range_distinct : (a n : ℕ) → IsDistinct nat_eq (range_with_len a n)
range_distinct a n = IsDistinct-from_apart nat_eq (range_with_len a n) (λ i j d less within.
    let in_n : j < n = omega (arith, within, length-range_with_len a n) in
    ne_eqb (get_or (range_with_len a n) i d) (get_or (range_with_len a n) j d) (λ same.
    omega (
      arith,
      less,
      same,
      get_or-range_with_len a n i d (omega (arith, less, in_n)),
      get_or-range_with_len a n j d in_n,
    )))

none_distinct : IsDistinct nat_eq []
unfolding IsDistinct
none_distinct = tt

pub takes_none : (set : EntrySet) → TakesAll set set []
takes_none set = record {
  once = none_distinct;
  fresh = λ entry (k, within, is). absurd (omega (arith, within));
  taken = λ entry (k, within, is). absurd (omega (arith, within));
  kept = λ entry is. is;
  only = λ entry is. inl is;
}

-- what stands in a list has a place in it
contains_occurs : (x : ℕ) (list : List ℕ) → Contains list x → 1 ≤ occurrences x list
contains_occurs x [] (k, within, is) = absurd (omega (arith, within))
contains_occurs x (y ∷ list) (zero, within, is) =
    let here : occurrences x (y ∷ list) ≡ cond (eqb y x) 1 0 + occurrences x list =
    sum_by-cons (λ z. cond (eqb z x) 1 0) y list in
    rw (here, eq-eqb y x is) (omega arith)
contains_occurs x (y ∷ list) (suc k, within, is) =
    let here : occurrences x (y ∷ list) ≡ cond (eqb y x) 1 0 + occurrences x list =
    sum_by-cons (λ z. cond (eqb z x) 1 0) y list in
    omega (arith, here, contains_occurs x list (k, omega (arith, within), is))

-- so what stands in both of two lists has two in them
pub occurs_twice : (x : ℕ) (xs ys : List ℕ) → Contains xs x → Contains ys x → 2 ≤ occurrences x (xs ++ ys)
occurs_twice x xs ys left right =
    let both : occurrences x (xs ++ ys) ≡ occurrences x xs + occurrences x ys =
    sum_by-append (λ z. cond (eqb z x) 1 0) xs ys in
    omega (arith, both, contains_occurs x xs left, contains_occurs x ys right)

opposed : (b : Bool) → b ≡ true → b ≡ false → ⊥
opposed b yes_b no_b = true≢false (sym yes_b ∙ no_b)

-- a test fails, or passes
fails_or : (b : Bool) → (b ≡ true → ⊥) → b ≡ false
fails_or true not_true = absurd (not_true (λ i. true))
fails_or false not_true = λ i. false

module _ (before held new : EntrySet) (xs : List ℕ) (a n : ℕ) (all : TakesAll before held xs)
    (run : TakesRun held new a n) where
  in_run : (entry : ℕ) → Contains (range_with_len a n) entry → IsInRun a n entry
  in_run entry within =
      let bounds = range_bounds a n entry within in
      record { from = bounds.0; before = bounds.1 }

  run_fresh : (entry : ℕ) → Contains (range_with_len a n) entry → has_entry held entry ≡ false
  run_fresh entry within = run.fresh entry (in_run entry within)

  still : (entry : ℕ) → has_entry held entry ≡ true → has_entry new entry ≡ true
  still entry is =
      run.others entry (λ inside. opposed (has_entry held entry) is (run.fresh entry inside)) ∙ is

  only_run : (entry : ℕ) → has_entry new entry ≡ true
      → (has_entry before entry ≡ true) ⊎ Contains (xs ++ range_with_len a n) entry
  only_run entry is =
      let or_all : (¬ IsInRun a n entry) → (has_entry before entry ≡ true) ⊎ Contains (xs ++ range_with_len a n) entry
      = λ out. ⊎_elim
      (λ (old : has_entry before entry ≡ true). inl old)
      (λ (within : Contains xs entry). inr (Contains-append_left xs (range_with_len a n) entry within))
      (all.only entry (sym (run.others entry out) ∙ is)) in
      ⊎_elim
      (λ (low : entry < a). or_all (λ inside. omega (arith, low, inside.from)))
      (λ (from : a ≤ entry). ⊎_elim
      (λ (inside : entry < a + n).
      inr (Contains-append_right xs (range_with_len a n) entry (range_contains a n entry from inside)))
      (λ (past : a + n ≤ entry). or_all (λ inside. omega (arith, past, inside.before)))
      (cases_lt entry (a + n)))
      (cases_lt entry a)

  pub takes_more : TakesAll before new (xs ++ range_with_len a n)
  takes_more = record {
    once = distinct_both xs (range_with_len a n) all.once (range_distinct a n)
        (λ entry within inside. opposed (has_entry held entry) (all.taken entry within) (run_fresh entry inside));
    fresh = λ entry within. ⊎_elim
        (λ (left : Contains xs entry). all.fresh entry left)
        (λ (right : Contains (range_with_len a n) entry). fails_or (has_entry before entry)
        (λ is. opposed (has_entry held entry) (all.kept entry is) (run_fresh entry right)))
        (Contains-append_cases xs (range_with_len a n) entry within);
    taken = λ entry within. ⊎_elim
        (λ (left : Contains xs entry). still entry (all.taken entry left))
        (λ (right : Contains (range_with_len a n) entry). run.taken entry (in_run entry right))
        (Contains-append_cases xs (range_with_len a n) entry within);
    kept = λ entry is. still entry (all.kept entry is);
    only = only_run;
  }
