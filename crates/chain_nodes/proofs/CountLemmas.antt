-- How many entries of some nodes lie between two numbers.
use Rattle.std.proofs.Common.{◌≡◌, ℕ, zero, suc, ◌+◌, ◌-◌, ◌<◌, ◌≤◌, min, max, cond, ◌&&◌, eqb, leb, false, List, []}
use Rattle.std.proofs.Common.{◌∷◌, ◌++◌, length}
use Rattle.std.proofs.Common.{nat_eq, refl, sym, ◌∙◌, subst, arith, ⊎_elim, length-append}
use Rattle.std.proofs.lemmas.Bool.{cases_lt, cases_eq, le-leb, eq-eqb, ne_eqb, false≢true}
use Rattle.std.proofs.lemmas.Bool.Decides.{nat_tests}
use Rattle.std.specs.List.{range_with_len, AllByRecursion, IsDistinct}
use Rattle.std.proofs.lemmas.List.Sums.{sum_by-append, sum_by-cons}
use Rattle.std.proofs.lemmas.List.FromFn.{length-range_with_len}
use Rattle.save_bytes.specs.Cells.{Cell}
use Rattle.chain_nodes.specs.declared.node.Node.{Node}
use Rattle.chain_nodes.specs.declared.node.Lead.{Lead}
use Rattle.chain_nodes.specs.declared.node.Lead.TheVariants.{Follows}
use Rattle.chain_nodes.specs.Chains.{AreNodes, entries_of, occurrences}
use Rattle.chain_nodes.specs.Between.{count_between}

-- 1 for a number that lies between two, and else 0
abbrev hit : ℕ → ℕ → ℕ → ℕ
hit low high y = cond (leb low y && leb y high) 1 0

hit_inside : (low high y : ℕ) → low ≤ y → y ≤ high → hit low high y ≡ 1
hit_inside low high y h k = rw (le-leb low y h, le-leb y high k) refl

hit_below : (low high y : ℕ) → y < low → hit low high y ≡ 0
hit_below low high y h = grind (arith, nat_tests)

hit_above : (low high y : ℕ) → high < y → hit low high y ≡ 0
hit_above low high y h = grind (arith, nat_tests)

-- between two numbers lie those up to a middle, and those behind it
hit_split : (low middle high y : ℕ) → low ≤ middle → middle ≤ high
    → hit low high y ≡ hit low middle y + hit (middle + 1) high y
hit_split low middle high y h k =
    ⊎_elim
    (λ (below : y < low). rw (
      hit_below low high y below,
      hit_below low middle y below,
      hit_below (middle + 1) high y
          (omega arith),
    ) refl)
    (λ (from : low ≤ y).
    ⊎_elim
    (λ (front : y < middle + 1).
    let up_to : y ≤ high = omega arith in
    let up_to_middle : y ≤ middle = omega arith in
    rw (
      hit_inside low high y from up_to,
      hit_inside low middle y from up_to_middle,
      hit_below
          (middle + 1) high y front,
    ) refl)
    (λ (back : middle + 1 ≤ y).
    let behind_middle : middle < y = omega arith in
    ⊎_elim
    (λ (above : high < y). rw (
      hit_above low high y above,
      hit_above low middle y behind_middle,
      hit_above
          (middle + 1) high y above,
    ) refl)
    (λ (up_to : y ≤ high). rw (
      hit_inside low high y from up_to,
      hit_above low middle y behind_middle,
      hit_inside
          (middle + 1) high y back up_to,
    ) refl)
    (cases_lt high y))
    (cases_lt y (middle + 1)))
    (cases_lt y low)

count_between-cons : (low high y : ℕ) (list : List ℕ) → count_between low high
    (y ∷ list) ≡ hit low high y + count_between low high list
count_between-cons low high y list = sum_by-cons (λ x. hit low high x) y list

pub count_between-split : (low middle high : ℕ) (list : List ℕ) → low ≤ middle → middle ≤ high
    → count_between low high list ≡ count_between low middle list + count_between (middle + 1) high list
count_between-split low middle high [] h k = refl
count_between-split low middle high (y ∷ list) h k =
    omega (
      arith,
      hit_split low middle high y h k,
      count_between-split low middle high list h k,
      count_between-cons low high y list,
      count_between-cons low middle y list,
      count_between-cons (middle + 1) high y list,
    )

-- between no numbers lies none
pub count_between-none : (low high : ℕ) (list : List ℕ) → high < low → count_between low high list ≡ 0
count_between-none low high [] h = refl
count_between-none low high (y ∷ list) h =
    ⊎_elim
    (λ (below : y < low). omega (
      arith,
      count_between-cons low high y list,
      hit_below low high y below,
      count_between-none low high list h,
    ))
    (λ (from : low ≤ y). omega (
      arith,
      count_between-cons low high y list,
      hit_above low high y
          (omega arith),
      count_between-none low high list h,
    ))
    (cases_lt y low)

-- in a run
hit_range : (low high a n : ℕ) → min (a + 1 + n) (high + 1) - max (a + 1) low + hit low high a ≡ min (a + suc n)
    (high + 1) - max a low
hit_range low high a n =
    ⊎_elim
    (λ (below : a < low). omega (arith, hit_below low high a below))
    (λ (from : low ≤ a).
    ⊎_elim
    (λ (above : high < a). omega (arith, hit_above low high a above))
    (λ (up_to : a ≤ high). omega (arith, hit_inside low high a from up_to))
    (cases_lt high a))
    (cases_lt a low)

pub count_between-range : (low high a n : ℕ) → count_between low high (range_with_len a n) ≡ min (a + n)
    (high + 1) - max a low
count_between-range low high a zero = omega arith
count_between-range low high a (suc n) =
    omega (
      arith,
      hit_range low high a n,
      count_between-range low high (a + 1) n,
      count_between-cons low high a
          (range_with_len (a + 1) n),
    )

pub count_between-append : (low high : ℕ) (xs ys : List ℕ) → count_between low high
    (xs ++ ys) ≡ count_between low high xs + count_between low high ys
count_between-append low high xs ys = sum_by-append (λ y. hit low high y) xs ys

-- all entries of nodes lie in the table
pub count_between-all : (table : ℕ → ℕ → Cell) (count : ℕ) (lead : Lead) (nodes : List Node) (next : ℕ)
    → AreNodes table count lead nodes next → count_between 1 count (entries_of nodes) ≡ length (entries_of nodes)
count_between-all table count lead [] next h = refl
count_between-all table count lead (node ∷ nodes) next h =
    let len : ℕ = node.last + 1 - node.first in
    omega (
      arith,
      h.0.starts,
      h.0.ordered,
      h.0.ends,
      count_between-append 1 count (range_with_len node.first len) (entries_of nodes),
      count_between-range 1 count node.first len,
      count_between-all table count (Follows node.first) nodes next h.1,
      length-append (range_with_len node.first len) (entries_of nodes),
      length-range_with_len node.first len,
    )

-- between a number and itself lies that number
hit_one : (x y : ℕ) → hit x x y ≡ cond (eqb y x) 1 0
hit_one x y =
    ⊎_elim
    (λ (same : y ≡ x). rw (hit_inside x x y (omega arith) (omega arith), eq-eqb y x same) refl)
    (λ (other : y ≡ x → ⊥). grind (arith, nat_tests))
    (cases_eq y x)

pub count_between-one : (x : ℕ) (list : List ℕ) → count_between x x list ≡ occurrences x list
count_between-one x [] = refl
count_between-one x (y ∷ list) =
    let here : occurrences x (y ∷ list) ≡ cond (eqb y x) 1 0 + occurrences x list = sum_by-cons (λ z. cond
    (eqb z x) 1 0) y list in
    omega (arith, hit_one x y, count_between-one x list, count_between-cons x x y list)

-- a number that no element of a list equals has no place in it
absent : (x : ℕ) (list : List ℕ) → AllByRecursion (λ y. nat_eq x y ≡ false) list → occurrences x list ≡ 0
absent x [] none = refl
absent x (y ∷ list) none =
    let here : occurrences x (y ∷ list) ≡ cond (eqb y x) 1 0 + occurrences x list = sum_by-cons (λ z. cond
    (eqb z x) 1 0) y list in
    let other : eqb y x ≡ false = ne_eqb y x (λ same. false≢true (sym none.0 ∙ eq-eqb x y (sym same))) in
    here ∙ rw (other, absent x list none.1) refl

-- a number has one place at most in a list in which none stands twice
pub distinct_once : (list : List ℕ) → IsDistinct nat_eq list → (x : ℕ) → occurrences x list ≤ 1
unfolding IsDistinct
distinct_once [] distinct x = omega arith
distinct_once (y ∷ list) distinct x =
    let here : occurrences x (y ∷ list) ≡ cond (eqb y x) 1 0 + occurrences x list = sum_by-cons (λ z. cond
    (eqb z x) 1 0) y list in
    ⊎_elim
    (λ (below : y < x). omega (arith, here, hit_one x y, hit_below x x y below, distinct_once list distinct.1 x))
    (λ (from : x ≤ y).
    ⊎_elim
    (λ (above : x < y). omega (arith, here, hit_one x y, hit_above x x y above, distinct_once list distinct.1 x))
    (λ (up_to : y ≤ x).
    let same : y ≡ x = omega arith in
    let none : occurrences x list ≡ 0 = subst (λ (z : ℕ). occurrences z list ≡ 0) same (absent y list distinct.0) in
    omega (arith, here, hit_one x y, hit_inside x x y from up_to, none))
    (cases_lt x y))
    (cases_lt y x)

-- in the run of a node
pub node_between : (low high first last : ℕ) → first ≤ last
    → count_between low high (range_with_len first (last + 1 - first)) ≡ min last high + 1 - max first low
node_between low high first last ordered = omega (arith, count_between-range low high first (last + 1 - first))
