-- Runs of numbers, and the first numbers of lists that end in one.
use Rattle.std.proofs.Common.{◌≡◌, ℕ, zero, suc, ◌+◌, ◌-◌, ◌≤◌, min, List, [], ◌∷◌, ◌++◌, length, take, map, refl}
use Rattle.std.proofs.Common.{sym, ◌∙◌, ap, arith, append_assoc}
use Rattle.std.proofs.lemmas.List.{append-nil, map-append}
use Rattle.std.specs.List.{range_with_len}
use Rattle.chain_nodes.specs.declared.node.Node.{Node}
use Rattle.chain_nodes.specs.Chains.{entries_of}
use Rattle.chain_nodes.proofs.ListLemmas.{entries_of-append}

-- one number more
pub range_more : (a n j : ℕ) → a + n ≡ j → range_with_len a (suc n) ≡ range_with_len a n ++ j ∷ []
range_more a zero j is =
    let same : a ≡ j = omega (arith, is) in
    ap (λ (m : ℕ). m ∷ []) same
range_more a (suc n) j is =
    let next : a + 1 + n ≡ j = omega (arith, is) in
    ap (λ (l : List ℕ). a ∷ l) (range_more (a + 1) n j next)

pub added_one : (numbers start : List ℕ) (a number : ℕ) → a ≤ number
    → numbers ≡ start ++ range_with_len a (number - a)
    → numbers ++ number ∷ [] ≡ start ++ range_with_len a (number + 1 - a)
added_one numbers start a number from is =
    let more : suc (number - a) ≡ number + 1 - a = omega (arith, from) in
    ap (λ (l : List ℕ). l ++ number ∷ []) is
    ∙ append_assoc start (range_with_len a (number - a)) (number ∷ [])
    ∙ ap (λ (l : List ℕ). start ++ l)
    (sym (range_more a (number - a) number (omega (arith, from))) ∙ ap (range_with_len a) more)

-- the first numbers of a run
take_run : (k a n : ℕ) → take k (range_with_len a n) ≡ range_with_len a (min n k)
take_run zero a zero = refl
take_run zero a (suc n) =
    let none : 0 ≡ min (suc n) 0 = omega arith in
    ap (range_with_len a) none
take_run (suc k) a zero =
    let none : 0 ≡ min 0 (suc k) = omega arith in
    ap (range_with_len a) none
take_run (suc k) a (suc n) =
    let both : suc (min n k) ≡ min (suc n) (suc k) = omega arith in
    ap (λ (l : List ℕ). a ∷ l) (take_run k (a + 1) n) ∙ ap (range_with_len a) both

-- the first numbers of two lists
take_both : (k : ℕ) (xs ys : List ℕ) → take k (xs ++ ys) ≡ take k xs ++ take (k - length xs) ys
take_both k [] ys =
    let none : k ≡ k - 0 = omega arith in
    take_none k ys ∙ ap (λ (n : ℕ). take k [] ++ take n ys) none where
      take_none : (k : ℕ) (ys : List ℕ) → take k ys ≡ take k [] ++ take k ys
      take_none zero ys = refl
      take_none (suc k) ys = refl
take_both zero (x ∷ xs) ys =
    let none : 0 ≡ 0 - length (x ∷ xs) = omega arith in
    ap (λ (n : ℕ). take n ys) none
take_both (suc k) (x ∷ xs) ys =
    let same : k - length xs ≡ suc k - length (x ∷ xs) = omega arith in
    ap (λ (l : List ℕ). x ∷ l) (take_both k xs ys) ∙ ap (λ (n : ℕ). x ∷ take k xs ++ take n ys) same

-- the numbers before those of a run
run_before : (b n : ℕ) → map (λ (entry : ℕ). entry - 1) (range_with_len (suc b) n) ≡ range_with_len b n
run_before b zero = refl
run_before b (suc n) =
    let here : suc b - 1 ≡ b = omega arith in
    let next : suc b + 1 ≡ suc (b + 1) = omega arith in
    ap (λ (m : ℕ). m ∷ map (λ (entry : ℕ). entry - 1) (range_with_len (suc b + 1) n)) here
    ∙ ap (λ (m : ℕ). b ∷ map (λ (entry : ℕ). entry - 1) (range_with_len m n)) next
    ∙ ap (λ (l : List ℕ). b ∷ l) (run_before (b + 1) n)

-- the data blocks of the first entries of nodes
abbrev pub first_blocks : ℕ → List Node → List ℕ
first_blocks most nodes = map (λ (entry : ℕ). entry - 1) (take most (entries_of nodes))

-- before the first node there is none
pub none_yet : (most : ℕ) (start : List ℕ) → start ≡ start ++ first_blocks most []
none_yet zero start = sym (append-nil start)
none_yet (suc most) start = sym (append-nil start)

-- behind one node more
pub blocks_more : (most passed : ℕ) (nodes : List Node) (node : Node) (blocks start : List ℕ) (n : ℕ)
    → 1 ≤ node.first → passed ≡ length (entries_of nodes) → blocks ≡ start ++ first_blocks most nodes
    → n ≡ min (node.last + 1 - node.first) (most - passed)
    → blocks ++ range_with_len (node.first - 1) n ≡ start ++ first_blocks most (nodes ++ node ∷ [])
blocks_more most passed nodes node blocks start n some length_is is n_is =
    let len : ℕ = node.last + 1 - node.first in
    let run : List ℕ = range_with_len node.first len in
    let first : suc (node.first - 1) ≡ node.first = omega (arith, some) in
    let count : min len (most - length (entries_of nodes)) ≡ n = ap (λ (m : ℕ). min len (most - m)) (sym length_is)
    ∙ sym n_is in
    let entries : entries_of (nodes ++ node ∷ []) ≡ entries_of nodes ++ run =
    entries_of-append nodes (node ∷ []) ∙ ap (λ (l : List ℕ). entries_of nodes ++ l) (append-nil run) in
    let taken : take most (entries_of (nodes ++ node ∷ [])) ≡ take most (entries_of nodes) ++ range_with_len node.first n
    = ap (λ (l : List ℕ). take most l) entries ∙ take_both most (entries_of nodes) run
    ∙ ap (λ (l : List ℕ). take most (entries_of nodes) ++ l)
    (take_run (most - length (entries_of nodes)) node.first len ∙ ap (range_with_len node.first) count) in
    let before : map (λ (entry : ℕ). entry - 1) (range_with_len node.first n) ≡ range_with_len (node.first - 1) n =
    ap (λ (m : ℕ). map (λ (entry : ℕ). entry - 1) (range_with_len m n)) (sym first) ∙ run_before (node.first - 1) n in
    let whole : first_blocks most (nodes ++ node ∷ []) ≡ first_blocks most nodes ++ range_with_len (node.first - 1) n =
    ap (λ (l : List ℕ). map (λ (entry : ℕ). entry - 1) l) taken
    ∙ map-append (λ (entry : ℕ). entry - 1) (take most (entries_of nodes)) (range_with_len node.first n)
    ∙ ap (λ (l : List ℕ). first_blocks most nodes ++ l) before in
    ap (λ (l : List ℕ). l ++ range_with_len (node.first - 1) n) is
    ∙ append_assoc start (first_blocks most nodes) (range_with_len (node.first - 1) n)
    ∙ ap (λ (l : List ℕ). start ++ l) (sym whole)
