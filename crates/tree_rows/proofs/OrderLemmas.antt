-- The order of keys is that of rows.
use Rattle.std.proofs.Common.{◌≡◌, ℕ, Bool, true, false, ◌&&◌, ◌||◌, ◌==◌, not, cond, nat_lt, bytes_eq, List, [], ◌∷◌}
use Rattle.std.proofs.Common.{refl, sym, ◌∙◌}
use Rattle.std.specs.declared.cmp.Ordering.{Ordering}
use Rattle.std.specs.declared.cmp.Ordering.TheVariants.{Less, Equal, Greater}
use Rattle.std.specs.Ordering.{is_lt, is_eq, nat_cmp, bool_cmp, ordering_then}
use Rattle.std.specs.Cmp.{unsigned_tied}
use Rattle.std.specs.Cmp.Lexicographic.{slice_cmp}
use Rattle.std.proofs.lemmas.Map.Lookups.{exact_bytes}
use Rattle.std.proofs.lemmas.Map.Text.{is_eq-slice_cmp}
use Rattle.tree_model.specs.Trees.{Names, same_names}
use Rattle.tree_model.specs.Listings.{is_name_before, is_path_before}
use Rattle.tree_rows.specs.Rows.{Key, key_cmp}

abbrev name_cmp : List ℕ → List ℕ → Ordering
name_cmp = slice_cmp nat_cmp

abbrev path_cmp : Names → Names → Ordering
path_cmp = slice_cmp (slice_cmp nat_cmp)

lt_then : (o p : Ordering) → is_lt (ordering_then o p) ≡ (is_lt o || (is_eq o && is_lt p))
lt_then Less p = refl
lt_then Equal p = refl
lt_then Greater p = refl

eq_then : (o p : Ordering) → is_eq (ordering_then o p) ≡ (is_eq o && is_eq p)
eq_then Less p = refl
eq_then Equal p = refl
eq_then Greater p = refl

lt_tested : (a b : Bool) → is_lt (cond a Less (cond b Equal Greater)) ≡ a
lt_tested true b = refl
lt_tested false true = refl
lt_tested false false = refl

or_same : (a b c a' b' c' : Bool) → a ≡ a' → b ≡ b' → c ≡ c' → (a || (b && c)) ≡ (a' || (b' && c'))
or_same a b c a' b' c' p q r = cc

and_same : (a b a' b' : Bool) → a ≡ a' → b ≡ b' → (a && b) ≡ (a' && b')
and_same a b a' b' p q = cc

name_before : (xs ys : List ℕ) → is_lt (name_cmp xs ys) ≡ is_name_before xs ys
name_before [] [] = refl
name_before [] (y ∷ ys) = refl
name_before (x ∷ xs) [] = refl
name_before (x ∷ xs) (y ∷ ys) =
    lt_then (nat_cmp x y) (name_cmp xs ys)
    ∙ or_same (is_lt (nat_cmp x y)) (is_eq (nat_cmp x y)) (is_lt (name_cmp xs ys)) (nat_lt x y) (x == y)
    (is_name_before xs ys) (lt_tested (nat_lt x y) (x == y)) (unsigned_tied x y) (name_before xs ys)

path_before : (ps qs : Names) → is_lt (path_cmp ps qs) ≡ is_path_before ps qs
path_before [] [] = refl
path_before [] (q ∷ qs) = refl
path_before (p ∷ ps) [] = refl
path_before (p ∷ ps) (q ∷ qs) =
    lt_then (name_cmp p q) (path_cmp ps qs)
    ∙ or_same (is_lt (name_cmp p q)) (is_eq (name_cmp p q)) (is_lt (path_cmp ps qs)) (is_name_before p q)
    (bytes_eq p q) (is_path_before ps qs) (name_before p q) (is_eq-slice_cmp p q) (path_before ps qs)

path_same : (ps qs : Names) → is_eq (path_cmp ps qs) ≡ same_names ps qs
path_same [] [] = refl
path_same [] (q ∷ qs) = refl
path_same (p ∷ ps) [] = refl
path_same (p ∷ ps) (q ∷ qs) =
    eq_then (name_cmp p q) (path_cmp ps qs)
    ∙ and_same (is_eq (name_cmp p q)) (is_eq (path_cmp ps qs)) (bytes_eq p q) (same_names ps qs)
    (is_eq-slice_cmp p q) (path_same ps qs)

before_by : (o : Ordering) (x y : Bool) → ordering_then o (bool_cmp x y) ≡ Less
    → (is_lt o || (is_eq o && (not x && not (not y)))) ≡ true
before_by Less x y h = refl
before_by Equal false false h = absurd (cc)
before_by Equal false true h = refl
before_by Equal true false h = absurd (cc)
before_by Equal true true h = absurd (cc)
before_by Greater x y h = absurd (cc)

-- a lesser key stands before
pub keys_before : (key other : Key) → key_cmp key other ≡ Less
    → (is_path_before key.0.items other.0.items
    || (same_names key.0.items other.0.items && (not key.1 && not (not other.1)))) ≡ true
keys_before key other less =
    let o = path_cmp key.0.items other.0.items in
    let last = not key.1 && not (not other.1) in
    sym (or_same (is_lt o) (is_eq o) last (is_path_before key.0.items other.0.items)
    (same_names key.0.items other.0.items) last (path_before key.0.items other.0.items)
    (path_same key.0.items other.0.items) refl)
    ∙ before_by o key.1 other.1 less

then_equal : (o p : Ordering) → ordering_then o p ≡ Equal → (o ≡ Equal) × (p ≡ Equal)
then_equal Less p h = absurd (cc)
then_equal Equal p h = (refl, h)
then_equal Greater p h = absurd (cc)

exact_flags : (x y : Bool) → bool_cmp x y ≡ Equal → x ≡ y
exact_flags false false h = refl
exact_flags false true h = absurd (cc)
exact_flags true false h = absurd (cc)
exact_flags true true h = refl

cons_names : (p q : List ℕ) (ps qs : Names) → p ≡ q → ps ≡ qs → p ∷ ps ≡ q ∷ qs
cons_names p q ps qs head tail = cc

exact_paths : (ps qs : Names) → path_cmp ps qs ≡ Equal → ps ≡ qs
exact_paths [] [] h = refl
exact_paths [] (q ∷ qs) h = absurd (cc)
exact_paths (p ∷ ps) [] h = absurd (cc)
exact_paths (p ∷ ps) (q ∷ qs) h =
    let both = then_equal (name_cmp p q) (path_cmp ps qs) h in
    cons_names p q ps qs (exact_bytes p q both.0) (exact_paths ps qs both.1)

-- equal keys have one path and flag
pub same_keys : (key other : Key) → key_cmp key other ≡ Equal
    → (key.0.items ≡ other.0.items) × (key.1 ≡ other.1)
same_keys key other h =
    let both = then_equal (path_cmp key.0.items other.0.items) (bool_cmp key.1 other.1) h in
    (exact_paths key.0.items other.0.items both.0, exact_flags key.1 other.1 both.1)
