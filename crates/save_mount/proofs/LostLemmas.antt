-- Counting numbers of a sort, one after another, and the entries that no list has.
use Rattle.std.proofs.Common.{◌≡◌, ◌⊎◌, ℕ, zero, suc, ◌+◌, ◌<◌, ◌≤◌, true, false, [], ◌∷◌, ◌++◌}
use Rattle.std.proofs.Common.{refl, sym, ◌∙◌, subst, arith, inl, inr, ⊎_elim, length-append}
use Rattle.std.specs.List.{Contains}
use Rattle.std.proofs.lemmas.Bool.{cases_lt}
use Rattle.std.proofs.lemmas.List.Elements.{Contains-append_cases, Contains-append_left, Contains-append_right}
use Rattle.entry_tables.proofs.LinkLemmas.{linked_distinct, IsDistinct-push, Contains-head}
use Rattle.held_lists.specs.declared.set.EntrySet.{EntrySet}
use Rattle.held_lists.specs.Sets.{has_entry}
use Rattle.save_mount.specs.Counts.{IsCountOf, IsUnheld}

nothing_in : (e : ℕ) → ¬ Contains [] e
nothing_in e (k, within, is) = omega (arith, within)

only_in : (n e : ℕ) → Contains (n ∷ []) e → e ≡ n
only_in n e (zero, within, is) = sym is
only_in n e (suc k, within, is) = absurd (omega (arith, within))

-- the same numbers are as many
pub count_map : (P Q : ℕ → Type 0) (n : ℕ) → ((x : ℕ) → P x → Q x) → ((x : ℕ) → Q x → P x) → IsCountOf P n
    → IsCountOf Q n
count_map P Q n to from h = record {
  list = h.list;
  once = h.once;
  long = h.long;
  each = λ x. (λ within. to x ((h.each x).0 within), λ q. (h.each x).1 (from x q));
}

pub count_none : (P : ℕ → Type 0) → ((x : ℕ) → ¬ P x) → IsCountOf P 0
count_none P none = record {
  list = [];
  once = linked_distinct (λ e. e) 0 [] refl;
  long = refl;
  each = λ x. (λ within. absurd (nothing_in x within), λ p. absurd (none x p));
}

-- one number more
pub count_more : (P Q : ℕ → Type 0) (n e : ℕ) → ¬ P e → Q e → ((x : ℕ) → P x → Q x)
    → ((x : ℕ) → Q x → P x ⊎ (e ≡ x)) → IsCountOf P n → IsCountOf Q (n + 1)
count_more P Q n e out here to from h = record {
  list = h.list ++ e ∷ [];
  once = IsDistinct-push h.list e h.once (λ within. out ((h.each e).0 within));
  long = omega (arith, h.long, length-append h.list (e ∷ []));
  each = λ x. (
    λ within. ⊎_elim
        (λ (before : Contains h.list x). to x ((h.each x).0 before))
        (λ (last : Contains (e ∷ []) x). subst Q (sym (only_in e x last)) here)
        (Contains-append_cases h.list (e ∷ []) x within),
    λ q. ⊎_elim
        (λ (p : P x). Contains-append_left h.list (e ∷ []) x ((h.each x).1 p))
        (λ (same : e ≡ x). Contains-append_right h.list (e ∷ []) x
        (subst (λ (k : ℕ). Contains (e ∷ []) k) same (Contains-head e [])))
        (from x q),
  );
}

-- an entry below a number, from 1 on, that is not in a set
pub record IsOutBelow (held : EntrySet) (n entry : ℕ) : Type 0 where
  pub some : 1 ≤ entry
  pub below : entry < n
  pub out : has_entry held entry ≡ false

module _ (held : EntrySet) where
  pub out_none : IsCountOf (IsOutBelow held 1) 0
  out_none = count_none (IsOutBelow held 1) (λ x h. omega (arith, h.some, h.below))

  module _ (n lost : ℕ) (h : IsCountOf (IsOutBelow held n) lost) where
    later : (x : ℕ) → IsOutBelow held n x → IsOutBelow held (n + 1) x
    later x p = record { some = p.some; below = omega (arith, p.below); out = p.out }

    before : (x : ℕ) → IsOutBelow held (n + 1) x → IsOutBelow held n x ⊎ (n ≡ x)
    before x q = ⊎_elim
        (λ (less : x < n). inl (record { some = q.some; below = less; out = q.out }))
        (λ (past : n ≤ x). inr (omega (arith, past, q.below)))
        (cases_lt x n)

    pub out_more : 1 ≤ n → has_entry held n ≡ false → IsCountOf (IsOutBelow held (n + 1)) (lost + 1)
    out_more some out = count_more (IsOutBelow held n) (IsOutBelow held (n + 1)) lost n
        (λ p. omega (arith, p.below)) (record { some = some; below = omega arith; out = out }) later before h

    pub out_skip : has_entry held n ≡ true → IsCountOf (IsOutBelow held (n + 1)) lost
    out_skip «in» = count_map (IsOutBelow held n) (IsOutBelow held (n + 1)) lost later
        (λ x q. ⊎_elim (λ (p : IsOutBelow held n x). p)
        (λ (same : n ≡ x). absurd (strange (sym «in» ∙ subst (λ (e : ℕ). has_entry held e ≡ false) (sym same) q.out)))
        (before x q)) h where
          strange : true ≡ false → ⊥
          strange same = cc

  pub out_all : (count lost : ℕ) → IsCountOf (IsOutBelow held (count + 1)) lost → IsCountOf (IsUnheld count held) lost
  out_all count lost h = count_map (IsOutBelow held (count + 1)) (IsUnheld count held) lost
      (λ x p. record { there = record { some = p.some; inside = omega (arith, p.below) }; out = p.out })
      (λ x q. record { some = q.there.some; below = omega (arith, q.there.inside); out = q.out }) h
