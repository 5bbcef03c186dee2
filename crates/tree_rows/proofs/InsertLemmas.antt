-- What a map's entries have after one was put.
use Rattle.std.proofs.Common.{◌≡◌, zero, suc, List, [], ◌∷◌, ◌⊎◌, ⊎_elim, inl, inr, refl, sym, subst, ◌∙◌, arith}
use Rattle.std.specs.declared.cmp.Ordering.{Ordering}
use Rattle.std.specs.declared.cmp.Ordering.TheVariants.{Less, Equal, Greater}
use Rattle.std.specs.Ordering.{match_ordering}
use Rattle.std.specs.List.{All, AllByRecursion, Contains}
use Rattle.std.specs.Map.{values_of}
use Rattle.std.specs.BTreeMap.{insert_entry}
use Rattle.std.proofs.lemmas.List.Elements.{All-from_recursion, recursion_from_All}
use Rattle.std.proofs.lemmas.List.Elements.{Contains-append_cases, Contains-append_right}

module _ {X : Type 0} where
  head_within : (x : X) (xs : List X) → Contains (x ∷ xs) x
  head_within x xs = (0, omega arith, refl)

  tail_within : (y : X) (xs : List X) (x : X) → Contains xs x → Contains (y ∷ xs) x
  tail_within y xs x within = Contains-append_right (y ∷ []) xs x within

  one_of : (y x : X) → Contains (y ∷ []) x → y ≡ x
  one_of y x (zero, less, is) = is
  one_of y x (suc k, less, is) = absurd (omega (arith, less))

  head_or_tail : (y : X) (xs : List X) (x : X) → Contains (y ∷ xs) x → (y ≡ x) ⊎ Contains xs x
  head_or_tail y xs x within =
      ⊎_elim (λ (here : Contains (y ∷ []) x). inl (one_of y x here))
      (λ (after : Contains xs x). inr after) (Contains-append_cases (y ∷ []) xs x within)

module _ {K X : Type 0} (cmp : K → K → Ordering) (P : K × X → Type 0) (k : K) (v : X) where
  abbrev put : List (K × X) → List (K × X)
  put es = insert_entry cmp es k v

  all_by_order : (e : K × X) (es : List (K × X)) (o : Ordering) → cmp k e.0 ≡ o → P (k, v)
      → ((q : K) (w : X) → cmp k q ≡ Equal → P (q, w) → P (q, v)) → P e → AllByRecursion P es
      → AllByRecursion P (put es)
      → AllByRecursion P (match_ordering o ((k, v) ∷ e ∷ es) ((e.0, v) ∷ es) (e ∷ put es))
  all_by_order e es Less is here same first rest more = (here, (first, rest))
  all_by_order e es Equal is here same first rest more = (same e.0 e.1 is first, rest)
  all_by_order e es Greater is here same first rest more = (first, more)

  put_all : P (k, v) → ((q : K) (w : X) → cmp k q ≡ Equal → P (q, w) → P (q, v)) → (es : List (K × X))
      → AllByRecursion P es → AllByRecursion P (put es)
  put_all here same [] all = (here, tt)
  put_all here same (e ∷ es) all =
      all_by_order e es (cmp k e.0) refl here same all.0 all.1 (put_all here same es all.1)

  -- what holds of each entry, and of the new one, also at an old key that is equal to its own
  pub insert_all : P (k, v) → ((q : K) (w : X) → cmp k q ≡ Equal → P (q, w) → P (q, v)) → (es : List (K × X))
      → All P es → All P (insert_entry cmp es k v)
  insert_all here same es all =
      All-from_recursion P (put es) (put_all here same es (recursion_from_All P es all))

  keeps_by_order : (x : X) (e : K × X) (es : List (K × X)) (o : Ordering) → cmp k e.0 ≡ o
      → ((q : K) (w : X) → cmp k q ≡ Equal → P (q, w) → w ≡ v) → P e
      → (Contains (values_of es) x → Contains (values_of (put es)) x) → Contains (values_of (e ∷ es)) x
      → Contains (values_of (match_ordering o ((k, v) ∷ e ∷ es) ((e.0, v) ∷ es) (e ∷ put es))) x
  keeps_by_order x e es Less is same first more within = tail_within v (e.1 ∷ values_of es) x within
  keeps_by_order x e es Equal is same first more within =
      ⊎_elim
      (λ (here : e.1 ≡ x). subst (λ (y : X). Contains (v ∷ values_of es) y) (sym (same e.0 e.1 is first) ∙ here)
      (head_within v (values_of es)))
      (λ (after : Contains (values_of es) x). tail_within v (values_of es) x after)
      (head_or_tail e.1 (values_of es) x within)
  keeps_by_order x e es Greater is same first more within =
      ⊎_elim
      (λ (here : e.1 ≡ x). subst (λ (y : X). Contains (e.1 ∷ values_of (put es)) y) here
      (head_within e.1 (values_of (put es))))
      (λ (after : Contains (values_of es) x). tail_within e.1 (values_of (put es)) x (more after))
      (head_or_tail e.1 (values_of es) x within)

  put_keeps : (x : X) → ((q : K) (w : X) → cmp k q ≡ Equal → P (q, w) → w ≡ v) → (es : List (K × X))
      → AllByRecursion P es → Contains (values_of es) x → Contains (values_of (put es)) x
  put_keeps x same [] all within = absurd (omega (arith, within.1))
  put_keeps x same (e ∷ es) all within =
      keeps_by_order x e es (cmp k e.0) refl same all.0 (put_keeps x same es all.1) within

  -- no value goes, where an equal key has the new one already
  pub insert_keeps : (x : X) → ((q : K) (w : X) → cmp k q ≡ Equal → P (q, w) → w ≡ v) → (es : List (K × X))
      → All P es → Contains (values_of es) x → Contains (values_of (insert_entry cmp es k v)) x
  insert_keeps x same es all within = put_keeps x same es (recursion_from_All P es all) within

module _ {K X : Type 0} (cmp : K → K → Ordering) (k : K) (v : X) where
  has_by_order : (e : K × X) (es : List (K × X)) (o : Ordering) → Contains (values_of (insert_entry cmp es k v)) v
      → Contains (values_of (match_ordering o ((k, v) ∷ e ∷ es) ((e.0, v) ∷ es) (e ∷ insert_entry cmp es k v))) v
  has_by_order e es Less more = head_within v (e.1 ∷ values_of es)
  has_by_order e es Equal more = head_within v (values_of es)
  has_by_order e es Greater more = tail_within e.1 (values_of (insert_entry cmp es k v)) v more

  -- the new value is there
  pub insert_has : (es : List (K × X)) → Contains (values_of (insert_entry cmp es k v)) v
  insert_has [] = head_within v []
  insert_has (e ∷ es) = has_by_order e es (cmp k e.0) (insert_has es)
