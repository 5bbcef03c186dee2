-- Lists in which no number stands twice, and parts of them.
use Rattle.std.proofs.Common.{◌≡◌, ℕ, ◌+◌, ◌-◌, ◌<◌, ◌≤◌, List, ◌++◌, length, get_or, nat_eq, sym, ◌∙◌, ap}
use Rattle.std.proofs.Common.{arith}
use Rattle.std.proofs.Common.{⊎_elim, subst, length-append}
use Rattle.std.proofs.lemmas.Bool.{cases_lt, eqb-false, ne_eqb}
use Rattle.std.proofs.lemmas.List.{get_or_append_left, get_or-append-add}
use Rattle.std.proofs.lemmas.Map.Keys.{apart_from_distinct, IsDistinct-from_apart}
use Rattle.std.proofs.lemmas.List.Elements.{Contains-get_or}
use Rattle.std.specs.List.{IsDistinct, Contains}

-- two places of a list have two numbers
differ : (list : List ℕ) (i j d : ℕ) → IsDistinct nat_eq list → i < j → j < length list → get_or list i d ≡ get_or
    list j d → ⊥
differ list i j d once less within same =
    eqb-false (get_or list i d) (get_or list j d) (apart_from_distinct nat_eq list i j d once less within) same

module _ (xs ys : List ℕ) where
  -- no number stands in both parts
  pub distinct_apart : IsDistinct nat_eq (xs ++ ys) → (x : ℕ) → Contains xs x → ¬ Contains ys x
  distinct_apart once x (i, in_xs, is) (j, in_ys, also) =
      differ (xs ++ ys) i (length xs + j) x once (omega (arith, in_xs)) (omega (arith, in_ys, length-append xs ys))
      (get_or_append_left xs ys x i in_xs ∙ is ∙ sym also ∙ sym (get_or-append-add xs ys j x))

  pub distinct_left : IsDistinct nat_eq (xs ++ ys) → IsDistinct nat_eq xs
  distinct_left once = IsDistinct-from_apart nat_eq xs (λ i j d less within.
      ne_eqb (get_or xs i d) (get_or xs j d) (λ same. differ (xs ++ ys) i j d once less
      (omega (arith, within, length-append xs ys))
      (get_or_append_left xs ys d i (omega (arith, less, within)) ∙ same ∙ sym (get_or_append_left xs ys d j
      within))))

  pub distinct_right : IsDistinct nat_eq (xs ++ ys) → IsDistinct nat_eq ys
  distinct_right once = IsDistinct-from_apart nat_eq ys (λ i j d less within.
      ne_eqb (get_or ys i d) (get_or ys j d) (λ same. differ (xs ++ ys) (length xs + i) (length xs + j) d once
      (omega (arith, less)) (omega (arith, within, length-append xs ys))
      (get_or-append-add xs ys i d ∙ same ∙ sym (get_or-append-add xs ys j d))))

  -- where that holds of both parts, and they share no number, it holds of the whole
  pub distinct_both : IsDistinct nat_eq xs → IsDistinct nat_eq ys → ((x : ℕ) → Contains xs x → ¬ Contains ys x)
      → IsDistinct nat_eq (xs ++ ys)
  distinct_both once_xs once_ys apart = IsDistinct-from_apart nat_eq (xs ++ ys) (λ i j d less within.
      ne_eqb (get_or (xs ++ ys) i d) (get_or (xs ++ ys) j d) (λ same.
      ⊎_elim
      (λ (left : j < length xs). differ xs i j d once_xs less left
      (sym (get_or_append_left xs ys d i (omega (arith, less, left))) ∙ same ∙ get_or_append_left xs ys d j left))
      (λ (right : length xs ≤ j).
      let m : ℕ = j - length xs in
      let m_is : j ≡ length xs + m = omega arith in
      let in_ys : m < length ys = omega (arith, within, length-append xs ys) in
      let at_j : get_or (xs ++ ys) j d ≡ get_or ys m d = ap (λ (p : ℕ). get_or (xs ++ ys) p d) m_is ∙
      get_or-append-add xs ys m d in
      ⊎_elim
      (λ (low : i < length xs). apart (get_or xs i d) (Contains-get_or xs i d low)
      (subst (λ (y : ℕ). Contains ys y) (sym at_j ∙ sym same ∙ get_or_append_left xs ys d i low)
      (Contains-get_or ys m d in_ys)))
      (λ (high : length xs ≤ i).
      let l : ℕ = i - length xs in
      let l_is : i ≡ length xs + l = omega arith in
      let at_i : get_or (xs ++ ys) i d ≡ get_or ys l d = ap (λ (p : ℕ). get_or (xs ++ ys) p d) l_is ∙
      get_or-append-add xs ys l d in
      differ ys l m d once_ys (omega arith) in_ys (sym at_i ∙ same ∙ at_j))
      (cases_lt i (length xs)))
      (cases_lt j (length xs))))
