-- A list from which an entry is taken.
use Rattle.std.proofs.Common.{◌≡◌, ◌≢◌, ℕ, zero, suc, List, [], ◌∷◌, ◌++◌}
use Rattle.std.proofs.Common.{refl, sym, ◌∙◌, ap, subst, arith, ⊎_elim}
use Rattle.std.specs.List.{Contains}
use Rattle.std.proofs.lemmas.Bool.{eq-eqb, ne_eqb}
use Rattle.std.proofs.lemmas.List.Elements.{Contains-append_left, Contains-append_right, Contains-append_cases}
use Rattle.entry_tables.specs.Links.{LeadsTo, LeadsToEnd, last_of}
use Rattle.entry_tables.specs.Words.{with_at}
use Rattle.entry_changes.specs.Removed.{cut_from, cut_head, cut_next}
use Rattle.entry_tables.proofs.LinkLemmas.{Contains-head, Contains-tail, linked_front, never_again, whole_list}

-- a function with another value at one number
pub with_at-here : {A : Type 0} (e : ℕ) (value : A) (f : ℕ → A) → with_at e value f e ≡ value
with_at-here e value f = rw (eq-eqb e e refl) refl

pub with_at-there : {A : Type 0} (e x : ℕ) (value : A) (f : ℕ → A) → x ≢ e → with_at e value f x ≡ f x
with_at-there e x value f differs = rw (ne_eqb x e differs) refl

-- links that are the same on the way lead the same way
pub leads_kept : (next new : ℕ → ℕ) (from : ℕ) (list : List ℕ) (end : ℕ) → ((x : ℕ) → Contains list x → new x ≡ next x)
    → LeadsTo next from list end → LeadsTo new from list end
leads_kept next new from [] end same leads = leads
leads_kept next new from (x ∷ xs) end same leads = (
  leads.0,
  leads.1,
  leads_kept next new (new x) xs end (λ y within. same y (Contains-tail x xs y within))
      (rw (same x (Contains-head x xs)) leads.2),
)

-- the first of a list is not in the rest
pub head_once : (next : ℕ → ℕ) (from x : ℕ) (rest : List ℕ) → LeadsToEnd next from (x ∷ rest) → ¬ Contains rest x
head_once next from x rest leads within =
    let front = linked_front next (next x) rest x leads.2 within in
    let around : LeadsTo next x (x ∷ front.0) x = (refl, leads.1, front.1.1) in
    let whole : LeadsToEnd next x (x ∷ rest) = (refl, leads.1, leads.2) in
    never_again next x (x ∷ front.0) x (x ∷ rest) around leads.1 whole (Contains-head x front.0)

pub last_within : (x : ℕ) (xs : List ℕ) → Contains (x ∷ xs) (last_of x xs)
last_within x [] = Contains-head x []
last_within x (y ∷ ys) = Contains-tail x (y ∷ ys) (last_of y ys) (last_within y ys)

-- a list with a link past an entry leads past it
cut_step : (next : ℕ → ℕ) (from x : ℕ) (xs : List ℕ) (e : ℕ) (ys : List ℕ) → LeadsToEnd next from ((x ∷ xs) ++ e ∷ ys)
    → LeadsToEnd (with_at (last_of x xs) (next e) next) from ((x ∷ xs) ++ ys)
cut_step next from x [] e ys leads = (
  leads.0,
  leads.1,
  rw (with_at-here x (next e) next)
      (leads_kept next (with_at x (next e) next) (next e) ys 0
      (λ y within. with_at-there x y (next e) next
      (λ same. head_once next from x (e ∷ ys) leads (subst (λ (n : ℕ). Contains (e ∷ ys) n) same
      (Contains-tail e ys y within))))
      leads.2.2),
)
cut_step next from x (y ∷ zs) e ys leads =
    let last_in : Contains ((y ∷ zs) ++ e ∷ ys) (last_of y zs) =
    Contains-append_left (y ∷ zs) (e ∷ ys) (last_of y zs) (last_within y zs) in
    let differs : x ≢ last_of y zs = λ same. head_once next from x ((y ∷ zs) ++ e ∷ ys) leads
    (subst (λ (n : ℕ). Contains ((y ∷ zs) ++ e ∷ ys) n) (sym same) last_in) in (
      leads.0,
      leads.1,
      rw (with_at-there (last_of y zs) x (next e) next differs) (cut_step next
          (next x) y zs e ys leads.2),
    )

pub cut_leads : (next : ℕ → ℕ) (from : ℕ) (xs : List ℕ) (e : ℕ) (ys : List ℕ) → LeadsToEnd next from (xs ++ e ∷ ys)
    → LeadsToEnd (cut_next next xs e) (cut_from next from xs e) (xs ++ ys)
cut_leads next from [] e ys leads = leads.2
cut_leads next from (x ∷ xs) e ys leads = cut_step next from x xs e ys leads

-- where the list begins now, and the others
pub cut_head-here : (heads : ℕ → ℕ) (at : ℕ) (next : ℕ → ℕ) (xs : List ℕ) (e : ℕ)
    → cut_head heads at next xs e at ≡ cut_from next (heads at) xs e
cut_head-here heads at next [] e = with_at-here at (next e) heads
cut_head-here heads at next (x ∷ xs) e = refl

pub cut_head-there : (heads : ℕ → ℕ) (at other : ℕ) (next : ℕ → ℕ) (xs : List ℕ) (e : ℕ) → other ≢ at
    → cut_head heads at next xs e other ≡ heads other
cut_head-there heads at other next [] e differs = with_at-there at other (next e) heads differs
cut_head-there heads at other next (x ∷ xs) e differs = refl

-- elsewhere the links are as before
pub cut_other : (next : ℕ → ℕ) (xs : List ℕ) (e f : ℕ) → ¬ Contains xs f → cut_next next xs e f ≡ next f
cut_other next [] e f apart = refl
cut_other next (x ∷ xs) e f apart =
    with_at-there (last_of x xs) f (next e) next
    (λ same. apart (subst (λ (n : ℕ). Contains (x ∷ xs) n) (sym same) (last_within x xs)))

-- a whole list that goes through an entry, cut at it
pub record Cut (next : ℕ → ℕ) (from : ℕ) (list xs : List ℕ) (e : ℕ) : Type 0 where
  pub behind : List ℕ
  pub whole : list ≡ xs ++ e ∷ behind
  pub leads : LeadsToEnd next from (xs ++ e ∷ behind)

begins_with : (next : ℕ → ℕ) (e : ℕ) (rest : List ℕ) → e ≢ 0 → LeadsToEnd next e rest → (ys : List ℕ) × (rest ≡ e ∷ ys)
begins_with next e [] some leads = absurd (some leads)
begins_with next e (x ∷ xs) some leads = (xs, ap (λ (n : ℕ). n ∷ xs) (sym leads.0))

pub cut_at : (next : ℕ → ℕ) (from : ℕ) (list xs : List ℕ) (e : ℕ) → LeadsToEnd next from list → LeadsTo next from xs e
    → e ≢ 0 → Cut next from list xs e
cut_at next from list xs e whole front some =
    let split = whole_list next from xs e list front whole in
    let rest = begins_with next e split.0 some split.2 in
    let is : list ≡ xs ++ e ∷ rest.0 = split.1 ∙ ap (λ (l : List ℕ). xs ++ l) rest.1 in
    record { behind = rest.0; whole = is; leads = subst (λ (l : List ℕ). LeadsToEnd next from l) is whole }

module _ (next : ℕ → ℕ) (from : ℕ) (list xs : List ℕ) (e : ℕ) (cut : Cut next from list xs e)
    (front : LeadsTo next from xs e)
    (some : e ≢ 0) where
  -- what is left in the list was in it, and is not the entry
  pub cut_was : (f : ℕ) → Contains (xs ++ cut.behind) f → Contains list f
  cut_was f within = rw cut.whole (⊎_elim
      (λ (before : Contains xs f). Contains-append_left xs (e ∷ cut.behind) f before)
      (λ (later : Contains cut.behind f). Contains-append_right xs (e ∷ cut.behind) f
      (Contains-tail e cut.behind f later))
      (Contains-append_cases xs cut.behind f within))

  pub cut_out : ¬ Contains (xs ++ cut.behind) e
  cut_out within = ⊎_elim
      (λ (before : Contains xs e). never_again next from xs e (xs ++ e ∷ cut.behind) front some cut.leads before)
      (λ (later : Contains cut.behind e).
      let split = whole_list next from xs e (xs ++ e ∷ cut.behind) front cut.leads in
      head_of_rest (suffix_leads from xs cut.leads) later)
      (Contains-append_cases xs cut.behind e within)
    where
      suffix_leads : (start : ℕ) (ws : List ℕ) → LeadsToEnd next start (ws ++ e ∷ cut.behind)
          → (begin : ℕ) × LeadsToEnd next begin (e ∷ cut.behind)
      suffix_leads start [] leads = (start, leads)
      suffix_leads start (w ∷ ws) leads = suffix_leads (next w) ws leads.2

      head_of_rest : (begin : ℕ) × LeadsToEnd next begin (e ∷ cut.behind) → Contains cut.behind e → ⊥
      head_of_rest (begin, leads) later = head_once next begin e cut.behind leads later

  -- each other entry of the list is left
  pub cut_left : (f : ℕ) → Contains list f → f ≢ e → Contains (xs ++ cut.behind) f
  cut_left f within differs = ⊎_elim
      (λ (before : Contains xs f). Contains-append_left xs cut.behind f before)
      (λ (later : Contains (e ∷ cut.behind) f).
      Contains-append_right xs cut.behind f (past f later differs))
      (Contains-append_cases xs (e ∷ cut.behind) f (subst (λ (l : List ℕ). Contains l f) cut.whole within))
    where
      past : (f : ℕ) → Contains (e ∷ cut.behind) f → f ≢ e → Contains cut.behind f
      past f (zero, less, is) differs = absurd (differs (sym is))
      past f (suc k, less, is) differs = (k, omega (arith, less), is)
