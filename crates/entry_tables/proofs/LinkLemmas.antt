-- Lists of entries in which each one names the next.
use Rattle.std.proofs.Common.{◌≡◌, ◌≢◌, ℕ, zero, suc, ◌+◌, ◌<◌, ◌≤◌, true, false, List, []}
use Rattle.std.proofs.Common.{◌∷◌, ◌++◌, length, get_or, nat_eq, refl, sym, ◌∙◌, ap, subst, arith, length-append}
use Rattle.std.specs.List.{Contains, IsDistinct, list_any}
use Rattle.std.proofs.lemmas.Bool.{ne_eqb}
use Rattle.std.proofs.lemmas.Bool.Decides.{Decides-eqb}
use Rattle.std.proofs.lemmas.List.Elements.{recursion_from_All, All-from_recursion, All-nil, All-push, All-from_get_or, Contains-get_or, Contains-append_right}
use Rattle.std.proofs.lemmas.Map.Keys.{IsDistinct-cons, IsDistinct-head, IsDistinct-tail}
use Rattle.std.proofs.lemmas.Map.Made.{is_member-Decides}
use Rattle.std.proofs.lemmas.Map.Steps.{length-le_from_distinct_below}
use Rattle.entry_tables.specs.Links.{LeadsTo, LeadsToEnd, last_of}

-- one entry more
pub LeadsTo-push : (next : ℕ → ℕ) (from : ℕ) (xs : List ℕ) (e : ℕ) → LeadsTo next from xs e → e ≢ 0 → LeadsTo next from (xs ++ e ∷ []) (next e)
LeadsTo-push next from [] e leads some = (leads, some, refl)
LeadsTo-push next from (x ∷ xs) e leads some = (leads.0, leads.1, LeadsTo-push next (next x) xs e leads.2 some)

pub last_of-push : (from : ℕ) (xs : List ℕ) (e : ℕ) → last_of from (xs ++ e ∷ []) ≡ e
last_of-push from [] e = refl
last_of-push from (x ∷ xs) e = last_of-push x xs e

-- what is in a list is in a longer one
pub Contains-tail : (x : ℕ) (xs : List ℕ) (e : ℕ) → Contains xs e → Contains (x ∷ xs) e
Contains-tail x xs e within = Contains-append_right (x ∷ []) xs e within

pub Contains-head : (x : ℕ) (xs : List ℕ) → Contains (x ∷ xs) x
Contains-head x xs = (0, omega arith, refl)

cons_same : (x y : ℕ) (xs ys : List ℕ) → x ≡ y → xs ≡ ys → x ∷ xs ≡ y ∷ ys
cons_same x y xs ys head tail = cc

-- a whole list is a front of it, and what is left from the front's end on
pub whole_list : (next : ℕ → ℕ) (from : ℕ) (xs : List ℕ) (e : ℕ) (list : List ℕ) → LeadsTo next from xs e
    → LeadsToEnd next from list → (rest : List ℕ) × (list ≡ xs ++ rest) × LeadsToEnd next e rest
whole_list next from [] e list leads linked = (list, refl, subst (λ (n : ℕ). LeadsToEnd next n list) leads linked)
whole_list next from (x ∷ xs) e [] leads linked = absurd (leads.1 (sym leads.0 ∙ linked))
whole_list next from (x ∷ xs) e (y ∷ ys) leads linked =
    let same : y ≡ x = sym linked.0 ∙ leads.0 in
    let tail = whole_list next (next x) xs e ys leads.2 (subst (λ (n : ℕ). LeadsToEnd next (next n) ys) same linked.2) in
    (tail.0, cons_same y x ys (xs ++ tail.0) same tail.1, tail.2)

-- what is left from 0 on is nothing
pub nothing_left : (next : ℕ → ℕ) (rest : List ℕ) → LeadsToEnd next 0 rest → rest ≡ []
nothing_left next [] linked = refl
nothing_left next (x ∷ xs) linked = absurd (linked.1 (sym linked.0))

-- what is left from another number on begins with it
pub first_left : (next : ℕ → ℕ) (e : ℕ) (rest : List ℕ) → e ≢ 0 → LeadsToEnd next e rest → Contains rest e
first_left next e [] some linked = absurd (some linked)
first_left next e (x ∷ xs) some linked = rw linked.0 (Contains-head x xs)

-- an entry that a front of a list leads to is in the list
pub reached : (next : ℕ → ℕ) (from : ℕ) (xs : List ℕ) (e : ℕ) (list : List ℕ) → LeadsTo next from xs e → e ≢ 0 → LeadsToEnd next from list → Contains list e
reached next from xs e list leads some linked =
    let whole = whole_list next from xs e list leads linked in
    rw whole.1 (Contains-append_right xs whole.0 e (first_left next e whole.0 some whole.2))

-- a front that leads to 0 is the list
pub whole_front : (next : ℕ → ℕ) (from : ℕ) (xs list : List ℕ) → LeadsTo next from xs 0 → LeadsToEnd next from list → list ≡ xs ++ []
whole_front next from xs list leads linked =
    let whole = whole_list next from xs 0 list leads linked in
    whole.1 ∙ ap (λ (l : List ℕ). xs ++ l) (nothing_left next whole.0 whole.2)

-- a list begins where it is linked from
pub linked_first : (next : ℕ → ℕ) (from : ℕ) (list : List ℕ) → LeadsToEnd next from list → from ≡ get_or list 0 0
linked_first next from [] linked = linked
linked_first next from (x ∷ xs) linked = linked.0

-- and each entry names the next
pub linked_next : (next : ℕ → ℕ) (from : ℕ) (list : List ℕ) (k : ℕ) → LeadsToEnd next from list → k < length list
    → next (get_or list k 0) ≡ get_or list (suc k) 0
linked_next next from [] k linked h = absurd (omega (arith, h))
linked_next next from (x ∷ xs) zero linked h = linked_first next (next x) xs linked.2
linked_next next from (x ∷ xs) (suc k) linked h = linked_next next (next x) xs k linked.2 (omega (arith, h))

-- entries behind an entry of a list
record Behind (next : ℕ → ℕ) (xs : List ℕ) (e x : ℕ) : Type 0 where
  rest : List ℕ
  leads : LeadsTo next (next x) rest e
  shorter : length rest < length xs
  kept : (y : ℕ) → Contains rest y → Contains xs y

behind : (next : ℕ → ℕ) (from : ℕ) (xs : List ℕ) (e x k : ℕ) → LeadsTo next from xs e → k < length xs → get_or xs k x ≡ x → Behind next xs e x
behind next from [] e x k leads h is = absurd (omega (arith, h))
behind next from (y ∷ ys) e x zero leads h is = record {
  rest = ys;
  leads = subst (λ (n : ℕ). LeadsTo next (next n) ys e) is leads.2;
  shorter = omega arith;
  kept = λ z within. Contains-tail y ys z within;
}
behind next from (y ∷ ys) e x (suc k) leads h is =
    let later = behind next (next y) ys e x k leads.2 (omega (arith, h)) is in
    record {
      rest = later.rest;
      leads = later.leads;
      shorter = omega (arith, later.shorter);
      kept = λ z within. Contains-tail y ys z (later.kept z within);
    }

-- from one number to one that is not on the way there is one way
one_way : (next : ℕ → ℕ) (from : ℕ) (xs ys : List ℕ) (e : ℕ) → LeadsTo next from xs e → LeadsTo next from ys e
    → ¬ Contains xs e → ¬ Contains ys e → length xs ≡ length ys
one_way next from [] [] e leads other apart apart_too = refl
one_way next from [] (y ∷ ys) e leads other apart apart_too =
    let same : y ≡ e = sym other.0 ∙ leads in
    absurd (apart_too (subst (λ (n : ℕ). Contains (y ∷ ys) n) same (Contains-head y ys)))
one_way next from (x ∷ xs) [] e leads other apart apart_too =
    let same : x ≡ e = sym leads.0 ∙ other in
    absurd (apart (subst (λ (n : ℕ). Contains (x ∷ xs) n) same (Contains-head x xs)))
one_way next from (x ∷ xs) (y ∷ ys) e leads other apart apart_too =
    let same : y ≡ x = sym other.0 ∙ leads.0 in
    let tails : length xs ≡ length ys =
    one_way next (next x) xs ys e leads.2 (subst (λ (n : ℕ). LeadsTo next (next n) ys e) same other.2)
    (λ within. apart (Contains-tail x xs e within)) (λ within. apart_too (Contains-tail y ys e within))
    in
    omega (arith, tails)

-- entries on the way to a number that is none of them are distinct
pub LeadsTo-distinct : (next : ℕ → ℕ) (from : ℕ) (xs : List ℕ) (e : ℕ) → LeadsTo next from xs e → ¬ Contains xs e → IsDistinct nat_eq xs
unfolding IsDistinct
LeadsTo-distinct next from [] e leads apart = tt
LeadsTo-distinct next from (x ∷ xs) e leads apart =
    let apart_tail : ¬ Contains xs e = λ within. apart (Contains-tail x xs e within) in
    let once : (y : ℕ) → Contains xs y → x ≢ y = λ y within same.
    (let later = behind next (next x) xs e x within.0 leads.2 within.1 (rw same (subst (λ (d : ℕ). get_or xs within.0 d ≡ y) refl within.2)) in
    let long : length xs ≡ length later.rest =
    one_way next (next x) xs later.rest e leads.2 later.leads apart_tail
    (λ there. apart_tail (later.kept e there)) in
    omega (arith, later.shorter, long))
    in
    IsDistinct-cons nat_eq x xs
    (recursion_from_All (λ y. nat_eq x y ≡ false) xs
    (All-from_get_or (λ y. nat_eq x y ≡ false) xs 0
    (λ i h. ne_eqb x (get_or xs i 0) (once (get_or xs i 0) (Contains-get_or xs i 0 h)))))
    (LeadsTo-distinct next (next x) xs e leads.2 apart_tail)

-- so are those of a list that ends
pub linked_apart : (next : ℕ → ℕ) (from : ℕ) (list : List ℕ) → LeadsToEnd next from list → ¬ Contains list 0
linked_apart next from [] linked (k, h, is) = omega (arith, h)
linked_apart next from (x ∷ xs) linked (zero, h, is) = linked.1 (sym linked.0 ∙ linked.0 ∙ is)
linked_apart next from (x ∷ xs) linked (suc k, h, is) = linked_apart next (next x) xs linked.2 (k, omega (arith, h), is)

pub linked_distinct : (next : ℕ → ℕ) (from : ℕ) (list : List ℕ) → LeadsToEnd next from list → IsDistinct nat_eq list
linked_distinct next from list linked = LeadsTo-distinct next from list 0 linked (linked_apart next from list linked)

-- from an entry of such a list no way leads back to it
ends_once : (next : ℕ → ℕ) (e : ℕ) (rest loop : List ℕ) → e ≢ 0 → LeadsToEnd next e rest
    → ¬ LeadsTo next (next e) loop e
ends_once next e [] loop some linked leads = some linked
ends_once next e (x ∷ xs) loop some linked leads =
    let tail : LeadsToEnd next (next e) xs = subst (λ (n : ℕ). LeadsToEnd next (next n) xs) (sym linked.0) linked.2 in
    let whole = whole_list next (next e) loop e xs leads tail in
    let same : length (x ∷ xs) ≡ length whole.0 =
    one_way next e (x ∷ xs) whole.0 0 linked whole.2 (linked_apart next e (x ∷ xs) linked)
    (linked_apart next e whole.0 whole.2) in
    let long : length xs ≡ length loop + length whole.0 = ap length whole.1 ∙ length-append loop whole.0 in
    omega (arith, same, long)

-- an entry to which a front of such a list leads is not in the front
pub never_again : (next : ℕ → ℕ) (from : ℕ) (xs : List ℕ) (e : ℕ) (list : List ℕ) → LeadsTo next from xs e → e ≢ 0
    → LeadsToEnd next from list → ¬ Contains xs e
never_again next from xs e list leads some linked within =
    let whole = whole_list next from xs e list leads linked in
    let loop = behind next from xs e e within.0 leads within.1 within.2 in
    ends_once next e whole.0 loop.rest some whole.2 loop.leads

-- an entry of a list has entries before it
pub linked_front : (next : ℕ → ℕ) (from : ℕ) (list : List ℕ) (e : ℕ) → LeadsToEnd next from list → Contains list e
    → (front : List ℕ) × ((e ≢ 0) × LeadsTo next from front e)
linked_front next from [] e linked (k, h, is) = absurd (omega (arith, h))
linked_front next from (x ∷ xs) e linked (zero, h, is) = ([], (subst (λ (n : ℕ). n ≢ 0) is linked.1, linked.0 ∙ is))
linked_front next from (x ∷ xs) e linked (suc k, h, is) =
    let later = linked_front next (next x) xs e linked.2 (k, omega (arith, h), is) in
    (x ∷ later.0, (later.1.0, (linked.0, linked.1, later.1.1)))

-- of two fronts the longer one has the entry to which the shorter leads
pub front_within : (next : ℕ → ℕ) (from : ℕ) (xs ys : List ℕ) (e end : ℕ) → LeadsTo next from xs e
    → LeadsTo next from ys end
    → length xs < length ys → Contains ys e
front_within next from xs [] e end leads longer h = absurd (omega (arith, h))
front_within next from [] (y ∷ ys) e end leads longer h =
    subst (λ (n : ℕ). Contains (y ∷ ys) n) (sym longer.0 ∙ leads) (Contains-head y ys)
front_within next from (x ∷ xs) (y ∷ ys) e end leads longer h =
    let same : y ≡ x = sym longer.0 ∙ leads.0 in
    Contains-tail y ys e (front_within next (next x) xs ys e end leads.2
    (subst (λ (n : ℕ). LeadsTo next (next n) ys end) same longer.2) (omega (arith, h)))

-- each entry of a front is named by the one before it
pub front_next : (next : ℕ → ℕ) (start from : ℕ) (xs : List ℕ) (e k : ℕ) → LeadsTo next from xs e
    → next start ≡ from → k < length xs
    → next (get_or (start ∷ xs) k 0) ≡ get_or xs k 0
front_next next start from [] e k leads named h = absurd (omega (arith, h))
front_next next start from (x ∷ xs) e zero leads named h = named ∙ leads.0
front_next next start from (x ∷ xs) e (suc k) leads named h = front_next next x (next x) xs e k leads.2 refl
    (omega (arith, h))

-- one number more that was not there
pub IsDistinct-push : (xs : List ℕ) (e : ℕ) → IsDistinct nat_eq xs → ¬ Contains xs e → IsDistinct nat_eq (xs ++ e ∷ [])
IsDistinct-push [] e once apart = IsDistinct-cons nat_eq e []
    (recursion_from_All (λ y. nat_eq e y ≡ false) [] (All-nil (λ y. nat_eq e y ≡ false))) once
IsDistinct-push (x ∷ xs) e once apart =
    let differs : nat_eq x e ≡ false = ne_eqb x e (λ same. apart
    (subst (λ (n : ℕ). Contains (x ∷ xs) n) same (Contains-head x xs))) in
    IsDistinct-cons nat_eq x (xs ++ e ∷ [])
    (recursion_from_All (λ y. nat_eq x y ≡ false) (xs ++ e ∷ [])
    (All-push (λ y. nat_eq x y ≡ false) xs e
    (All-from_recursion (λ y. nat_eq x y ≡ false) xs (IsDistinct-head nat_eq x xs once)) differs))
    (IsDistinct-push xs e (IsDistinct-tail nat_eq x xs once) (λ within. apart (Contains-tail x xs e within)))

-- distinct numbers from 1 below n are fewer than n
pub few_between : (xs : List ℕ) (n : ℕ) → 1 ≤ n → IsDistinct nat_eq xs → ((e : ℕ) → Contains xs e → (1 ≤ e) × (e < n)) → length xs < n
few_between xs n some distinct between =
    let apart : (e : ℕ) → Contains xs e → 0 ≢ e = λ e within. omega (arith, (between e within).0) in
    let with_zero : IsDistinct nat_eq (0 ∷ xs) =
    IsDistinct-cons nat_eq 0 xs
    (recursion_from_All (λ y. nat_eq 0 y ≡ false) xs
    (All-from_get_or (λ y. nat_eq 0 y ≡ false) xs 0
    (λ i h. ne_eqb 0 (get_or xs i 0) (apart (get_or xs i 0) (Contains-get_or xs i 0 h)))))
    distinct
    in
    let below : (q : ℕ) → list_any (nat_eq q) (0 ∷ xs) ≡ true
    → q < n = λ q member. below_in xs n some between q ((is_member-Decides Decides-eqb (0 ∷ xs) q).0 member) in
    omega (arith, length-le_from_distinct_below (0 ∷ xs) n with_zero below)
  where
    below_in : (xs : List ℕ) (n : ℕ) → 1 ≤ n → ((e : ℕ) → Contains xs e → (1 ≤ e) × (e < n)) → (q : ℕ) → Contains (0 ∷ xs) q → q < n
    below_in xs n some between q (zero, h, is) = omega (arith, is, some)
    below_in xs n some between q (suc k, h, is) = (between q (k, omega (arith, h), is)).1
