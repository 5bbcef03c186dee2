-- Cells that hold a tree as they should have a plain map: each question about a path can be decided.
use Rattle.std.proofs.Common.{◌≡◌, ◌≢◌, ◌⊎◌, ◌↔◌, ℕ, zero, suc, ◌+◌, ◌-◌, ◌<◌, ◌≤◌, Bool, true, false, List, [], ◌∷◌}
use Rattle.std.proofs.Common.{length, map, reverse, Option, Some, None, refl, sym, ap, subst, ◌∙◌, arith}
use Rattle.std.proofs.Common.{⊎_elim, inl, inr, bytes_eq}
use Rattle.std.specs.List.{Contains}
use Rattle.std.proofs.lemmas.Bool.{cases_lt, cases_eq, false≢true}
use Rattle.std.proofs.lemmas.Slice.Eq.{bytes_eq-Decides}
use Rattle.std.proofs.lemmas.List.{reverse-reverse, reverse-append}
use Rattle.std.proofs.lemmas.List.Elements.{Contains-append_cases}
use Rattle.save_bytes.specs.Cells.{Cell}
use Rattle.entry_tables.specs.declared.table.EntryKind.{EntryKind}
use Rattle.entry_tables.specs.declared.table.EntryKind.TheVariants.{Dir, File}
use Rattle.entry_tables.specs.Tables.{Table, Tables}
use Rattle.entry_tables.specs.Links.{LeadsTo}
use Rattle.entry_tables.specs.Used.{named_entries, dir_path, path_of}
use Rattle.entry_tables.specs.Rules.{HasFreedList, IsOrderly}
use Rattle.entry_tables.proofs.LinkLemmas.{Contains-head, Contains-tail}
use Rattle.tree_model.specs.declared.kind.TreeKind.{TreeKind}
use Rattle.tree_model.specs.Trees.{Names, TreeFile, Tree}
use Rattle.tree_rules.specs.declared.information.Places.{Places}
use Rattle.tree_rules.specs.Information.{information_in}
use Rattle.tree_rules.specs.Places.{places_of, tree_tables}
use Rattle.tree_rules.specs.Lists.{Holder, Free}
use Rattle.tree_rules.specs.Trees.{table_chains, IsConsistentTree}
use Rattle.tree_rules.specs.Reading.{IsDirAt, IsFileAt, IsFileRead, IsReadBy, TreeReadsFrom, file_of}
use Rattle.tree_rules.proofs.ListLaws.{used_or_not}
use Rattle.tree_rules.proofs.OneReading.{head_same, tail_same}

-- a question with an answer
abbrev pub Decided : Type 0 → Type 0
Decided P = P ⊎ (P → ⊥)

both_decided : {P Q : Type 0} → Decided P → Decided Q → Decided (P × Q)
both_decided p q = ⊎_elim
    (λ (here : _). ⊎_elim (λ (too : _). inl (here, too)) (λ (not_too : _). inr (λ h. not_too h.1)) q)
    (λ (not_here : _). inr (λ h. not_here h.0)) p

decided_by : {P Q : Type 0} → (P → Q) → (Q → P) → Decided P → Decided Q
decided_by there back p = ⊎_elim (λ (here : _). inl (there here)) (λ (not_here : _). inr (λ q. not_here (back q))) p

same_bytes : (xs ys : List ℕ) → Decided (xs ≡ ys)
same_bytes xs ys = by_test (bytes_eq xs ys) refl where
  by_test : (b : Bool) → bytes_eq xs ys ≡ b → Decided (xs ≡ ys)
  by_test true is = inl ((bytes_eq-Decides xs ys).0 is)
  by_test false is = inr (λ same. absurd (false≢true (sym is ∙ (bytes_eq-Decides xs ys).1 same)))

-- among the numbers below n one has the property, or none has
abbrev pub Found : (ℕ → Type 0) → ℕ → Type 0
Found P n = ((e : ℕ) × (e < n) × P e) ⊎ ((e : ℕ) → e < n → P e → ⊥)

search_below : (P : ℕ → Type 0) → ((e : ℕ) → Decided (P e)) → (n : ℕ) → Found P n
search_below P decide zero = inr (λ e less h. absurd (omega (arith, less)))
search_below P decide (suc n) =
    ⊎_elim
    (λ (found : (e : ℕ) × (e < n) × P e). inl (found.0, omega (arith, found.1), found.2))
    (λ (none : (e : ℕ) → e < n → P e → ⊥).
    ⊎_elim
    (λ (here : P n). inl (n, omega arith, here))
    (λ (not_here : P n → ⊥). inr (λ e less h. ⊎_elim (λ (below : e < n). none e below h)
    (λ (past : n ≤ e). (let same : e ≡ n = omega (arith, less, past) in not_here (subst P same h))) (cases_lt e n)))
    (decide n))
    (search_below P decide n)

-- a way from a directory up to the root with these names
record LeadsUp (dirs : Table) (dir : ℕ) (names : Names) : Type 0 where
  rising : List ℕ
  leads : LeadsTo dirs.parent dir rising 1
  below_root : ¬ Contains rising 1
  named : map dirs.name rising ≡ names

module _ (dirs : Table) where
  up_from : (dir : ℕ) (name : List ℕ) (rest : Names) → dir ≢ 0 → dir ≢ 1 → dirs.name dir ≡ name
      → LeadsUp dirs (dirs.parent dir) rest → LeadsUp dirs dir (name ∷ rest)
  up_from dir name rest some other named h = record {
    rising = dir ∷ h.rising;
    leads = (refl, some, h.leads);
    below_root = λ within. ⊎_elim (λ (here : Contains (dir ∷ []) 1). other (one_of dir 1 here)) h.below_root
        (Contains-append_cases (dir ∷ []) h.rising 1 within);
    named = ap (λ (n : List ℕ). n ∷ map dirs.name h.rising) named ∙ ap (λ (l : Names). name ∷ l) h.named;
  } where
    one_of : (y x : ℕ) → Contains (y ∷ []) x → y ≡ x
    one_of y x (zero, less, is) = is
    one_of y x (suc k, less, is) = absurd (omega (arith, less))

  record StepsUp (dir : ℕ) (name : List ℕ) (rest : Names) : Type 0 where
    some : dir ≢ 0
    other : dir ≢ 1
    named : dirs.name dir ≡ name
    behind : LeadsUp dirs (dirs.parent dir) rest

  step_up : (dir : ℕ) (name : List ℕ) (rest : Names) (rising : List ℕ) → LeadsTo dirs.parent dir rising 1
      → ¬ Contains rising 1 → map dirs.name rising ≡ name ∷ rest → StepsUp dir name rest
  step_up dir name rest [] leads below named = absurd (omega (arith, ap length named))
  step_up dir name rest (x ∷ xs) leads below named = record {
    some = λ none. leads.1 (sym leads.0 ∙ none);
    other = λ root. below (subst (λ (n : ℕ). Contains (x ∷ xs) n) (sym leads.0 ∙ root) (Contains-head x xs));
    named = ap dirs.name leads.0 ∙ head_same _ _ _ _ named;
    behind = record {
      rising = xs;
      leads = subst (λ (n : ℕ). LeadsTo dirs.parent (dirs.parent n) xs 1) (sym leads.0) leads.2;
      below_root = λ within. below (Contains-tail x xs 1 within);
      named = tail_same _ _ _ _ named;
    };
  }

  no_step : (dir : ℕ) (rising : List ℕ) → LeadsTo dirs.parent dir rising 1 → map dirs.name rising ≡ [] → dir ≡ 1
  no_step dir [] leads named = leads
  no_step dir (x ∷ xs) leads named = absurd (omega (arith, ap length named))

  not_a : (a b : ℕ) → Decided (a ≢ b)
  not_a a b = ⊎_elim (λ (same : a ≡ b). inr (λ other. other same)) (λ (other : a ≢ b). inl other) (cases_eq a b)

  leads_up : (dir : ℕ) (names : Names) → Decided (LeadsUp dirs dir names)
  leads_up dir [] =
      decided_by (λ (root : dir ≡ 1). record {
        rising = [];
        leads = root;
        below_root = λ within. absurd
            (omega (arith, within.1));
        named = refl;
      })
      (λ h. no_step dir h.rising h.leads h.named) (cases_eq dir 1)
  leads_up dir (name ∷ rest) =
      decided_by
      (λ (h : (dir ≢ 0) × ((dir ≢ 1) × ((dirs.name dir ≡ name) × LeadsUp dirs (dirs.parent dir) rest))).
      up_from dir name rest h.0 h.1.0 h.1.1.0 h.1.1.1)
      (λ h. (let steps = step_up dir name rest h.rising h.leads h.below_root h.named in
      (steps.some, (steps.other, (steps.named, steps.behind)))))
      (both_decided (not_a dir 0) (both_decided (not_a dir 1) (both_decided (same_bytes (dirs.name dir) name)
      (leads_up (dirs.parent dir) rest))))

  path_decided : (dir : ℕ) (path : Names) → Decided (dir_path dirs dir path)
  path_decided dir path =
      decided_by (λ (h : LeadsUp dirs dir (reverse path)). record {
        rising = h.rising;
        leads = h.leads;
        below_root = h.below_root;
        names = sym (reverse-reverse path) ∙ ap reverse (sym h.named);
      })
      (λ h. record {
        rising = h.rising;
        leads = h.leads;
        below_root = h.below_root;
        named = sym (reverse-reverse (map dirs.name h.rising)) ∙ ap reverse (sym h.names);
      })
      (leads_up dir (reverse path))

-- an entry's path, by its parent's
record HasParentPath (dirs t : Table) (e : ℕ) (turned : Names) : Type 0 where
  rest : Names
  is : turned ≡ t.name e ∷ rest
  parent : dir_path dirs (t.parent e) (reverse rest)

module _ (dirs t : Table) (e : ℕ) where
  entry_path : (path : Names) → HasParentPath dirs t e (reverse path) → path_of dirs t e path
  entry_path path h = record {
    parents_path = reverse h.rest;
    parent = h.parent;
    names = sym (reverse-reverse path) ∙ ap reverse h.is ∙ reverse-append (t.name e ∷ []) h.rest;
  }

  parent_path : (path : Names) → path_of dirs t e path → HasParentPath dirs t e (reverse path)
  parent_path path h = record {
    rest = reverse h.parents_path;
    is = ap reverse h.names ∙ reverse-append h.parents_path (t.name e ∷ []);
    parent = subst (dir_path dirs (t.parent e)) (sym (reverse-reverse h.parents_path)) h.parent;
  }

  turned_decided : (turned : Names) → Decided (HasParentPath dirs t e turned)
  turned_decided [] = inr (λ h. absurd (omega (arith, ap length h.is)))
  turned_decided (name ∷ rest) =
      decided_by (λ (h : (t.name e ≡ name) × dir_path dirs (t.parent e) (reverse rest)). record {
        rest = rest;
        is = ap (λ (n : List ℕ). n ∷ rest) (sym h.0);
        parent = h.1;
      })
      (λ h. (
        sym (head_same _ _ _ _ h.is),
        subst (λ (l : Names). dir_path dirs (t.parent e) (reverse l)) (sym (tail_same _ _ _ _ h.is)) h.parent,
      ))
      (both_decided (same_bytes (t.name e) name) (path_decided dirs (t.parent e) (reverse rest)))

  entry_decided : (path : Names) → Decided (path_of dirs t e path)
  entry_decided path = decided_by (entry_path path) (parent_path path) (turned_decided (reverse path))

named_decided : (t : Table) (e : ℕ) → HasFreedList File t → Decided (named_entries File t e)
named_decided t e freed =
    decided_by (λ used. record { used = used; other = λ root. root }) (λ h. h.used) (used_or_not File t e freed)

abbrev is_found : {P : ℕ → Type 0} {n : ℕ} → Found P n → Bool
is_found (inl found) = true
is_found (inr none) = false

module _ (kind : TreeKind) (cells : ℕ → Cell) (lists : Holder → List ℕ) (p : Places) (t : Tables)
    (orderly : IsOrderly t) where
  dir_found : (path : Names) → Found (IsDirAt t path) (t.table Dir).count
  dir_found path = search_below (IsDirAt t path)
      (λ e. both_decided (used_or_not Dir (t.table Dir) e (orderly.freed Dir)) (path_decided (t.table Dir) e path))
      (t.table Dir).count

  file_found : (path : Names) → Found (IsFileAt t path) (t.table File).count
  file_found path = search_below (IsFileAt t path)
      (λ e. both_decided (named_decided (t.table File) e (orderly.freed File))
      (entry_decided (t.table Dir) (t.table File) e path)) (t.table File).count

  is_dir_from : (path : Names) (found : Found (IsDirAt t path) (t.table Dir).count)
      → (is_found found ≡ true) ↔ ((e : ℕ) × IsDirAt t path e)
  is_dir_from path (inl found) = (λ is. (found.0, found.2), λ h. refl)
  is_dir_from path (inr none) =
      (λ is. absurd (false≢true is), λ h. absurd (none h.0 h.1.0.below h.1))

  abbrev file_from : (path : Names) → Found (IsFileAt t path) (t.table File).count → Option TreeFile
  file_from path (inl found) = Some (file_of kind p t lists cells found.0)
  file_from path (inr none) = None

  file_read : (path : Names) (found : Found (IsFileAt t path) (t.table File).count)
      → IsFileRead kind p t lists cells path (file_from path found)
  file_read path (inl found) = (found.0, found.2, refl)
  file_read path (inr none) = λ e h. none e h.0.used.below h

  abbrev room_of : EntryKind → ℕ
  room_of table = (t.table table).most - (t.table table).count + length (orderly.freed table).0

  abbrev tree_of : Tree
  tree_of = record {
    kind = kind;
    block = p.chain.block;
    is_dir = λ path. is_found (dir_found path);
    file = λ path. file_from path (file_found path);
    room = record { blocks = length (lists Free); dirs = room_of Dir; files = room_of File };
  }

  tree_read : IsReadBy kind cells lists p t tree_of
  tree_read = record {
    kind_is = refl;
    block_is = refl;
    dirs = λ path. is_dir_from path (dir_found path);
    files = λ path. file_read path (file_found path);
    free_blocks = refl;
    free_dirs = ((orderly.freed Dir).0, (orderly.freed Dir).1.leads, refl);
    free_files = ((orderly.freed File).0, (orderly.freed File).1.leads, refl);
  }

-- cells that hold a tree as they should hold one as a plain map
pub some_tree : (kind : TreeKind) (size : ℕ) (split : Option ℕ) (cells : ℕ → Cell) (lists : Holder → List ℕ)
    → IsConsistentTree kind size split cells lists → (tree : Tree) × TreeReadsFrom kind size split cells tree
some_tree kind size split cells lists h =
    let p = places_of kind split (information_in cells) in
    let t = tree_tables size p (table_chains lists) cells in (
      tree_of kind cells lists p t h.orderly,
      record {
        lists = lists;
        consistent = h;
        read = tree_read kind cells lists p t h.orderly;
      },
    )
