-- The paths of entries.
use Rattle.std.proofs.Common.{◌≡◌, ◌≢◌, ⊎_elim, inl, inr, ℕ, zero, suc, ◌+◌}
use Rattle.std.proofs.Common.{◌≤◌, List, [], ◌∷◌, ◌++◌, length, map, reverse, replicate}
use Rattle.std.proofs.Common.{refl, sym, ap, subst, ◌∙◌, arith, length-append, append_assoc}
use Rattle.std.proofs.lemmas.Bool.{cases_eq}
use Rattle.std.specs.List.{All, Contains}
use Rattle.std.proofs.lemmas.List.{reverse-append, append-nil, length-reverse, length-map, map-append}
use Rattle.std.proofs.lemmas.List.Elements.{All-nil, All-cons, All-push, All-same, Contains-append_cases}
use Rattle.std.proofs.lemmas.List.Sorted.{All-permutation, IsPermutation-reverse}
use Rattle.entry_tables.specs.declared.table.EntryKind.{EntryKind}
use Rattle.entry_tables.specs.declared.table.EntryKind.TheVariants.{Dir, File}
use Rattle.entry_tables.specs.Tables.{Table, Tables}
use Rattle.entry_tables.specs.Links.{LeadsTo}
use Rattle.entry_tables.specs.Used.{used_entries, named_entries, dir_path, path_of}
use Rattle.entry_tables.specs.Rules.{IsOrderly}
use Rattle.entry_tables.proofs.LinkLemmas.{Contains-head, Contains-tail}
use Rattle.tree_model.specs.Trees.{Names}
use Rattle.tree_rules.specs.Reading.{IsDirAt}
use Rattle.tree_rules.proofs.OneReading.{one_dir, one_file}
use Rattle.tree_rows.specs.Rows.{IsAt}

cons_same : (x y : ℕ) (xs ys : List ℕ) → x ≡ y → xs ≡ ys → x ∷ xs ≡ y ∷ ys
cons_same x y xs ys head tail = cc

-- nothing is on the way from a number to itself
pub none_up : (next : ℕ → ℕ) (from : ℕ) (xs : List ℕ) (end : ℕ) → LeadsTo next from xs end → ¬ Contains xs end
    → from ≡ end → xs ≡ []
none_up next from [] end leads below here = refl
none_up next from (x ∷ xs) end leads below here =
    absurd (below (subst (λ (n : ℕ). Contains (x ∷ xs) n) (sym leads.0 ∙ here) (Contains-head x xs)))

-- there is one way up
pub one_way_up : (next : ℕ → ℕ) (from : ℕ) (xs ys : List ℕ) (end : ℕ) → LeadsTo next from xs end
    → LeadsTo next from ys end → ¬ Contains xs end → ¬ Contains ys end → xs ≡ ys
one_way_up next from [] ys end leads other below under = sym (none_up next from ys end other under leads)
one_way_up next from (x ∷ xs) [] end leads other below under = none_up next from (x ∷ xs) end leads below other
one_way_up next from (x ∷ xs) (y ∷ ys) end leads other below under =
    let same : y ≡ x = sym other.0 ∙ leads.0 in
    cons_same x y xs ys (sym same)
    (one_way_up next (next x) xs ys end leads.2 (subst (λ (n : ℕ). LeadsTo next (next n) ys end) same other.2)
    (λ within. below (Contains-tail x xs end within)) (λ within. under (Contains-tail y ys end within)))

pub one_dir_path : (dirs : Table) (dir : ℕ) (path other : Names) → dir_path dirs dir path → dir_path dirs dir other
    → path ≡ other
one_dir_path dirs dir path other h k =
    h.names ∙ ap (λ (xs : List ℕ). reverse (map dirs.name xs))
    (one_way_up dirs.parent dir h.rising k.rising 1 h.leads k.leads h.below_root k.below_root) ∙ sym k.names

pub one_path : (t : Tables) (entries : EntryKind) (path other : Names) (e : ℕ) → IsAt t entries path e
    → IsAt t entries other e → path ≡ other
one_path t Dir path other e h k = one_dir_path (t.table Dir) e path other h.1 k.1
one_path t File path other e h k =
    h.1.names ∙ ap (λ (names : Names). names ++ (t.table File).name e ∷ [])
    (one_dir_path (t.table Dir) ((t.table File).parent e) h.1.parents_path k.1.parents_path h.1.parent k.1.parent)
    ∙ sym k.1.names

-- a path has one entry of a kind
pub one_entry : (t : Tables) → IsOrderly t → (entries : EntryKind) (path : Names) (e f : ℕ) → IsAt t entries path e
    → IsAt t entries path f → e ≡ f
one_entry t orderly Dir path e f h k = one_dir t orderly path e f h k
one_entry t orderly File path e f h k = one_file t orderly path e f h k

-- a directory that is not the root has the path of an entry
longer_path : (dirs : Table) (e : ℕ) (path : Names) → 1 ≤ e → e ≢ 1 → path_of dirs dirs e path → dir_path dirs e path
longer_path dirs e path some other h = record {
  rising = e ∷ h.parent.rising;
  leads = (refl, (λ none. omega (arith, some, none)), h.parent.leads);
  below_root = λ within. h.parent.below_root (behind within);
  names = h.names ∙ ap (λ (names : Names). names ++ dirs.name e ∷ []) h.parent.names
      ∙ sym (reverse-append (dirs.name e ∷ []) (map dirs.name h.parent.rising));
} where
  one_of : (y x : ℕ) → Contains (y ∷ []) x → y ≡ x
  one_of y x (zero, less, is) = is
  one_of y x (suc k, less, is) = absurd (omega (arith, less))

  behind : Contains (e ∷ h.parent.rising) 1 → Contains h.parent.rising 1
  behind within =
      ⊎_elim (λ (here : Contains (e ∷ []) 1). absurd (other (one_of e 1 here)))
      (λ (after : Contains h.parent.rising 1). after) (Contains-append_cases (e ∷ []) h.parent.rising 1 within)

-- a used directory has a path
pub some_dir : (t : Tables) → IsOrderly t → (e : ℕ) → used_entries (t.table Dir) e → (path : Names) × IsDirAt t path e
some_dir t orderly e used = elim (cases_eq e 1) [
  | inl root ↦
      ([], (used, record { rising = []; leads = root; below_root = λ within. none_within within; names = refl }))
  | inr other ↦
      (let placed = orderly.placed Dir e (record { used = used; other = other }) in
      (placed.path.0, (used, longer_path (t.table Dir) e placed.path.0 used.some other placed.path.1)))
] where
  none_within : Contains {X = ℕ} [] 1 → ⊥
  none_within within = omega (arith, within.1)

-- a path has at most 64 names
pub short_path : (t : Tables) → IsOrderly t → (entries : EntryKind) (path : Names) (e : ℕ) → IsAt t entries path e
    → length path ≤ 64
short_path t orderly Dir path e h = elim (cases_eq e 1) [
  | inl root ↦
      (let nothing = none_up (t.table Dir).parent e h.1.rising 1 h.1.leads h.1.below_root root in
      let none : path ≡ [] = h.1.names ∙ ap (λ (xs : List ℕ). reverse (map (t.table Dir).name xs)) nothing in
      rw none (omega arith))
  | inr other ↦
      (let placed = orderly.placed Dir e (record { used = h.0; other = other }) in
      let longer = longer_path (t.table Dir) e placed.path.0 h.0.some other placed.path.1 in
      rw (one_dir_path (t.table Dir) e path placed.path.0 h.1 longer) placed.path.2)
]
short_path t orderly File path e h =
    let placed = orderly.placed File e h.0 in
    rw (one_path t File path placed.path.0 e h (h.0, placed.path.1)) placed.path.2

-- nor has a way up
pub short_rising : (t : Tables) → IsOrderly t → (path : Names) (dir : ℕ) → (h : IsDirAt t path dir)
    → length h.1.rising ≤ 64
short_rising t orderly path dir h =
    omega (
      arith,
      short_path t orderly Dir path dir h,
      ap length h.1.names,
      length-reverse (map (t.table Dir).name h.1.rising),
      length-map h.1.rising (t.table Dir).name,
    )

-- not all of a name's bytes are zero
abbrev pub IsSomeName : List ℕ → Type 0
IsSomeName name = name ≢ replicate 16 0

risen_named : (t : Tables) → IsOrderly t → (dir : ℕ) (xs : List ℕ) → used_entries (t.table Dir) dir
    → LeadsTo (t.table Dir).parent dir xs 1 → ¬ Contains xs 1 → All IsSomeName (map (t.table Dir).name xs)
risen_named t orderly dir [] used leads below = All-nil IsSomeName
risen_named t orderly dir (x ∷ xs) used leads below =
    let named : named_entries Dir (t.table Dir) x = record {
      used = subst (used_entries (t.table Dir)) leads.0 used;
      other = λ root. below (subst (λ (n : ℕ). Contains (x ∷ xs) n) root (Contains-head x xs));
    } in
    let placed = orderly.placed Dir x named in
    All-cons IsSomeName ((t.table Dir).name x) (map (t.table Dir).name xs) placed.named
    (risen_named t orderly ((t.table Dir).parent x) xs placed.parent leads.2
    (λ within. below (Contains-tail x xs 1 within)))

named_dir : (t : Tables) → IsOrderly t → (path : Names) (e : ℕ) → IsDirAt t path e → All IsSomeName path
named_dir t orderly path e h =
    let names = map (t.table Dir).name h.1.rising in
    All-same IsSomeName path (reverse names) h.1.names
    (All-permutation IsSomeName names (reverse names) (IsPermutation-reverse names)
    (risen_named t orderly e h.1.rising h.0 h.1.leads h.1.below_root))

-- and all of them are names
pub named_path : (t : Tables) → IsOrderly t → (entries : EntryKind) (path : Names) (e : ℕ) → IsAt t entries path e
    → All IsSomeName path
named_path t orderly Dir path e h = named_dir t orderly path e h
named_path t orderly File path e h =
    let placed = orderly.placed File e h.0 in
    All-same IsSomeName path (h.1.parents_path ++ (t.table File).name e ∷ []) h.1.names
    (All-push IsSomeName h.1.parents_path ((t.table File).name e)
    (named_dir t orderly h.1.parents_path ((t.table File).parent e) (placed.parent, h.1.parent)) placed.named)

-- so many names were taken on a way up, and the way goes on from an entry
pub record IsRisen (dirs : Table) (rising : List ℕ) (at : ℕ) (taken : Names) (passed : ℕ) : Type 0 where
  pub done : List ℕ
  pub left : List ℕ
  pub both : rising ≡ done ++ left
  pub names : taken ≡ map dirs.name done
  pub many : length done ≡ passed
  pub used : used_entries dirs at
  pub leads : LeadsTo dirs.parent at left 1
  pub below_root : ¬ Contains left 1

pub IsRisen-none : (dirs : Table) (dir : ℕ) (path : Names) → used_entries dirs dir → (h : dir_path dirs dir path)
    → IsRisen dirs h.rising dir [] 0
IsRisen-none dirs dir path used h = record {
  done = [];
  left = h.rising;
  both = refl;
  names = refl;
  many = refl;
  used = used;
  leads = h.leads;
  below_root = h.below_root;
}

module _ {dirs : Table} {rising : List ℕ} {at : ℕ} {names : Names} {passed : ℕ}
    (h : IsRisen dirs rising at names passed) where
  risen_by : (left : List ℕ) → rising ≡ h.done ++ left → LeadsTo dirs.parent at left 1 → ¬ Contains left 1 → at ≢ 1
      → used_entries dirs (dirs.parent at)
      → IsRisen dirs rising (dirs.parent at) (names ++ dirs.name at ∷ []) (passed + 1)
  risen_by [] both leads below other used = absurd (other leads)
  risen_by (x ∷ xs) both leads below other used = record {
    done = h.done ++ x ∷ [];
    left = xs;
    both = both ∙ sym (append_assoc h.done (x ∷ []) xs);
    names = ap (λ (front : Names). front ++ dirs.name at ∷ []) h.names
        ∙ ap (λ (y : ℕ). map dirs.name h.done ++ dirs.name y ∷ []) leads.0
        ∙ sym (map-append dirs.name h.done (x ∷ []));
    many = length-append h.done (x ∷ []) ∙ ap (λ (n : ℕ). n + 1) h.many;
    used = used;
    leads = subst (λ (n : ℕ). LeadsTo dirs.parent (dirs.parent n) xs 1) (sym leads.0) leads.2;
    below_root = λ within. below (Contains-tail x xs 1 within);
  }

  -- one entry further up
  pub IsRisen-more : named_entries Dir dirs at → used_entries dirs (dirs.parent at)
      → IsRisen dirs rising (dirs.parent at) (names ++ dirs.name at ∷ []) (passed + 1)
  IsRisen-more named used = risen_by h.left h.both h.leads h.below_root named.other used

  all_taken : h.left ≡ [] → names ≡ map dirs.name rising
  all_taken none =
      h.names
      ∙ ap (map dirs.name) (sym (append-nil h.done) ∙ ap (λ (xs : List ℕ). h.done ++ xs) (sym none) ∙ sym h.both)

  -- at the root all names were taken
  pub risen_to_root : ¬ named_entries Dir dirs at → names ≡ map dirs.name rising
  risen_to_root unnamed = elim (cases_eq at 1) [
    | inl root ↦ all_taken (none_up dirs.parent at h.left 1 h.leads h.below_root root)
    | inr other ↦ absurd (unnamed (record { used = h.used; other = other }))
  ]

  -- and so they were where there are no more
  pub risen_all : length rising ≤ passed → names ≡ map dirs.name rising
  risen_all few =
      all_taken (nothing h.left (omega (arith, few, h.many, ap length h.both, length-append h.done h.left)))
    where
      nothing : (xs : List ℕ) → length xs ≤ 0 → xs ≡ []
      nothing [] none = refl
      nothing (x ∷ xs) none = absurd (omega (arith, none))
