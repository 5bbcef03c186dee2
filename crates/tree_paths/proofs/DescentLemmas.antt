-- The descent from the root to a path, by one name after another.
use Rattle.std.proofs.Common.{◌≡◌, ℕ, zero, suc, ◌+◌, ◌-◌, ◌≤◌, List, [], ◌∷◌, ◌++◌, length, take, add-one}
use Rattle.std.proofs.Common.{map, reverse, Option, Some, None, refl, sym, ap, subst, ◌∙◌, arith, ⊎_elim}
use Rattle.std.specs.List.{Contains, slice_get}
use Rattle.std.proofs.lemmas.List.{reverse-reverse, reverse-append, length-append, nil_from_length}
use Rattle.std.proofs.lemmas.Option.{slice_get_within, get_or_from_slice_get}
use Rattle.std.proofs.Math.Seq.{take-suc, take-length, take-append_seam}
use Rattle.std.proofs.lemmas.List.Elements.{Contains-append_cases, Contains-append_left, All-contains}
use Rattle.entry_tables.specs.declared.table.EntryKind.{EntryKind}
use Rattle.entry_tables.specs.declared.table.EntryKind.TheVariants.{Dir, File}
use Rattle.entry_tables.specs.Tables.{Tables}
use Rattle.entry_tables.specs.Links.{LeadsTo}
use Rattle.entry_tables.specs.Used.{used_entries, named_entries, dir_path}
use Rattle.entry_tables.specs.Rules.{CanBeFreed, IsOrderly}
use Rattle.entry_tables.proofs.LinkLemmas.{Contains-head, Contains-tail, whole_front}
use Rattle.name_buckets.specs.Replies.{IsEntryOf}
use Rattle.tree_model.specs.Trees.{Names}
use Rattle.tree_model.specs.Answers.{parent_of}
use Rattle.tree_rules.specs.Reading.{IsDirAt, IsFileAt}
use Rattle.tree_rules.proofs.OneReading.{head_same, tail_same, one_dir, one_file}
use Rattle.tree_paths.specs.Standings.{IsOnly, IsParentAt, IsStanding, IsChildFound}

-- an entry of either kind stands at a path
abbrev pub StandsAt : EntryKind → Tables → Names → ℕ → Type 0
StandsAt Dir t path e = IsDirAt t path e
StandsAt File t path e = IsFileAt t path e

one_of : (y x : ℕ) → Contains (y ∷ []) x → y ≡ x
one_of y x (zero, less, is) = is
one_of y x (suc k, less, is) = absurd (omega (arith, less))

-- paths with a last name
front_same : (xs ys : Names) (x y : List ℕ) → xs ++ x ∷ [] ≡ ys ++ y ∷ [] → (x ≡ y) × (xs ≡ ys)
front_same xs ys x y same =
    let turned : x ∷ reverse xs ≡ y ∷ reverse ys =
    sym (reverse-append xs (x ∷ [])) ∙ ap reverse same ∙ reverse-append ys (y ∷ []) in (
      head_same x y _ _ turned,
      sym (reverse-reverse xs) ∙ ap reverse (tail_same x y _ _ turned) ∙ reverse-reverse ys,
    )

pub none_last : (xs : Names) (x : List ℕ) → [] ≡ xs ++ x ∷ [] → ⊥
none_last xs x same = omega (arith, ap length same, length-append xs (x ∷ []))

pub none_some : {A : Type 0} (x : A) → None ≡ Some x → ⊥
none_some x is = cc

pub some_same : (d e : ℕ) → Some d ≡ Some e → d ≡ e
some_same d e is = cc

-- a path without its last name
parent_last : (front : Names) (name : List ℕ) → parent_of (front ++ name ∷ []) ≡ front
parent_last front name =
    let long : length (front ++ name ∷ []) - 1 ≡ length front = omega (arith, length-append front (name ∷ [])) in
    ap (λ (n : ℕ). take n (front ++ name ∷ [])) long ∙ take-append_seam front (name ∷ [])

-- the first names of a path, and one more
taken_more : (path : Names) (i : ℕ) (name : List ℕ) → slice_get path i ≡ Some name
    → take (i + 1) path ≡ take i path ++ name ∷ []
taken_more path i name there =
    rw (add-one, take-suc path i [] (slice_get_within path i name there))
    (ap (λ (x : List ℕ). take i path ++ x ∷ []) (get_or_from_slice_get path i name [] there))

taken_all : (path : Names) (n : ℕ) → n ≡ length path → take n path ≡ path
taken_all path n long = ap (λ (k : ℕ). take k path) long ∙ take-length path

split_last : (path : Names) (n : ℕ) (last : List ℕ) → n ≡ length path → slice_get path (n - 1) ≡ Some last
    → path ≡ parent_of path ++ last ∷ []
split_last path n last long there =
    let within = slice_get_within path (n - 1) last there in
    let whole : n - 1 + 1 ≡ n = omega (arith, within, long) in
    sym (taken_all path n long) ∙ ap (λ (k : ℕ). take k path) (sym whole) ∙ taken_more path (n - 1) last there
    ∙ ap (λ (k : ℕ). take (k - 1) path ++ last ∷ []) long

-- the names that were followed lead to these, as far as there are such
pub record HasDescended (t : Tables) (path : Names) (parent dir : Option ℕ) : Type 0 where
  pub parent_is : IsOnly (IsParentAt t path) parent
  pub dir_is : IsOnly (IsDirAt t path) dir

module _ (t : Tables) where
  -- an entry of a directory stands at the directory's path with its name
  pub stands_down : (kind : EntryKind) (front : Names) (dir : ℕ) (name : List ℕ) (e : ℕ) → IsDirAt t front dir
      → IsEntryOf kind (t.table kind) dir name e → StandsAt kind t (front ++ name ∷ []) e
  stands_down Dir front dir name e at found = (
    found.entry.used,
    record {
      rising = e ∷ at.1.rising;
      leads = (
        refl,
        (λ none. omega (arith, found.entry.used.some, none)),
        subst (λ (d : ℕ). LeadsTo (t.table Dir).parent d at.1.rising 1) (sym found.parent_is) at.1.leads,
      );
      below_root = λ within. ⊎_elim (λ (here : Contains (e ∷ []) 1). found.entry.other (one_of e 1 here))
          at.1.below_root (Contains-append_cases (e ∷ []) at.1.rising 1 within);
      names = ap (λ (l : Names). l ++ name ∷ []) at.1.names
          ∙ ap (λ (n : List ℕ). reverse (map (t.table Dir).name at.1.rising) ++ n ∷ []) (sym found.name_is)
          ∙ sym (reverse-append ((t.table Dir).name e ∷ []) (map (t.table Dir).name at.1.rising));
    },
  )
  stands_down File front dir name e at found = (
    found.entry,
    record {
      parents_path = front;
      parent = subst (λ (d : ℕ). dir_path (t.table Dir) d front) (sym found.parent_is) at.1;
      names = ap (λ (n : List ℕ). front ++ n ∷ []) (sym found.name_is);
    },
  )

  -- no file stands at the root
  pub no_root_file : (e : ℕ) → ¬ IsFileAt t [] e
  no_root_file e at = none_last at.1.parents_path _ at.1.names

  module _ (orderly : IsOrderly t) where
    -- what stands at a path with a last name is an entry of the directory above it
    pub record IsUp (kind : EntryKind) (front : Names) (name : List ℕ) (e : ℕ) : Type 0 where
      pub dir : IsDirAt t front ((t.table kind).parent e)
      pub entry : IsEntryOf kind (t.table kind) ((t.table kind).parent e) name e

    dir_up : (front : Names) (name : List ℕ) (e : ℕ) (rising : List ℕ) → used_entries (t.table Dir) e
        → LeadsTo (t.table Dir).parent e rising 1 → ¬ Contains rising 1
        → front ++ name ∷ [] ≡ reverse (map (t.table Dir).name rising) → IsUp Dir front name e
    dir_up front name e [] used leads below names = absurd (none_last front name (sym names))
    dir_up front name e (x ∷ xs) used leads below names =
        let turned = reverse-append ((t.table Dir).name x ∷ []) (map (t.table Dir).name xs) in
        let parts = front_same front (reverse (map (t.table Dir).name xs)) name ((t.table Dir).name x)
        (names ∙ turned) in
        let named : named_entries Dir (t.table Dir) e = record {
          used = used;
          other = λ root. below (subst (λ (n : ℕ). Contains (x ∷ xs) n) (sym leads.0 ∙ root) (Contains-head x xs));
        } in
        record {
          dir = (
            (orderly.placed Dir e named).parent,
            record {
              rising = xs;
              leads = subst (λ (n : ℕ). LeadsTo (t.table Dir).parent ((t.table Dir).parent n) xs 1) (sym leads.0)
                  leads.2;
              below_root = λ within. below (Contains-tail x xs 1 within);
              names = parts.1;
            },
          );
          entry = record {
            entry = named;
            parent_is = refl;
            name_is = ap (t.table Dir).name leads.0 ∙ sym parts.0;
          };
        }

    pub stands_up : (kind : EntryKind) (front : Names) (name : List ℕ) (e : ℕ) → StandsAt kind t (front ++ name ∷ []) e
        → IsUp kind front name e
    stands_up Dir front name e at = dir_up front name e at.1.rising at.0 at.1.leads at.1.below_root at.1.names
    stands_up File front name e at =
        let parts = front_same front at.1.parents_path name ((t.table File).name e) at.1.names in
        record {
          dir = (
            (orderly.placed File e at.0).parent,
            subst (dir_path (t.table Dir) ((t.table File).parent e)) (sym parts.1) at.1.parent,
          );
          entry = record { entry = at.0; parent_is = refl; name_is = sym parts.0 };
        }

    one_stands : (kind : EntryKind) (path : Names) (d e : ℕ) → StandsAt kind t path d → StandsAt kind t path e → d ≡ e
    one_stands Dir = one_dir t orderly
    one_stands File = one_file t orderly

    -- one that stands there is the only one
    only_here : (kind : EntryKind) (path : Names) (d : ℕ) → StandsAt kind t path d
        → IsOnly (StandsAt kind t path) (Some d)
    only_here kind path d at e = (
      λ is. subst (StandsAt kind t path) (some_same d e is) at,
      λ other. ap Some (one_stands kind path d e at other),
    )

    only_none : (P : ℕ → Type 0) → ((e : ℕ) → ¬ P e) → IsOnly P None
    only_none P none e = (λ is. cc, λ here. absurd (none e here))

    -- the root's entry is used
    pub root_used : 2 ≤ (t.table Dir).count → used_entries (t.table Dir) 1
    root_used counted = record {
      some = omega arith;
      below = omega (arith, counted);
      kept = λ list freed within. (let own = orderly.freed Dir in
          let same = whole_front (t.table Dir).link ((t.table Dir).link 0) list own.0 freed own.1.leads in
          let can = All-contains (CanBeFreed Dir (t.table Dir)) own.0 1 own.1.inside
          (rw same (Contains-append_left list [] 1 within)) in
          omega (arith, can.0));
    }

    -- what is found in the directory of a path is the only one at the path with its name
    pub child_only : (kind : EntryKind) (front : Names) (dir : Option ℕ) (name : List ℕ) (found : Option ℕ)
        → IsOnly (IsDirAt t front) dir → IsChildFound kind (t.table kind) dir name found
        → IsOnly (StandsAt kind t (front ++ name ∷ [])) found
    child_only kind front None name found above is =
        rw is
        (only_none (StandsAt kind t (front ++ name ∷ []))
        (λ e here. none_some _ ((above ((t.table kind).parent e)).1 (stands_up kind front name e here).dir)))
    child_only kind front (Some dir) name (Some e) above is =
        only_here kind (front ++ name ∷ []) e (stands_down kind front dir name e ((above dir).0 refl) is)
    child_only kind front (Some dir) name None above is =
        only_none (StandsAt kind t (front ++ name ∷ []))
        (λ e here. (let up = stands_up kind front name e here in
        let own = some_same _ _ ((above ((t.table kind).parent e)).1 up.dir) in
        is e (record { entry = up.entry.entry; parent_is = sym own; name_is = up.entry.name_is })))

    pub descended_none : 2 ≤ (t.table Dir).count → HasDescended t [] None (Some 1)
    descended_none counted = record {
      parent_is = only_none (IsParentAt t []) (λ e above. above.below_root refl);
      dir_is = only_here Dir [] 1 (
        root_used counted,
        record { rising = []; leads = refl; below_root = λ within. absurd (omega (arith, within.1)); names = refl },
      );
    }

    -- and one name more
    descended_with : (front : Names) (name : List ℕ) (parent dir found : Option ℕ) → HasDescended t front parent dir
        → IsChildFound Dir (t.table Dir) dir name found → HasDescended t (front ++ name ∷ []) dir found
    descended_with front name parent dir found h is = record {
      parent_is = λ e. (
        (λ named. record {
          below_root = λ none. none_last front name (sym none);
          dir = subst (λ (l : Names). IsDirAt t l e) (sym (parent_last front name)) ((h.dir_is e).0 named);
        }),
        (λ above. (h.dir_is e).1 (subst (λ (l : Names). IsDirAt t l e) (parent_last front name) above.dir)),
      );
      dir_is = child_only Dir front dir name found h.dir_is is;
    }

    pub descended_more : (path : Names) (i : ℕ) (name : List ℕ) (parent dir found : Option ℕ)
        → slice_get path i ≡ Some name → HasDescended t (take i path) parent dir
        → IsChildFound Dir (t.table Dir) dir name found → HasDescended t (take (i + 1) path) dir found
    descended_more path i name parent dir found there h is =
        rw (taken_more path i name there) (descended_with (take i path) name parent dir found h is)

    -- all names were followed, and there are none
    pub descended_root : (path : Names) (n : ℕ) (parent dir : Option ℕ) → n ≡ length path → n ≡ 0
        → HasDescended t (take n path) parent dir
        → IsStanding t path (record { parent = parent; dir = dir; file = None })
    descended_root path n parent dir long none h =
        let root = nil_from_length path (sym long ∙ none) in
        record {
          parent = subst (λ (l : Names). IsOnly (IsParentAt t l) parent) (taken_all path n long) h.parent_is;
          dir = subst (λ (l : Names). IsOnly (IsDirAt t l) dir) (taken_all path n long) h.dir_is;
          file = only_none (IsFileAt t path)
              (λ e at. no_root_file e (subst (λ (l : Names). IsFileAt t l e) root at));
        }

    -- and the last one among the files
    pub descended_all : (path : Names) (i n : ℕ) (last : List ℕ) (parent dir file : Option ℕ) → i ≡ n
        → n ≡ length path → slice_get path (n - 1) ≡ Some last → HasDescended t (take i path) parent dir
        → IsChildFound File (t.table File) parent last file
        → IsStanding t path (record { parent = parent; dir = dir; file = file })
    descended_all path i n last parent dir file end long there h is =
        let all = taken_all path i (end ∙ long) in
        let parents = subst (λ (l : Names). IsOnly (IsParentAt t l) parent) all h.parent_is in
        let split = split_last path n last long there in
        let above : IsOnly (IsDirAt t (parent_of path)) parent = λ e. (
          (λ named. ((parents e).0 named).dir),
          (λ at. (parents e).1 (record {
            below_root = λ none. none_last (parent_of path) last (sym none ∙ split);
            dir = at;
          })),
        ) in
        record {
          parent = parents;
          dir = subst (λ (l : Names). IsOnly (IsDirAt t l) dir) all h.dir_is;
          file = subst (λ (l : Names). IsOnly (IsFileAt t l) file) (sym split)
              (child_only File (parent_of path) parent last file above is);
        }
