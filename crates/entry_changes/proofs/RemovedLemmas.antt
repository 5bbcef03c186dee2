-- The rules hold of tables without an entry.
use Rattle.std.proofs.Common.{◌≡◌, ◌≢◌, ◌⊎◌, ℕ, zero, suc, ◌<◌, ◌≤◌, List, [], ◌∷◌, ◌++◌, map, reverse, refl, sym}
use Rattle.std.proofs.Common.{◌∙◌, ap, subst, arith, inl, inr, ⊎_elim}
use Rattle.std.specs.List.{Contains}
use Rattle.std.proofs.lemmas.Nat.{mod_below}
use Rattle.std.proofs.lemmas.Bool.{cases_eq}
use Rattle.std.proofs.lemmas.List.Elements.{All-cons, Contains-append_left, Contains-append_cases}
use Rattle.entry_tables.specs.declared.table.EntryKind.{EntryKind}
use Rattle.entry_tables.specs.declared.table.EntryKind.TheVariants.{Dir, File}
use Rattle.entry_tables.specs.Kinds.{IsRoot}
use Rattle.entry_tables.specs.Hash.{name_hash}
use Rattle.entry_tables.specs.Tables.{Table, Tables}
use Rattle.entry_tables.specs.Links.{LeadsTo, LeadsToEnd}
use Rattle.entry_tables.specs.Used.{freed_entries, used_entries, named_entries, children_of, path_of}
use Rattle.entry_tables.specs.Rules.{CanBeFreed, HasFreedList, IsPlacedEntry, IsChildList, HasApartNames}
use Rattle.entry_tables.specs.Rules.{bucket_of, StandsIn, IsBucketList, HasBucketLists, IsOrderly}
use Rattle.entry_tables.specs.Words.{with_at, at_kind, tables_after}
use Rattle.entry_changes.specs.Removed.{cut_from, cut_head, cut_next, table_without, tables_without, CanRemove}
use Rattle.entry_changes.specs.Removed.{IsListedBehind}
use Rattle.entry_changes.specs.Removed.{removal_edits}
use Rattle.entry_changes.specs.Lacks.{LacksOne}
use Rattle.entry_tables.proofs.LinkLemmas.{Contains-head, Contains-tail, linked_apart, whole_front}
use Rattle.entry_tables.proofs.WordLemmas.{tables_same, at_kind-reads}
use Rattle.entry_changes.proofs.CutLemmas.{with_at-here, with_at-there, leads_kept, cut_leads, cut_other, Cut, cut_at}
use Rattle.entry_changes.proofs.CutLemmas.{cut_head-here, cut_head-there, cut_was, cut_out, cut_left}

-- the bucket of an entry is one of a table's
pub bucket_below : (t : Table) (e : ℕ) → 1 ≤ t.buckets → bucket_of t e < t.buckets
bucket_below t e some = mod_below (name_hash (t.parent e) (t.name e)) t.buckets (omega (arith, some))

-- a used entry other than the root can be freed
pub can_be_freed : (kind : EntryKind) (t : Table) (e : ℕ) → named_entries kind t e → CanBeFreed kind t e
can_be_freed Dir t e named = (not_root named.used.some named.other, named.used.below)
  where
    not_root : 1 ≤ e → e ≢ 1 → 2 ≤ e
    not_root some other = omega (arith, some, other)
can_be_freed File t e named = (named.used.some, named.used.below)

pub root_cases : (kind : EntryKind) (e : ℕ) → IsRoot kind e ⊎ ¬ IsRoot kind e
root_cases Dir e = cases_eq e 1
root_cases File e = inr (λ root. root)

pub kind_cases : (kind other : EntryKind) → (kind ≡ other) ⊎ (kind ≢ other)
kind_cases Dir Dir = inl refl
kind_cases Dir File = inr (λ same. cc)
kind_cases File Dir = inr (λ same. cc)
kind_cases File File = inl refl

pub at_kind-here : {A : Type 0} (kind : EntryKind) (value : A) (f : EntryKind → A) → at_kind kind value f kind ≡ value
at_kind-here Dir value f = refl
at_kind-here File value f = refl

pub at_kind-there : {A : Type 0} (kind other : EntryKind) (value : A) (f : EntryKind → A) → kind ≢ other
    → at_kind kind value f other ≡ f other
at_kind-there Dir Dir value f differs = absurd (differs refl)
at_kind-there Dir File value f differs = refl
at_kind-there File Dir value f differs = refl
at_kind-there File File value f differs = absurd (differs refl)

-- a path rests on parents and names
pub path_kept : (dirs new_dirs t new : Table) (e : ℕ) (names : List (List ℕ)) → new_dirs.parent ≡ dirs.parent
    → new_dirs.name ≡ dirs.name → new.parent ≡ t.parent → new.name ≡ t.name → path_of dirs t e names
    → path_of new_dirs new e names
path_kept dirs new_dirs t new e names dir_parents dir_names parents name_is path = record {
  parents_path = path.parents_path;
  parent = record {
    rising = path.parent.rising;
    leads = subst (λ (f : ℕ → ℕ). LeadsTo f (new.parent e) path.parent.rising 1) (sym dir_parents)
        (subst (λ (f : ℕ → ℕ). LeadsTo dirs.parent (f e) path.parent.rising 1) (sym parents) path.parent.leads);
    below_root = path.parent.below_root;
    names = path.parent.names ∙ ap (λ (f : ℕ → List ℕ). reverse (map f path.parent.rising)) (sym dir_names);
  };
  names = path.names ∙ ap (λ (f : ℕ → List ℕ). path.parents_path ++ f e ∷ []) (sym name_is);
}

pub Contains-one : (e f : ℕ) → Contains (e ∷ []) f → e ≡ f
Contains-one e f (zero, less, is) = is
Contains-one e f (suc k, less, is) = absurd (omega (arith, less))

module _ (t : Tables) (rules : IsOrderly t) (kind : EntryKind) (e : ℕ) (can : CanRemove t kind e) (xs us : List ℕ)
    (found : IsListedBehind t kind e xs us) (some_buckets : 1 ≤ (t.table kind).buckets) where
  -- an entry is not 0
  some : e ≢ 0
  some nothing = omega (arith, can.named.used.some, nothing)

  -- the list of its bucket, cut
  bucket_list : (list : List ℕ) × IsBucketList kind (t.table kind) (bucket_of (t.table kind) e) list
  bucket_list = rules.buckets kind (bucket_of (t.table kind) e) (bucket_below (t.table kind) e some_buckets)

  bucket_cut : Cut (t.table kind).link ((t.table kind).head (bucket_of (t.table kind) e)) bucket_list.0 xs e
  bucket_cut = cut_at (t.table kind).link ((t.table kind).head (bucket_of (t.table kind) e)) bucket_list.0 xs e
      bucket_list.1.leads found.in_bucket some

  child_list : (list : List ℕ) × IsChildList t kind ((t.table kind).parent e) list
  child_list = rules.listed kind ((t.table kind).parent e) (rules.placed kind e can.named).parent

  child_cut : Cut (t.table kind).sibling (t.first kind ((t.table kind).parent e)) child_list.0 us e
  child_cut = cut_at (t.table kind).sibling (t.first kind ((t.table kind).parent e)) child_list.0 us e
      child_list.1.leads found.in_directory some

  before_in_bucket : (f : ℕ) → Contains xs f → StandsIn kind (t.table kind) (bucket_of (t.table kind) e) f
  before_in_bucket f within =
      bucket_list.1.entries f (cut_was (t.table kind).link ((t.table kind).head (bucket_of
      (t.table kind) e)) bucket_list.0
      xs e bucket_cut found.in_bucket some f (Contains-append_left xs bucket_cut.behind f within))

  before_in_directory : (f : ℕ) → Contains us f → children_of t kind ((t.table kind).parent e) f
  before_in_directory f within =
      child_list.1.children f (cut_was (t.table kind).sibling (t.first kind ((t.table kind).parent e)) child_list.0
      us e child_cut found.in_directory some f (Contains-append_left us child_cut.behind f within))

  -- its links after
  link_after : (f : ℕ) → f ≢ 0 → f ≢ e
      → (table_without (t.table kind) e xs us).link f ≡ cut_next (t.table kind).link xs e f
  link_after f not_zero other =
      with_at-there 0 f e (with_at e ((t.table kind).link 0) (cut_next (t.table kind).link xs e)) not_zero
      ∙ with_at-there e f ((t.table kind).link 0) (cut_next (t.table kind).link xs e) other

  -- the entry heads the list of the freed ones
  freed_more : (list : List ℕ) → freed_entries (t.table kind) list
      → freed_entries (table_without (t.table kind) e xs us) (e ∷ list)
  freed_more list freed = (
    with_at-here 0 e (with_at e ((t.table kind).link 0) (cut_next (t.table kind).link xs e)),
    some,
    rw named_next (leads_kept (t.table kind).link (table_without (t.table kind) e xs us).link
        ((t.table kind).link 0) list 0
        kept freed),
  )
    where
      named_next : (table_without (t.table kind) e xs us).link e ≡ (t.table kind).link 0
      named_next =
          with_at-there 0 e e (with_at e ((t.table kind).link 0) (cut_next (t.table kind).link xs e)) some
          ∙ with_at-here e ((t.table kind).link 0) (cut_next (t.table kind).link xs e)

      kept : (f : ℕ) → Contains list f → (table_without (t.table kind) e xs us).link f ≡ (t.table kind).link f
      kept f within =
          link_after f
          (λ nothing. linked_apart (t.table kind).link ((t.table kind).link 0) list freed
          (subst (λ (n : ℕ). Contains list n) nothing within))
          (λ same. can.named.used.kept list freed (subst (λ (n : ℕ). Contains list n) same within))
          ∙ cut_other (t.table kind).link xs e f
          (λ before. (before_in_bucket f before).used.kept list freed within)

  freed_after : HasFreedList kind (table_without (t.table kind) e xs us)
  freed_after =
      let old = rules.freed kind in (
        e ∷ old.0,
        record {
          leads = freed_more old.0 old.1.leads;
          inside = All-cons (CanBeFreed kind (t.table kind)) e old.0 (can_be_freed kind (t.table kind) e can.named)
              old.1.inside;
        },
      )

  -- used are the same entries, without it
  used_was : (f : ℕ) → used_entries (table_without (t.table kind) e xs us) f → used_entries (t.table kind) f
  used_was f used = record {
    some = used.some;
    below = used.below;
    kept = λ list freed within. used.kept (e ∷ list) (freed_more list freed) (Contains-tail e list f within);
  }

  used_not : (f : ℕ) → used_entries (table_without (t.table kind) e xs us) f → f ≢ e
  used_not f used same =
      let old = rules.freed kind in
      used.kept (e ∷ old.0) (freed_more old.0 old.1.leads)
      (subst (λ (n : ℕ). Contains (e ∷ old.0) n) (sym same) (Contains-head e old.0))

  used_still : (f : ℕ) → f ≢ e → used_entries (t.table kind) f → used_entries (table_without (t.table kind) e xs us) f
  used_still f other used = record {
    some = used.some;
    below = used.below;
    kept = λ list freed within.
        (let old = rules.freed kind in
        let is : list ≡ (e ∷ old.0) ++ [] = whole_front (table_without (t.table kind) e xs us).link
        ((table_without (t.table kind) e xs us).link 0) (e ∷ old.0) list (freed_more old.0 old.1.leads) freed in
        ⊎_elim
        (λ (front : Contains (e ∷ old.0) f). ⊎_elim
        (λ (head : Contains (e ∷ []) f). other (sym (Contains-one e f head)))
        (λ (tail : Contains old.0 f). used.kept old.0 old.1.leads tail)
        (Contains-append_cases (e ∷ []) old.0 f front))
        (λ (none : Contains [] f). omega (arith, none.1))
        (Contains-append_cases (e ∷ old.0) [] f (subst (λ (l : List ℕ). Contains l f) is within)));
  }

  -- each bucket's list
  bucket_after : (bucket : ℕ) → bucket < (t.table kind).buckets
      → (list : List ℕ) × IsBucketList kind (table_without (t.table kind) e xs us) bucket list
  bucket_after bucket below =
      ⊎_elim (λ (same : bucket ≡ bucket_of (t.table kind) e). own bucket same)
      (λ (differs : bucket ≢ bucket_of (t.table kind) e). another bucket below differs)
      (cases_eq bucket (bucket_of (t.table kind) e))
    where
      was : (f : ℕ) → Contains (xs ++ bucket_cut.behind) f → Contains bucket_list.0 f
      was f within = cut_was (t.table kind).link ((t.table kind).head (bucket_of (t.table kind) e)) bucket_list.0 xs e
          bucket_cut found.in_bucket some f within

      out : (f : ℕ) → Contains (xs ++ bucket_cut.behind) f → f ≢ e
      out f within same = cut_out (t.table kind).link ((t.table kind).head (bucket_of
          (t.table kind) e)) bucket_list.0 xs e
          bucket_cut found.in_bucket some (subst (λ (n : ℕ). Contains (xs ++ bucket_cut.behind) n) same within)

      shorter : LeadsToEnd (cut_next (t.table kind).link xs e)
          (cut_from (t.table kind).link ((t.table kind).head (bucket_of (t.table kind) e)) xs e)
          (xs ++ bucket_cut.behind)
      shorter = cut_leads (t.table kind).link ((t.table kind).head (bucket_of (t.table kind) e)) xs e bucket_cut.behind
          bucket_cut.leads

      leads_on : LeadsToEnd (table_without (t.table kind) e xs us).link
          (cut_from (t.table kind).link ((t.table kind).head (bucket_of (t.table kind) e)) xs e)
          (xs ++ bucket_cut.behind)
      leads_on = leads_kept (cut_next (t.table kind).link xs e) (table_without (t.table kind) e xs us).link
          (cut_from (t.table kind).link ((t.table kind).head (bucket_of (t.table kind) e)) xs e)
          (xs ++ bucket_cut.behind) 0
          (λ f within. link_after f
          (λ nothing. linked_apart (cut_next (t.table kind).link xs e)
          (cut_from (t.table kind).link ((t.table kind).head (bucket_of (t.table kind) e)) xs e)
          (xs ++ bucket_cut.behind) shorter
          (subst (λ (n : ℕ). Contains (xs ++ bucket_cut.behind) n) nothing within))
          (out f within)) shorter

      own : (bucket : ℕ) → bucket ≡ bucket_of (t.table kind) e
          → (list : List ℕ) × IsBucketList kind (table_without (t.table kind) e xs us) bucket list
      own bucket same = (
        xs ++ bucket_cut.behind,
        record {
          leads = rw same (rw (cut_head-here (t.table kind).head (bucket_of (t.table kind) e) (t.table kind).link xs e)
              leads_on);
          entries = λ f within.
              (let stood = bucket_list.1.entries f (was f within) in record {
                used = used_still f (out f within) stood.used;
                own = λ other. stood.own other ∙ sym same;
                root = λ root. stood.root root ∙ sym same;
              });
          all = λ f named is. cut_left (t.table kind).link ((t.table kind).head (bucket_of
              (t.table kind) e)) bucket_list.0
              xs e bucket_cut found.in_bucket some f
              (bucket_list.1.all f (record { used = used_was f named.used; other = named.other }) (is ∙ same))
              (used_not f named.used);
        },
      )

      one_bucket : (bucket f : ℕ) → StandsIn kind (t.table kind) bucket f
          → StandsIn kind (t.table kind) (bucket_of (t.table kind) e) f → bucket ≡ bucket_of (t.table kind) e
      one_bucket bucket f stands here =
          ⊎_elim (λ (root : IsRoot kind f). sym (stands.root root) ∙ here.root root)
          (λ (other : ¬ IsRoot kind f). sym (stands.own other) ∙ here.own other) (root_cases kind f)

      another : (bucket : ℕ) → bucket < (t.table kind).buckets → bucket ≢ bucket_of (t.table kind) e
          → (list : List ℕ) × IsBucketList kind (table_without (t.table kind) e xs us) bucket list
      another bucket below differs =
          let old = rules.buckets kind bucket below in
          let other = λ (f : ℕ) (within : Contains old.0 f) (same : f ≡ e).
          differs (sym ((old.1.entries e (subst (λ (n : ℕ). Contains old.0 n) same within)).own can.named.other)) in (
            old.0,
            record {
              leads = rw (cut_head-there (t.table kind).head (bucket_of (t.table kind) e) bucket
                  (t.table kind).link xs e differs)
                  (leads_kept (t.table kind).link (table_without (t.table kind) e xs us).link
                  ((t.table kind).head bucket) old.0 0
                  (λ f within. link_after f
                  (λ nothing. linked_apart (t.table kind).link ((t.table kind).head bucket) old.0 old.1.leads
                  (subst (λ (n : ℕ). Contains old.0 n) nothing within))
                  (other f within)
                  ∙ cut_other (t.table kind).link xs e f
                  (λ before. differs (one_bucket bucket f (old.1.entries f within) (before_in_bucket f before))))
                  old.1.leads);
              entries = λ f within.
                  (let stood = old.1.entries f within in record {
                    used = used_still f (other f within) stood.used;
                    own = stood.own;
                    root = stood.root;
                  });
              all = λ f named is. old.1.all f (record { used = used_was f named.used; other = named.other }) is;
            },
          )

  -- what holds of both tables, by kind
  used_was_of : (other : EntryKind) (f : ℕ) → used_entries ((tables_without t kind e xs us).table other) f
      → used_entries (t.table other) f
  used_was_of other f =
      at_kind-reads (λ k new. used_entries new f → used_entries (t.table k) f) kind (table_without
      (t.table kind) e xs us)
      t.table (used_was f) (λ k differs used. used) other

  used_not_of : (other : EntryKind) (f : ℕ) → kind ≡ other
      → used_entries ((tables_without t kind e xs us).table other) f
      → f ≢ e
  used_not_of other f =
      at_kind-reads (λ k new. kind ≡ k → used_entries new f → f ≢ e) kind (table_without (t.table kind) e xs us)
      t.table (λ same. used_not f) (λ k differs same. absurd (differs same)) other

  used_still_of : (other : EntryKind) (f : ℕ) → (kind ≡ other → f ≢ e) → used_entries (t.table other) f
      → used_entries ((tables_without t kind e xs us).table other) f
  used_still_of other f =
      at_kind-reads (λ k new. (kind ≡ k → f ≢ e) → used_entries (t.table k) f → used_entries new f) kind
      (table_without (t.table kind) e xs us) t.table (λ differs. used_still f (differs refl))
      (λ k differs apart used. used) other

  parent_of : (other : EntryKind) → ((tables_without t kind e xs us).table other).parent ≡ (t.table other).parent
  parent_of = at_kind-reads (λ k new. new.parent
      ≡ (t.table k).parent) kind (table_without (t.table kind) e xs us) t.table
      refl (λ k differs. refl)

  name_of : (other : EntryKind) → ((tables_without t kind e xs us).table other).name ≡ (t.table other).name
  name_of = at_kind-reads (λ k new. new.name ≡ (t.table k).name) kind (table_without (t.table kind) e xs us) t.table
      refl (λ k differs. refl)

  -- used children of a directory
  named_was : (other : EntryKind) (f : ℕ) → named_entries other ((tables_without t kind e xs us).table other) f
      → named_entries other (t.table other) f
  named_was other f named = record { used = used_was_of other f named.used; other = named.other }

  child_was : (other : EntryKind) (dir f : ℕ) → children_of (tables_without t kind e xs us) other dir f
      → children_of t other dir f
  child_was other dir f child = record {
    entry = named_was other f child.entry;
    parent = ap (λ (parents : ℕ → ℕ). parents f) (sym (parent_of other)) ∙ child.parent;
  }

  child_still : (other : EntryKind) (dir f : ℕ) → (kind ≡ other → f ≢ e) → children_of t other dir f
      → children_of (tables_without t kind e xs us) other dir f
  child_still other dir f apart child = record {
    entry = record { used = used_still_of other f apart child.entry.used; other = child.entry.other };
    parent = ap (λ (parents : ℕ → ℕ). parents f) (parent_of other) ∙ child.parent;
  }

  -- no used entry has the removed one as parent
  parent_apart : (other : EntryKind) (f : ℕ) → named_entries other (t.table other) f → kind ≡ Dir
      → (t.table other).parent f ≢ e
  parent_apart other f named is_dir same =
      can.childless is_dir other f (record { entry = named; parent = same })

  placed_after : (other : EntryKind) (f : ℕ) → named_entries other ((tables_without t kind e xs us).table other) f
      → IsPlacedEntry (tables_without t kind e xs us) other f
  placed_after other f named =
      let was_named = named_was other f named in
      let was = rules.placed other f was_named in
      record {
        parent = subst (λ (parents : ℕ → ℕ). used_entries ((tables_without t kind e xs us).table Dir) (parents f))
            (sym (parent_of other))
            (used_still_of Dir ((t.table other).parent f) (parent_apart other f was_named) was.parent);
        named = λ empty. was.named (ap (λ (names : ℕ → List ℕ). names f) (sym (name_of other)) ∙ empty);
        path = (
          was.path.0,
          path_kept (t.table Dir) ((tables_without t kind e xs us).table Dir) (t.table other)
              ((tables_without t kind e xs us).table other) f was.path.0 (parent_of Dir) (name_of Dir) (parent_of other)
              (name_of other) was.path.1,
          was.path.2,
        );
      }

  -- the lists of a directory
  listed_other : (other : EntryKind) (dir : ℕ) → kind ≢ other → used_entries (t.table Dir) dir
      → (list : List ℕ) × IsChildList (tables_without t kind e xs us) other dir list
  listed_other other dir differs used =
      let old = rules.listed other dir used in (
        old.0,
        record {
          leads = rw (at_kind-there kind other (table_without (t.table kind) e xs us) t.table differs)
              (rw (at_kind-there kind other (cut_head (t.first kind) ((t.table kind).parent e)
              (t.table kind).sibling us e) t.first differs)
              old.1.leads);
          children = λ f within. child_still other dir f (λ same. absurd (differs same)) (old.1.children f within);
          all = λ f child. old.1.all f (child_was other dir f child);
        },
      )

  listed_here : (dir : ℕ) → used_entries (t.table Dir) dir
      → (list : List ℕ) × IsChildList (tables_without t kind e xs us) kind dir list
  listed_here dir used =
      ⊎_elim (λ (same : dir ≡ (t.table kind).parent e). own dir same)
      (λ (differs : dir ≢ (t.table kind).parent e). another dir used differs)
      (cases_eq dir ((t.table kind).parent e))
    where
      leads_from : (dir from : ℕ) (list : List ℕ)
          → cut_head (t.first kind) ((t.table kind).parent e) (t.table kind).sibling us e dir ≡ from
          → LeadsToEnd (cut_next (t.table kind).sibling us e) from list
          → LeadsToEnd ((tables_without t kind e xs us).table kind).sibling
          ((tables_without t kind e xs us).first kind dir)
          list
      leads_from dir from list is leads =
          rw (at_kind-here kind (table_without (t.table kind) e xs us) t.table)
          (rw (at_kind-here kind (cut_head (t.first kind) ((t.table kind).parent e)
          (t.table kind).sibling us e) t.first)
          (subst (λ (n : ℕ). LeadsToEnd (cut_next (t.table kind).sibling us e) n list) (sym is) leads))

      own : (dir : ℕ) → dir ≡ (t.table kind).parent e
          → (list : List ℕ) × IsChildList (tables_without t kind e xs us) kind dir list
      own dir same = (
        us ++ child_cut.behind,
        record {
          leads = leads_from dir (cut_from (t.table kind).sibling (t.first kind ((t.table kind).parent e)) us e)
              (us ++ child_cut.behind)
              (rw same (cut_head-here (t.first kind) ((t.table kind).parent e) (t.table kind).sibling us e))
              (cut_leads (t.table kind).sibling (t.first kind
              ((t.table kind).parent e)) us e child_cut.behind child_cut.leads);
          children = λ f within. child_still kind dir f
              (λ here is. cut_out (t.table kind).sibling (t.first kind
              ((t.table kind).parent e)) child_list.0 us e child_cut
              found.in_directory some (subst (λ (n : ℕ). Contains (us ++ child_cut.behind) n) is within))
              (rw same (child_list.1.children f (cut_was (t.table kind).sibling
              (t.first kind ((t.table kind).parent e)) child_list.0 us e child_cut found.in_directory some f within)));
          all = λ f child. cut_left (t.table kind).sibling (t.first kind
              ((t.table kind).parent e)) child_list.0 us e child_cut
              found.in_directory some f
              (child_list.1.all f (rw same at (child_was kind dir f child)))
              (used_not_of kind f refl child.entry.used);
        },
      )

      another : (dir : ℕ) → used_entries (t.table Dir) dir → dir ≢ (t.table kind).parent e
          → (list : List ℕ) × IsChildList (tables_without t kind e xs us) kind dir list
      another dir used differs =
          let old = rules.listed kind dir used in (
            old.0,
            record {
              leads = leads_from dir (t.first kind dir) old.0
                  (cut_head-there (t.first kind) ((t.table kind).parent e) dir (t.table kind).sibling us e differs)
                  (leads_kept (t.table kind).sibling (cut_next (t.table kind).sibling us e) (t.first kind dir) old.0 0
                  (λ f within. cut_other (t.table kind).sibling us e f
                  (λ before. differs (sym (old.1.children f within).parent ∙ (before_in_directory f before).parent)))
                  old.1.leads);
              children = λ f within. child_still kind dir f
                  (λ here is. differs (sym (old.1.children f within).parent ∙ ap (t.table kind).parent is))
                  (old.1.children f within);
              all = λ f child. old.1.all f (child_was kind dir f child);
            },
          )

  listed_after : (other : EntryKind) (dir : ℕ) → used_entries ((tables_without t kind e xs us).table Dir) dir
      → (list : List ℕ) × IsChildList (tables_without t kind e xs us) other dir list
  listed_after other dir used =
      let was = used_was_of Dir dir used in
      ⊎_elim
      (λ (same : kind ≡ other).
      subst (λ (k : EntryKind). (list : List ℕ) × IsChildList (tables_without t kind e xs us) k dir list) same
      (listed_here dir was))
      (λ (differs : kind ≢ other). listed_other other dir differs was) (kind_cases kind other)

  -- all rules hold
  pub removed_orderly : IsOrderly (tables_without t kind e xs us)
  removed_orderly = record {
    freed = at_kind-reads HasFreedList kind (table_without (t.table kind) e xs us) t.table freed_after
        (λ other differs. rules.freed other);
    placed = placed_after;
    listed = listed_after;
    names_apart = at_kind-reads HasApartNames kind (table_without (t.table kind) e xs us) t.table
        (λ f g one other. rules.names_apart kind f g (record { used = used_was f one.used; other = one.other })
        (record { used = used_was g other.used; other = other.other }))
        (λ other differs. rules.names_apart other);
    buckets = at_kind-reads HasBucketLists kind (table_without (t.table kind) e xs us) t.table bucket_after
        (λ other differs. rules.buckets other);
  }

  -- one entry less is used, and nothing else is another
  pub removed_lacks : LacksOne t (tables_without t kind e xs us) kind e
  removed_lacks = record {
    was = used_was_of;
    gone = λ used. used_not_of kind e refl used refl;
    still = used_still_of;
    parent = parent_of;
    name = name_of;
    start = refl;
    wide = refl;
  }

-- the four words make the tables those without the entry
without_table : (t : Tables) (kind : EntryKind) (e : ℕ) (xs us : List ℕ) (other : EntryKind)
    → (tables_after t (removal_edits t kind e xs us)).table other ≡ (tables_without t kind e xs us).table other
without_table t Dir e [] [] Dir = refl
without_table t Dir e [] [] File = refl
without_table t Dir e [] (u ∷ us) Dir = refl
without_table t Dir e [] (u ∷ us) File = refl
without_table t Dir e (x ∷ xs) [] Dir = refl
without_table t Dir e (x ∷ xs) [] File = refl
without_table t Dir e (x ∷ xs) (u ∷ us) Dir = refl
without_table t Dir e (x ∷ xs) (u ∷ us) File = refl
without_table t File e [] [] Dir = refl
without_table t File e [] [] File = refl
without_table t File e [] (u ∷ us) Dir = refl
without_table t File e [] (u ∷ us) File = refl
without_table t File e (x ∷ xs) [] Dir = refl
without_table t File e (x ∷ xs) [] File = refl
without_table t File e (x ∷ xs) (u ∷ us) Dir = refl
without_table t File e (x ∷ xs) (u ∷ us) File = refl

without_first : (t : Tables) (kind : EntryKind) (e : ℕ) (xs us : List ℕ) (other : EntryKind) (dir : ℕ)
    → (tables_after t (removal_edits t kind e xs us)).first other dir ≡ (tables_without t kind e xs us).first other dir
without_first t Dir e [] [] Dir dir = refl
without_first t Dir e [] [] File dir = refl
without_first t Dir e [] (u ∷ us) Dir dir = refl
without_first t Dir e [] (u ∷ us) File dir = refl
without_first t Dir e (x ∷ xs) [] Dir dir = refl
without_first t Dir e (x ∷ xs) [] File dir = refl
without_first t Dir e (x ∷ xs) (u ∷ us) Dir dir = refl
without_first t Dir e (x ∷ xs) (u ∷ us) File dir = refl
without_first t File e [] [] Dir dir = refl
without_first t File e [] [] File dir = refl
without_first t File e [] (u ∷ us) Dir dir = refl
without_first t File e [] (u ∷ us) File dir = refl
without_first t File e (x ∷ xs) [] Dir dir = refl
without_first t File e (x ∷ xs) [] File dir = refl
without_first t File e (x ∷ xs) (u ∷ us) Dir dir = refl
without_first t File e (x ∷ xs) (u ∷ us) File dir = refl

without_start : (t : Tables) (kind : EntryKind) (e : ℕ) (xs us : List ℕ) (f : ℕ)
    → (tables_after t (removal_edits t kind e xs us)).start f ≡ t.start f
without_start t Dir e [] [] f = refl
without_start t Dir e [] (u ∷ us) f = refl
without_start t Dir e (x ∷ xs) [] f = refl
without_start t Dir e (x ∷ xs) (u ∷ us) f = refl
without_start t File e [] [] f = refl
without_start t File e [] (u ∷ us) f = refl
without_start t File e (x ∷ xs) [] f = refl
without_start t File e (x ∷ xs) (u ∷ us) f = refl

without_wide : (t : Tables) (kind : EntryKind) (e : ℕ) (xs us : List ℕ) (f : ℕ)
    → (tables_after t (removal_edits t kind e xs us)).wide f ≡ t.wide f
without_wide t Dir e [] [] f = refl
without_wide t Dir e [] (u ∷ us) f = refl
without_wide t Dir e (x ∷ xs) [] f = refl
without_wide t Dir e (x ∷ xs) (u ∷ us) f = refl
without_wide t File e [] [] f = refl
without_wide t File e [] (u ∷ us) f = refl
without_wide t File e (x ∷ xs) [] f = refl
without_wide t File e (x ∷ xs) (u ∷ us) f = refl

pub removal_after : (t : Tables) (kind : EntryKind) (e : ℕ) (xs us : List ℕ)
    → tables_after t (removal_edits t kind e xs us) ≡ tables_without t kind e xs us
removal_after t kind e xs us =
    tables_same (tables_after t (removal_edits t kind e xs us)) (tables_without t kind e xs us)
    (without_table t kind e xs us) (without_first t kind e xs us) (without_start t kind e xs us)
    (without_wide t kind e xs us)
