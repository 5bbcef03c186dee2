-- The rules hold of tables with one entry more.
use Rattle.std.proofs.Common.{◌≡◌, ◌≢◌, ◌⊎◌, ℕ, zero, suc, ◌<◌, ◌≤◌, List, [], ◌∷◌, ◌++◌, map, reverse, refl, sym}
use Rattle.std.proofs.Common.{◌∙◌, ap, subst, arith, inl, inr, ⊎_elim, length-append}
use Rattle.std.specs.List.{All, Contains}
use Rattle.std.proofs.lemmas.Bool.{cases_eq}
use Rattle.std.proofs.lemmas.List.Elements.{All-weaker, Contains-append_cases}
use Rattle.entry_tables.specs.declared.table.EntryKind.{EntryKind}
use Rattle.entry_tables.specs.declared.table.EntryKind.TheVariants.{Dir, File}
use Rattle.entry_tables.specs.Kinds.{IsRoot, least_freed}
use Rattle.entry_tables.specs.Hash.{bucket_number}
use Rattle.entry_tables.specs.Tables.{Table, Tables}
use Rattle.entry_tables.specs.Links.{LeadsTo, LeadsToEnd}
use Rattle.entry_tables.specs.Used.{freed_entries, used_entries, named_entries, children_of, dir_path}
use Rattle.entry_tables.specs.Rules.{CanBeFreed, IsFreedList, HasFreedList, IsPlacedEntry, IsChildList, HasApartNames}
use Rattle.entry_tables.specs.Rules.{bucket_of, StandsIn, IsBucketList, HasBucketLists, IsOrderly}
use Rattle.entry_tables.specs.Words.{with_at}
use Rattle.entry_tables.proofs.EntryLemmas.{least_some}
use Rattle.entry_tables.proofs.LinkLemmas.{Contains-head, Contains-tail, linked_apart, whole_front}
use Rattle.entry_tables.proofs.WordLemmas.{at_kind-reads}
use Rattle.entry_additions.specs.declared.entry.NewEntry.{NewEntry}
use Rattle.entry_additions.specs.Added.{firsts_new, field_new, bucket_for, table_added, tables_added, CanAdd}
use Rattle.entry_additions.specs.Gains.{GainsOne}
use Rattle.entry_changes.proofs.CutLemmas.{with_at-here, with_at-there, leads_kept}
use Rattle.entry_changes.proofs.RemovedLemmas.{kind_cases, at_kind-here}

-- an entry of a list is its first, or one of the rest
pub Contains-cases : (x : ℕ) (xs : List ℕ) (f : ℕ) → Contains (x ∷ xs) f → (f ≡ x) ⊎ Contains xs f
Contains-cases x xs f (zero, less, is) = inl (sym is)
Contains-cases x xs f (suc k, less, is) = inr (k, omega (arith, less), is)

Contains-none : (f : ℕ) → ¬ Contains [] f
Contains-none f within = omega (arith, within.1)

map_kept : (f g : ℕ → List ℕ) (xs : List ℕ) → ((x : ℕ) → Contains xs x → g x ≡ f x) → map g xs ≡ map f xs
map_kept f g [] same = refl
map_kept f g (x ∷ xs) same =
    let first : g x ≡ f x = same x (Contains-head x xs) in
    let rest : map g xs ≡ map f xs = map_kept f g xs (λ y within. same y (Contains-tail x xs y within)) in
    cc

-- what a new directory's lists begin with, and the others
firsts-here : (kind : EntryKind) (e : ℕ) (first : EntryKind → ℕ → ℕ) (other : EntryKind) → kind ≡ Dir
    → firsts_new kind e first other e ≡ 0
firsts-here Dir e first other is = with_at-here e 0 (first other)
firsts-here File e first other is = cc

firsts-there : (kind : EntryKind) (e : ℕ) (first : EntryKind → ℕ → ℕ) (other : EntryKind) (dir : ℕ)
    → (kind ≡ Dir → dir ≢ e) → firsts_new kind e first other dir ≡ first other dir
firsts-there Dir e first other dir apart = with_at-there e dir 0 (first other) (apart refl)
firsts-there File e first other dir apart = refl

field-here : (kind : EntryKind) (e value : ℕ) (f : ℕ → ℕ) → kind ≡ File → field_new kind e value f e ≡ value
field-here Dir e value f is = cc
field-here File e value f is = with_at-here e value f

field-there : (kind : EntryKind) (e value : ℕ) (f : ℕ → ℕ) (x : ℕ) → (kind ≡ File → x ≢ e)
    → field_new kind e value f x ≡ f x
field-there Dir e value f x apart = refl
field-there File e value f x apart = with_at-there e x value f (apart refl)

root_least : (kind : EntryKind) (e : ℕ) → least_freed kind ≤ e → ¬ IsRoot kind e
root_least Dir e least root = omega (arith, least, root)
root_least File e least root = root

-- An entry is taken that is not used: the freed ones but it stay freed, and the numbers that were ever used stay so.
pub record Taking (kind : EntryKind) (t : Table) (e count freed : ℕ) : Type 0 where
  pub old : List ℕ
  pub old_is : IsFreedList kind t old
  pub rest : List ℕ
  pub leads : LeadsToEnd t.link freed rest
  pub inside : All (CanBeFreed kind t) rest
  pub least : least_freed kind ≤ e
  pub below : e < count
  pub more : t.count ≤ count
  pub fewer : (f : ℕ) → f < count → f ≢ e → f < t.count
  pub left : (f : ℕ) → Contains old f → f ≢ e → Contains rest f
  pub was : (f : ℕ) → Contains rest f → Contains old f
  pub apart : ¬ Contains rest e
  pub fresh : ¬ used_entries t e

module _ (t : Tables) (rules : IsOrderly t) (kind : EntryKind) (e count freed : ℕ) (new : NewEntry)
    (can : CanAdd t kind new.parent new.name.0) (taking : Taking kind (t.table kind) e count freed) where
  some : e ≢ 0
  some nothing = omega (arith, taking.least, least_some kind, nothing)

  -- the links after
  link_after : (f : ℕ) → f ≢ 0 → f ≢ e
      → (table_added (t.table kind) e count freed (t.first kind new.parent) new).link f ≡ (t.table kind).link f
  link_after f not_zero other =
      with_at-there 0 f freed (with_at e ((t.table kind).head (bucket_for (t.table kind) new)) (t.table kind).link)
      not_zero
      ∙ with_at-there e f ((t.table kind).head (bucket_for (t.table kind) new)) (t.table kind).link other

  link_e : (table_added (t.table kind) e count freed (t.first kind new.parent) new).link e
      ≡ (t.table kind).head (bucket_for (t.table kind) new)
  link_e =
      with_at-there 0 e freed (with_at e ((t.table kind).head (bucket_for (t.table kind) new)) (t.table kind).link) some
      ∙ with_at-here e ((t.table kind).head (bucket_for (t.table kind) new)) (t.table kind).link

  -- the freed entries after
  freed_leads : freed_entries (table_added (t.table kind) e count freed (t.first kind new.parent) new) taking.rest
  freed_leads =
      rw (with_at-here 0 freed
      (with_at e ((t.table kind).head (bucket_for (t.table kind) new)) (t.table kind).link))
      (leads_kept (t.table kind).link
      (table_added (t.table kind) e count freed (t.first kind new.parent) new).link freed taking.rest 0
      (λ f within. link_after f
      (λ nothing. linked_apart (t.table kind).link freed taking.rest taking.leads
      (subst (λ (n : ℕ). Contains taking.rest n) nothing within))
      (λ same. taking.apart (subst (λ (n : ℕ). Contains taking.rest n) same within)))
      taking.leads)

  freed_after_is : HasFreedList kind (table_added (t.table kind) e count freed (t.first kind new.parent) new)
  freed_after_is = (
    taking.rest,
    record {
      leads = freed_leads;
      inside = All-weaker (CanBeFreed kind (t.table kind))
          (CanBeFreed kind (table_added (t.table kind) e count freed (t.first kind new.parent) new))
          (λ f is. (is.0, omega (arith, is.1, taking.more))) taking.rest taking.inside;
    },
  )

  only_rest : (list : List ℕ) (f : ℕ)
      → freed_entries (table_added (t.table kind) e count freed (t.first kind new.parent) new) list → Contains list f
      → Contains taking.rest f
  only_rest list f leads within =
      let is : list ≡ taking.rest ++ [] = whole_front
      (table_added (t.table kind) e count freed (t.first kind new.parent) new).link
      ((table_added (t.table kind) e count freed (t.first kind new.parent) new).link 0) taking.rest list freed_leads
      leads in
      ⊎_elim (λ (here : Contains taking.rest f). here) (λ (none : Contains [] f). absurd (Contains-none f none))
      (Contains-append_cases taking.rest [] f (subst (λ (l : List ℕ). Contains l f) is within))

  only_old : (list : List ℕ) (f : ℕ) → freed_entries (t.table kind) list → Contains list f → Contains taking.old f
  only_old list f leads within =
      let is : list ≡ taking.old ++ [] = whole_front (t.table kind).link ((t.table kind).link 0) taking.old list
      taking.old_is.leads leads in
      ⊎_elim (λ (here : Contains taking.old f). here) (λ (none : Contains [] f). absurd (Contains-none f none))
      (Contains-append_cases taking.old [] f (subst (λ (l : List ℕ). Contains l f) is within))

  -- used are the same entries, and it
  used_was : (f : ℕ) → f ≢ e
      → used_entries (table_added (t.table kind) e count freed (t.first kind new.parent) new) f
      → used_entries (t.table kind) f
  used_was f other used = record {
    some = used.some;
    below = taking.fewer f used.below other;
    kept = λ list leads within.
        used.kept taking.rest freed_leads (taking.left f (only_old list f leads within) other);
  }

  used_still : (f : ℕ) → used_entries (t.table kind) f
      → used_entries (table_added (t.table kind) e count freed (t.first kind new.parent) new) f
  used_still f used = record {
    some = used.some;
    below = omega (arith, used.below, taking.more);
    kept = λ list leads within.
        used.kept taking.old taking.old_is.leads (taking.was f (only_rest list f leads within));
  }

  used_here : used_entries (table_added (t.table kind) e count freed (t.first kind new.parent) new) e
  used_here = record {
    some = omega (arith, taking.least, least_some kind);
    below = taking.below;
    kept = λ list leads within. taking.apart (only_rest list e leads within);
  }

  -- parents, names and buckets of the others
  parent_there : (f : ℕ) → f ≢ e
      → (table_added (t.table kind) e count freed (t.first kind new.parent) new).parent f ≡ (t.table kind).parent f
  parent_there f other = with_at-there e f new.parent (t.table kind).parent other

  name_there : (f : ℕ) → f ≢ e
      → (table_added (t.table kind) e count freed (t.first kind new.parent) new).name f ≡ (t.table kind).name f
  name_there f other = with_at-there e f new.name.0 (t.table kind).name other

  parent_here : (table_added (t.table kind) e count freed (t.first kind new.parent) new).parent e ≡ new.parent
  parent_here = with_at-here e new.parent (t.table kind).parent

  name_here : (table_added (t.table kind) e count freed (t.first kind new.parent) new).name e ≡ new.name.0
  name_here = with_at-here e new.name.0 (t.table kind).name

  same_bucket : (parent other_parent : ℕ) (name other_name : List ℕ) (buckets : ℕ) → parent ≡ other_parent
      → name ≡ other_name → bucket_number parent name buckets ≡ bucket_number other_parent other_name buckets
  same_bucket parent other_parent name other_name buckets parents names =
      ap (λ (p : ℕ). bucket_number p name buckets) parents
      ∙ ap (λ (n : List ℕ). bucket_number other_parent n buckets) names

  bucket_there : (f : ℕ) → f ≢ e
      → bucket_of (table_added (t.table kind) e count freed (t.first kind new.parent) new) f
      ≡ bucket_of (t.table kind) f
  bucket_there f other =
      same_bucket _ _ _ _ (t.table kind).buckets (parent_there f other) (name_there f other)

  bucket_here : bucket_of (table_added (t.table kind) e count freed (t.first kind new.parent) new) e
      ≡ bucket_for (t.table kind) new
  bucket_here = same_bucket _ _ _ _ (t.table kind).buckets parent_here name_here

  -- an entry of a list of used ones is not the new one, nor 0
  old_used : (f : ℕ) → used_entries (t.table kind) f → f ≢ e
  old_used f used same = taking.fresh (subst (λ (n : ℕ). used_entries (t.table kind) n) same used)

  named_was : (f : ℕ) → f ≢ e
      → named_entries kind (table_added (t.table kind) e count freed (t.first kind new.parent) new) f
      → named_entries kind (t.table kind) f
  named_was f other named = record { used = used_was f other named.used; other = named.other }

  -- a bucket's list as it was
  old_leads : (bucket : ℕ) (list : List ℕ) → IsBucketList kind (t.table kind) bucket list
      → LeadsToEnd (table_added (t.table kind) e count freed (t.first kind new.parent) new).link
      ((t.table kind).head bucket) list
  old_leads bucket list is =
      leads_kept (t.table kind).link (table_added (t.table kind) e count freed (t.first kind new.parent) new).link
      ((t.table kind).head bucket) list 0
      (λ f within. link_after f
      (λ nothing. linked_apart (t.table kind).link ((t.table kind).head bucket) list is.leads
      (subst (λ (n : ℕ). Contains list n) nothing within))
      (old_used f (is.entries f within).used)) is.leads

  old_stands : (bucket f : ℕ) → StandsIn kind (t.table kind) bucket f
      → StandsIn kind (table_added (t.table kind) e count freed (t.first kind new.parent) new) bucket f
  old_stands bucket f stands = record {
    used = used_still f stands.used;
    own = λ other. bucket_there f (old_used f stands.used) ∙ stands.own other;
    root = stands.root;
  }

  bucket_after : (bucket : ℕ) → bucket < (t.table kind).buckets
      → (list : List ℕ) × IsBucketList kind
      (table_added (t.table kind) e count freed (t.first kind new.parent) new) bucket list
  bucket_after bucket below =
      ⊎_elim (λ (same : bucket ≡ bucket_for (t.table kind) new). own same)
      (λ (differs : bucket ≢ bucket_for (t.table kind) new). another differs)
      (cases_eq bucket (bucket_for (t.table kind) new))
    where
      old : (list : List ℕ) × IsBucketList kind (t.table kind) bucket list
      old = rules.buckets kind bucket below

      listed : (f : ℕ) → f ≢ e
          → named_entries kind (table_added (t.table kind) e count freed (t.first kind new.parent) new) f
          → bucket_of (table_added (t.table kind) e count freed (t.first kind new.parent) new) f ≡ bucket
          → Contains old.0 f
      listed f other named is = old.1.all f (named_was f other named) (sym (bucket_there f other) ∙ is)

      own : bucket ≡ bucket_for (t.table kind) new → (list : List ℕ) × IsBucketList kind
          (table_added (t.table kind) e count freed (t.first kind new.parent) new) bucket list
      own same = (
        e ∷ old.0,
        record {
          leads = (
            rw same (with_at-here (bucket_for (t.table kind) new) e (t.table kind).head),
            some,
            rw link_e (subst (λ (b : ℕ). LeadsToEnd
                (table_added (t.table kind) e count freed (t.first kind new.parent) new).link
                ((t.table kind).head b) old.0) same (old_leads bucket old.0 old.1)),
          );
          entries = λ f within. ⊎_elim
              (λ (here : f ≡ e). subst (λ (n : ℕ). StandsIn kind
              (table_added (t.table kind) e count freed (t.first kind new.parent) new) bucket n) (sym here)
              (record {
                used = used_here;
                own = λ other. bucket_here ∙ sym same;
                root = λ root. absurd (root_least kind e taking.least root);
              }))
              (λ (there : Contains old.0 f). old_stands bucket f (old.1.entries f there))
              (Contains-cases e old.0 f within);
          all = λ f named is. ⊎_elim
              (λ (here : f ≡ e). subst (λ (n : ℕ). Contains (e ∷ old.0) n) (sym here) (Contains-head e old.0))
              (λ (other : f ≢ e). Contains-tail e old.0 f (listed f other named is)) (cases_eq f e);
        },
      )

      another : bucket ≢ bucket_for (t.table kind) new → (list : List ℕ) × IsBucketList kind
          (table_added (t.table kind) e count freed (t.first kind new.parent) new) bucket list
      another differs = (
        old.0,
        record {
          leads = rw (with_at-there (bucket_for (t.table kind) new) bucket e (t.table kind).head differs)
              (old_leads bucket old.0 old.1);
          entries = λ f within. old_stands bucket f (old.1.entries f within);
          all = λ f named is. ⊎_elim
              (λ (here : f ≡ e). absurd (differs (sym is
              ∙ ap (bucket_of (table_added (t.table kind) e count freed (t.first kind new.parent) new)) here
              ∙ bucket_here)))
              (λ (other : f ≢ e). listed f other named is) (cases_eq f e);
        },
      )

  -- no two entries have one parent and name
  names_after : HasApartNames kind (table_added (t.table kind) e count freed (t.first kind new.parent) new)
  names_after f g one another parents names =
      ⊎_elim
      (λ (f_is : f ≡ e). ⊎_elim (λ (g_is : g ≡ e). f_is ∙ sym g_is)
      (λ (g_other : g ≢ e). absurd (can.free g (named_was g g_other another)
      (sym (parent_there g g_other) ∙ sym parents
      ∙ ap (table_added (t.table kind) e count freed (t.first kind new.parent) new).parent f_is ∙ parent_here)
      (sym (name_there g g_other) ∙ sym names
      ∙ ap (table_added (t.table kind) e count freed (t.first kind new.parent) new).name f_is ∙ name_here)))
      (cases_eq g e))
      (λ (f_other : f ≢ e). ⊎_elim
      (λ (g_is : g ≡ e). absurd (can.free f (named_was f f_other one)
      (sym (parent_there f f_other) ∙ parents
      ∙ ap (table_added (t.table kind) e count freed (t.first kind new.parent) new).parent g_is ∙ parent_here)
      (sym (name_there f f_other) ∙ names
      ∙ ap (table_added (t.table kind) e count freed (t.first kind new.parent) new).name g_is ∙ name_here)))
      (λ (g_other : g ≢ e). rules.names_apart kind f g (named_was f f_other one) (named_was g g_other another)
      (sym (parent_there f f_other) ∙ parents ∙ parent_there g g_other)
      (sym (name_there f f_other) ∙ names ∙ name_there g g_other))
      (cases_eq g e))
      (cases_eq f e)

  -- what holds of both tables, by kind
  used_was_of : (other : EntryKind) (f : ℕ) → (kind ≡ other → f ≢ e)
      → used_entries ((tables_added t kind e count freed new).table other) f → used_entries (t.table other) f
  used_was_of other f =
      at_kind-reads (λ k table. (kind ≡ k → f ≢ e) → used_entries table f → used_entries (t.table k) f) kind
      (table_added (t.table kind) e count freed (t.first kind new.parent) new) t.table
      (λ differs. used_was f (differs refl)) (λ k differs apart used. used) other

  used_still_of : (other : EntryKind) (f : ℕ) → used_entries (t.table other) f
      → used_entries ((tables_added t kind e count freed new).table other) f
  used_still_of other f =
      at_kind-reads (λ k table. used_entries (t.table k) f → used_entries table f) kind
      (table_added (t.table kind) e count freed (t.first kind new.parent) new) t.table
      (used_still f) (λ k differs used. used) other

  parent_of : (other : EntryKind) (f : ℕ) → (kind ≡ other → f ≢ e)
      → ((tables_added t kind e count freed new).table other).parent f ≡ (t.table other).parent f
  parent_of other f =
      at_kind-reads (λ k table. (kind ≡ k → f ≢ e) → table.parent f ≡ (t.table k).parent f) kind
      (table_added (t.table kind) e count freed (t.first kind new.parent) new) t.table
      (λ differs. parent_there f (differs refl)) (λ k differs apart. refl) other

  name_of : (other : EntryKind) (f : ℕ) → (kind ≡ other → f ≢ e)
      → ((tables_added t kind e count freed new).table other).name f ≡ (t.table other).name f
  name_of other f =
      at_kind-reads (λ k table. (kind ≡ k → f ≢ e) → table.name f ≡ (t.table k).name f) kind
      (table_added (t.table kind) e count freed (t.first kind new.parent) new) t.table
      (λ differs. name_there f (differs refl)) (λ k differs apart. refl) other

  mine : (tables_added t kind e count freed new).table kind
      ≡ table_added (t.table kind) e count freed (t.first kind new.parent) new
  mine = at_kind-here kind (table_added (t.table kind) e count freed (t.first kind new.parent) new) t.table

  -- a used entry is not the new one
  old_apart : (other : EntryKind) (f : ℕ) → used_entries (t.table other) f → kind ≡ other → f ≢ e
  old_apart other f used same is =
      taking.fresh (subst (λ (k : EntryKind). used_entries (t.table k) e) (sym same)
      (subst (λ (n : ℕ). used_entries (t.table other) n) is used))

  -- an entry of the tables is the new one, or another
  new_or_other : (other : EntryKind) (f : ℕ) → ((kind ≡ other) × (f ≡ e)) ⊎ (kind ≡ other → f ≢ e)
  new_or_other other f =
      ⊎_elim (λ (same : kind ≡ other). ⊎_elim (λ (is : f ≡ e). inl (same, is)) (λ (differs : f ≢ e). inr (λ k. differs))
      (cases_eq f e))
      (λ (differs : kind ≢ other). inr (λ same. absurd (differs same))) (kind_cases kind other)

  -- a directory's path
  rising_used : (dir : ℕ) (rising : List ℕ) → used_entries (t.table Dir) dir
      → LeadsTo (t.table Dir).parent dir rising 1 → ¬ Contains rising 1 → (x : ℕ) → Contains rising x
      → used_entries (t.table Dir) x
  rising_used dir [] used leads below x within = absurd (Contains-none x within)
  rising_used dir (y ∷ ys) used leads below x within =
      let here : used_entries (t.table Dir) y = subst (λ (n : ℕ). used_entries (t.table Dir) n) leads.0 used in
      let named : named_entries Dir (t.table Dir) y = record {
        used = here;
        other = λ root. below (subst (λ (n : ℕ). Contains (y ∷ ys) n) root (Contains-head y ys));
      } in
      ⊎_elim (λ (first : x ≡ y). subst (λ (n : ℕ). used_entries (t.table Dir) n) (sym first) here)
      (λ (later : Contains ys x). rising_used ((t.table Dir).parent y) ys (rules.placed Dir y named).parent leads.2
      (λ within_one. below (Contains-tail y ys 1 within_one)) x later)
      (Contains-cases y ys x within)

  dir_kept : (dir : ℕ) (names : List (List ℕ)) → used_entries (t.table Dir) dir → dir_path (t.table Dir) dir names
      → dir_path ((tables_added t kind e count freed new).table Dir) dir names
  dir_kept dir names used path =
      let apart = λ (x : ℕ) (within : Contains path.rising x).
      old_apart Dir x (rising_used dir path.rising used path.leads path.below_root x within) in
      record {
        rising = path.rising;
        leads = leads_kept (t.table Dir).parent ((tables_added t kind e count freed new).table Dir).parent dir
            path.rising 1 (λ x within. parent_of Dir x (apart x within)) path.leads;
        below_root = path.below_root;
        names = path.names ∙ ap reverse (sym (map_kept (t.table Dir).name
            ((tables_added t kind e count freed new).table Dir).name path.rising
            (λ x within. name_of Dir x (apart x within))));
      }

  placed_new : IsPlacedEntry (tables_added t kind e count freed new) kind e
  placed_new =
      let parent_is : ((tables_added t kind e count freed new).table kind).parent e ≡ new.parent =
      ap (λ (table : Table). table.parent e) mine ∙ parent_here in
      let name_is : ((tables_added t kind e count freed new).table kind).name e ≡ new.name.0 =
      ap (λ (table : Table). table.name e) mine ∙ name_here in
      record {
        parent = subst (λ (p : ℕ). used_entries ((tables_added t kind e count freed new).table Dir) p) (sym parent_is)
            (used_still_of Dir new.parent can.directory);
        named = λ empty. can.named (sym name_is ∙ empty);
        path = (
          can.steps.0 ++ new.name.0 ∷ [],
          record {
            parents_path = can.steps.0;
            parent = subst
                (λ (p : ℕ). dir_path ((tables_added t kind e count freed new).table Dir) p can.steps.0)
                (sym parent_is) (dir_kept new.parent can.steps.0 can.directory can.steps.1);
            names = ap (λ (n : List ℕ). can.steps.0 ++ n ∷ []) (sym name_is);
          },
          omega (arith, length-append can.steps.0 (new.name.0 ∷ []), can.steps.2),
        );
      }

  placed_old : (other : EntryKind) (f : ℕ) → (kind ≡ other → f ≢ e) → named_entries other (t.table other) f
      → IsPlacedEntry (tables_added t kind e count freed new) other f
  placed_old other f apart named =
      let was = rules.placed other f named in
      record {
        parent = subst (λ (p : ℕ). used_entries ((tables_added t kind e count freed new).table Dir) p)
            (sym (parent_of other f apart)) (used_still_of Dir ((t.table other).parent f) was.parent);
        named = λ empty. was.named (sym (name_of other f apart) ∙ empty);
        path = (
          was.path.0,
          record {
            parents_path = was.path.1.parents_path;
            parent = subst
                (λ (p : ℕ). dir_path ((tables_added t kind e count freed new).table Dir) p was.path.1.parents_path)
                (sym (parent_of other f apart))
                (dir_kept ((t.table other).parent f) was.path.1.parents_path was.parent was.path.1.parent);
            names = was.path.1.names
                ∙ ap (λ (n : List ℕ). was.path.1.parents_path ++ n ∷ []) (sym (name_of other f apart));
          },
          was.path.2,
        );
      }

  placed_after : (other : EntryKind) (f : ℕ)
      → named_entries other ((tables_added t kind e count freed new).table other) f
      → IsPlacedEntry (tables_added t kind e count freed new) other f
  placed_after other f named =
      ⊎_elim
      (λ (is : (kind ≡ other) × (f ≡ e)).
      subst (λ (k : EntryKind). IsPlacedEntry (tables_added t kind e count freed new) k f) is.0
      (subst (λ (n : ℕ). IsPlacedEntry (tables_added t kind e count freed new) kind n) (sym is.1) placed_new))
      (λ (apart : kind ≡ other → f ≢ e). placed_old other f apart
      (record { used = used_was_of other f apart named.used; other = named.other }))
      (new_or_other other f)

  -- where the lists of directories begin
  first_here : (tables_added t kind e count freed new).first kind new.parent ≡ e
  first_here =
      rw (at_kind-here kind (with_at new.parent e (firsts_new kind e t.first kind)) (firsts_new kind e t.first))
      (with_at-here new.parent e (firsts_new kind e t.first kind))

  first_there : (other : EntryKind) (dir : ℕ) → (kind ≡ other → dir ≢ new.parent)
      → (tables_added t kind e count freed new).first other dir ≡ firsts_new kind e t.first other dir
  first_there other dir =
      at_kind-reads (λ k first. (kind ≡ k → dir ≢ new.parent) → first dir ≡ firsts_new kind e t.first k dir) kind
      (with_at new.parent e (firsts_new kind e t.first kind)) (firsts_new kind e t.first)
      (λ differs. with_at-there new.parent dir e (firsts_new kind e t.first kind) (differs refl))
      (λ k differs apart. refl) other

  -- the new entry, and the others, as children
  new_child : (other : EntryKind) (dir f : ℕ) → kind ≡ other → f ≡ e
      → children_of (tables_added t kind e count freed new) other dir f → dir ≡ new.parent
  new_child other dir f same is child =
      sym child.parent
      ∙ (λ i. ((tables_added t kind e count freed new).table (sym same i)).parent (is i))
      ∙ ap (λ (table : Table). table.parent e) mine ∙ parent_here

  child_was : (other : EntryKind) (dir f : ℕ) → (kind ≡ other → f ≢ e)
      → children_of (tables_added t kind e count freed new) other dir f → children_of t other dir f
  child_was other dir f apart child = record {
    entry = record { used = used_was_of other f apart child.entry.used; other = child.entry.other };
    parent = sym (parent_of other f apart) ∙ child.parent;
  }

  child_still : (other : EntryKind) (dir f : ℕ) → children_of t other dir f
      → children_of (tables_added t kind e count freed new) other dir f
  child_still other dir f child = record {
    entry = record { used = used_still_of other f child.entry.used; other = child.entry.other };
    parent = parent_of other f (old_apart other f child.entry.used) ∙ child.parent;
  }

  child_here : children_of (tables_added t kind e count freed new) kind new.parent e
  child_here = record {
    entry = record {
      used = subst (λ (table : Table). used_entries table e) (sym mine) used_here;
      other = root_least kind e taking.least;
    };
    parent = ap (λ (table : Table). table.parent e) mine ∙ parent_here;
  }

  -- the siblings of old children
  sibling_there : (other : EntryKind) (f : ℕ) → (kind ≡ other → f ≢ e)
      → ((tables_added t kind e count freed new).table other).sibling f ≡ (t.table other).sibling f
  sibling_there other f =
      at_kind-reads (λ k table. (kind ≡ k → f ≢ e) → table.sibling f ≡ (t.table k).sibling f) kind
      (table_added (t.table kind) e count freed (t.first kind new.parent) new) t.table
      (λ differs. with_at-there e f (t.first kind new.parent) (t.table kind).sibling (differs refl))
      (λ k differs apart. refl) other

  siblings_kept : (other : EntryKind) (dir : ℕ) (list : List ℕ) → IsChildList t other dir list
      → LeadsToEnd ((tables_added t kind e count freed new).table other).sibling (t.first other dir) list
  siblings_kept other dir list is =
      leads_kept (t.table other).sibling ((tables_added t kind e count freed new).table other).sibling
      (t.first other dir) list 0
      (λ f within. sibling_there other f (old_apart other f (is.children f within).entry.used)) is.leads

  -- the directory that gains it
  listed_parent : (list : List ℕ) × IsChildList (tables_added t kind e count freed new) kind new.parent list
  listed_parent =
      let old = rules.listed kind new.parent can.directory in
      let next_is : ((tables_added t kind e count freed new).table kind).sibling e ≡ t.first kind new.parent =
      ap (λ (table : Table). table.sibling e) mine
      ∙ with_at-here e (t.first kind new.parent) (t.table kind).sibling in (
        e ∷ old.0,
        record {
          leads = (
            first_here,
            some,
            subst (λ (n : ℕ). LeadsToEnd ((tables_added t kind e count freed new).table kind).sibling n old.0)
                (sym next_is) (siblings_kept kind new.parent old.0 old.1),
          );
          children = λ f within. ⊎_elim
              (λ (here : f ≡ e). subst (λ (n : ℕ). children_of (tables_added t kind e count freed new) kind
              new.parent n) (sym here) child_here)
              (λ (there : Contains old.0 f). child_still kind new.parent f (old.1.children f there))
              (Contains-cases e old.0 f within);
          all = λ f child. ⊎_elim
              (λ (here : f ≡ e). subst (λ (n : ℕ). Contains (e ∷ old.0) n) (sym here) (Contains-head e old.0))
              (λ (other : f ≢ e). Contains-tail e old.0 f
              (old.1.all f (child_was kind new.parent f (λ same. other) child))) (cases_eq f e);
        },
      )

  -- a directory that was there, and gains none
  listed_old : (other : EntryKind) (dir : ℕ) → used_entries (t.table Dir) dir → (kind ≡ other → dir ≢ new.parent)
      → (list : List ℕ) × IsChildList (tables_added t kind e count freed new) other dir list
  listed_old other dir used apart =
      let old = rules.listed other dir used in
      let first_is : (tables_added t kind e count freed new).first other dir ≡ t.first other dir =
      first_there other dir apart ∙ firsts-there kind e t.first other dir (old_apart Dir dir used) in (
        old.0,
        record {
          leads = subst
              (λ (n : ℕ). LeadsToEnd ((tables_added t kind e count freed new).table other).sibling n old.0)
              (sym first_is) (siblings_kept other dir old.0 old.1);
          children = λ f within. child_still other dir f (old.1.children f within);
          all = λ f child. ⊎_elim
              (λ (is : (kind ≡ other) × (f ≡ e)). absurd (apart is.0 (new_child other dir f is.0 is.1 child)))
              (λ (differs : kind ≡ other → f ≢ e). old.1.all f (child_was other dir f differs child))
              (new_or_other other f);
        },
      )

  -- the new directory, which has no entries
  listed_new : (other : EntryKind) → kind ≡ Dir
      → (list : List ℕ) × IsChildList (tables_added t kind e count freed new) other e list
  listed_new other is_dir =
      let not_parent : new.parent ≢ e = old_apart Dir new.parent can.directory is_dir in (
        [],
        record {
          leads = first_there other e (λ same is. not_parent (sym is)) ∙ firsts-here kind e t.first other is_dir;
          children = λ f within. absurd (Contains-none f within);
          all = λ f child. ⊎_elim
              (λ (is : (kind ≡ other) × (f ≡ e)). absurd (not_parent (sym (new_child other e f is.0 is.1 child))))
              (λ (differs : kind ≡ other → f ≢ e).
              let was = child_was other e f differs child in
              absurd (old_apart Dir e (subst (λ (p : ℕ). used_entries (t.table Dir) p) was.parent
              (rules.placed other f was.entry).parent) is_dir refl))
              (new_or_other other f);
        },
      )

  listed_after : (other : EntryKind) (dir : ℕ)
      → used_entries ((tables_added t kind e count freed new).table Dir) dir
      → (list : List ℕ) × IsChildList (tables_added t kind e count freed new) other dir list
  listed_after other dir used =
      ⊎_elim
      (λ (is : (kind ≡ Dir) × (dir ≡ e)).
      subst (λ (d : ℕ). (list : List ℕ) × IsChildList (tables_added t kind e count freed new) other d list) (sym is.1)
      (listed_new other is.0))
      (λ (apart : kind ≡ Dir → dir ≢ e).
      let was = used_was_of Dir dir apart used in
      ⊎_elim
      (λ (same : kind ≡ other). ⊎_elim
      (λ (is : dir ≡ new.parent).
      subst (λ (k : EntryKind). (list : List ℕ) × IsChildList (tables_added t kind e count freed new) k dir list) same
      (subst (λ (d : ℕ). (list : List ℕ) × IsChildList (tables_added t kind e count freed new) kind d list) (sym is)
      listed_parent))
      (λ (differs : dir ≢ new.parent). listed_old other dir was (λ k. differs)) (cases_eq dir new.parent))
      (λ (differs : kind ≢ other). listed_old other dir was (λ same. absurd (differs same))) (kind_cases kind other))
      (new_or_other Dir dir)

  -- all rules hold
  pub added_orderly : IsOrderly (tables_added t kind e count freed new)
  added_orderly = record {
    freed = at_kind-reads HasFreedList kind
        (table_added (t.table kind) e count freed (t.first kind new.parent) new) t.table freed_after_is
        (λ other differs. rules.freed other);
    placed = placed_after;
    listed = listed_after;
    names_apart = at_kind-reads HasApartNames kind
        (table_added (t.table kind) e count freed (t.first kind new.parent) new) t.table names_after
        (λ other differs. rules.names_apart other);
    buckets = at_kind-reads HasBucketLists kind
        (table_added (t.table kind) e count freed (t.first kind new.parent) new) t.table bucket_after
        (λ other differs. rules.buckets other);
  }

  -- one entry more is used, and no other is another
  pub added_gains : GainsOne t (tables_added t kind e count freed new) kind e new
  added_gains = record {
    fresh = taking.fresh;
    used = child_here.entry.used;
    was = used_was_of;
    still = used_still_of;
    parent = parent_of;
    name = name_of;
    start = λ f apart. field-there kind e new.fields.start t.start f apart;
    wide = λ f apart. field-there kind e new.fields.wide t.wide f apart;
    its_parent = child_here.parent;
    its_name = ap (λ (table : Table). table.name e) mine ∙ name_here;
    its_start = λ is. field-here kind e new.fields.start t.start is;
    its_wide = λ is. field-here kind e new.fields.wide t.wide is;
  }
