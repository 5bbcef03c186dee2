-- Which entry is taken, and what the words make of the tables that are put behind it.
use Rattle.std.proofs.Common.{◌≡◌, ◌≢◌, ℕ, ◌+◌, ◌≤◌, List, [], ◌∷◌, refl, sym, ◌∙◌, ap, subst, arith, ⊎_elim}
use Rattle.std.specs.List.{Contains}
use Rattle.std.proofs.lemmas.Bool.{cases_eq, eq-eqb, ne_eqb}
use Rattle.std.proofs.lemmas.List.Elements.{All-nil, All-head, All-tail}
use Rattle.entry_tables.specs.declared.table.EntryKind.{EntryKind}
use Rattle.entry_tables.specs.declared.table.EntryKind.TheVariants.{Dir, File}
use Rattle.entry_tables.specs.declared.word.Edit.{Edit}
use Rattle.entry_tables.specs.declared.word.Word.TheVariants.{Head, Link, First, Count}
use Rattle.entry_tables.specs.Kinds.{least_freed}
use Rattle.entry_tables.specs.Tables.{Table, Tables}
use Rattle.entry_tables.specs.Links.{LeadsToEnd}
use Rattle.entry_tables.specs.Rules.{CanBeFreed, IsFreedList}
use Rattle.entry_tables.specs.Words.{with_at, tables_after}
use Rattle.entry_tables.proofs.LinkLemmas.{Contains-head, Contains-tail, nothing_left}
use Rattle.entry_tables.proofs.WordLemmas.{tables_same, fields_same, with_at-reads}
use Rattle.entry_changes.proofs.CutLemmas.{with_at-there, head_once}
use Rattle.entry_additions.specs.declared.entry.NewEntry.{NewEntry}
use Rattle.entry_additions.specs.Added.{taken_entry, count_after, freed_after, bucket_for, tables_put}
use Rattle.entry_additions.specs.Added.{tables_added, tables_with_new, addition_edits}
use Rattle.entry_additions.proofs.AddedLemmas.{Contains-cases, Taking}

-- the first freed entry is taken
first_taken : (kind : EntryKind) (t : Table) (list : List ℕ) → IsFreedList kind t list → t.link 0 ≢ 0
    → Taking kind t (t.link 0) t.count (t.link (t.link 0))
first_taken kind t [] is some = absurd (some is.leads)
first_taken kind t (x ∷ xs) is some =
    let here : t.link 0 ≡ x = is.leads.0 in
    let can = All-head (CanBeFreed kind t) x xs is.inside in
    record {
      old = x ∷ xs;
      old_is = is;
      rest = xs;
      leads = rw here is.leads.2;
      inside = All-tail (CanBeFreed kind t) x xs is.inside;
      least = omega (arith, here, can.0);
      below = omega (arith, here, can.1);
      more = omega arith;
      fewer = λ f below other. below;
      left = λ f within other. ⊎_elim (λ (first : f ≡ x). absurd (other (first ∙ sym here)))
          (λ (later : Contains xs f). later) (Contains-cases x xs f within);
      was = λ f within. Contains-tail x xs f within;
      apart = λ within. head_once t.link (t.link 0) x xs is.leads (subst (λ (n : ℕ). Contains xs n) here within);
      fresh = λ used. used.kept (x ∷ xs) is.leads
          (subst (λ (n : ℕ). Contains (x ∷ xs) n) (sym here) (Contains-head x xs));
    }

-- or the next number
next_taken : (kind : EntryKind) (t : Table) (list : List ℕ) → IsFreedList kind t list → t.link 0 ≡ 0
    → least_freed kind ≤ t.count → Taking kind t t.count (t.count + 1) 0
next_taken kind t list is none least =
    let empty : list ≡ [] = nothing_left t.link list (subst (λ (n : ℕ). LeadsToEnd t.link n list) none is.leads) in
    record {
      old = list;
      old_is = is;
      rest = [];
      leads = refl;
      inside = All-nil (CanBeFreed kind t);
      least = least;
      below = omega arith;
      more = omega arith;
      fewer = λ f below other. omega (arith, below, other);
      left = λ f within other. subst (λ (l : List ℕ). Contains l f) empty within;
      was = λ f within. absurd (omega (arith, within.1));
      apart = λ within. omega (arith, within.1);
      fresh = λ used. omega (arith, used.below);
    }

pub taken : (kind : EntryKind) (t : Table) (list : List ℕ) → IsFreedList kind t list → least_freed kind ≤ t.count
    → Taking kind t (taken_entry t) (count_after t) (freed_after t)
taken kind t list is least =
    ⊎_elim
    (λ (none : t.link 0 ≡ 0). rw (eq-eqb (t.link 0) 0 none) (next_taken kind t list is none least))
    (λ (some : t.link 0 ≢ 0). rw (ne_eqb (t.link 0) 0 some) (first_taken kind t list is some))
    (cases_eq (t.link 0) 0)

-- a new entry is written, and its two lists begin with it
abbrev pub tables_begun : Tables → EntryKind → ℕ → NewEntry → Tables
tables_begun t kind e new =
    tables_put t kind e new (t.first kind new.parent) ((t.table kind).head (bucket_for (t.table kind) new))

abbrev pub edits_with : Tables → EntryKind → ℕ → NewEntry → Edit → List Edit
edits_with t kind e new last =
    record { word = Head kind (bucket_for (t.table kind) new); value = e }
    ∷ record { word = First kind new.parent; value = e } ∷ last ∷ []

-- the words that are put behind a new entry make the tables those with it, where it was a freed one
module _ (t : Tables) (e freed : ℕ) (new : NewEntry) where
  first_table : (kind other : EntryKind) → (tables_after (tables_begun t kind e new)
      (edits_with t kind e new (record { word = Link kind 0; value = freed }))).table other
      ≡ (tables_added t kind e (t.table kind).count freed new).table other
  first_table Dir Dir = refl
  first_table Dir File = refl
  first_table File Dir = refl
  first_table File File = refl

  first_first : (kind other : EntryKind) (dir : ℕ) → (tables_after (tables_begun t kind e new)
      (edits_with t kind e new (record { word = Link kind 0; value = freed }))).first other dir
      ≡ (tables_added t kind e (t.table kind).count freed new).first other dir
  first_first Dir Dir dir = refl
  first_first Dir File dir = refl
  first_first File Dir dir = refl
  first_first File File dir = refl

  after_first : (kind : EntryKind) → tables_after (tables_begun t kind e new)
      (edits_with t kind e new (record { word = Link kind 0; value = freed }))
      ≡ tables_added t kind e (t.table kind).count freed new
  after_first Dir = tables_same _ _ (first_table Dir) (first_first Dir) (λ f. refl) (λ f. refl)
  after_first File = tables_same _ _ (first_table File) (first_first File) (λ f. refl) (λ f. refl)

-- and where it is the next number
module _ (t : Tables) (e count : ℕ) (new : NewEntry) (some : e ≢ 0) where
  next_link : (link : ℕ → ℕ) (head : ℕ) → link 0 ≡ 0 → (x : ℕ)
      → with_at e head link x ≡ with_at 0 0 (with_at e head link) x
  next_link link head none x =
      with_at-reads 0 x 0 (with_at e head link) (with_at e head link x)
      (λ zero. ap (with_at e head link) zero ∙ with_at-there e 0 head link (λ same. some (sym same)) ∙ none)
      (λ differs. refl)

  next_table : (kind other : EntryKind) → (t.table kind).link 0 ≡ 0 → (tables_after (tables_begun t kind e new)
      (edits_with t kind e new (record { word = Count kind; value = count }))).table other
      ≡ (tables_added t kind e count 0 new).table other
  next_table Dir Dir none = fields_same _ _ (record {
    count = refl;
    most = refl;
    buckets = refl;
    head = λ b. refl;
    parent = λ f. refl;
    name = λ f. refl;
    sibling = λ f. refl;
    link = next_link (t.table Dir).link ((t.table Dir).head (bucket_for (t.table Dir) new)) none;
  })
  next_table Dir File none = refl
  next_table File Dir none = refl
  next_table File File none = fields_same _ _ (record {
    count = refl;
    most = refl;
    buckets = refl;
    head = λ b. refl;
    parent = λ f. refl;
    name = λ f. refl;
    sibling = λ f. refl;
    link = next_link (t.table File).link ((t.table File).head (bucket_for (t.table File) new)) none;
  })

  next_first : (kind other : EntryKind) (dir : ℕ) → (tables_after (tables_begun t kind e new)
      (edits_with t kind e new (record { word = Count kind; value = count }))).first other dir
      ≡ (tables_added t kind e count 0 new).first other dir
  next_first Dir Dir dir = refl
  next_first Dir File dir = refl
  next_first File Dir dir = refl
  next_first File File dir = refl

  after_next : (kind : EntryKind) → (t.table kind).link 0 ≡ 0 → tables_after (tables_begun t kind e new)
      (edits_with t kind e new (record { word = Count kind; value = count }))
      ≡ tables_added t kind e count 0 new
  after_next Dir none =
      tables_same _ _ (λ other. next_table Dir other none) (next_first Dir) (λ f. refl) (λ f. refl)
  after_next File none =
      tables_same _ _ (λ other. next_table File other none) (next_first File) (λ f. refl) (λ f. refl)

-- the words of an addition do
pub addition_after : (t : Tables) (kind : EntryKind) (new : NewEntry) → taken_entry (t.table kind) ≢ 0
    → tables_after (tables_begun t kind (taken_entry (t.table kind)) new) (addition_edits t kind new.parent new.name.0)
    ≡ tables_with_new t kind new
addition_after t kind new some =
    ⊎_elim
    (λ (none : (t.table kind).link 0 ≡ 0).
    next_case none (rw (eq-eqb ((t.table kind).link 0) 0 none) at some))
    (λ (freed : (t.table kind).link 0 ≢ 0). rw (ne_eqb ((t.table kind).link 0) 0 freed)
    (after_first t ((t.table kind).link 0) ((t.table kind).link ((t.table kind).link 0)) new kind))
    (cases_eq ((t.table kind).link 0) 0)
  where
    next_case : (t.table kind).link 0 ≡ 0 → (t.table kind).count ≢ 0
        → tables_after (tables_begun t kind (taken_entry (t.table kind)) new)
        (addition_edits t kind new.parent new.name.0)
        ≡ tables_with_new t kind new
    next_case none counted = rw (eq-eqb ((t.table kind).link 0) 0 none)
        (after_next t (t.table kind).count ((t.table kind).count + 1) new counted kind none)
