-- Directories' and buckets' lists, as those of links.
use Rattle.std.proofs.Common.{◌≡◌, ◌⊎◌, ℕ, ◌+◌, ◌<◌, ◌≤◌, Option, Some, None, IfSome, List, []}
use Rattle.std.proofs.Common.{◌∷◌, ◌++◌, length, get_or, slice_index, inl, inr, refl, sym, ◌∙◌, ap, subst, arith}
use Rattle.std.proofs.Common.{length-append}
use Rattle.std.specs.List.{Contains, slice_get}
use Rattle.std.proofs.lemmas.Bool.{cases_eq, cases_lt}
use Rattle.std.proofs.lemmas.List.{get_or_push, get_or_append_left, get_or_past}
use Rattle.std.proofs.lemmas.Option.{slice_get-get_or}
use Rattle.entry_tables.specs.declared.table.EntryKind.{EntryKind}
use Rattle.entry_tables.specs.declared.table.EntryKind.TheVariants.{Dir, File}
use Rattle.entry_tables.specs.Kinds.{IsRoot}
use Rattle.entry_tables.specs.Tables.{Table, Tables}
use Rattle.entry_tables.specs.Links.{LeadsTo, LeadsToEnd}
use Rattle.entry_tables.specs.Used.{used_entries, named_entries, children_of}
use Rattle.entry_tables.specs.Rules.{IsChildList, IsBucketList, HasBucketLists, StandsIn, bucket_of}
use Rattle.entry_tables.specs.Fails.{IsBrokenBucket}
use Rattle.entry_tables.proofs.LinkLemmas.{Contains-head, Contains-tail}
use Rattle.entry_audit.specs.declared.owned.Link.{Link}
use Rattle.entry_audit.specs.declared.table.ReadEntry.{ReadEntry}
use Rattle.entry_audit.specs.declared.table.ReadTable.{ReadTable}
use Rattle.entry_audit.specs.Owned.{link_at, behind_link, behind_in, MayStandIn, MustStandIn, IsOwnedList}
use Rattle.entry_audit.specs.Read.{IsReadOf, IsReadTable}
use Rattle.entry_audit.specs.Placed.{HaveUsedParents}
use Rattle.entry_audit.specs.Listed.{AreChildHeads, IsChildLink, AreChildLinks, IsBucketLink}
use Rattle.entry_audit.specs.Listed.{AreBucketLinks}
use Rattle.entry_audit.proofs.OwnedLemmas.{must_may, none_within}

-- what was read of an entry
pub read_at : (kind : EntryKind) (t : Tables) (table : ReadTable) (items : List (Option ReadEntry)) (e : ℕ)
    → items ≡ table.entries.items → IsReadTable kind t table → e < length items
    → IsReadOf kind t e (get_or items e None)
read_at kind t table items e same is below =
    rw (slice_get-get_or items e None below) at
    (subst (λ (l : List (Option ReadEntry)). IfSome (slice_get l e) (IsReadOf kind t e)) (sym same) (is.entries e))

-- an entry past those that were read is not used
pub past_unused : (kind : EntryKind) (t : Tables) (table : ReadTable) (items : List (Option ReadEntry)) (n e : ℕ)
    → items ≡ table.entries.items → IsReadTable kind t table → length items ≤ n → n ≤ e
    → ¬ used_entries (t.table kind) e
past_unused kind t table items n e same is all past used =
    omega (arith, used.below, is.count, ap length same, all, past)

pub pushed_len : {A : Type 0} (xs ys : List A) (x : A) (n : ℕ) → ys ≡ xs ++ x ∷ [] → length xs ≡ n
    → length ys ≡ n + 1
pushed_len xs ys x n is long = omega (arith, ap length is, length-append xs (x ∷ []), long)

-- P holds of each of a list by its number, and of one more
pub made_more : {A : Type 0} (P : ℕ → A → Type 0) (xs ys : List A) (x d : A) (n : ℕ) → ys ≡ xs ++ x ∷ []
    → length xs ≡ n → ((e : ℕ) → e < n → P e (get_or xs e d)) → P n x → (e : ℕ) → e < n + 1 → P e (get_or ys e d)
made_more P xs ys x d n is long before here e below =
    rw is (elim (cases_lt e n) [
      | inl less ↦ rw (get_or_append_left xs (x ∷ []) d e (omega (arith, less, long))) (before e less)
      | inr behind ↦ (let same : e ≡ n = omega (arith, below, behind) in
          rw (get_or_push xs x d e (long ∙ sym same)) (rw same here))
    ])

-- and of what is past the list
pub made_all : {A : Type 0} (P : ℕ → A → Type 0) (xs : List A) (d : A) (n : ℕ) → length xs ≡ n
    → ((e : ℕ) → e < n → P e (get_or xs e d)) → ((e : ℕ) → n ≤ e → P e d) → (e : ℕ) → P e (get_or xs e d)
made_all P xs d n long made past e = elim (cases_lt e n) [
  | inl less ↦ made e less
  | inr behind ↦ rw (get_or_past xs e d (omega (arith, behind, long))) (past e behind)
]

leads_same : (next other : ℕ → ℕ) (from : ℕ) (list : List ℕ) (end : ℕ)
    → ((e : ℕ) → Contains list e → next e ≡ other e) → LeadsTo next from list end → LeadsTo other from list end
leads_same next other from [] end same leads = leads
leads_same next other from (x ∷ xs) end same leads = (
  leads.0,
  leads.1,
  leads_same next other (other x) xs end (λ e within. same e (Contains-tail x xs e within))
      (subst (λ (n : ℕ). LeadsTo next n xs end) (same x (Contains-head x xs)) leads.2),
)

-- Links are those of a list: they are the next of what may stand in it, and those have to that must.
record LinksAre (links : List (Option Link)) (owner : ℕ) (next : ℕ → ℕ) (May Must : ℕ → Type 0) : Type 0 where
  may : (e : ℕ) → MayStandIn owner (link_at links e) → May e
  stands : (e : ℕ) → May e → MayStandIn owner (link_at links e)
  must : (e : ℕ) → MustStandIn owner (link_at links e) → Must e
  has : (e : ℕ) → Must e → MustStandIn owner (link_at links e)
  same : (e : ℕ) → May e → behind_in links e ≡ next e

record IsListBy (next : ℕ → ℕ) (May Must : ℕ → Type 0) (head : ℕ) (list : List ℕ) : Type 0 where
  leads : LeadsToEnd next head list
  own : (e : ℕ) → Contains list e → May e
  all : (e : ℕ) → Must e → Contains list e

module _ {links : List (Option Link)} {owner : ℕ} {next : ℕ → ℕ} {May Must : ℕ → Type 0}
    (are : LinksAre links owner next May Must) where
  list_by : (head : ℕ) (list : List ℕ) → IsOwnedList links owner head list → IsListBy next May Must head list
  list_by head list is = record {
    leads = leads_same (behind_in links) next head list 0
        (λ e within. are.same e (are.may e (is.own e within))) is.leads;
    own = λ e within. are.may e (is.own e within);
    all = λ e must. is.all e (are.has e must);
  }

  owned_by : (head : ℕ) (list : List ℕ) → IsListBy next May Must head list → IsOwnedList links owner head list
  owned_by head list is = record {
    leads = leads_same next (behind_in links) head list 0 (λ e within. sym (are.same e (is.own e within))) is.leads;
    own = λ e within. are.stands e (is.own e within);
    all = λ e must. is.all e (are.must e must);
  }

module _ (t : Tables) (kind : EntryKind) (d e : ℕ) where
  child_may : (link : Option Link) → IsChildLink t kind e link → MayStandIn d link → children_of t kind d e
  child_may None is may = absurd may
  child_may (Some link) is may = record { entry = is.entry; parent = sym is.owner ∙ may }

  child_has : (link : Option Link) → IsChildLink t kind e link → children_of t kind d e → MustStandIn d link
  child_has None is child = absurd (is child.entry)
  child_has (Some link) is child = (is.owner ∙ child.parent, is.must)

  child_next : (link : Option Link) → IsChildLink t kind e link → children_of t kind d e
      → behind_link link ≡ (t.table kind).sibling e
  child_next None is child = absurd (is child.entry)
  child_next (Some link) is child = is.next

module _ {t : Tables} {kind : EntryKind} {links : List (Option Link)} (are : AreChildLinks t kind links) where
  child_links_are : (d : ℕ)
      → LinksAre links d (t.table kind).sibling (children_of t kind d) (children_of t kind d)
  child_links_are d = record {
    may = λ e. child_may t kind d e (link_at links e) (are e);
    stands = λ e child. must_may (link_at links e) d (child_has t kind d e (link_at links e) (are e) child);
    must = λ e must. child_may t kind d e (link_at links e) (are e) (must_may (link_at links e) d must);
    has = λ e. child_has t kind d e (link_at links e) (are e);
    same = λ e. child_next t kind d e (link_at links e) (are e);
  }

  child_list : (d head : ℕ) (list : List ℕ) → head ≡ t.first kind d → IsOwnedList links d head list
      → IsChildList t kind d list
  child_list d head list begins is =
      let by = list_by (child_links_are d) head list is in record {
        leads = subst (λ (n : ℕ). LeadsToEnd (t.table kind).sibling n list) begins by.leads;
        children = by.own;
        all = by.all;
      }

  child_owned : (d head : ℕ) (list : List ℕ) → head ≡ t.first kind d → IsChildList t kind d list
      → IsOwnedList links d head list
  child_owned d head list begins is = owned_by (child_links_are d) head list (record {
    leads = subst (λ (n : ℕ). LeadsToEnd (t.table kind).sibling n list) (sym begins) is.leads;
    own = is.children;
    all = is.all;
  })

  module _ (heads : List ℕ) (at : AreChildHeads t kind heads) where
    -- where all lists of links are as they should be, those of the used directories are
    pub children_listed : ((owner : ℕ) → owner < length heads
        → (list : List ℕ) × IsOwnedList links owner (slice_index heads owner) list) → (d : ℕ)
        → used_entries (t.table Dir) d → (list : List ℕ) × IsChildList t kind d list
    children_listed lists d used =
        let list = lists d (omega (arith, used.below, at.count)) in
        (list.0, child_list d (slice_index heads d) list.0 ((at.begin d).used used) list.1)

    -- what is no used directory has an empty list, which is as it should be
    empty_owned : HaveUsedParents t kind → (d : ℕ) → ¬ used_entries (t.table Dir) d
        → IsOwnedList links d (slice_index heads d) []
    empty_owned parents d unused = record {
      leads = (at.begin d).unused unused;
      own = λ e within. absurd (none_within e within);
      all = λ e must.
          (let child = child_may t kind d e (link_at links e) (are e) (must_may (link_at links e) d must) in
          absurd (unused (subst (used_entries (t.table Dir)) child.parent (parents e child.entry))));
    }

    used_broken : HaveUsedParents t kind → (d : ℕ)
        → ((list : List ℕ) → ¬ IsOwnedList links d (slice_index heads d) list) → (read : Option ReadEntry)
        → IsReadOf Dir t d read → used_entries (t.table Dir) d
    used_broken parents d broken None unused = absurd (broken [] (empty_owned parents d unused))
    used_broken parents d broken (Some read) is = is.0

    -- a list of links that is not as it should be is that of a used directory
    pub children_broken : HaveUsedParents t kind → (dirs : ReadTable) → IsReadTable Dir t dirs → (d : ℕ)
        → d < length heads → ((list : List ℕ) → ¬ IsOwnedList links d (slice_index heads d) list)
        → used_entries (t.table Dir) d × ((list : List ℕ) → ¬ IsChildList t kind d list)
    children_broken parents dirs is d below broken =
        let used = used_broken parents d broken (get_or dirs.entries.items d None)
        (read_at Dir t dirs dirs.entries.items d refl is (omega (arith, below, at.count, is.count))) in (
          used,
          λ list listed. broken list
              (child_owned d (slice_index heads d) list ((at.begin d).used used) listed),
        )

-- of both kinds
pub both_listed : (t : Tables)
    → ((d : ℕ) → used_entries (t.table Dir) d → (list : List ℕ) × IsChildList t Dir d list)
    → ((d : ℕ) → used_entries (t.table Dir) d → (list : List ℕ) × IsChildList t File d list)
    → (kind : EntryKind) (d : ℕ) → used_entries (t.table Dir) d → (list : List ℕ) × IsChildList t kind d list
both_listed t dirs files Dir = dirs
both_listed t dirs files File = files

root_cases : (kind : EntryKind) (e : ℕ) → IsRoot kind e ⊎ (¬ IsRoot kind e)
root_cases Dir e = cases_eq e 1
root_cases File e = inr (λ none. none)

module _ (kind : EntryKind) (t : Table) (b e : ℕ) where
  bucket_may : (link : Option Link) → IsBucketLink kind t e link → MayStandIn b link → StandsIn kind t b e
  bucket_may None is may = absurd may
  bucket_may (Some link) is may = record {
    used = is.used;
    own = λ other. sym (is.own other).0 ∙ may;
    root = λ root. sym (is.root root).0 ∙ may;
  }

  bucket_stands : (link : Option Link) → IsBucketLink kind t e link → StandsIn kind t b e → MayStandIn b link
  bucket_stands None is stands = absurd (is stands.used)
  bucket_stands (Some link) is stands = elim (root_cases kind e) [
    | inl root ↦ (is.root root).0 ∙ stands.root root
    | inr other ↦ (is.own other).0 ∙ stands.own other
  ]

  bucket_must : (link : Option Link) → IsBucketLink kind t e link → MustStandIn b link
      → named_entries kind t e × (bucket_of t e ≡ b)
  bucket_must None is must = absurd must
  bucket_must (Some link) is must =
      let other : ¬ IsRoot kind e = λ root. (is.root root).1 must.1 in
      (record { used = is.used; other = other }, sym (is.own other).0 ∙ must.0)

  bucket_has : (link : Option Link) → IsBucketLink kind t e link → named_entries kind t e → bucket_of t e ≡ b
      → MustStandIn b link
  bucket_has None is named own = absurd (is named.used)
  bucket_has (Some link) is named own = ((is.own named.other).0 ∙ own, (is.own named.other).1)

  bucket_next : (link : Option Link) → IsBucketLink kind t e link → StandsIn kind t b e
      → behind_link link ≡ t.link e
  bucket_next None is stands = absurd (is stands.used)
  bucket_next (Some link) is stands = is.next

module _ {kind : EntryKind} {t : Table} {links : List (Option Link)} (are : AreBucketLinks kind t links) where
  bucket_links_are : (b : ℕ)
      → LinksAre links b t.link (StandsIn kind t b) (λ e. named_entries kind t e × (bucket_of t e ≡ b))
  bucket_links_are b = record {
    may = λ e. bucket_may kind t b e (link_at links e) (are e);
    stands = λ e. bucket_stands kind t b e (link_at links e) (are e);
    must = λ e. bucket_must kind t b e (link_at links e) (are e);
    has = λ e must. bucket_has kind t b e (link_at links e) (are e) must.0 must.1;
    same = λ e. bucket_next kind t b e (link_at links e) (are e);
  }

  bucket_list : (b head : ℕ) (list : List ℕ) → head ≡ t.head b → IsOwnedList links b head list
      → IsBucketList kind t b list
  bucket_list b head list begins is =
      let by = list_by (bucket_links_are b) head list is in record {
        leads = subst (λ (n : ℕ). LeadsToEnd t.link n list) begins by.leads;
        entries = by.own;
        all = λ e named own. by.all e (named, own);
      }

  bucket_owned : (b head : ℕ) (list : List ℕ) → head ≡ t.head b → IsBucketList kind t b list
      → IsOwnedList links b head list
  bucket_owned b head list begins is = owned_by (bucket_links_are b) head list (record {
    leads = subst (λ (n : ℕ). LeadsToEnd t.link n list) (sym begins) is.leads;
    own = is.entries;
    all = λ e must. is.all e must.0 must.1;
  })

  module _ (heads : List ℕ) (count : length heads ≡ t.buckets)
      (begins : (b : ℕ) → b < t.buckets → slice_index heads b ≡ t.head b) where
    -- where all lists of links are as they should be, those of the buckets are
    pub buckets_listed : ((owner : ℕ) → owner < length heads
        → (list : List ℕ) × IsOwnedList links owner (slice_index heads owner) list) → HasBucketLists kind t
    buckets_listed lists b below =
        let list = lists b (omega (arith, below, count)) in
        (list.0, bucket_list b (slice_index heads b) list.0 (begins b below) list.1)

    pub bucket_broken : (b : ℕ) → b < length heads
        → ((list : List ℕ) → ¬ IsOwnedList links b (slice_index heads b) list) → IsBrokenBucket kind t b
    bucket_broken b below broken =
        let inside : b < t.buckets = omega (arith, below, count) in record {
          below = inside;
          none = λ list listed. broken list (bucket_owned b (slice_index heads b) list (begins b inside) listed);
        }
