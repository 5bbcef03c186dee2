-- The list of a bucket, as far as it was followed.
use Rattle.std.proofs.Common.{◌≡◌, ◌≢◌, ℕ, ◌+◌, ◌<◌, ◌≤◌, List, [], ◌∷◌, ◌++◌, length, refl, sym, ◌∙◌, ap, subst, arith, length-append}
use Rattle.std.specs.List.{All, Contains}
use Rattle.std.proofs.lemmas.List.{append-nil}
use Rattle.std.proofs.lemmas.List.Elements.{All-nil, All-push, All-contains}
use Rattle.entry_tables.specs.declared.table.EntryKind.{EntryKind}
use Rattle.entry_tables.specs.Hash.{bucket_number}
use Rattle.entry_tables.specs.Tables.{Table}
use Rattle.entry_tables.specs.Links.{LeadsTo}
use Rattle.entry_tables.specs.Rules.{StandsIn, IsBucketList, HasBucketLists}
use Rattle.entry_tables.specs.Fails.{IsBrokenBucket}
use Rattle.name_buckets.specs.Replies.{IsEntryOf}
use Rattle.name_buckets.specs.Looks.{Matches}
use Rattle.entry_tables.proofs.LinkLemmas.{LeadsTo-push, linked_distinct, reached, whole_list, whole_front, few_between}

-- so many entries were passed, none of which matches
pub record HasPassed (kind : EntryKind) (t : Table) (parent : ℕ) (name : List ℕ) (bucket steps e : ℕ) : Type 0 where
  pub list : List ℕ
  pub leads : LeadsTo t.link (t.head bucket) list e
  pub many : length list ≡ steps
  pub missed : All (λ x. ¬ Matches kind t parent name x) list

module _ {kind : EntryKind} {t : Table} {parent : ℕ} {name : List ℕ} {bucket : ℕ} where
  pub HasPassed-none : (e : ℕ) → e ≡ t.head bucket → HasPassed kind t parent name bucket 0 e
  HasPassed-none e is =
      record { list = []; leads = sym is; many = refl; missed = All-nil (λ x. ¬ Matches kind t parent name x) }

  module _ {steps e : ℕ} (h : HasPassed kind t parent name bucket steps e) where
    pub HasPassed-more : (next : ℕ) → e ≢ 0 → ¬ Matches kind t parent name e → next ≡ t.link e
        → HasPassed kind t parent name bucket (steps + 1) next
    HasPassed-more next some other is = record {
      list = h.list ++ e ∷ [];
      leads = subst (λ (n : ℕ). LeadsTo t.link (t.head bucket) (h.list ++ e ∷ []) n) (sym is)
          (LeadsTo-push t.link (t.head bucket) h.list e h.leads some);
      many = omega (arith, length-append h.list (e ∷ []), h.many);
      missed = All-push (λ x. ¬ Matches kind t parent name x) h.list e h.missed other;
    }

    -- an entry that is reached stands in the bucket
    pub passed_stands : (list : List ℕ) → e ≢ 0 → IsBucketList kind t bucket list → StandsIn kind t bucket e
    passed_stands list some is = is.entries e (reached t.link (t.head bucket) h.list e list h.leads some is.leads)

    -- a match that is reached is the entry that is sought
    pub match_found : e ≢ 0 → bucket < t.buckets → Matches kind t parent name e → HasBucketLists kind t → IsEntryOf kind t parent name e
    match_found some below matches lists =
        let list = lists bucket below in
        record {
          entry = record { used = (passed_stands list.0 some list.1).used; other = matches.other };
          parent_is = matches.parent_is;
          name_is = matches.name_is;
        }

    -- a list that goes on with a number past the table is not as it should be
    pub broken_past : e ≢ 0 → bucket < t.buckets → t.count ≤ e → IsBrokenBucket kind t bucket
    broken_past some below past = record {
      below = below;
      none = λ list is. (let stands = passed_stands list some is in omega (arith, stands.used.below, past));
    }

    -- nor is one that goes on for as many entries as there are
    pub broken_long : bucket < t.buckets → t.count ≤ steps → 1 ≤ t.count → IsBrokenBucket kind t bucket
    broken_long below long some = record {
      below = below;
      none = λ list is.
          (let whole = whole_list t.link (t.head bucket) h.list e list h.leads is.leads in
          let few : length list < t.count = few_between list t.count some
          (linked_distinct t.link (t.head bucket) list is.leads)
          (λ x within. ((is.entries x within).used.some, (is.entries x within).used.below)) in
          let longer : length list ≡ length h.list + length whole.0 = ap length whole.1 ∙ length-append h.list whole.0 in
          omega (arith, few, longer, h.many, long));
    }

  -- where the list ends, none is
  pub none_found : {steps : ℕ} → HasPassed kind t parent name bucket steps 0 → bucket ≡ bucket_number parent name t.buckets
      → bucket < t.buckets → HasBucketLists kind t → (e : ℕ) → ¬ IsEntryOf kind t parent name e
  none_found h own below lists e sought =
      let list = lists bucket below in
      let whole : list.0 ≡ h.list =
      whole_front t.link (t.head bucket) h.list list.0 h.leads list.1.leads ∙ append-nil h.list in
      let hers : bucket_number (t.parent e) (t.name e) t.buckets ≡ bucket = rw (sought.parent_is, sought.name_is) (sym own) in
      let within : Contains h.list e = subst (λ (l : List ℕ). Contains l e) whole (list.1.all e sought.entry hers) in
      All-contains (λ x. ¬ Matches kind t parent name x) h.list e h.missed within
      (record { other = sought.entry.other; parent_is = sought.parent_is; name_is = sought.name_is })
