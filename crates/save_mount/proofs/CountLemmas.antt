-- How many entries were not read: as many as are freed.
use Rattle.std.proofs.Common.{◌≡◌, ◌≢◌, ◌⊎◌, ℕ, zero, suc, ◌+◌, ◌-◌, ◌<◌, ◌≤◌, Bool, true, false, List, [], ◌∷◌, ◌++◌, length, get_or}
use Rattle.std.proofs.Common.{nat_eq, Option, Some, None, refl, sym, ◌∙◌, subst, arith, inl, inr, ⊎_elim, length-append}
use Rattle.std.specs.List.{Contains, IsDistinct}
use Rattle.std.specs.Set.{is_member}
use Rattle.std.proofs.lemmas.Bool.{cases_lt, false≢true}
use Rattle.std.proofs.lemmas.Cmp.{nat_eq_equiv}
use Rattle.std.proofs.lemmas.Bool.Decides.{Decides-eqb}
use Rattle.std.proofs.lemmas.List.Elements.{All-contains, Contains-append_cases, Contains-append_left, Contains-append_right}
use Rattle.std.proofs.lemmas.Map.Made.{is_member-Decides, length-le_from_is_member}
use Rattle.entry_tables.specs.declared.table.EntryKind.{EntryKind}
use Rattle.entry_tables.specs.Tables.{Tables}
use Rattle.entry_tables.specs.Used.{used_entries}
use Rattle.entry_tables.specs.Rules.{CanBeFreed}
use Rattle.entry_tables.proofs.EntryLemmas.{least_some}
use Rattle.entry_tables.proofs.LinkLemmas.{linked_distinct, IsDistinct-push, Contains-head}
use Rattle.entry_audit.specs.declared.table.ReadEntry.{ReadEntry}
use Rattle.entry_audit.specs.declared.table.ReadTable.{ReadTable}
use Rattle.entry_audit.specs.Read.{IsReadOf, IsReadTable}
use Rattle.entry_audit.proofs.ListedLemmas.{read_at}
use Rattle.entry_audit.proofs.CopyLemmas.{freed_same}
use Rattle.tree_rules.specs.Reading.{IsRoomOf}
use Rattle.save_mount.specs.Audited.{HasUnread}

nothing_in : (e : ℕ) → ¬ Contains [] e
nothing_in e (k, within, is) = omega (arith, within)

only_in : (n e : ℕ) → Contains (n ∷ []) e → e ≡ n
only_in n e (zero, within, is) = sym is
only_in n e (suc k, within, is) = absurd (omega (arith, within))

pub unread_none : (entries : List (Option ReadEntry)) → HasUnread entries 0 0
unread_none entries = record {
  list = [];
  once = linked_distinct (λ e. e) 0 [] refl;
  long = refl;
  each = λ e. (λ within. absurd (nothing_in e within), λ h. absurd (omega (arith, h.1)));
}

module _ (entries : List (Option ReadEntry)) (n count : ℕ) (h : HasUnread entries n count) where
  pub unread_more : 1 ≤ n → get_or entries n None ≡ None → HasUnread entries (n + 1) (count + 1)
  unread_more some none = record {
    list = h.list ++ n ∷ [];
    once = IsDistinct-push h.list n h.once (λ within. (let there = (h.each n).0 within in omega (arith, there.1)));
    long = omega (arith, h.long, length-append h.list (n ∷ []));
    each = λ e. (
      λ within. ⊎_elim
          (λ (before : Contains h.list e).
          let there = (h.each e).0 before in (there.0, omega (arith, there.1), there.2))
          (λ (here : Contains (n ∷ []) e).
          let same = only_in n e here in
          (omega (arith, same, some), omega (arith, same), subst (λ (k : ℕ). get_or entries k None ≡ None) (sym same) none))
          (Contains-append_cases h.list (n ∷ []) e within),
      λ there. ⊎_elim
          (λ (before : e < n).
          Contains-append_left h.list (n ∷ []) e ((h.each e).1 (there.0, before, there.2)))
          (λ (behind : n ≤ e).
          let same : n ≡ e = omega (arith, there.1, behind) in
          Contains-append_right h.list (n ∷ []) e
          (subst (λ (k : ℕ). Contains (n ∷ []) k) same (Contains-head n [])))
          (cases_lt e n),
    );
  }

  pub unread_skip : (1 ≤ n → get_or entries n None ≢ None) → HasUnread entries (n + 1) count
  unread_skip some = record {
    list = h.list;
    once = h.once;
    long = h.long;
    each = λ e. (
      λ within. (let there = (h.each e).0 within in (there.0, omega (arith, there.1), there.2)),
      λ there. ⊎_elim
          (λ (before : e < n). (h.each e).1 (there.0, before, there.2))
          (λ (behind : n ≤ e).
          let same : e ≡ n = omega (arith, there.1, behind) in
          absurd (some (omega (arith, same, there.0)) (subst (λ (k : ℕ). get_or entries k None ≡ None) same there.2)))
          (cases_lt e n),
    );
  }

-- lists without repetition that have the same numbers are as long
no_longer : (xs ys : List ℕ) → IsDistinct nat_eq xs → ((e : ℕ) → Contains xs e → Contains ys e) → length xs ≤ length ys
no_longer xs ys once within =
    length-le_from_is_member nat_eq_equiv xs ys once (λ e member.
    (is_member-Decides Decides-eqb ys e).1 (within e ((is_member-Decides Decides-eqb xs e).0 member)))

is_or_not : (b : Bool) → (b ≡ true) ⊎ (b ≡ false)
is_or_not true = inl (λ i. true)
is_or_not false = inr (λ i. false)

unless_used : (kind : EntryKind) (t : Tables) (e : ℕ) (read : Option ReadEntry) → IsReadOf kind t e read
    → ¬ used_entries (t.table kind) e → read ≡ None
unless_used kind t e None is unused = refl
unless_used kind t e (Some read) is unused = absurd (unused is.0)

not_used : (kind : EntryKind) (t : Tables) (e : ℕ) (read : Option ReadEntry) → IsReadOf kind t e read
    → read ≡ None → ¬ used_entries (t.table kind) e
not_used kind t e None is none = is
not_used kind t e (Some read) is none = cc

module _ (kind : EntryKind) (t : Tables) (read : ReadTable) (h : IsReadTable kind t read) where
  abbrev freed : List ℕ
  freed = h.freed.0

  freed_unread : (e : ℕ) → Contains freed e
      → (1 ≤ e) × (e < length read.entries.items) × (get_or read.entries.items e None ≡ None)
  freed_unread e within =
      let can = All-contains (CanBeFreed kind (t.table kind)) freed e h.freed.1.inside within in
      let below : e < length read.entries.items = omega (arith, can.1, h.count) in (
        omega (arith, can.0, least_some kind),
        below,
        unless_used kind t e (get_or read.entries.items e None)
            (read_at kind t read read.entries.items e refl h below) (λ used. used.kept freed h.freed.1.leads within),
      )

  unread_freed : (e : ℕ) → 1 ≤ e → e < length read.entries.items → get_or read.entries.items e None ≡ None
      → Contains freed e
  unread_freed e some below none =
      let unused = not_used kind t e (get_or read.entries.items e None)
      (read_at kind t read read.entries.items e refl h below) none in
      ⊎_elim
      (λ (member : is_member nat_eq freed e ≡ true). (is_member-Decides Decides-eqb freed e).0 member)
      (λ (other : is_member nat_eq freed e ≡ false). absurd (unused (record {
        some = some;
        below = omega (arith, below, h.count);
        kept = λ list is within. false≢true (sym other ∙ (is_member-Decides Decides-eqb freed e).1
            (subst (λ (l : List ℕ). Contains l e) (freed_same (t.table kind) freed list h.freed.1.leads is) within));
      })))
      (is_or_not (is_member nat_eq freed e))

  -- as many as are freed were not read
  pub unread_long : (count : ℕ) → HasUnread read.entries.items (length read.entries.items) count
      → count ≡ length freed
  unread_long count u =
      let once = linked_distinct (t.table kind).link ((t.table kind).link 0) freed h.freed.1.leads in
      let up = no_longer freed u.list once (λ e within. (u.each e).1 (freed_unread e within)) in
      let down = no_longer u.list freed u.once (λ e within.
      (let there = (u.each e).0 within in unread_freed e there.0 there.1 there.2)) in
      omega (arith, up, down, u.long)

  -- so many can be added
  pub room_of : (count most unread room : ℕ) → count ≡ (t.table kind).count → most ≡ (t.table kind).most
      → HasUnread read.entries.items (length read.entries.items) unread → room ≡ most - count + unread
      → IsRoomOf (t.table kind) room
  room_of count most unread room count_is most_is u is =
      (freed, h.freed.1.leads, omega (arith, is, count_is, most_is, unread_long unread u))
