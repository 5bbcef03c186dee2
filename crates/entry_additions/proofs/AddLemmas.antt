-- An addition as a whole: calls that only read, the entry, and then three words.
use Rattle.std.proofs.Common.{◌≡◌, ◌≢◌, ℕ, ◌+◌, ◌<◌, ◌≤◌, IsTrue, List, Option, None, Result, Err, refl, sym, ◌∙◌, ap}
use Rattle.std.proofs.Common.{subst, arith, ⊎_elim, ◌⊎◌, length, get_or}
use Rattle.std.proofs.lemmas.Bool.{cases_eq, eq-eqb, ne_eqb}
use Rattle.std.proofs.lemmas.List.Elements.{All-weaker}
use Rattle.save_bytes.specs.declared.space.Bad.{Bad}
use Rattle.save_bytes.specs.Cells.{Cell, Byte, Blank, Spoilt, IsByte, IsUnspoilt, AreBytesAt}
use Rattle.save_bytes.specs.State.{Shape, State}
use Rattle.save_bytes.specs.Answers.{IsReady}
use Rattle.save_bytes.specs.Refusals.{IfDamaged, NeverDamaged}
use Rattle.save_bytes.specs.Stays.{Stays}
use Rattle.save_bytes.specs.Reads.{Reads}
use Rattle.save_bytes.specs.Spots.{Spot, Hold, LandsAsBefore}
use Rattle.save_bytes.specs.Puts.{IsDeeper}
use Rattle.save_bytes.specs.Writes.{IsWithin}
use Rattle.save_bytes.specs.Within.{MaySoften, ChangesWithin}
use Rattle.save_bytes.proofs.SpaceLemmas.{IfDamaged-map, UnlessDisk-map, SameSpace-join}
use Rattle.save_bytes.proofs.WithinLemmas.{ChangesWithin-join}
use Rattle.entry_tables.specs.declared.table.EntryKind.{EntryKind}
use Rattle.entry_tables.specs.declared.table.EntryKind.TheVariants.{Dir}
use Rattle.entry_tables.specs.declared.table.TableInfo.{TableInfo}
use Rattle.entry_tables.specs.declared.table.EntryFault.{EntryFault}
use Rattle.entry_tables.specs.declared.table.EntryFault.TheVariants as fault
use Rattle.entry_tables.specs.declared.word.Edit.{Edit}
use Rattle.entry_tables.specs.declared.word.Word.{Word}
use Rattle.entry_tables.specs.declared.word.Word.TheVariants.{Head, Link, Sibling, First, Count}
use Rattle.entry_tables.specs.Kinds.{entry_size}
use Rattle.entry_tables.specs.Hash.{bucket_number}
use Rattle.entry_tables.specs.Tables.{HasEntry, Tables, table_in, tables_in, info_of, entry_place}
use Rattle.entry_tables.specs.Used.{used_entries}
use Rattle.entry_tables.specs.Rules.{IsOrderly}
use Rattle.entry_tables.specs.Layout.{HasEntryTables}
use Rattle.entry_tables.specs.Words.{HasWord, word_place, tables_after}
use Rattle.entry_tables.specs.Causes.{IfRuleBroken}
use Rattle.entry_tables.proofs.CauseLemmas.{IfRuleBroken-map}
use Rattle.entry_tables.proofs.FailLemmas.{nowhere_fails}
use Rattle.entry_tables.specs.Changes.{EntriesOf, CanChangeTables, IsBounded, CanSet, CanSetAll, AreSet, IsSite}
use Rattle.entry_tables.specs.Changes.{ChangesAt}
use Rattle.entry_tables.specs.Changes.{Area, IsAreaPlace}
use Rattle.entry_tables.proofs.EntryLemmas.{least_some}
use Rattle.entry_tables.proofs.QuietLemmas.{stays_tables}
use Rattle.entry_tables.proofs.SetLemmas.{word_run}
use Rattle.entry_tables.proofs.ValueLemmas.{IsRunIn, entry_run, still_unspoilt}
use Rattle.entry_tables.proofs.WordLemmas.{at_kind-reads}
use Rattle.entry_tables.proofs.ChangeLemmas.{ChangesAt-where}
use Rattle.entry_changes.specs.Bytes.{HaveSoftened}
use Rattle.entry_changes.proofs.TakenLemmas.{reads_change, more_sites}
use Rattle.entry_changes.proofs.WayLemmas.{word_bytes_later}
use Rattle.entry_changes.proofs.PlannedLemmas.{zero_has}
use Rattle.entry_additions.specs.declared.entry.NewEntry.{NewEntry}
use Rattle.entry_additions.specs.declared.entry.NewPlace.{NewPlace}
use Rattle.entry_additions.specs.declared.plan.Addition.{Addition}
use Rattle.entry_additions.specs.Added.{taken_entry, taken_edit, count_after, freed_after, HasRoom, table_put}
use Rattle.entry_additions.specs.Added.{tables_put}
use Rattle.entry_additions.specs.Added.{tables_with_new}
use Rattle.entry_additions.specs.Gains.{GainsOne}
use Rattle.entry_additions.specs.Puts.{IsEntryPut}
use Rattle.entry_additions.specs.Additions.{MayAdd, BlamesForNew, InUnused, HasAdditionCause, HasAdditionWords}
use Rattle.entry_additions.specs.Additions.{HasAdditionBytes, IsAdditionPlan}
use Rattle.entry_additions.specs.Results.{IsAddedTo, IsAdditionSite, OfEntry, OfWord}
use Rattle.entry_additions.specs.Images.{written_entry}
use Rattle.entry_additions.proofs.BytesLemmas.{IsElsewhere, last_elsewhere, bytes_stay}
use Rattle.entry_additions.proofs.AddedLemmas.{Taking, added_orderly, added_gains}
use Rattle.entry_additions.proofs.TakingLemmas.{taken, tables_begun, addition_after}
use Rattle.entry_additions.proofs.PlanLemmas.{head_has, first_has, freed_taken, All-three}

-- an entry that is written anew changes no count of entries or buckets
most_put : (t : Tables) (kind : EntryKind) (e : ℕ) (new : NewEntry) (sibling link : ℕ) (other : EntryKind)
    → ((tables_put t kind e new sibling link).table other).most ≡ (t.table other).most
most_put t kind e new sibling link =
    at_kind-reads (λ k table. table.most ≡ (t.table k).most) kind (table_put (t.table kind) e new sibling link) t.table
    refl (λ k differs. refl)

buckets_put : (t : Tables) (kind : EntryKind) (e : ℕ) (new : NewEntry) (sibling link : ℕ) (other : EntryKind)
    → ((tables_put t kind e new sibling link).table other).buckets ≡ (t.table other).buckets
buckets_put t kind e new sibling link =
    at_kind-reads (λ k table. table.buckets ≡ (t.table k).buckets) kind (table_put (t.table kind) e new sibling link)
    t.table refl (λ k differs. refl)

has_put : (t : Tables) (kind : EntryKind) (e : ℕ) (new : NewEntry) (sibling link : ℕ) (word : Word) → HasWord t word
    → HasWord (tables_put t kind e new sibling link) word
has_put t kind e new sibling link (Head other bucket) has =
    omega (arith, has, buckets_put t kind e new sibling link other)
has_put t kind e new sibling link (Link other f) has = omega (arith, has, most_put t kind e new sibling link other)
has_put t kind e new sibling link (Sibling other f) has =
    record { some = has.some; below = omega (arith, has.below, most_put t kind e new sibling link other) }
has_put t kind e new sibling link (First other dir) has =
    record { some = has.some; below = omega (arith, has.below, most_put t kind e new sibling link Dir) }
has_put t kind e new sibling link (Count other) has = tt

bounded_put : (t : Tables) (kind : EntryKind) (e : ℕ) (new : NewEntry) (sibling link : ℕ) (word : Word) (value : ℕ)
    → IsBounded t word value → IsBounded (tables_put t kind e new sibling link) word value
bounded_put t kind e new sibling link (Head other bucket) value bounded = tt
bounded_put t kind e new sibling link (Link other f) value bounded = tt
bounded_put t kind e new sibling link (Sibling other f) value bounded = tt
bounded_put t kind e new sibling link (First other dir) value bounded = tt
bounded_put t kind e new sibling link (Count other) value bounded =
    (bounded.0, omega (arith, bounded.1, most_put t kind e new sibling link other))

-- the words may still be put behind the entry
pub set_behind_put : (t u : State) (dirs files : TableInfo) (tables : HasEntryTables t.shape dirs files)
    (can : CanChangeTables t dirs files) (kind : EntryKind) (place : NewPlace) (new : NewEntry)
    → HasEntry (table_in t.cells kind (info_of dirs files kind)) place.entry → IsEntryPut t u dirs files kind place new
    → ChangesWithin t (IsWithin (entry_place kind (info_of dirs files kind) place.entry) (entry_size kind)) u.cells
    → (edits : List Edit) → CanSetAll t dirs files edits → CanSetAll u dirs files edits
set_behind_put t u dirs files tables can kind place new has put soft edits all = record {
  can = put.can;
  each = All-weaker (CanSet t dirs files) (CanSet u dirs files) later edits all.each;
}
  where
    run : IsRunIn t.cells dirs files (EntriesOf kind) (entry_place kind (info_of dirs files kind) place.entry)
        (entry_size kind)
    run = entry_run t dirs files tables can kind place.entry 0 (entry_size kind)
        (entry_place kind (info_of dirs files kind) place.entry) has.below (omega arith) (omega arith)

    later : (edit : Edit) → CanSet t dirs files edit → CanSet u dirs files edit
    later edit was = record {
      has = subst (λ (w : Tables). HasWord w edit.word) (sym put.tables)
          (has_put (tables_in t.cells dirs files) kind place.entry new place.sibling place.link edit.word was.has);
      bounded = subst (λ (w : Tables). IsBounded w edit.word edit.value) (sym put.tables)
          (bounded_put (tables_in t.cells dirs files) kind place.entry new place.sibling place.link edit.word edit.value
          was.bounded);
      ready = λ k less.
          (let lies = word_run t dirs files tables can edit.word was.has in
          still_unspoilt t dirs files tables can (EntriesOf kind)
          (entry_place kind (info_of dirs files kind) place.entry) (entry_size kind) run u.cells soft put.whole lies.0
          (word_place dirs files edit.word + k) (lies.1.inside k less) (was.ready k less));
    }

-- the entry that is taken
module _ (s : State) (dirs files : TableInfo) (can : CanChangeTables s dirs files) (kind : EntryKind) (parent : ℕ)
    (name : List ℕ) (may : MayAdd (tables_in s.cells dirs files) kind parent name) where
  pub taking_is : Taking kind (table_in s.cells kind (info_of dirs files kind))
      (taken_entry (table_in s.cells kind (info_of dirs files kind)))
      (count_after (table_in s.cells kind (info_of dirs files kind)))
      (freed_after (table_in s.cells kind (info_of dirs files kind)))
  taking_is =
      let list = may.rules.freed kind in
      taken kind (table_in s.cells kind (info_of dirs files kind)) list.0 list.1
      ((can.tells kind).least (can.counts kind))

-- all together the tables have one entry more
pub added_to : (s t u v : State) (dirs files : TableInfo) → HasEntryTables s.shape dirs files
    → (can : CanChangeTables s dirs files) (stays : Stays s t None) (kind : EntryKind) (new : NewEntry)
    (plan : Addition)
    → MayAdd (tables_in s.cells dirs files) kind new.parent new.name.0
    → IsAdditionPlan s dirs files kind new.parent new.name.0 plan → IsEntryPut t u dirs files kind plan.place new
    → AreSet u v dirs files plan.edits
    → AreBytesAt v.cells (entry_place kind (info_of dirs files kind) plan.place.entry)
    (written_entry kind new plan.place.sibling plan.place.link)
    → IsAddedTo s v dirs files kind new plan.place.entry
added_to s t u v dirs files tables can stays kind new plan may made put set bytes =
    let old = tables_in s.cells dirs files in
    let taking = taking_is s dirs files can kind new.parent new.name.0 may in
    let some : taken_entry (table_in s.cells kind (info_of dirs files kind)) ≢ 0 = λ nothing.
    omega (arith, nothing, made.entry, made.has.some) in
    let are : tables_in v.cells dirs files ≡ tables_with_new old kind new =
    set.tables ∙ ap (λ (w : Tables). tables_after w plan.edits) (put.tables
    ∙ ap (λ (w : Tables). tables_put w kind plan.place.entry new plan.place.sibling plan.place.link)
    (stays_tables s dirs files tables can t stays)
    ∙ (λ i. tables_put old kind (made.entry i) new (made.sibling i) (made.link i)))
    ∙ ap (λ (l : List Edit). tables_after
    (tables_begun old kind (taken_entry (table_in s.cells kind (info_of dirs files kind))) new) l) made.edits
    ∙ addition_after old kind new some in
    record {
      is = made.entry;
      tables = are;
      rules = subst (λ (w : Tables). IsOrderly w) (sym are)
          (added_orderly old may.rules kind _ _ _ new may.can taking);
      gains = subst (λ (w : Tables). GainsOne old w kind plan.place.entry new) (sym are)
          (subst (λ (e : ℕ). GainsOne old (tables_with_new old kind new) kind e new) (sym made.entry)
          (added_gains old may.rules kind _ _ _ new may.can taking));
      bytes = subst (λ (l : List ℕ). AreBytesAt v.cells
          (entry_place kind (info_of dirs files kind) plan.place.entry) l)
          (λ i. written_entry kind new (made.sibling i) (made.link i)) bytes;
      can = set.can;
    }

-- a spoilt cell of the entry that is taken is one of an entry that is not used
pub taken_blamed : (s t : State) (dirs files : TableInfo) (can : CanChangeTables s dirs files) (stays : Stays s t None)
    (kind : EntryKind) (parent : ℕ) (name : List ℕ) (plan : Addition) (refusal : Option Bad)
    → MayAdd (tables_in s.cells dirs files) kind parent name → IsAdditionPlan s dirs files kind parent name plan
    → IsReady t (entry_place kind (info_of dirs files kind) plan.place.entry) (entry_size kind) refusal
    → IfDamaged refusal (BlamesForNew s.cells dirs files kind)
taken_blamed s t dirs files can stays kind parent name plan refusal may made ready =
    IfDamaged-map refusal
    (λ part level block first. InUnused (record {
      entry = plan.place.entry;
      has = made.has;
      unused = subst (λ (e : ℕ). ¬ used_entries (table_in s.cells kind (info_of dirs files kind)) e) (sym made.entry)
          (taking_is s dirs files can kind parent name may).fresh;
      place = entry_place kind (info_of dirs files kind) plan.place.entry + first.k;
      within = record { from = omega arith; before = omega (arith, first.within) };
      spoilt = sym (stays.cells (can.tells Dir).told
          (entry_place kind (info_of dirs files kind) plan.place.entry + first.k)
          (omega (arith, first.within, (can.tells kind).entries (can.counts kind) plan.place.entry made.has.below)))
          ∙ first.spoilt;
    }))
    (ready.damaged (stays.space.told (can.tells Dir).told))

-- where none is spoilt it may be written
pub taken_never : (s t : State) (dirs files : TableInfo) (can : CanChangeTables s dirs files) (stays : Stays s t None)
    (kind : EntryKind) (parent : ℕ) (name : List ℕ) (plan : Addition) (refusal : Option Bad)
    → IsAdditionPlan s dirs files kind parent name plan → HasAdditionBytes s dirs files kind parent name
    → IsReady t (entry_place kind (info_of dirs files kind) plan.place.entry) (entry_size kind) refusal
    → NeverDamaged refusal
taken_never s t dirs files can stays kind parent name plan refusal made bytes ready =
    IfDamaged-map refusal
    (λ part level block first.
    (let same = stays.cells (can.tells Dir).told (entry_place kind (info_of dirs files kind) plan.place.entry + first.k)
    (omega (arith, first.within, (can.tells kind).entries (can.counts kind) plan.place.entry made.has.below)) in
    let fine = subst (λ (e : ℕ). IsUnspoilt (s.cells (entry_place kind (info_of dirs files kind) e + first.k)))
    (sym made.entry) (bytes.entry first.k first.within) in
    rw (sym same ∙ first.spoilt) at fine))
    (ready.damaged (stays.space.told (can.tells Dir).told))

-- and where it may be, none is spoilt
pub taken_ready : (s t : State) (dirs files : TableInfo) (can : CanChangeTables s dirs files) (stays : Stays s t None)
    (kind : EntryKind) (parent : ℕ) (name : List ℕ) (plan : Addition)
    → IsAdditionPlan s dirs files kind parent name plan
    → HasAdditionWords s dirs files kind parent name
    → (entry_place kind (info_of dirs files kind) plan.place.entry + entry_size kind ≤ t.shape.size
    → IsReady t (entry_place kind (info_of dirs files kind) plan.place.entry) (entry_size kind) None)
    → HasAdditionBytes s dirs files kind parent name
taken_ready s t dirs files can stays kind parent name plan made words ready = record {
  words = words;
  entry = λ j less.
      (let fits = (can.tells kind).entries (can.counts kind) plan.place.entry made.has.below in
      let size = ap (λ (shape : Shape). shape.size) stays.space.shape in
      let here = (ready (omega (arith, fits, size))).done (stays.space.told (can.tells Dir).told) j less in
      subst (λ (e : ℕ). IsUnspoilt (s.cells (entry_place kind (info_of dirs files kind) e + j))) made.entry
      (subst IsUnspoilt (stays.cells (can.tells Dir).told
      (entry_place kind (info_of dirs files kind) plan.place.entry + j) (omega (arith, fits, less))) here));
}

-- the same refusal, of another call
pub cause_again : {A B : Type 0} (s : State) (dirs files : TableInfo) (kind : EntryKind) (parent : ℕ) (name : List ℕ)
    (error : EntryFault) → HasAdditionCause {A = A} s dirs files kind parent name (Err error)
    → HasAdditionCause {A = B} s dirs files kind parent name (Err error)
cause_again s dirs files kind parent name (fault.Bad bad) cause = record {
  damaged = cause.damaged;
  plain = cause.plain;
  broken = cause.broken;
  full = cause.full;
  room = λ can. tt;
}
cause_again s dirs files kind parent name (fault.Broken table entry) cause = record {
  damaged = cause.damaged;
  plain = cause.plain;
  broken = cause.broken;
  full = cause.full;
  room = λ can. tt;
}
cause_again s dirs files kind parent name (fault.NoEntry most) cause = record {
  damaged = cause.damaged;
  plain = cause.plain;
  broken = cause.broken;
  full = cause.full;
  room = λ can. tt;
}

-- it is one of the table
pub taken_has : (s : State) (dirs files : TableInfo) (can : CanChangeTables s dirs files) (kind : EntryKind)
    (parent : ℕ) (name : List ℕ) → MayAdd (tables_in s.cells dirs files) kind parent name
    → HasRoom (table_in s.cells kind (info_of dirs files kind))
    → HasEntry (table_in s.cells kind (info_of dirs files kind))
    (taken_entry (table_in s.cells kind (info_of dirs files kind)))
taken_has s dirs files can kind parent name may room = record {
  some = omega (arith, (taking_is s dirs files can kind parent name may).least, least_some kind);
  below = ⊎_elim (λ (none : (table_in s.cells kind (info_of dirs files kind)).link 0 ≡ 0).
      rw (eq-eqb ((table_in s.cells kind (info_of dirs files kind)).link 0) 0 none) (room none))
      (λ (some : (table_in s.cells kind (info_of dirs files kind)).link 0 ≢ 0).
      let below = (taking_is s dirs files can kind parent name may).below in
      let same : count_after (table_in s.cells kind (info_of dirs files kind))
      ≡ (table_in s.cells kind (info_of dirs files kind)).count =
      rw (ne_eqb ((table_in s.cells kind (info_of dirs files kind)).link 0) 0 some) refl in
      omega (arith, below, same, (can.tells kind).most (can.counts kind)))
      (cases_eq ((table_in s.cells kind (info_of dirs files kind)).link 0) 0);
}

-- what was there is there where cells have softened at most
softened_byte : (cell new : Cell) → IsByte cell → MaySoften cell new → IsByte new
softened_byte (Byte value) new is soft = rw soft tt
softened_byte (Blank part level block) new is soft = absurd is
softened_byte (Spoilt part level block) new is soft = absurd is

softened_unspoilt : (cell new : Cell) → IsUnspoilt cell → MaySoften cell new → IsUnspoilt new
softened_unspoilt (Byte value) new is soft = rw soft tt
softened_unspoilt (Blank part level block) new is soft =
    ⊎_elim
    (λ (same : new ≡ Blank part level block). rw same tt)
    (λ (other : (new ≡ Byte 0) ⊎ IsDeeper part level new). ⊎_elim
    (λ (zero_byte : new ≡ Byte 0). rw zero_byte tt)
    (λ (more : IsDeeper part level new). rw more.3 tt) other)
    soft
softened_unspoilt (Spoilt part level block) new is soft = absurd is

pub addition_bytes_later : (was now : State) (dirs files : TableInfo) → HasEntryTables now.shape dirs files
    → CanChangeTables was dirs files → HaveSoftened was now dirs files → (kind : EntryKind) (parent : ℕ) (name : List ℕ)
    → MayAdd (tables_in now.cells dirs files) kind parent name → HasAdditionBytes was dirs files kind parent name
    → HasAdditionBytes now dirs files kind parent name
addition_bytes_later was now dirs files there can soft kind parent name may_now bytes =
    let tables = subst (λ (shape : Shape). HasEntryTables shape dirs files) soft.shape there in
    let may = subst (λ (u : Tables). MayAdd u kind parent name) soft.tables may_now in
    let table = table_in was.cells kind (info_of dirs files kind) in
    let has = taken_has was dirs files can kind parent name may bytes.words.room in
    let later = λ (area : Area) (x : ℕ) (place : IsAreaPlace was.cells dirs files area x) (is : IsByte (was.cells x)).
    softened_byte (was.cells x) (now.cells x) is (soft.cells area x place) in
    record {
      words = record {
        room = subst (λ (u : Tables). HasRoom (u.table kind)) (sym soft.tables) bytes.words.room;
        zero = word_bytes_later was now dirs files tables can soft.tables later (Link kind 0)
            (zero_has was dirs files can kind) bytes.words.zero;
        freed = subst (λ (u : Tables). (u.table kind).link 0 ≢ 0 → (k : ℕ) → k < 4 → IsByte (now.cells
            (word_place dirs files (Link kind ((u.table kind).link 0)) + k))) (sym soft.tables)
            (λ some. word_bytes_later was now dirs files tables can soft.tables later (Link kind (table.link 0))
            (omega (arith, freed_taken table some, has.below)) (bytes.words.freed some));
        head = word_bytes_later was now dirs files tables can soft.tables later
            (Head kind (bucket_number parent name (info_of dirs files kind).buckets))
            (head_has was dirs files tables kind parent name) bytes.words.head;
        first = word_bytes_later was now dirs files tables can soft.tables later (First kind parent)
            (first_has was dirs files can kind parent may.can.directory) bytes.words.first;
      };
      entry = subst (λ (u : Tables). (j : ℕ) → j < entry_size kind → IsUnspoilt (now.cells
          (entry_place kind (info_of dirs files kind) (taken_entry (u.table kind)) + j))) (sym soft.tables)
          (λ j less. softened_unspoilt
          (was.cells (entry_place kind (info_of dirs files kind) (taken_entry table) + j))
          (now.cells (entry_place kind (info_of dirs files kind) (taken_entry table) + j)) (bytes.entry j less)
          (soft.cells (EntriesOf kind) (entry_place kind (info_of dirs files kind) (taken_entry table) + j)
          (taken_entry table, has.below, record { from = omega arith; before = omega (arith, less) })));
    }

-- a call that changes some places, behind one that only reads
pub read_then_change : {A : Type 0} (states : A → State) (keeps : Spot → A → A → Type 0) (lands : A → ℕ → Spot → Type 0)
    → ((spot : Spot) (s t u : A) → keeps spot s t → keeps spot t u → keeps spot s u) → {P Q : Type 0}
    (sites few : ℕ → Type 0) (s t u : A) (refusal : Option Bad) → (P → IsTrue (states s).told) → keeps Hold s t
    → (P → Q) → (P → (x : ℕ) → few x → sites x) → Reads states keeps lands s t None
    → ChangesAt states keeps lands Q few t u refusal → ChangesAt states keeps lands P sites s u refusal
read_then_change states keeps lands join {P = P} sites few s t u refusal told hold gives wider reads changes =
    let h : ChangesAt states keeps lands P sites s t None =
    reads_change states keeps lands sites s t None told hold (λ plain. tt) reads in
    let k : ChangesAt states keeps lands P sites t u refusal =
    more_sites states keeps lands few sites t u refusal wider
    (ChangesAt-where states keeps lands few t u refusal gives changes) in
    let size : (states t).shape.size ≡ (states s).shape.size = ap (λ (shape : Shape). shape.size) h.space.shape in
    record {
      space = SameSpace-join (states s) (states t) (states u) refusal (λ p. p) (λ p. p) h.space k.space;
      plain = λ plain. k.plain (subst (λ (shape : Shape). IsTrue shape.plain) (sym h.space.shape) plain);
      within = λ p. UnlessDisk-map refusal
          (λ later. ChangesWithin-join (states s) (states t) sites (states u).cells size (h.space.twins p)
          (h.within p) later) (k.within p);
      damaged = λ p. IfDamaged-map refusal
          (λ part level block same x below. (let inside : x < (states t).shape.size = omega (arith, size, below) in
          same x inside ∙ reads.stays.cells (told p) x below)) (k.damaged p);
      hold = join Hold s t u h.hold k.hold;
      spots = λ p spot misses. join spot s t u (h.spots p spot misses)
          (k.spots p spot
          (λ x below site lands_t. (let inside : x < (states s).shape.size = omega (arith, size, below) in
          misses x inside site (h.reach p x inside spot lands_t))));
      reach = λ p. UnlessDisk-map refusal
          (λ (later : LandsAsBefore (states t).shape.size (lands t) (lands u)). λ x below spot lands_u.
          h.reach p x below spot (later x (omega (arith, size, below)) spot lands_u)) (k.reach p);
    }

-- the places of the entry, and of the words, by the plan
pub planned_entry : (s : State) (dirs files : TableInfo) (kind : EntryKind) (parent : ℕ) (name : List ℕ)
    (plan : Addition) → IsAdditionPlan s dirs files kind parent name plan → (x : ℕ)
    → IsWithin (entry_place kind (info_of dirs files kind) plan.place.entry) (entry_size kind) x
    → IsAdditionSite (tables_in s.cells dirs files) dirs files kind parent name x
planned_entry s dirs files kind parent name plan made x within =
    OfEntry (subst (λ (e : ℕ). IsWithin (entry_place kind (info_of dirs files kind) e) (entry_size kind) x) made.entry
    within)

pub planned_words : (s : State) (dirs files : TableInfo) (kind : EntryKind) (parent : ℕ) (name : List ℕ)
    (plan : Addition) → IsAdditionPlan s dirs files kind parent name plan → (x : ℕ) → IsSite dirs files plan.edits x
    → IsAdditionSite (tables_in s.cells dirs files) dirs files kind parent name x
planned_words s dirs files kind parent name plan made x site =
    OfWord (subst (λ (l : List Edit). IsSite dirs files l x) made.edits site)

-- the entry of a plan, behind calls that only read
pub has_later : (s t : State) (dirs files : TableInfo) → HasEntryTables s.shape dirs files
    → CanChangeTables s dirs files → Stays s t None → (kind : EntryKind) (parent : ℕ) (name : List ℕ) (plan : Addition)
    → IsAdditionPlan s dirs files kind parent name plan
    → HasEntry ((tables_in t.cells dirs files).table kind) plan.place.entry
has_later s t dirs files tables can stays kind parent name plan made =
    subst (λ (u : Tables). HasEntry (u.table kind) plan.place.entry)
    (sym (stays_tables s dirs files tables can t stays)) made.has

pub fits_later : (s t : State) (dirs files : TableInfo) (can : CanChangeTables s dirs files) → Stays s t None
    → (kind : EntryKind) (parent : ℕ) (name : List ℕ) (plan : Addition)
    → IsAdditionPlan s dirs files kind parent name plan
    → entry_place kind (info_of dirs files kind) plan.place.entry + entry_size kind ≤ t.shape.size
fits_later s t dirs files can stays kind parent name plan made =
    omega (
      arith,
      (can.tells kind).entries (can.counts kind) plan.place.entry made.has.below,
      ap (λ (shape : Shape). shape.size) stays.space.shape,
    )

-- for callers: as far as the rules hold, none is said to fail
pub never_broken : {A : Type 0} (s : State) (dirs files : TableInfo) (kind : EntryKind) (parent : ℕ) (name : List ℕ)
    (result : Result A EntryFault) → HasAdditionCause s dirs files kind parent name result
    → CanChangeTables s dirs files
    → MayAdd (tables_in s.cells dirs files) kind parent name → IfRuleBroken result (λ table number. ⊥)
never_broken s dirs files kind parent name result cause can may =
    IfRuleBroken-map result
    (λ table number fails. nowhere_fails (tables_in s.cells dirs files) table number may.rules fails)
    (cause.broken can)

-- its bytes stay while the words are put
pub entry_bytes_stay : (s t u v : State) (dirs files : TableInfo) → HasEntryTables s.shape dirs files
    → HasEntryTables u.shape dirs files → (can : CanChangeTables s dirs files) (stays : Stays s t None)
    (kind : EntryKind) (new : NewEntry) (plan : Addition)
    → MayAdd (tables_in s.cells dirs files) kind new.parent new.name.0
    → IsAdditionPlan s dirs files kind new.parent new.name.0 plan → IsEntryPut t u dirs files kind plan.place new
    → length (written_entry kind new plan.place.sibling plan.place.link) ≡ entry_size kind
    → CanSetAll u dirs files plan.edits → ChangesWithin u (IsSite dirs files plan.edits) v.cells
    → AreBytesAt v.cells (entry_place kind (info_of dirs files kind) plan.place.entry)
    (written_entry kind new plan.place.sibling plan.place.link)
entry_bytes_stay s t u v dirs files tables there can stays kind new plan may made put long all soft k less =
    let some : plan.place.entry ≢ 0 = λ nothing. omega (arith, nothing, made.has.some) in
    let below : plan.place.entry < (table_in u.cells kind (info_of dirs files kind)).most =
    omega (
      arith,
      made.has.below,
      ap (λ (w : Tables). (w.table kind).most) put.tables,
      most_put (tables_in t.cells dirs files) kind plan.place.entry new plan.place.sibling plan.place.link kind,
      ap (λ (w : Tables). (w.table kind).most) (stays_tables s dirs files tables can t stays),
    ) in
    let parent_apart = λ (is : kind ≡ Dir) (same : new.parent ≡ plan.place.entry).
    (taking_is s dirs files can kind new.parent new.name.0 may).fresh
    (subst (λ (k : EntryKind). used_entries (table_in s.cells k (info_of dirs files k))
    (taken_entry (table_in s.cells kind (info_of dirs files kind)))) (sym is)
    (subst (λ (e : ℕ). used_entries (table_in s.cells Dir dirs) e) (same ∙ made.entry) may.can.directory)) in
    bytes_stay u dirs files there put.can kind plan.place.entry
    (record { some = made.has.some; below = below }) v plan.edits all.each
    (rw made.edits (All-three (λ edit. IsElsewhere kind plan.place.entry edit.word)
    (record {
      word = Head kind (bucket_number new.parent new.name.0 (info_of dirs files kind).buckets);
      value = taken_entry (table_in s.cells kind (info_of dirs files kind));
    })
    (record {
      word = First kind new.parent;
      value = taken_entry (table_in s.cells kind (info_of dirs files kind));
    })
    (taken_edit kind (table_in s.cells kind (info_of dirs files kind))) tt parent_apart
    (last_elsewhere kind (table_in s.cells kind (info_of dirs files kind)) plan.place.entry some))) soft k
    (get_or (written_entry kind new plan.place.sibling plan.place.link) k 0) (omega (arith, less, long))
    (put.bytes k less)
