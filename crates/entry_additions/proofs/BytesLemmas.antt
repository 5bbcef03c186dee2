-- The bytes of a new entry stay while words elsewhere are put behind it.
use Rattle.std.proofs.Common.{◌≡◌, ◌≢◌, ℕ, ◌+◌, ◌-◌, ◌<◌, List, refl, sym, ◌∙◌, subst, arith, ⊎_elim}
use Rattle.std.specs.Prelude.{⊤}
use Rattle.std.specs.List.{All}
use Rattle.std.proofs.lemmas.Bool.{cases_eq, eq-eqb, ne_eqb}
use Rattle.std.proofs.lemmas.List.Elements.{All-get_or}
use Rattle.save_bytes.specs.Cells.{Cell, Byte}
use Rattle.save_bytes.specs.State.{State}
use Rattle.save_bytes.specs.Writes.{IsWithin}
use Rattle.save_bytes.specs.Within.{MaySoften, ChangesWithin}
use Rattle.entry_tables.specs.declared.table.EntryKind.{EntryKind}
use Rattle.entry_tables.specs.declared.table.EntryKind.TheVariants.{Dir}
use Rattle.entry_tables.specs.declared.table.TableInfo.{TableInfo}
use Rattle.entry_tables.specs.declared.word.Edit.{Edit}
use Rattle.entry_tables.specs.declared.word.Word.{Word}
use Rattle.entry_tables.specs.declared.word.Word.TheVariants.{Head, Link, Sibling, First, Count}
use Rattle.entry_tables.specs.Kinds.{entry_size, link_offset, child_offset}
use Rattle.entry_tables.specs.Tables.{HasEntry, Table, table_in, tables_in, info_of, entry_place}
use Rattle.entry_tables.specs.Layout.{HasEntryTables}
use Rattle.entry_tables.specs.Words.{HasWord, word_place}
use Rattle.entry_tables.specs.Changes.{Area, EntriesOf, BucketsOf, IsAreaPlace, CanChangeTables, CanSet, IsSite}
use Rattle.entry_tables.proofs.EntryLemmas.{link_last, entry_long}
use Rattle.entry_tables.proofs.ValueLemmas.{IsRunIn, place_below, entry_run, bucket_run}
use Rattle.entry_tables.proofs.WordLemmas.{child_inside, some_most}
use Rattle.entry_tables.proofs.SetLemmas.{part_misses}
use Rattle.entry_additions.specs.Added.{taken_edit}

-- a word is none of an entry's
abbrev pub IsElsewhere : EntryKind → ℕ → Word → Type 0
IsElsewhere kind e (Head other bucket) = ⊤
IsElsewhere kind e (Link other f) = kind ≡ other → f ≢ e
IsElsewhere kind e (Sibling other f) = kind ≡ other → f ≢ e
IsElsewhere kind e (First other dir) = kind ≡ Dir → dir ≢ e
IsElsewhere kind e (Count other) = e ≢ 0

-- the word by which an entry is taken is elsewhere
pub last_elsewhere : (kind : EntryKind) (t : Table) (e : ℕ) → e ≢ 0 → IsElsewhere kind e (taken_edit kind t).word
last_elsewhere kind t e some =
    ⊎_elim (λ (none : t.link 0 ≡ 0). rw (eq-eqb (t.link 0) 0 none) some)
    (λ (freed : t.link 0 ≢ 0). rw (ne_eqb (t.link 0) 0 freed) (λ same is. some (sym is)))
    (cases_eq (t.link 0) 0)

module _ (u : State) (dirs files : TableInfo) (tables : HasEntryTables u.shape dirs files)
    (can : CanChangeTables u dirs files) (kind : EntryKind) (e : ℕ) where
  -- a word that lies in an area, but not in the entry
  record LiesElsewhere (word : Word) : Type 0 where
    area : Area
    run : IsRunIn u.cells dirs files area (word_place dirs files word) 4
    misses : area ≡ EntriesOf kind → (k : ℕ) → k < entry_size kind
        → ¬ IsWithin (word_place dirs files word) 4 (entry_place kind (info_of dirs files kind) e + 0 + k)

  lies_elsewhere : (word : Word) → HasWord (tables_in u.cells dirs files) word → IsElsewhere kind e word
      → LiesElsewhere word
  lies_elsewhere (Head other bucket) has apart = record {
    area = BucketsOf other;
    run = bucket_run u dirs files tables can other bucket has;
    misses = λ same. (cc);
  }
  lies_elsewhere (Link other f) has apart = record {
    area = EntriesOf other;
    run = entry_run u dirs files tables can other f (link_offset other) 4 _ has (omega (arith, link_last other)) refl;
    misses = part_misses dirs files other f (link_offset other) 4 (omega (arith, link_last other)) kind e 0
        (entry_size kind) (omega arith) (λ same is. absurd (apart (sym same) (sym is)));
  }
  lies_elsewhere (Sibling other f) has apart = record {
    area = EntriesOf other;
    run = entry_run u dirs files tables can other f 0x14 4 _ has.below (omega (arith, entry_long other)) refl;
    misses = part_misses dirs files other f 0x14 4 (omega (arith, entry_long other)) kind e 0 (entry_size kind)
        (omega arith) (λ same is. absurd (apart (sym same) (sym is)));
  }
  lies_elsewhere (First other dir) has apart = record {
    area = EntriesOf Dir;
    run = entry_run u dirs files tables can Dir dir (child_offset other) 4 _ has.below (child_inside other) refl;
    misses = part_misses dirs files Dir dir (child_offset other) 4 (child_inside other) kind e 0 (entry_size kind)
        (omega arith) (λ same is. absurd (apart (sym same) (sym is)));
  }
  lies_elsewhere (Count other) has apart = record {
    area = EntriesOf other;
    run = entry_run u dirs files tables can other 0 0 4 _ (some_most u dirs files tables can other)
        (omega (arith, entry_long other)) (omega arith);
    misses =
        (let place : entry_place other (info_of dirs files other) 0 + 0 ≡ (info_of dirs files other).table_at =
        omega arith in
        subst (λ (x : ℕ). EntriesOf other ≡ EntriesOf kind → (k : ℕ) → k < entry_size kind
        → ¬ IsWithin x 4 (entry_place kind (info_of dirs files kind) e + 0 + k)) place
        (part_misses dirs files other 0 0 4 (omega (arith, entry_long other)) kind e 0 (entry_size kind) (omega arith)
        (λ same is. absurd (apart is))));
  }

  -- so its bytes stay
  pub bytes_stay : (has : HasEntry (table_in u.cells kind (info_of dirs files kind)) e) (v : State) (edits : List Edit)
      → All (CanSet u dirs files) edits → All (λ edit. IsElsewhere kind e edit.word) edits
      → ChangesWithin u (IsSite dirs files edits) v.cells → (k value : ℕ) → k < entry_size kind
      → u.cells (entry_place kind (info_of dirs files kind) e + k) ≡ Byte value
      → v.cells (entry_place kind (info_of dirs files kind) e + k) ≡ Byte value
  bytes_stay has v edits set elsewhere soft k value less is =
      let here : IsAreaPlace u.cells dirs files (EntriesOf kind)
      (entry_place kind (info_of dirs files kind) e + k) =
      (e, has.below, record { from = omega arith; before = omega (arith, less) }) in
      let softened : MaySoften (u.cells (entry_place kind (info_of dirs files kind) e + k))
      (v.cells (entry_place kind (info_of dirs files kind) e + k)) =
      soft (entry_place kind (info_of dirs files kind) e + k)
      (place_below u dirs files tables can (EntriesOf kind) (entry_place kind (info_of dirs files kind) e + k) here)
      (λ (y, below, (edit, (i, inside, at_i), within), same).
      (let can_set : CanSet u dirs files edit =
      subst (CanSet u dirs files) at_i (All-get_or (CanSet u dirs files) edits i edit inside set) in
      let apart : IsElsewhere kind e edit.word = subst (λ (d : Edit). IsElsewhere kind e d.word) at_i
      (All-get_or (λ d. IsElsewhere kind e d.word) edits i edit inside elsewhere) in
      let lies = lies_elsewhere edit.word can_set.has apart in
      let there : word_place dirs files edit.word + (y - word_place dirs files edit.word) ≡ y =
      omega (arith, within.0) in
      let both = can.apart lies.area (EntriesOf kind) y (entry_place kind (info_of dirs files kind) e + k)
      (rw there at (lies.run.inside (y - word_place dirs files edit.word) (omega (arith, within.0, within.1)))) here
      (sym same) in
      let spot : y ≡ entry_place kind (info_of dirs files kind) e + 0 + k = both.1 ∙ omega arith in
      lies.misses both.0 k less
      (subst (λ (n : ℕ). IsWithin (word_place dirs files edit.word) 4 n) spot within))) in
      subst (λ (cell : Cell). MaySoften cell (v.cells (entry_place kind (info_of dirs files kind) e + k))) is softened
