-- The parts of a store stand in it, and what stays of the store where one of them is put into.
use Rattle.std.specs.Prelude.{◌==◌, nat_lt}
use Rattle.std.proofs.Common.{◌≡◌, ◌≢◌, ◌⊎◌, ℕ, ◌+◌, ◌-◌, ◌<◌, ◌≤◌, true, false, not, List, Option}
use Rattle.std.proofs.Common.{Some, None, div-mul-le_self, refl, sym, ◌∙◌, ap, subst, arith, ⊎_elim}
use Rattle.std.proofs.lemmas.Bool.{lt-ltb, le-ltb, and_parts, eq-eqb, not-true}
use Rattle.save_bytes.specs.Extents.{AreApart}
use Rattle.save_bytes.proofs.ExtentLemmas.{apart as apart_by_test}
use Rattle.save_bytes.specs.Cells.{Cell, Byte, Blank, Spoilt, IsBlank}
use Rattle.save_bytes.specs.State.{State}
use Rattle.save_bytes.specs.Stays.{SameCells}
use Rattle.ivfc_tree.specs.declared.path.BlockState.{BlockState}
use Rattle.ivfc_tree.specs.declared.path.BlockState.TheVariants.{Good, Blank as BlankAt, Bad as BadAt}
use Rattle.ivfc_tree.specs.Paths.{cell_in}
use Rattle.part_store.specs.declared.part.Part.{Part}
use Rattle.part_store.specs.Parts.{part_state}
use Rattle.container.specs.Stores.{are_two, taken_of, state_of}
use Rattle.container.proofs.EmbedLemmas.{StandsIn, StayOutside}

-- a cell that is no byte names a block of this part
abbrev pub IsOfPart : ℕ → Cell → Type 0
IsOfPart number (Byte value) = Unit {0}
IsOfPart number (Blank part level block) = part ≡ number
IsOfPart number (Spoilt part level block) = part ≡ number

cell_of_part : (found : BlockState) (number value : ℕ) → IsOfPart number (cell_in found number value)
cell_of_part Good number value = tt
cell_of_part (BlankAt level block) number value = refl
cell_of_part (BadAt level block) number value = refl

pub of_part : (base : State) (part : Part) (table : List ℕ) (x : ℕ)
    → IsOfPart part.number ((part_state base part table).cells x)
of_part base part table x = cell_of_part _ part.number _

blank_names : (one other : ℕ) (cell : Cell) → IsBlank cell → IsOfPart one cell → IsOfPart other cell → one ≡ other
blank_names one other (Byte value) blank here there = absurd blank
blank_names one other (Blank part level block) blank here there = sym here ∙ there
blank_names one other (Spoilt part level block) blank here there = absurd blank

-- blank cells of different parts differ
pub names_apart : (one other : ℕ) (cell next : Cell) → one ≢ other → IsBlank cell → IsOfPart one cell
    → IsOfPart other next → cell ≢ next
names_apart one other cell next apart blank here there same =
    apart (blank_names one other cell blank here (subst (IsOfPart other) (sym same) there))

-- of two parts the numbers differ, and no byte is taken by both
pub other_number : (one other : Part) → are_two one other ≡ true → one.number ≢ other.number
other_number one other two same =
    let differ : not (one.number == other.number) ≡ true = (and_parts _ _ two).0 in absurd (let no = rw (eq-eqb one.number other.number same) at differ in cc)

pub taken_from_two : (one other : Part) → are_two one other ≡ true → AreApart (taken_of one) (taken_of other)
taken_from_two one other two = apart_by_test (taken_of one) (taken_of other) (not-true _ (and_parts _ _ two).1)

pub apart_from_first : (one other : Part) → are_two one other ≡ true → AreApart (taken_of other) (taken_of one)
apart_from_first one other two x a b c d = taken_from_two one other two x c d a b

module _ (base : State) (first : Part) (table : List ℕ) where
  one : State
  one = part_state base first table

  -- a block begins no later than a place of it
  start_le : (part : Part) (x : ℕ) → (part_state base part table).shape.block_start x ≤ x
  start_le part x = div-mul-le_self x _

  from_zero : (x : ℕ) → 0 + x ≡ x
  from_zero x = omega arith

  -- no place lies before the beginning
  behind_all : (size x : ℕ) → (x < 0) ⊎ (0 + size ≤ x) → size ≤ x
  behind_all size x out =
      ⊎_elim (λ (before : x < 0). absurd (omega (arith, before))) (λ (behind : 0 + size ≤ x). omega (arith, behind)) out

  pub first_stands : (second : Option Part) → StandsIn (part_state base first table) (state_of base first second table) 0
  first_stands None = record {
    fits = omega arith;
    cells = λ x below. ap (part_state base first table).cells (from_zero x);
    starts = λ x below. ap (part_state base first table).shape.block_start (from_zero x)
        ∙ sym (from_zero ((part_state base first table).shape.block_start x));
    lens = λ x below. ap (part_state base first table).shape.block_len (from_zero x);
    bottom = λ x. refl;
    free = λ x. refl;
    whole_bottom = λ x. refl;
    whole_free = λ x. refl;
    unplain = refl;
    apart = λ x y below out in_y. absurd (omega (arith, below, behind_all first.difi.ivfc4.size x out));
  }
  first_stands (Some second) = record {
    fits = omega arith;
    cells = λ x below. rw (from_zero x, lt-ltb x first.difi.ivfc4.size below) refl;
    starts = λ x below. rw (from_zero x, lt-ltb x first.difi.ivfc4.size below) (sym (from_zero _));
    lens = λ x below. rw (from_zero x, lt-ltb x first.difi.ivfc4.size below) refl;
    bottom = λ x. refl;
    free = λ x. refl;
    whole_bottom = λ x. refl;
    whole_free = λ x. refl;
    unplain = refl;
    apart = λ x y below out in_y same.
        (let behind = behind_all first.difi.ivfc4.size x out in
        let met = rw (from_zero y, le-ltb x first.difi.ivfc4.size behind, lt-ltb y first.difi.ivfc4.size in_y) at same in
        absurd (omega (arith, met, start_le first y, in_y)));
  }

  behind_first : (x : ℕ) → first.difi.ivfc4.size + x - first.difi.ivfc4.size ≡ x
  behind_first x = omega arith

  pub second_stands : (second : Part) → StandsIn (part_state base second table) (state_of base first (Some second) table) first.difi.ivfc4.size
  second_stands second =
      let size = first.difi.ivfc4.size in
      let past : (x : ℕ) → nat_lt (size + x) size ≡ false = λ x. le-ltb (size + x) size (omega arith) in
      record {
        fits = omega arith;
        cells = λ x below. rw (past x, behind_first x) refl;
        starts = λ x below. rw (past x, behind_first x) refl;
        lens = λ x below. rw (past x, behind_first x) refl;
        bottom = λ x. refl;
        free = λ x. refl;
        whole_bottom = λ x. refl;
        whole_free = λ x. refl;
        unplain = refl;
        apart = λ x y below out in_y same.
            ⊎_elim
            (λ (before : x < size).
            let met = rw (lt-ltb x size before, past y, behind_first y) at same in
            absurd (omega (arith, sym met, start_le first x, before)))
            (λ (behind : size + second.difi.ivfc4.size ≤ x). absurd (omega (arith, behind, below)))
            out;
      }

module _ (base new : State) (table : List ℕ) where
  -- the cells of the second part stay where the first is put into
  pub first_outside : (first next : Part) (second : Option Part) → next.difi.ivfc4.size ≡ first.difi.ivfc4.size
      → next.number ≡ first.number
      → ((part : Part) → second ≡ Some part → (are_two first part ≡ true)
      × SameCells (part_state base part table) (part_state new part table))
      → StayOutside (state_of base first second table) (part_state base first table) (state_of new next second table) 0
  first_outside first next None size number stay = record {
    cells = λ x below out. absurd (omega (arith, below, behind_all base first table first.difi.ivfc4.size x out));
    names = λ x y below out in_y. absurd (omega (arith, below, behind_all base first table first.difi.ivfc4.size x out));
  }
  first_outside first next (Some second) size number stay =
      let there = stay second refl in
      let from = behind_all base first table first.difi.ivfc4.size in
      let later : (x : ℕ) → (x < 0) ⊎ (0 + first.difi.ivfc4.size ≤ x) → next.difi.ivfc4.size ≤ x =
      λ x out. omega (arith, from x out, size) in
      let rest : (x : ℕ) → x - next.difi.ivfc4.size ≡ x - first.difi.ivfc4.size = λ x. omega (arith, size) in
      record {
        cells = λ x below out.
            rw (le-ltb x next.difi.ivfc4.size (later x out), le-ltb x first.difi.ivfc4.size (from x out))
            (ap (part_state new second table).cells (rest x)
            ∙ there.1 (x - first.difi.ivfc4.size) (omega (arith, below, from x out)));
        names = λ x y below out in_y.
            rw (
              from_zero base first table y,
              le-ltb x next.difi.ivfc4.size (later x out),
              lt-ltb y next.difi.ivfc4.size (omega (arith, in_y, size)),
            )
            (λ blank. names_apart second.number first.number
            ((part_state new second table).cells (x - next.difi.ivfc4.size)) ((part_state new next table).cells y)
            (λ same. other_number first second there.0 (sym same)) blank (of_part new second table (x - next.difi.ivfc4.size))
            (subst (λ (n : ℕ). IsOfPart n ((part_state new next table).cells y)) number (of_part new next table y)));
      }

  -- and the other way round
  pub second_outside : (first second next : Part) → next.difi.ivfc4.size ≡ second.difi.ivfc4.size
      → next.number ≡ second.number → are_two first second ≡ true
      → SameCells (part_state base first table) (part_state new first table)
      → StayOutside (state_of base first (Some second) table) (part_state base second table)
      (state_of new first (Some next) table) first.difi.ivfc4.size
  second_outside first second next size number two stay =
      let o = first.difi.ivfc4.size in
      let before : (x : ℕ) → x < o + second.difi.ivfc4.size → (x < o) ⊎ (o + second.difi.ivfc4.size ≤ x) → x < o =
      λ x below out. ⊎_elim (λ (less : x < o). less) (λ (behind : o + second.difi.ivfc4.size ≤ x). absurd (omega (arith, below, behind))) out in
      let past : (y : ℕ) → nat_lt (o + y) o ≡ false = λ y. le-ltb (o + y) o (omega arith) in
      record {
        cells = λ x below out. rw (lt-ltb x o (before x below out)) (stay x (before x below out));
        names = λ x y below out in_y.
            rw (lt-ltb x o (before x below out), past y)
            (λ blank. names_apart first.number second.number ((part_state new first table).cells x)
            ((part_state new next table).cells (o + y - o)) (other_number first second two) blank (of_part new first table x)
            (subst (λ (n : ℕ). IsOfPart n ((part_state new next table).cells (o + y - o))) number (of_part new next table (o + y - o))));
      }
