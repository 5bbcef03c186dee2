-- A table stays where the cells of its space do.
use Rattle.std.proofs.Common.{◌≡◌, ℕ, ◌+◌, ◌<◌, ◌≤◌, Bool, true, false, nat_lt, if◌then◌else◌, List, [], IsTrue, None, refl, sym, ap, subst, arith}
use Rattle.std.proofs.Math.Path.{fun_ext}
use Rattle.std.proofs.lemmas.Bool.{ltb-true, and_parts}
use Rattle.save_bytes.specs.Fields.{number_at}
use Rattle.save_bytes.specs.Cells.{Cell, Blames}
use Rattle.save_bytes.specs.CellNumbers.{bytes_in, number_in}
use Rattle.save_bytes.specs.State.{Shape, State}
use Rattle.save_bytes.specs.Answers.{IsFirstFault}
use Rattle.save_bytes.specs.Stays.{Stays}
use Rattle.entry_tables.specs.declared.table.EntryKind.{EntryKind}
use Rattle.entry_tables.specs.declared.table.TableInfo.{TableInfo}
use Rattle.entry_tables.specs.Kinds.{entry_size, link_offset}
use Rattle.entry_tables.specs.Tables.{table_in, most_in, is_entry, entry_place, bucket_place}
use Rattle.entry_tables.specs.Layout.{LiesWithin, HasCounts, HasEntryTable, TellsEntryTable, IsNeeded, OfZero, BlamesNeeded, IsReadAt, AtZero}
use Rattle.entry_tables.specs.Layout.{AtPlace, BlamesRead, IsOfTable, InZero, InEntry, InBucket, BlamesTable}
use Rattle.save_bytes.proofs.CellLemmas.{bytes_in-same}
use Rattle.entry_tables.proofs.EntryLemmas.{link_last, entry_long}

-- a field that stands in cells that stay
field_same : {A : Type 0} (here : Bool) (none new old : A) → (here ≡ true → new ≡ old)
    → (if here then new else none) ≡ (if here then old else none)
field_same true none new old same = same refl
field_same false none new old same = refl

-- what was read is entry 0, or the places that were asked for
read_either : (P : ℕ → Type 0) (kind : EntryKind) (info : TableInfo) (from n x : ℕ)
    → (LiesWithin info.table_at (entry_size kind) x → P x) → (LiesWithin from n x → P x)
    → IsReadAt kind info from n x → P x
read_either P kind info from n x zero place (AtZero within) = zero within
read_either P kind info from n x zero place (AtPlace within) = place within

module _ (old new : State) (stays : Stays old new None) where
  same_size : new.shape.size ≡ old.shape.size
  same_size = ap (λ (shape : Shape). shape.size) stays.space.shape

  -- numbers and bytes of the space
  bytes_stay : (n at : ℕ) → IsTrue old.told → at + n ≤ old.shape.size
      → bytes_in new.cells at n ≡ bytes_in old.cells at n
  bytes_stay n at told fits = bytes_in-same new.cells old.cells at at n
      (λ k h. stays.cells told (at + k) (omega (arith, fits, h)))

  number_stays : (n at : ℕ) → IsTrue old.told → at + n ≤ old.shape.size
      → number_in n new.cells at ≡ number_in n old.cells at
  number_stays n at told fits = ap (λ (bytes : List ℕ). number_at n bytes 0) (bytes_stay n at told fits)

  module _ (kind : EntryKind) (info : TableInfo) (table : HasEntryTable old.shape kind info) where
    had_counts : IsTrue old.told → HasCounts new.cells info → HasCounts old.cells info
    had_counts told known k h =
        rw (sym (stays.cells told (info.table_at + k) (omega (arith, h, table.zero, entry_long kind)))) (known k h)

    pub known_later : IsTrue old.told → HasCounts old.cells info → HasCounts new.cells info
    known_later told known k h =
        rw (stays.cells told (info.table_at + k) (omega (arith, h, table.zero, entry_long kind))) (known k h)

    pub count_stays : IsTrue old.told → (table_in new.cells kind info).count ≡ (table_in old.cells kind info).count
    count_stays told = number_stays 4 info.table_at told (omega (arith, table.zero, entry_long kind))

    most_stays : IsTrue old.told → most_in new.cells info ≡ most_in old.cells info
    most_stays told = number_stays 4 (info.table_at + 4) told (omega (arith, table.zero, entry_long kind))

    -- the table still lies in the space
    pub HasEntryTable-stays : HasEntryTable new.shape kind info
    HasEntryTable-stays = subst (λ (shape : Shape). HasEntryTable shape kind info) (sym stays.space.shape) table

    -- and is told as a whole
    pub tells_later : TellsEntryTable old kind info → TellsEntryTable new kind info
    tells_later tells = record {
      told = stays.space.told tells.told;
      entries = λ known e h. omega (
        arith,
        same_size,
        tells.entries (had_counts tells.told known) e (omega (arith, h, most_stays tells.told)),
      );
      least = λ known. omega (arith, count_stays tells.told, tells.least (had_counts tells.told known));
      most = λ known. omega (
        arith,
        count_stays tells.told,
        most_stays tells.told,
        tells.most
            (had_counts tells.told known),
      );
    }

    module _ (tells : TellsEntryTable old kind info) (known : HasCounts old.cells info) where
      -- an entry lies in the space
      pub entry_fits : (e : ℕ) → e < most_in old.cells info → entry_place kind info e + entry_size kind ≤ old.shape.size
      entry_fits e below = tells.entries known e below

      entry_field : {A : Type 0} (e : ℕ) (none new_value old_value : A) → (e < most_in old.cells info
          → new_value ≡ old_value)
          → (if is_entry (most_in new.cells info) e then new_value else none) ≡
          (if is_entry (most_in old.cells info) e then old_value else none)
      entry_field e none new_value old_value same =
          rw (most_stays tells.told)
          (field_same (is_entry (most_in old.cells info) e) none new_value old_value
          (λ here. same (ltb-true e (most_in old.cells info) (and_parts (nat_lt 0 e)
          (nat_lt e (most_in old.cells info)) here).1)))

      entry_number : (e offset : ℕ) → offset + 4 ≤ entry_size kind → e < most_in old.cells info
          → number_in 4 new.cells (entry_place kind info e + offset) ≡ number_in 4 old.cells
          (entry_place kind info e + offset)
      entry_number e offset inside below =
          number_stays 4 (entry_place kind info e + offset) tells.told (omega (arith, inside, entry_fits e below))

      -- each field is as it was
      pub table_stays : table_in new.cells kind info ≡ table_in old.cells kind info
      table_stays = λ i. record {
        count = count_stays tells.told i;
        most = most_stays tells.told i;
        buckets = info.buckets;
        head = fun_ext heads i;
        parent = fun_ext parents i;
        name = fun_ext names i;
        sibling = fun_ext siblings i;
        link = fun_ext links i;
      }
        where
          heads : (b : ℕ) → (table_in new.cells kind info).head b ≡ (table_in old.cells kind info).head b
          heads b =
              field_same (nat_lt b info.buckets) 0 (number_in 4 new.cells (bucket_place info b))
              (number_in 4 old.cells (bucket_place info b))
              (λ here. number_stays 4 (bucket_place info b) tells.told
              (omega (arith, ltb-true b info.buckets here, table.buckets)))

          parents : (e : ℕ) → (table_in new.cells kind info).parent e ≡ (table_in old.cells kind info).parent e
          parents e =
              entry_field e 0 (number_in 4 new.cells (entry_place kind info e))
              (number_in 4 old.cells (entry_place kind info e))
              (λ below. number_stays 4 (entry_place kind info e) tells.told
              (omega (arith, entry_fits e below, entry_long kind)))

          names : (e : ℕ) → (table_in new.cells kind info).name e ≡ (table_in old.cells kind info).name e
          names e =
              entry_field e [] (bytes_in new.cells (entry_place kind info e + 4) 16)
              (bytes_in old.cells (entry_place kind info e + 4) 16)
              (λ below. bytes_stay 16 (entry_place kind info e + 4) tells.told
              (omega (arith, entry_fits e below, entry_long kind)))

          siblings : (e : ℕ) → (table_in new.cells kind info).sibling e ≡ (table_in old.cells kind info).sibling e
          siblings e =
              entry_field e 0 (number_in 4 new.cells (entry_place kind info e + 0x14))
              (number_in 4 old.cells (entry_place kind info e + 0x14))
              (entry_number e 0x14 (omega (arith, entry_long kind)))

          links : (e : ℕ) → (table_in new.cells kind info).link e ≡ (table_in old.cells kind info).link e
          links e =
              rw (most_stays tells.told)
              (field_same (nat_lt e (most_in old.cells info)) 0
              (number_in 4 new.cells (entry_place kind info e + link_offset kind))
              (number_in 4 old.cells (entry_place kind info e + link_offset kind))
              (λ here. entry_number e (link_offset kind) (omega (arith, link_last kind))
              (ltb-true e (most_in old.cells info) here)))

    -- a cell that was read and is no byte was none before
    was_blamed : IsTrue old.told → (from n part level block x : ℕ) → from + n ≤ old.shape.size
        → IsReadAt kind info from n x → Blames (new.cells x) part level block → Blames (old.cells x) part level block
    was_blamed told from n part level block x fits (AtZero within) blames =
        subst (λ (cell : Cell). Blames cell part level block)
        (stays.cells told x (omega (arith, within.before, table.zero))) blames
    was_blamed told from n part level block x fits (AtPlace within) blames =
        subst (λ (cell : Cell). Blames cell part level block)
        (stays.cells told x (omega (arith, within.before, fits))) blames

    -- it is one that is needed
    pub needed_read : IsTrue old.told → (from n part level block : ℕ) → from + n ≤ old.shape.size
        → ((x : ℕ) → LiesWithin from n x → IsNeeded kind info (table_in old.cells kind info) x)
        → BlamesRead kind info from n new.cells part level block → BlamesNeeded kind info old.cells part level block
    needed_read told from n part level block fits needed h = record {
      place = h.place;
      needed = read_either (IsNeeded kind info (table_in old.cells kind info)) kind info from n h.place OfZero
          (needed h.place) h.read;
      blames = was_blamed told from n part level block h.place fits h.read h.blames;
    }

    -- or at least one of the table
    pub table_read : IsTrue old.told → (from n part level block : ℕ) → from + n ≤ old.shape.size
        → ((x : ℕ) → LiesWithin from n x → IsOfTable kind info (table_in old.cells kind info) x)
        → BlamesRead kind info from n new.cells part level block → BlamesTable kind info old.cells part level block
    table_read told from n part level block fits inside h = record {
      place = h.place;
      of_table = read_either (IsOfTable kind info (table_in old.cells kind info)) kind info from n h.place InZero
          (inside h.place) h.read;
      blames = was_blamed told from n part level block h.place fits h.read h.blames;
    }

    -- a cell of the table that is blamed was so before
    pub table_blamed : TellsEntryTable old kind info → HasCounts old.cells info → (part level block : ℕ)
        → BlamesTable kind info new.cells part level block → BlamesTable kind info old.cells part level block
    table_blamed tells known part level block h = go h.of_table
      where
        blamed : h.place < old.shape.size → Blames (old.cells h.place) part level block
        blamed inside = subst (λ (cell : Cell). Blames cell part level block) (stays.cells tells.told h.place inside)
            h.blames

        go : IsOfTable kind info (table_in new.cells kind info) h.place
            → BlamesTable kind info old.cells part level block
        go (InZero within) = record {
          place = h.place;
          of_table = InZero within;
          blames = blamed (omega (arith, within.before, table.zero));
        }
        go (InEntry e below within) =
            let here : e < most_in old.cells info = omega (arith, below, most_stays tells.told) in
            record {
              place = h.place;
              of_table = InEntry e here within;
              blames = blamed (omega (arith, within.before, entry_fits tells known e here));
            }
        go (InBucket bucket below within) = record {
          place = h.place;
          of_table = InBucket bucket below within;
          blames = blamed (omega (arith, within.before, below, table.buckets));
        }

-- a first fault in n places is one of a cell there
pub fault_read : (kind : EntryKind) (info : TableInfo) (cells : ℕ → Cell) (from n part level block : ℕ)
    → IsFirstFault cells from n part level block → BlamesRead kind info from n cells part level block
fault_read kind info cells from n part level block first = record {
  place = from + first.k;
  read = AtPlace (record { from = omega arith; before = omega (arith, first.within) });
  blames = first.fault;
}
