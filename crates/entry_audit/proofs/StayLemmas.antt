-- What was read later, as what was there before, and why a later call is refused.
use Rattle.std.proofs.Common.{◌≡◌, ℕ, ◌+◌, ◌<◌, ◌≤◌, Bool, true, false, IsTrue, Option, Some, None, refl, sym, ◌∙◌, ap}
use Rattle.std.proofs.Common.{subst, arith}
use Rattle.save_bytes.specs.declared.space.Bad.{Bad}
use Rattle.save_bytes.specs.Cells.{Cell, IsByte, Blames}
use Rattle.save_bytes.specs.State.{State}
use Rattle.save_bytes.specs.Answers.{IsFirstFault}
use Rattle.save_bytes.specs.Stays.{Stays}
use Rattle.save_bytes.specs.Refusals.{IfDamaged, NeverDamaged}
use Rattle.save_bytes.proofs.SpaceLemmas.{IfDamaged-map, IfDamaged-never}
use Rattle.entry_tables.specs.declared.table.EntryKind.{EntryKind}
use Rattle.entry_tables.specs.declared.table.EntryFault.TheVariants as fault
use Rattle.entry_tables.specs.declared.table.TableInfo.{TableInfo}
use Rattle.entry_tables.specs.Kinds.{entry_size}
use Rattle.entry_tables.specs.Tables.{Table, table_in, most_in, entry_place}
use Rattle.entry_tables.specs.Used.{used_entries}
use Rattle.entry_tables.specs.Rules.{HasFreedList}
use Rattle.entry_tables.specs.Layout.{LiesWithin, HasEntryTable, TellsEntryTable, IsNeeded, OfZero, OfUsed, IsReadAt}
use Rattle.entry_tables.specs.Layout.{AtZero, AtPlace, IsOfTable, InZero, InEntry, InBucket}
use Rattle.entry_tables.specs.Layout.{BlamesRead as BlamesBytes}
use Rattle.entry_tables.proofs.StayLemmas.{tells_later, known_later, table_stays, entry_fits, count_stays, fault_read}
use Rattle.entry_tables.proofs.CauseLemmas.{plain_stays}
use Rattle.entry_audit.specs.declared.table.TableFault.{TableFault}
use Rattle.entry_audit.specs.declared.table.TableFault.TheVariants.{Memory, Entries}
use Rattle.entry_audit.specs.Reading.{IsTold, space_bad, IfFreedBroken, BlamesCell, HasReadCause, FreedFails}

IfFreedBroken-map : {P Q : ℕ → ℕ → Type 0} (refusal : Option TableFault)
    → ((table entry : ℕ) → P table entry → Q table entry) → IfFreedBroken refusal P → IfFreedBroken refusal Q
IfFreedBroken-map None f h = tt
IfFreedBroken-map (Some Memory) f h = tt
IfFreedBroken-map (Some (Entries (fault.Bad bad))) f h = tt
IfFreedBroken-map (Some (Entries (fault.Broken table entry))) f h = f table entry h
IfFreedBroken-map (Some (Entries (fault.NoEntry most))) f h = tt

-- a cause under one premise, as one under another
pub HasReadCause-map : {plain other : Bool} {P Q : Type 0} {Blamed More : ℕ → ℕ → ℕ → Type 0}
    {Fails Falls : ℕ → ℕ → Type 0} (refusal : Option TableFault) → (IsTrue other → IsTrue plain) → (Q → P)
    → (Q → (part level block : ℕ) → Blamed part level block → More part level block)
    → (Q → (table entry : ℕ) → Fails table entry → Falls table entry)
    → HasReadCause plain P Blamed Fails refusal → HasReadCause other Q More Falls refusal
HasReadCause-map refusal plain premise blamed fails h = record {
  damaged = λ q. IfDamaged-map (space_bad refusal) (blamed q) (h.damaged (premise q));
  never = λ p. h.never (plain p);
  broken = λ q. IfFreedBroken-map refusal (fails q) (h.broken (premise q));
  never_full = h.never_full;
}

-- a refusal of the space
pub bad_read : {plain : Bool} {P : Type 0} {Blamed : ℕ → ℕ → ℕ → Type 0} {Fails : ℕ → ℕ → Type 0} (bad : Bad)
    → (P → IfDamaged (Some bad) Blamed) → (IsTrue plain → NeverDamaged (Some bad))
    → HasReadCause plain P Blamed Fails (Some (Entries (fault.Bad bad)))
bad_read bad damaged never = record { damaged = damaged; never = never; broken = λ p. tt; never_full = tt }

-- a rule that fails
pub broken_read : {plain : Bool} {P : Type 0} {Blamed : ℕ → ℕ → ℕ → Type 0} {Fails : ℕ → ℕ → Type 0} (table entry : ℕ)
    → (P → Fails table entry) → HasReadCause plain P Blamed Fails (Some (Entries (fault.Broken table entry)))
broken_read table entry fails = record { damaged = λ p. tt; never = λ p. tt; broken = fails; never_full = tt }

module _ (old mid : State) (stays : Stays old mid None) (kind : EntryKind) (info : TableInfo)
    (table : HasEntryTable old.shape kind info) where
  -- the table is still told
  pub told_later : (count : ℕ) → IsTold old kind info count → IsTold mid kind info count
  told_later count told = record {
    tells = tells_later old mid stays kind info table told.tells;
    known = known_later old mid stays kind info table told.tells.told told.known;
    counted = count_stays old mid stays kind info table told.tells.told ∙ told.counted;
  }

  pub same_table : (count : ℕ) → IsTold old kind info count
      → table_in mid.cells kind info ≡ table_in old.cells kind info
  same_table count told = table_stays old mid stays kind info table told.tells told.known

  -- a place of the table lies in the space
  place_inside : (count x : ℕ) → IsTold old kind info count → IsOfTable kind info (table_in old.cells kind info) x
      → x < old.shape.size
  place_inside count x told (InZero within) = omega (arith, within.before, table.zero)
  place_inside count x told (InEntry e below within) =
      omega (arith, within.before, entry_fits old mid stays kind info table told.tells told.known e below)
  place_inside count x told (InBucket bucket below within) = omega (arith, within.before, below, table.buckets)

  was_blamed : (count x part level block : ℕ) → IsTold old kind info count
      → IsOfTable kind info (table_in old.cells kind info) x → Blames (mid.cells x) part level block
      → Blames (old.cells x) part level block
  was_blamed count x part level block told of_table blames =
      subst (λ (cell : Cell). Blames cell part level block)
      (stays.cells told.tells.told x (place_inside count x told of_table)) blames

  -- a cell that was read of the table and is no byte was none before
  pub read_blamed : (count from n part level block : ℕ) → IsTold old kind info count
      → ((x : ℕ) → LiesWithin from n x → IsOfTable kind info (table_in old.cells kind info) x)
      → ((x : ℕ) → HasFreedList kind (table_in old.cells kind info) → LiesWithin from n x
      → IsNeeded kind info (table_in old.cells kind info) x)
      → BlamesBytes kind info from n mid.cells part level block → BlamesCell kind info old.cells part level block
  read_blamed count from n part level block told inside needed h = go h.read
    where
      go : IsReadAt kind info from n h.place → BlamesCell kind info old.cells part level block
      go (AtZero within) = record {
        place = h.place;
        of_table = InZero within;
        needed = λ list. OfZero within;
        blames = was_blamed count h.place part level block told (InZero within) h.blames;
      }
      go (AtPlace within) = record {
        place = h.place;
        of_table = inside h.place within;
        needed = λ list. needed h.place list within;
        blames = was_blamed count h.place part level block told (inside h.place within) h.blames;
      }

  -- as for part of an entry
  pub entry_blamed : (count e offset n : ℕ) (bad : Bad) → IsTold old kind info count → offset + n ≤ entry_size kind
      → e < (table_in old.cells kind info).count
      → ((x : ℕ) → HasFreedList kind (table_in old.cells kind info) → LiesWithin (entry_place kind info e + offset) n x
      → IsNeeded kind info (table_in old.cells kind info) x)
      → (IsTrue mid.told → IfDamaged (Some bad) (BlamesBytes kind info (entry_place kind info e + offset) n mid.cells))
      → IfDamaged (Some bad) (BlamesCell kind info old.cells)
  entry_blamed count e offset n bad told fits below needed damaged =
      let here : e < most_in old.cells info = omega (arith, below, told.tells.most told.known) in
      IfDamaged-map (Some bad)
      (λ part level block. read_blamed count (entry_place kind info e + offset) n part level block told
      (λ x within. InEntry e here (record {
        from = omega (arith, within.from);
        before = omega (arith, within.before, fits);
      }))
      needed)
      (damaged (stays.space.told told.tells.told))

  -- as for an entry that was read where that was wanted
  pub used_blamed : (count e : ℕ) (wanted : Bool) (bad : Bad) → IsTold old kind info count
      → e < (table_in old.cells kind info).count → (IsTrue wanted → used_entries (table_in old.cells kind info) e)
      → (wanted ≡ false → NeverDamaged (Some bad))
      → (IsTrue mid.told
      → IfDamaged (Some bad) (BlamesBytes kind info (entry_place kind info e + 0) (entry_size kind) mid.cells))
      → IfDamaged (Some bad) (BlamesCell kind info old.cells)
  used_blamed count e true bad told below used never damaged =
      entry_blamed count e 0 (entry_size kind) bad told (omega arith) below
      (λ x list within. OfUsed e (used refl) (record {
        from = omega (arith, within.from);
        before = omega (arith, within.before);
      }))
      damaged
  used_blamed count e false bad told below used never damaged =
      IfDamaged-never (Some bad) (BlamesCell kind info old.cells) (never refl)

  -- what is blamed later was so before
  pub blamed_later : (count part level block : ℕ) → IsTold old kind info count
      → BlamesCell kind info mid.cells part level block → BlamesCell kind info old.cells part level block
  blamed_later count part level block told h =
      let same = same_table count told in
      let of_table = subst (λ (t : Table). IsOfTable kind info t h.place) same h.of_table in
      record {
        place = h.place;
        of_table = of_table;
        needed = λ list. subst (λ (t : Table). IsNeeded kind info t h.place) same
            (h.needed (subst (HasFreedList kind) (sym same) list));
        blames = was_blamed count h.place part level block told of_table h.blames;
      }

  -- what was read of an entry's last word
  pub link_later : (count e word : ℕ) → IsTold old kind info count → e < (table_in old.cells kind info).count
      → (TellsEntryTable mid kind info → e < most_in mid.cells info → word ≡ (table_in mid.cells kind info).link e)
      → word ≡ (table_in old.cells kind info).link e
  link_later count e word told below read =
      let same = same_table count told in
      let here : e < most_in old.cells info = omega (arith, below, told.tells.most told.known) in
      read (told_later count told).tells (subst (λ (t : Table). e < t.most) (sym same) here)
      ∙ ap (λ (t : Table). t.link e) same

  -- and cells of an entry that were bytes
  pub bytes_later : (count e offset n : ℕ) → IsTold old kind info count → offset + n ≤ entry_size kind
      → e < (table_in old.cells kind info).count
      → (TellsEntryTable mid kind info → e < most_in mid.cells info
      → (k : ℕ) → k < n → IsByte (mid.cells (entry_place kind info e + offset + k)))
      → (k : ℕ) → k < n → IsByte (old.cells (entry_place kind info e + offset + k))
  bytes_later count e offset n told fits below read k h =
      let same = same_table count told in
      let here : e < most_in old.cells info = omega (arith, below, told.tells.most told.known) in
      let inside = entry_fits old mid stays kind info table told.tells told.known e here in
      subst IsByte (stays.cells told.tells.told (entry_place kind info e + offset + k) (omega (arith, inside, fits, h)))
      (read (told_later count told).tells (subst (λ (t : Table). e < t.most) (sym same) here) k h)

  pub plain_later : IsTrue old.shape.plain → IsTrue mid.shape.plain
  plain_later plain = plain_stays old.shape mid.shape stays.space.shape plain

  -- a refusal of a later call
  pub cause_later : (count : ℕ) (refusal : Option TableFault)
      → HasReadCause mid.shape.plain (IsTold mid kind info count) (BlamesCell kind info mid.cells)
      (FreedFails kind (table_in mid.cells kind info)) refusal
      → HasReadCause old.shape.plain (IsTold old kind info count) (BlamesCell kind info old.cells)
      (FreedFails kind (table_in old.cells kind info)) refusal
  cause_later count refusal h =
      HasReadCause-map refusal plain_later (told_later count)
      (λ told part level block. blamed_later count part level block told)
      (λ told table_found entry. subst (λ (t : Table). FreedFails kind t table_found entry) (same_table count told)) h

  -- or of one that fails at no rule
  pub cause_of_bytes : (count : ℕ) (P : Type 0) (refusal : Option TableFault) → (IsTold old kind info count → P)
      → HasReadCause mid.shape.plain P (BlamesCell kind info mid.cells) (λ table_found entry. ⊥) refusal
      → HasReadCause old.shape.plain (IsTold old kind info count) (BlamesCell kind info old.cells)
      (FreedFails kind (table_in old.cells kind info)) refusal
  cause_of_bytes count P refusal premise h =
      HasReadCause-map refusal plain_later premise
      (λ told part level block. blamed_later count part level block told)
      (λ told table_found entry none. absurd none) h

  -- or of reading entry 0
  pub zero_blamed : (count part level block : ℕ) → IsTold old kind info count
      → IsFirstFault mid.cells info.table_at (entry_size kind) part level block
      → BlamesCell kind info old.cells part level block
  zero_blamed count part level block told first =
      read_blamed count info.table_at (entry_size kind) part level block told (λ x within. InZero within)
      (λ x list within. OfZero within)
      (fault_read kind info mid.cells info.table_at (entry_size kind) part level block first)
