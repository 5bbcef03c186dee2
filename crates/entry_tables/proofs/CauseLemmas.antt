-- Why calls on entries are refused.
use Rattle.std.proofs.Common.{◌≡◌, ℕ, ◌+◌, ◌<◌, ◌≤◌, IsTrue, Result, Ok, Err, Some, refl, ap, subst, sym, arith}
use Rattle.std.specs.Prelude.{⊤}
use Rattle.std.specs.Result.{IsErrAnd}
use Rattle.save_bytes.specs.declared.space.Bad.{Bad}
use Rattle.save_bytes.specs.State.{Shape, State}
use Rattle.save_bytes.specs.Answers.{IsFirstFault, IsRead, IsFirstSpoilt, IsReady}
use Rattle.save_bytes.specs.Refusals.{IfDamaged, NeverDamaged}
use Rattle.entry_tables.specs.declared.table.EntryKind.{EntryKind}
use Rattle.entry_tables.specs.declared.table.EntryKind.TheVariants.{File}
use Rattle.entry_tables.specs.declared.table.TableInfo.{TableInfo}
use Rattle.entry_tables.specs.declared.table.EntryFault.{EntryFault}
use Rattle.entry_tables.specs.declared.table.EntryFault.TheVariants as fault
use Rattle.entry_tables.specs.Kinds.{entry_size, link_offset}
use Rattle.entry_tables.specs.Tables.{HasEntry, table_in, entry_place, bucket_place}
use Rattle.entry_tables.specs.Used.{used_entries}
use Rattle.entry_tables.specs.Layout.{TellsEntryTable, IsNeeded, OfZero, OfBucket, OfUsed, OfFreed, HasLink, LinksFreed, LinksBucket, LinksNext}
use Rattle.entry_tables.specs.Layout.{BlamesNeeded, IsReadAt, AtZero, AtPlace, BlamesRead}
use Rattle.entry_tables.specs.Causes.{IfRuleBroken, HasEntryCause}
use Rattle.entry_tables.proofs.EntryLemmas.{used_entry, link_last, entry_long}
use Rattle.entry_tables.specs.Changes.{CanChangeTables}
use Rattle.save_bytes.proofs.SpaceLemmas.{IfDamaged-map}

-- an error is passed on as it is
pub passed_error : {A E : Type 0} (result : Result A E) (error : E) → IsErrAnd result (λ found. found ≡ error)
    → result ≡ Err error
passed_error (Ok value) error h = absurd h
passed_error (Err found) error h = ap Err h

-- and a refusal of the space within another
pub passed_on : {A : Type 0} (result : Result A EntryFault) (bad : Bad)
    → IsErrAnd result (λ found. found ≡ fault.Bad bad) → result ≡ Err (fault.Bad bad)
passed_on result bad h = passed_error result (fault.Bad bad) h

-- what holds where a rule is said to fail follows there
pub IfRuleBroken-map : {A : Type 0} {P Q : ℕ → ℕ → Type 0} (result : Result A EntryFault)
    → ((table entry : ℕ) → P table entry → Q table entry) → IfRuleBroken result P → IfRuleBroken result Q
IfRuleBroken-map (Ok value) f h = tt
IfRuleBroken-map (Err (fault.Bad bad)) f h = tt
IfRuleBroken-map (Err (fault.Broken table entry)) f h = f table entry h
IfRuleBroken-map (Err (fault.NoEntry most)) f h = tt

module _ {A : Type 0} (s : State) (kind : EntryKind) (info : TableInfo) (Rule : Type 0) (Fails : ℕ → ℕ → Type 0) where
  pub bad_cause : (bad : Bad) → (TellsEntryTable s kind info → Rule
      → IfDamaged (Some bad) (BlamesNeeded kind info s.cells))
      → (IsTrue s.shape.plain → NeverDamaged (Some bad))
      → HasEntryCause {A = A} s kind info Rule Fails (Err (fault.Bad bad))
  bad_cause bad damaged plain = record { damaged = damaged; plain = plain; broken = λ tells. tt; never_full = tt }

  pub broken_cause : (table entry : ℕ) → (TellsEntryTable s kind info → Fails table entry)
      → HasEntryCause {A = A} s kind info Rule Fails (Err (fault.Broken table entry))
  broken_cause table entry fails = record {
    damaged = λ tells rule. tt;
    plain = λ plain. tt;
    broken = fails;
    never_full = tt;
  }

-- what is plain stays plain
pub plain_stays : (old new : Shape) → new ≡ old → IsTrue old.plain → IsTrue new.plain
plain_stays old new same plain = subst (λ (shape : Shape). IsTrue shape.plain) (sym same) plain

-- the bytes of a used entry are needed
module _ (s : State) (kind : EntryKind) (info : TableInfo) (entry offset n : ℕ) (fits : offset + n ≤ entry_size kind)
    (used : used_entries (table_in s.cells kind info) entry) where
  needed_place : (x : ℕ) → IsReadAt kind info (entry_place kind info entry + offset) n x
      → IsNeeded kind info (table_in s.cells kind info) x
  needed_place x (AtZero within) = OfZero within
  needed_place x (AtPlace within) =
      OfUsed entry used (record { from = omega (arith, within.from); before = omega (arith, within.before, fits) })

  needed_entry : (part level block : ℕ)
      → BlamesRead kind info (entry_place kind info entry + offset) n s.cells part level block
      → BlamesNeeded kind info s.cells part level block
  needed_entry part level block h = record { place = h.place; needed = needed_place h.place h.read; blames = h.blames }

pub entry_cause : {A : Type 0} (s : State) (kind : EntryKind) (info : TableInfo) (entry offset n : ℕ)
    (result : Result A EntryFault)
    (bad : Bad) → offset + n ≤ entry_size kind → IsErrAnd result (λ found. found ≡ fault.Bad bad)
    → (IsTrue s.told → IfDamaged (Some bad) (BlamesRead kind info (entry_place kind info entry + offset) n s.cells))
    → (IsTrue s.shape.plain → NeverDamaged (Some bad))
    → HasEntryCause s kind info (used_entries (table_in s.cells kind info) entry) (λ table place. ⊥) result
entry_cause s kind info entry offset n result bad fits is damaged plain =
    rw (passed_on result bad is)
    (bad_cause s kind info (used_entries (table_in s.cells kind info) entry) (λ table place. ⊥) bad
    (λ tells used. IfDamaged-map (Some bad) (needed_entry s kind info entry offset n fits used) (damaged tells.told))
    plain)

-- entry 0 is needed
pub zero_cause : {A : Type 0} (s : State) (kind : EntryKind) (info : TableInfo) (result : Result A EntryFault)
    (bad : Bad)
    → IsErrAnd result (λ found. found ≡ fault.Bad bad) → IsRead s info.table_at 8 (Some bad)
    → HasEntryCause s kind info ⊤ (λ table place. ⊥) result
zero_cause s kind info result bad is read =
    rw (passed_on result bad is)
    (bad_cause s kind info ⊤ (λ table place. ⊥) bad
    (λ tells rule. IfDamaged-map (Some bad) blamed (read.damaged tells.told)) read.plain)
  where
    blamed : (part level block : ℕ) → IsFirstFault s.cells info.table_at 8 part level block
        → BlamesNeeded kind info s.cells part level block
    blamed part level block first = record {
      place = info.table_at + first.k;
      needed = OfZero (record { from = omega arith; before = omega (arith, first.within, entry_long kind) });
      blames = first.fault;
    }

-- and so is a bucket
pub bucket_cause : {A : Type 0} (s : State) (kind : EntryKind) (info : TableInfo) (bucket : ℕ)
    (result : Result A EntryFault) (bad : Bad)
    → bucket < info.buckets → IsErrAnd result (λ found. found ≡ fault.Bad bad)
    → IsRead s (bucket_place info bucket) 4 (Some bad)
    → HasEntryCause s kind info ⊤ (λ table place. ⊥) result
bucket_cause s kind info bucket result bad below is read =
    rw (passed_on result bad is)
    (bad_cause s kind info ⊤ (λ table place. ⊥) bad
    (λ tells rule. IfDamaged-map (Some bad) blamed (read.damaged tells.told)) read.plain)
  where
    blamed : (part level block : ℕ) → IsFirstFault s.cells (bucket_place info bucket) 4 part level block
        → BlamesNeeded kind info s.cells part level block
    blamed part level block first = record {
      place = bucket_place info bucket + first.k;
      needed = OfBucket bucket below (record { from = omega arith; before = omega (arith, first.within) });
      blames = first.fault;
    }

-- and the last word of an entry that has one
module _ (s : State) (kind : EntryKind) (info : TableInfo) (entry : ℕ) where
  link_place : (x : ℕ) → HasLink (table_in s.cells kind info) entry
      → IsReadAt kind info (entry_place kind info entry + link_offset kind) 4 x
      → IsNeeded kind info (table_in s.cells kind info) x
  link_place x has (AtZero within) = OfZero within
  link_place x (LinksFreed none) (AtPlace within) =
      let there : entry_place kind info entry ≡ info.table_at = rw none (omega arith) in
      OfZero (record {
        from = omega (arith, within.from, there);
        before = omega (arith, within.before, there, link_last kind);
      })
  link_place x (LinksBucket used) (AtPlace within) =
      OfUsed entry used (record {
        from = omega (arith, within.from);
        before = omega (arith, within.before, link_last kind);
      })
  link_place x (LinksNext list freed contained) (AtPlace within) = OfFreed entry list freed contained within

  pub link_cause : {A : Type 0} (result : Result A EntryFault) (bad : Bad)
      → IsErrAnd result (λ found. found ≡ fault.Bad bad)
      → (IsTrue s.told → IfDamaged (Some bad) (BlamesRead kind info (entry_place kind info entry + link_offset kind) 4
      s.cells))
      → (IsTrue s.shape.plain → NeverDamaged (Some bad))
      → HasEntryCause s kind info (HasLink (table_in s.cells kind info) entry) (λ table place. ⊥) result
  link_cause result bad is damaged plain =
      rw (passed_on result bad is)
      (bad_cause s kind info (HasLink (table_in s.cells kind info) entry) (λ table place. ⊥) bad
      (λ tells has. IfDamaged-map (Some bad)
      (λ part level block h. record { place = h.place; needed = link_place h.place has h.read; blames = h.blames })
      (damaged tells.told)) plain)

-- a spoilt cell of a used entry is one that is needed
pub spoilt_entry : (s : State) (kind : EntryKind) (info : TableInfo) (entry offset n part level block : ℕ)
    → offset + n ≤ entry_size kind → used_entries (table_in s.cells kind info) entry
    → IsFirstSpoilt s.cells (entry_place kind info entry + offset) n part level block
    → BlamesNeeded kind info s.cells part level block
spoilt_entry s kind info entry offset n part level block fits used first = record {
  place = entry_place kind info entry + offset + first.k;
  needed = OfUsed entry used (record { from = omega arith; before = omega (arith, first.within, fits) });
  blames = rw first.spoilt (refl, refl, refl);
}

-- a put of a file's fields is refused where one of their cells is spoilt
pub fields_cause : {A : Type 0} (s : State) (dirs files : TableInfo) (entry : ℕ) (result : Result A EntryFault) (bad : Bad)
    → IsErrAnd result (λ found. found ≡ fault.Bad bad)
    → (CanChangeTables s dirs files → HasEntry (table_in s.cells File files) entry
    → IsReady s (entry_place File files entry + 0x1C) 12 (Some bad))
    → (IsTrue s.shape.plain → NeverDamaged (Some bad))
    → HasEntryCause s File files (CanChangeTables s dirs files × used_entries (table_in s.cells File files) entry)
    (λ table place. ⊥) result
fields_cause s dirs files entry result bad is ready plain =
    rw (passed_on result bad is)
    (bad_cause s File files (CanChangeTables s dirs files × used_entries (table_in s.cells File files) entry)
    (λ table place. ⊥) bad
    (λ tells both. IfDamaged-map (Some bad)
    (λ part level block. spoilt_entry s File files entry 0x1C 12 part level block (omega arith) both.1)
    ((ready both.0 (used_entry s File files tells (both.0.counts File) entry both.1)).damaged tells.told))
    plain)
