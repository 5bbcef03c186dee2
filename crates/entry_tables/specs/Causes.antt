-- Why calls on entries are refused.
use Rattle.std.specs.Prelude.{ℕ, IsTrue, Option, Some, None, Result, Ok, Err, ⊤}
use Rattle.save_bytes.specs.declared.space.Bad.{Bad}
use Rattle.save_bytes.specs.State.{State}
use Rattle.save_bytes.specs.Refusals.{IfDamaged, NeverDamaged}
use Rattle.entry_tables.specs.declared.table.EntryKind.{EntryKind}
use Rattle.entry_tables.specs.declared.table.TableInfo.{TableInfo}
use Rattle.entry_tables.specs.declared.table.EntryFault.{EntryFault}
use Rattle.entry_tables.specs.declared.table.EntryFault.TheVariants as fault
use Rattle.entry_tables.specs.Layout.{TellsEntryTable, BlamesNeeded}

-- the refusal of a space that an answer passes on
abbrev pub bad_of : {A : Type 0} → Result A EntryFault → Option Bad
bad_of (Ok value) = None
bad_of (Err (fault.Bad bad)) = Some bad
bad_of (Err (fault.Broken table entry)) = None
bad_of (Err (fault.NoEntry most)) = None

-- P holds of the table and the entry at which a rule is said to fail
abbrev pub IfRuleBroken : {A : Type 0} → Result A EntryFault → (ℕ → ℕ → Type 0) → Type 0
IfRuleBroken (Ok value) P = ⊤
IfRuleBroken (Err (fault.Bad bad)) P = ⊤
IfRuleBroken (Err (fault.Broken table entry)) P = P table entry
IfRuleBroken (Err (fault.NoEntry most)) P = ⊤

-- the answer is not that no entry can be added
abbrev pub NeverNoEntry : {A : Type 0} → Result A EntryFault → Type 0
NeverNoEntry (Ok value) = ⊤
NeverNoEntry (Err (fault.Bad bad)) = ⊤
NeverNoEntry (Err (fault.Broken table entry)) = ⊤
NeverNoEntry (Err (fault.NoEntry most)) = ⊥

-- Why a reading call is refused: for a damaged cell only where it is needed, as far as a rule holds; for a rule only
-- where it fails.
pub record HasEntryCause {A : Type 0} (s : State) (kind : EntryKind) (info : TableInfo) (Rule : Type 0)
    (Fails : ℕ → ℕ → Type 0)
    (result : Result A EntryFault) : Type 0 where
  pub damaged : TellsEntryTable s kind info → Rule → IfDamaged (bad_of result) (BlamesNeeded kind info s.cells)
  pub plain : IsTrue s.shape.plain → NeverDamaged (bad_of result)
  pub broken : TellsEntryTable s kind info → IfRuleBroken result Fails
  pub never_full : NeverNoEntry result
