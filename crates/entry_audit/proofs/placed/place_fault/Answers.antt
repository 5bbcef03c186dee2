use Rattle.entry_tables.specs.declared.table.EntryKind.{EntryKind}
use Rattle.entry_tables.specs.declared.table.EntryKind.TheVariants.{Dir, File}
use Rattle.entry_tables.specs.Tables.{Tables}
use Rattle.entry_audit.specs.Placed.{HaveUsedParents}
use Rattle.entry_audit.proofs.PlaceLemmas.{placed_from, misplaced_unnamed, misplaced_deep}
use Rattle.entry_audit.proofs.placed.place_fault.Goals as goal

-- what holds of both kinds
both : (P : EntryKind → Type 0) → P Dir → P File → (kind : EntryKind) → P kind
both P dir file Dir = dir
both P dir file File = file

pub returns-in-Some-unnamed-clause-fault : goal.returns-in-Some-unnamed-clause-fault
returns-in-Some-unnamed-clause-fault c = λ (t : Tables) read.
    let found = c.in-Some-unnamed.ensures.fault t (read Dir) (read File) in
    let at = c.at_entry-in-Some-unnamed.ensures in
    (File, at.table, rw at.entry (misplaced_unnamed t File c.in-Some-unnamed.file found.0 found.1))

pub returns-in-Some-too_deep-clause-fault : goal.returns-in-Some-too_deep-clause-fault
returns-in-Some-too_deep-clause-fault c = λ (t : Tables) read.
    let parents : HaveUsedParents t Dir = λ e named. (c.in_default.ensures.none t (read Dir) (read Dir) e
    named).parent in
    let found = c.in-Some-too_deep.ensures.fault t (read Dir) (read Dir) parents parents in
    let at = c.at_entry-in-Some-too_deep.ensures in
    (Dir, at.table, rw at.entry (misplaced_deep t Dir c.in-Some-too_deep.dir found.0 found.1))

pub returns-in-Some-too_deep-2-clause-fault : goal.returns-in-Some-too_deep-2-clause-fault
returns-in-Some-too_deep-2-clause-fault c = λ (t : Tables) read.
    let parents : HaveUsedParents t Dir = λ e named. (c.in_default.ensures.none t (read Dir) (read Dir) e
    named).parent in
    let of_files : HaveUsedParents t File = λ e named. (c.in_default-unnamed.ensures.none t (read Dir) (read File) e
    named).parent in
    let found = c.in-Some-too_deep-2.ensures.fault t (read Dir) (read File) parents of_files in
    let at = c.at_entry-in-Some-too_deep-2.ensures in
    (File, at.table, rw at.entry (misplaced_deep t File c.in-Some-too_deep-2.file found.0 found.1))

pub returns-in-None-clause-none : goal.returns-in-None-clause-none
returns-in-None-clause-none c = λ (t : Tables) read.
    both _
    (λ e named. placed_from t Dir e (c.in_default.ensures.none t (read Dir) (read Dir) e named)
    (c.in_default-too_deep.ensures.none t (read Dir) (read Dir) e named))
    (λ e named. placed_from t File e (c.in_default-unnamed.ensures.none t (read Dir) (read File) e named)
    (c.in-None.ensures.none t (read Dir) (read File) e named))
