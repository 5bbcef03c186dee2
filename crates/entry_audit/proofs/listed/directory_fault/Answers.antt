use Rattle.std.proofs.lemmas.Option.{IfSome_then, MatchOption-at_some, MatchOption-at_none}
use Rattle.entry_tables.specs.declared.table.EntryKind.TheVariants.{Dir, File}
use Rattle.entry_audit.proofs.OwnedLemmas.{IfNone_then}
use Rattle.entry_audit.proofs.ListedLemmas.{both_listed}
use Rattle.entry_audit.proofs.listed.directory_fault.Goals as goal

pub returns-in-Some-clause-fault : goal.returns-in-Some-clause-fault
returns-in-Some-clause-fault c = λ t read parents.
    let broken = MatchOption-at_some _ _ c.in-Some.dir c.in-Some.is
    (c.in_ok-dir.ensures.fault t (read Dir) (read Dir) (parents Dir)) in
    record { used = broken.0; kind = Dir; none = broken.1 }

pub returns-clause-none : goal.returns-clause-none
returns-clause-none c = λ t read.
    IfNone_then c.in_ok-found.found (c.in_ok-found.ensures.none t (read Dir) (read File))
    (both_listed t (MatchOption-at_none _ _ c.in_default.is (c.in_ok-dir.ensures.none t (read Dir) (read Dir))))

pub returns-clause-fault : goal.returns-clause-fault
returns-clause-fault c = λ t read parents.
    IfSome_then c.in_ok-found.found (c.in_ok-found.ensures.fault t (read Dir) (read File) (parents File))
    (λ dir broken. record { used = broken.0; kind = File; none = broken.1 })
