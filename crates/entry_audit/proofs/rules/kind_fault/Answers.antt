use Rattle.std.proofs.Common.{Option, ℕ, IfSome, subst}
use Rattle.entry_tables.specs.Fails.{SharesName, IsBrokenBucket}
use Rattle.entry_tables.specs.Fails.RuleFailsAt.{OfNames, OfBucket}
use Rattle.entry_audit.proofs.rules.kind_fault.Goals as goal

pub returns-in-Some-clause-fault : goal.returns-in-Some-clause-fault
returns-in-Some-clause-fault c t read = OfNames c.args.kind c.table_number-table.ensures
    (subst (λ (found : Option ℕ). IfSome found (SharesName c.args.kind (t.table c.args.kind))) c.in-Some.is
    (c.in_ok-entry.ensures.fault t read))

pub returns-in-Some-2-clause-fault : goal.returns-in-Some-2-clause-fault
returns-in-Some-2-clause-fault c t read = OfBucket c.args.kind c.bucket_table-table.ensures
    (subst (λ (found : Option ℕ). IfSome found (IsBrokenBucket c.args.kind (t.table c.args.kind))) c.in-Some-2.is
    (c.in_ok-entry-2.ensures.fault t read))
