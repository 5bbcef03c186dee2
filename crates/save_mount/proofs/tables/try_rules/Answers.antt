use Rattle.std.proofs.Common.{subst}
use Rattle.std.specs.Option.{IfSome}
use Rattle.entry_tables.specs.Fails.{RuleFailsAt}
use Rattle.entry_audit.specs.declared.table.RuleFault.{RuleFault}
use Rattle.save_mount.proofs.tables.try_rules.Goals as goal

pub returns-in-Ok-Some-clause-cause : goal.returns-in-Ok-Some-clause-cause
returns-in-Ok-Some-clause-cause c t read =
    subst (λ (found : _). IfSome found (λ (fault : RuleFault). RuleFailsAt t fault.table fault.entry))
    c.in-Ok-Some.field-0-is (c.in-Ok-Some.ensures.fault t read)

pub returns-in-Err-clause-cause : goal.returns-in-Err-clause-cause
returns-in-Err-clause-cause c t read = tt
