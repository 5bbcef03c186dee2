use Rattle.std.proofs.Common.{refl, subst, sym}
use Rattle.entry_tables.specs.Tables.{Tables}
use Rattle.entry_tables.specs.Rules.{IsOrderly}
use Rattle.entry_tables.proofs.CauseLemmas.{fields_cause, passed_on}
use Rattle.entry_tables.proofs.OrderlyLemmas.{fields_orderly}
use Rattle.name_buckets.specs.Held.{tables_of}
use Rattle.name_buckets.proofs.HeldLemmas.{entries_change}
use Rattle.name_buckets.proofs.view.Entries.set_fields.Goals as goal

pub returns-in_err-set_fields_in-clause-cause : goal.returns-in_err-set_fields_in-clause-cause
returns-in_err-set_fields_in-clause-cause g c =
    fields_cause (g.S.Space.state c.args.self.now.space.now) c.args.self.now.dirs c.args.self.now.files c.args.entry _
    c.in_err-set_fields_in.field-0.0 c.from_residual.ensures.1 c.in_err-set_fields_in.ensures.ready
    c.in_err-set_fields_in.ensures.changes.plain

pub returns-in_err-set_fields_in-clause-changes : goal.returns-in_err-set_fields_in-clause-changes
returns-in_err-set_fields_in-clause-changes g c =
    rw (passed_on _ _ c.from_residual.ensures.1)
    (entries_change _ _ _ _ _ c.requires _ _ _ refl refl refl c.in_err-set_fields_in.ensures.changes)

pub returns-clause-orderly : goal.returns-clause-orderly
returns-clause-orderly g c = λ can has rules.
    subst (λ (t : Tables). IsOrderly t) (sym (c.in_ok-set_fields_in.ensures.set can has).tables)
    (fields_orderly (tables_of g.S.Space.state c.args.self.now) c.args.entry c.args.fields.start c.args.fields.wide
    rules)

pub returns-clause-changes : goal.returns-clause-changes
returns-clause-changes g c =
    entries_change _ _ _ _ _ c.requires _ _ _ refl refl refl c.in_ok-set_fields_in.ensures.changes
