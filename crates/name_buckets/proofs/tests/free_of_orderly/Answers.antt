use Rattle.entry_tables.specs.Fails.{OfFreed}
use Rattle.entry_tables.proofs.CauseLemmas.{IfRuleBroken-map}
use Rattle.entry_tables.proofs.FailLemmas.{nowhere_fails}
use Rattle.name_buckets.specs.Held.{tables_of}
use Rattle.name_buckets.proofs.tests.free_of_orderly.Goals as goal

pub returns : goal.returns
returns g c = λ tells orderly.
    let t = tables_of g.S.Space.state c.args.entries.now in
    IfRuleBroken-map c.free.result (λ table entry fails. nowhere_fails t table entry orderly
    (OfFreed c.args.kind fails.0 fails.1))
    (c.free.ensures.cause.broken tells)
