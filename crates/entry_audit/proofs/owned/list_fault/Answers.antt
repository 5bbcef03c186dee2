use Rattle.std.proofs.Common.{◌∙◌, refl, arith}
use Rattle.std.proofs.lemmas.Option.{IfSome_then}
use Rattle.entry_audit.proofs.OwnedLemmas.{IfNone_then, all_apart, all_more, all_owned}
use Rattle.entry_audit.proofs.OwnedLemmas.{all_lacking}
use Rattle.entry_audit.proofs.owned.list_fault.Goals as goal

pub follow-requires-clause-apart : goal.follow-requires-clause-apart
follow-requires-clause-apart c = all_apart c.loop-list.invariant.followed

pub loop-list-preserved : goal.loop-list-preserved
loop-list-preserved c =
    let front = c.if-not-follow.ensures.ends refl in
    record {
      len = c.if-not-follow.ensures.len ∙ c.loop-list.invariant.len;
      followed = all_more c.loop-list.invariant.followed c.follow.new.seen.items front.0 front.1;
    }

pub returns-clause-none : goal.returns-clause-none
returns-clause-none c = IfNone_then c.lacking.result (rw c.deref.ensures.value at c.lacking.ensures.none)
    (λ seen owner below. all_owned c.loop-list.invariant.followed (λ o e listed. seen o e (omega (
      arith,
      listed,
      c.loop-list.auto.list-end,
    ))) owner (omega (arith, below, c.loop-list-test.false)))

pub returns-clause-fault : goal.returns-clause-fault
returns-clause-fault c = IfSome_then c.lacking.result (rw c.deref.ensures.value at c.lacking.ensures.lacks)
    (λ owner lacks. (
      lacks.0,
      all_lacking c.loop-list.invariant.followed owner lacks.1.0 (omega (
        arith,
        lacks.0,
        c.loop-list-test.false,
      )) lacks.1.1 lacks.1.2,
    ))
