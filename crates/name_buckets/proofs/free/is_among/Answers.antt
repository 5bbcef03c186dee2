use Rattle.std.proofs.Common.{◌<◌, length, refl, arith}
use Rattle.std.proofs.lemmas.Bool.{false≢true}
use Rattle.save_bytes.proofs.CallLemmas.{reads_then}
use Rattle.entry_tables.proofs.EntryLemmas.{link_last, some_counted}
use Rattle.entry_tables.proofs.CauseLemmas.{passed_error}
use Rattle.entry_tables.specs.Kinds.{link_offset}
use Rattle.name_buckets.proofs.LookLemmas.{link_stays, entry_blamed}
use Rattle.name_buckets.proofs.FreeLemmas.{HasCompared-more, compared_below, compared_found, compared_all}
use Rattle.name_buckets.proofs.free.is_among.Goals as goal

pub returns-in_err-from-clause-reads : goal.returns-in_err-from-clause-reads
returns-in_err-from-clause-reads g c =
    rw (passed_error _ c.in_err-from.field-0.0 c.from_residual.ensures.1)
    (reads_then g.met.S.Space.keeps_join c.loop-step.invariant.reads c.in_err-from.ensures.reads)

pub returns-then-from-entry-clause-among : goal.returns-then-from-entry-clause-among
returns-then-from-entry-clause-among g c = λ tells known front last is_front many.
    let old = g.S.Space.state c.args.space.now in
    let before = c.loop-step.invariant in
    let compared = before.compared tells known front last is_front many in
    let more : c.loop-step._step < length front = omega (arith, many, c.loop-step-test.true) in
    let next = link_stays old (g.S.Space.state c.loop-step.space) before.reads.stays c.args.kind c.args.info
    c.requires tells known
    c.loop-step.from c.in_ok-from.from c.link_offset.result c.link_offset.ensures
    (compared_below is_front compared more (some_counted old c.args.kind c.args.info tells known))
    c.in_ok-from.ensures.word in
    ((λ found. compared_found is_front compared more c.in_ok-from.from next c.if-from-entry.true), (λ within. refl))

pub returns-then-from-entry-clause-reads : goal.returns-then-from-entry-clause-reads
returns-then-from-entry-clause-reads g c =
    reads_then g.met.S.Space.keeps_join c.loop-step.invariant.reads c.in_ok-from.ensures.reads

pub loop-step-preserved : goal.loop-step-preserved
loop-step-preserved g c =
    let old = g.S.Space.state c.args.space.now in
    let before = c.loop-step.invariant in
    record {
      reads = reads_then g.met.S.Space.keeps_join before.reads c.in_ok-from.ensures.reads;
      compared = λ tells known front last is_front many.
          (let compared = before.compared tells known front last is_front many in
          let more : c.loop-step._step < length front = omega (arith, many, c.loop-step-test.true) in
          let next = link_stays old (g.S.Space.state c.loop-step.space) before.reads.stays c.args.kind c.args.info
          c.requires tells
          known c.loop-step.from c.in_ok-from.from c.link_offset.result c.link_offset.ensures
          (compared_below is_front compared more (some_counted old c.args.kind c.args.info tells known))
          c.in_ok-from.ensures.word in
          HasCompared-more is_front compared more c.in_ok-from.from next c.if-from-entry.false);
    }

pub returns-clause-among : goal.returns-clause-among
returns-clause-among g c = λ tells known front last is_front many.
    let compared = c.loop-step.invariant.compared tells known front last is_front many in
    let apart = compared_all front c.args.entry c.loop-step._step c.loop-step.from compared
    (omega (arith, many, c.loop-step-test.false)) in
    ((λ found. absurd (false≢true found)), (λ within. absurd (apart within)))

pub returns-in_err-from-clause-blamed : goal.returns-in_err-from-clause-blamed
returns-in_err-from-clause-blamed g c = λ tells known front last is_front many.
    let old = g.S.Space.state c.args.space.now in
    let kind = c.args.kind in
    let before = c.loop-step.invariant in
    let compared = before.compared tells known front last is_front many in
    let more : c.loop-step._step < length front = omega (arith, many, c.loop-step-test.true) in
    let below = compared_below is_front compared more (some_counted old kind c.args.info tells known) in
    let bad = c.in_err-from.field-0.0 in
    rw (passed_error _ bad c.from_residual.ensures.1)
    (entry_blamed old (g.S.Space.state c.loop-step.space) before.reads.stays kind c.args.info c.requires tells known
    c.loop-step.from (link_offset kind) 4 bad (omega (arith, link_last kind)) below
    (rw c.link_offset.ensures at c.in_err-from.ensures.damaged))
