use Rattle.std.proofs.Common.{Some, refl, arith}
use Rattle.save_bytes.proofs.SpaceLemmas.{IfDamaged-map}
use Rattle.save_bytes.proofs.CallLemmas.{Reads-same, reads_then}
use Rattle.entry_tables.specs.Tables.{tables_in, info_of}
use Rattle.entry_tables.proofs.EntryLemmas.{least_some}
use Rattle.entry_tables.proofs.StayLemmas.{HasEntryTable-stays}
use Rattle.entry_tables.proofs.CauseLemmas.{passed_on, plain_stays}
use Rattle.entry_changes.specs.Lists.{list_kind}
use Rattle.entry_changes.proofs.WalkLemmas.{nothing_walked, one_more_walked, met_entry, met_end, no_entry_ends}
use Rattle.entry_changes.proofs.WalkLemmas.{too_long_ends, on_the_way, read_then, bytes_then, fault_then}
use Rattle.entry_changes.proofs.WayLemmas.{one_more_read, all_read}
use Rattle.entry_changes.proofs.list.word_before.Goals as goal

pub loop-step-init : goal.loop-step-init
loop-step-init g c = record {
  reads = Reads-same g.S.Space.state g.S.Space.keeps g.S.Space.lands g.met.S.Space.keeps_same c.args.space.now;
  walked = λ can has counted. rw c.first_word-word.ensures
      (nothing_walked (tables_in (g.S.Space.state c.args.space.now).cells c.args.dirs c.args.files) c.args.list
      c.args.entry has);
  read = λ can has counted ys word way less. absurd (omega (arith, less));
}

pub read_word-requires : goal.read_word-requires
read_word-requires g c = λ kind.
    HasEntryTable-stays (g.S.Space.state c.args.space.now) (g.S.Space.state c.loop-step.space)
    c.loop-step.invariant.reads.stays kind (info_of c.args.dirs c.args.files kind) (c.requires kind)

pub returns-in_err-next-clause-damaged : goal.returns-in_err-next-clause-damaged
returns-in_err-next-clause-damaged g c = λ can has counted.
    let s = g.S.Space.state c.args.space.now in
    let t = tables_in s.cells c.args.dirs c.args.files in
    let walked = c.loop-step.invariant.walked can has counted in
    let bad = c.in_err-next.field-0.0 in
    rw (passed_on _ bad c.from_residual.ensures.1)
    (IfDamaged-map (Some bad)
    (λ part level block first. (
      walked.xs,
      c.loop-step.word,
      on_the_way t c.args.list c.args.entry _ c.loop-step.word
          walked,
      first,
    ))
    (fault_then s (g.S.Space.state c.loop-step.space) c.args.dirs c.args.files c.requires can
    c.loop-step.invariant.reads.stays c.loop-step.word walked.has (Some bad) c.in_err-next.ensures.read))

pub returns-in_err-next-clause-plain : goal.returns-in_err-next-clause-plain
returns-in_err-next-clause-plain g c = λ plain.
    rw (passed_on _ c.in_err-next.field-0.0 c.from_residual.ensures.1)
    (c.in_err-next.ensures.plain (plain_stays (g.S.Space.state c.args.space.now).shape
    (g.S.Space.state c.loop-step.space).shape c.loop-step.invariant.reads.stays.space.shape plain))

pub returns-in_err-next-clause-reads : goal.returns-in_err-next-clause-reads
returns-in_err-next-clause-reads g c =
    rw (passed_on _ c.in_err-next.field-0.0 c.from_residual.ensures.1)
    (reads_then g.met.S.Space.keeps_join c.loop-step.invariant.reads c.in_err-next.ensures.reads)

pub returns-then-next-entry-clause-found : goal.returns-then-next-entry-clause-found
returns-then-next-entry-clause-found g c = λ can has counted.
    let s = g.S.Space.state c.args.space.now in
    let walked = c.loop-step.invariant.walked can has counted in
    met_entry (tables_in s.cells c.args.dirs c.args.files) c.args.list c.args.entry _ c.loop-step.word
    c.in_ok-next.next walked
    (read_then s (g.S.Space.state c.loop-step.space) c.args.dirs c.args.files c.requires can
    c.loop-step.invariant.reads.stays c.loop-step.word walked.has c.in_ok-next.next c.in_ok-next.ensures.value)
    c.if-next-entry.true

pub returns-then-next-entry-clause-bytes : goal.returns-then-next-entry-clause-bytes
returns-then-next-entry-clause-bytes g c = λ can has counted.
    bytes_then (g.S.Space.state c.args.space.now) (g.S.Space.state c.loop-step.space) c.args.dirs c.args.files
    c.requires can
    c.loop-step.invariant.reads.stays c.loop-step.word (c.loop-step.invariant.walked can has counted).has
    c.in_ok-next.ensures.read

pub returns-then-next-entry-clause-walked : goal.returns-then-next-entry-clause-walked
returns-then-next-entry-clause-walked g c = λ can has counted.
    let s = g.S.Space.state c.args.space.now in
    let walked = c.loop-step.invariant.walked can has counted in
    let stays = c.loop-step.invariant.reads.stays in
    all_read s.cells c.args.dirs c.args.files c.args.list c.args.entry _ c.loop-step.word walked
    (bytes_then s (g.S.Space.state c.loop-step.space) c.args.dirs c.args.files c.requires can stays c.loop-step.word
    walked.has c.in_ok-next.ensures.read) (c.loop-step.invariant.read can has counted) c.in_ok-next.next
    (read_then s (g.S.Space.state c.loop-step.space) c.args.dirs c.args.files c.requires can stays c.loop-step.word
    walked.has c.in_ok-next.next c.in_ok-next.ensures.value) (λ other. absurd (other c.if-next-entry.true))

pub returns-then-next-entry-clause-reads : goal.returns-then-next-entry-clause-reads
returns-then-next-entry-clause-reads g c =
    reads_then g.met.S.Space.keeps_join c.loop-step.invariant.reads c.in_ok-next.ensures.reads

pub returns-then-next-eq0-clause-found : goal.returns-then-next-eq0-clause-found
returns-then-next-eq0-clause-found g c = λ can has counted.
    let s = g.S.Space.state c.args.space.now in
    let walked = c.loop-step.invariant.walked can has counted in
    met_end (tables_in s.cells c.args.dirs c.args.files) c.args.list c.args.entry _ c.loop-step.word c.in_ok-next.next
    walked
    (read_then s (g.S.Space.state c.loop-step.space) c.args.dirs c.args.files c.requires can
    c.loop-step.invariant.reads.stays c.loop-step.word walked.has c.in_ok-next.next c.in_ok-next.ensures.value)
    c.if-next-eq0.true

pub returns-then-next-eq0-clause-walked : goal.returns-then-next-eq0-clause-walked
returns-then-next-eq0-clause-walked g c = λ can has counted.
    let s = g.S.Space.state c.args.space.now in
    let walked = c.loop-step.invariant.walked can has counted in
    let stays = c.loop-step.invariant.reads.stays in
    all_read s.cells c.args.dirs c.args.files c.args.list c.args.entry _ c.loop-step.word walked
    (bytes_then s (g.S.Space.state c.loop-step.space) c.args.dirs c.args.files c.requires can stays c.loop-step.word
    walked.has c.in_ok-next.ensures.read) (c.loop-step.invariant.read can has counted) c.in_ok-next.next
    (read_then s (g.S.Space.state c.loop-step.space) c.args.dirs c.args.files c.requires can stays c.loop-step.word
    walked.has c.in_ok-next.next c.in_ok-next.ensures.value) (λ other. c.if-next-eq0.true)

pub returns-then-next-eq0-clause-reads : goal.returns-then-next-eq0-clause-reads
returns-then-next-eq0-clause-reads g c =
    reads_then g.met.S.Space.keeps_join c.loop-step.invariant.reads c.in_ok-next.ensures.reads

pub returns-then-next-count-clause-broken : goal.returns-then-next-count-clause-broken
returns-then-next-count-clause-broken g c = λ can has counted.
    let s = g.S.Space.state c.args.space.now in
    let walked = c.loop-step.invariant.walked can has counted in
    rw c.broken.ensures (
      refl,
      refl,
      no_entry_ends (tables_in s.cells c.args.dirs c.args.files) c.args.list c.args.entry _ c.loop-step.word
          c.in_ok-next.next
          walked
          (read_then s (g.S.Space.state c.loop-step.space) c.args.dirs c.args.files c.requires can
          c.loop-step.invariant.reads.stays c.loop-step.word walked.has c.in_ok-next.next c.in_ok-next.ensures.value)
          c.if-next-eq0.false (omega (arith, counted, c.if-next-count.true)),
    )

pub returns-then-next-count-clause-reads : goal.returns-then-next-count-clause-reads
returns-then-next-count-clause-reads g c =
    rw c.broken.ensures (reads_then g.met.S.Space.keeps_join c.loop-step.invariant.reads c.in_ok-next.ensures.reads)

pub loop-step-preserved : goal.loop-step-preserved
loop-step-preserved g c = record {
  reads = reads_then g.met.S.Space.keeps_join c.loop-step.invariant.reads c.in_ok-next.ensures.reads;
  walked = λ can has counted.
      (let s = g.S.Space.state c.args.space.now in
      let t = tables_in s.cells c.args.dirs c.args.files in
      let walked = c.loop-step.invariant.walked can has counted in
      rw c.entry_word-word.ensures
      (one_more_walked t c.args.list c.args.entry _ c.loop-step.word c.in_ok-next.next
      ((can.tells (list_kind c.args.list)).most (can.counts (list_kind c.args.list))) walked
      (read_then s (g.S.Space.state c.loop-step.space) c.args.dirs c.args.files c.requires can
      c.loop-step.invariant.reads.stays c.loop-step.word walked.has c.in_ok-next.next c.in_ok-next.ensures.value)
      c.if-next-entry.false c.if-next-eq0.false (omega (arith, counted, c.if-next-count.false))));
  read = λ can has counted.
      (let s = g.S.Space.state c.args.space.now in
      let walked = c.loop-step.invariant.walked can has counted in
      one_more_read s.cells c.args.dirs c.args.files c.args.list c.args.entry _ c.loop-step.word walked
      (bytes_then s (g.S.Space.state c.loop-step.space) c.args.dirs c.args.files c.requires can
      c.loop-step.invariant.reads.stays c.loop-step.word walked.has c.in_ok-next.ensures.read)
      (c.loop-step.invariant.read can has counted));
}

pub returns-clause-broken : goal.returns-clause-broken
returns-clause-broken g c = λ can has counted.
    let s = g.S.Space.state c.args.space.now in
    let kind = list_kind c.args.list in
    let walked = c.loop-step.invariant.walked can has counted in
    rw c.broken-2.ensures (
      refl,
      refl,
      too_long_ends (tables_in s.cells c.args.dirs c.args.files) c.args.list c.args.entry _ c.loop-step.word
          (omega (arith, least_some kind, (can.tells kind).least (can.counts kind))) walked
          (omega (arith, counted, c.loop-step-test.false)),
    )

pub returns-clause-reads : goal.returns-clause-reads
returns-clause-reads g c = rw c.broken-2.ensures c.loop-step.invariant.reads
