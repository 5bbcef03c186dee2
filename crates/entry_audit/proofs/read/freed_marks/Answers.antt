use Rattle.std.proofs.Common.{ℕ, ◌+◌, ◌<◌, refl, sym, ◌∙◌, arith}
use Rattle.std.proofs.lemmas.List.{length-replicate, length-set}
use Rattle.save_bytes.specs.Cells.{IsByte}
use Rattle.save_bytes.proofs.CallLemmas.{Reads-same, reads_then}
use Rattle.entry_tables.specs.declared.table.EntryFault.TheVariants as fault
use Rattle.entry_tables.specs.Kinds.{link_offset, table_number}
use Rattle.entry_tables.specs.Tables.{table_in, entry_place}
use Rattle.entry_tables.proofs.EntryLemmas.{link_last, some_counted}
use Rattle.entry_tables.proofs.CauseLemmas.{passed_error}
use Rattle.entry_audit.specs.declared.table.TableFault.TheVariants.{Entries}
use Rattle.entry_audit.proofs.MarkLemmas.{HasMarked-none, HasMarked-more, marked_below, marked_needed, marked_all}
use Rattle.entry_audit.proofs.MarkLemmas.{read_all, marked_wrong, not_all}
use Rattle.entry_audit.proofs.StayLemmas.{bad_read, broken_read, entry_blamed, link_later, bytes_later, plain_later}
use Rattle.entry_audit.proofs.read.freed_marks.Goals as goal

pub loop-freed-init : goal.loop-freed-init
loop-freed-init g c =
    let old = g.S.Space.state c.args.space.now in
    let kind = c.args.kind in
    let info = c.args.info in
    record {
      reads = Reads-same g.S.Space.state g.S.Space.keeps g.S.Space.lands g.met.S.Space.keeps_same c.args.space.now;
      many = rw (c.in-Ok.ensures.items_if_clones_equal (λ y same. same)) (length-replicate c.args.count _);
      marked = λ told. rw (c.in-Ok.ensures.items_if_clones_equal (λ y same. same))
          (HasMarked-none kind (table_in old.cells kind info)
          (λ e. (k : ℕ) → k < 4 → IsByte (old.cells (entry_place kind info e + link_offset kind + k)))
          c.args.count told.counted (length-replicate c.args.count _));
    }

pub returns-in_err-next-clause-cause : goal.returns-in_err-next-clause-cause
returns-in_err-next-clause-cause g c =
    let old = g.S.Space.state c.args.space.now in
    let mid = g.S.Space.state c.loop-freed.space in
    let kind = c.args.kind in
    let info = c.args.info in
    let from = c.loop-freed.from in
    let stays = c.loop-freed.invariant.reads.stays in
    let bad = c.in_err-next.field-0.0 in
    rw (passed_error _ (Entries (fault.Bad bad)) c.from_residual.ensures.1)
    (bad_read bad
    (λ told.
    let marked = c.loop-freed.invariant.marked told in
    entry_blamed old mid stays kind info c.requires c.args.count from (link_offset kind) 4 bad told
    (omega (arith, link_last kind)) (marked_below marked (some_counted old kind info told.tells told.known))
    (λ x list within. marked_needed marked info x list within) c.in_err-next.ensures.damaged)
    (λ plain. c.in_err-next.ensures.plain (plain_later old mid stays kind info c.requires plain)))

pub returns-in_err-next-clause-reads : goal.returns-in_err-next-clause-reads
returns-in_err-next-clause-reads g c =
    rw (passed_error _ (Entries (fault.Bad c.in_err-next.field-0.0)) c.from_residual.ensures.1)
    (reads_then g.met.S.Space.keeps_join c.loop-freed.invariant.reads c.in_err-next.ensures.reads)

pub returns-then-next-eq0-clause-marks : goal.returns-then-next-eq0-clause-marks
returns-then-next-eq0-clause-marks g c = λ told.
    let old = g.S.Space.state c.args.space.now in
    let kind = c.args.kind in
    let info = c.args.info in
    let marked = c.loop-freed.invariant.marked told in
    let below = marked_below marked (some_counted old kind info told.tells told.known) in
    let next = link_later old (g.S.Space.state c.loop-freed.space) c.loop-freed.invariant.reads.stays kind info
    c.requires c.args.count c.loop-freed.from c.in_ok-next.next told below c.in_ok-next.ensures.link in
    marked_all marked (sym next ∙ c.if-next-eq0.true)

pub returns-then-next-eq0-clause-bytes : goal.returns-then-next-eq0-clause-bytes
returns-then-next-eq0-clause-bytes g c = λ told.
    let old = g.S.Space.state c.args.space.now in
    let mid = g.S.Space.state c.loop-freed.space in
    let kind = c.args.kind in
    let info = c.args.info in
    let from = c.loop-freed.from in
    let stays = c.loop-freed.invariant.reads.stays in
    let marked = c.loop-freed.invariant.marked told in
    let below = marked_below marked (some_counted old kind info told.tells told.known) in
    let next = link_later old mid stays kind info c.requires c.args.count from c.in_ok-next.next told below
    c.in_ok-next.ensures.link in
    read_all marked (sym next ∙ c.if-next-eq0.true)
    (bytes_later old mid stays kind info c.requires c.args.count from (link_offset kind) 4 told
    (omega (arith, link_last kind)) below c.in_ok-next.ensures.bytes)

pub returns-then-next-eq0-clause-reads : goal.returns-then-next-eq0-clause-reads
returns-then-next-eq0-clause-reads g c =
    reads_then g.met.S.Space.keeps_join c.loop-freed.invariant.reads c.in_ok-next.ensures.reads

pub returns-then-not-can_follow-clause-cause : goal.returns-then-not-can_follow-clause-cause
returns-then-not-can_follow-clause-cause g c =
    let old = g.S.Space.state c.args.space.now in
    let kind = c.args.kind in
    let info = c.args.info in
    let from = c.loop-freed.from in
    rw c.names_wrongly.ensures
    (broken_read (table_number kind) from
    (λ told. (
      refl,
      (let marked = c.loop-freed.invariant.marked told in
          let below = marked_below marked (some_counted old kind info told.tells told.known) in
          let next = link_later old (g.S.Space.state c.loop-freed.space) c.loop-freed.invariant.reads.stays kind info
          c.requires c.args.count from c.in_ok-next.next told below c.in_ok-next.ensures.link in
          marked_wrong marked c.in_ok-next.next next c.if-next-eq0.false
          (rw c.deref.ensures.value at (c.can_follow.ensures.no c.if-not-can_follow.true))),
    )))

pub returns-then-not-can_follow-clause-reads : goal.returns-then-not-can_follow-clause-reads
returns-then-not-can_follow-clause-reads g c =
    rw c.names_wrongly.ensures
    (reads_then g.met.S.Space.keeps_join c.loop-freed.invariant.reads c.in_ok-next.ensures.reads)

pub loop-freed-preserved : goal.loop-freed-preserved
loop-freed-preserved g c =
    let old = g.S.Space.state c.args.space.now in
    let mid = g.S.Space.state c.loop-freed.space in
    let kind = c.args.kind in
    let info = c.args.info in
    let from = c.loop-freed.from in
    let stays = c.loop-freed.invariant.reads.stays in
    record {
      reads = reads_then g.met.S.Space.keeps_join c.loop-freed.invariant.reads c.in_ok-next.ensures.reads;
      many = length-set c.loop-freed.marks.items c.in_ok-next.next _ ∙ c.loop-freed.invariant.many;
      marked = λ told.
          (let marked = c.loop-freed.invariant.marked told in
          let below = marked_below marked (some_counted old kind info told.tells told.known) in
          let next = link_later old mid stays kind info c.requires c.args.count from c.in_ok-next.next told below
          c.in_ok-next.ensures.link in
          let can = c.if-not-can_follow.false in
          HasMarked-more marked c.in_ok-next.next next (c.can_follow.ensures.yes_least can)
          (rw c.deref.ensures.value at (c.can_follow.ensures.yes_below can))
          (rw c.deref.ensures.value at (c.can_follow.ensures.yes_new can))
          (bytes_later old mid stays kind info c.requires c.args.count from (link_offset kind) 4 told
          (omega (arith, link_last kind)) below c.in_ok-next.ensures.bytes));
    }

pub returns-clause-cause : goal.returns-clause-cause
returns-clause-cause g c =
    let old = g.S.Space.state c.args.space.now in
    rw c.names_wrongly-2.ensures
    (broken_read (table_number c.args.kind) c.loop-freed.from
    (λ told.
    let some = some_counted old c.args.kind c.args.info told.tells told.known in
    absurd (omega
    (arith, c.loop-freed-test.false, told.counted, not_all (c.loop-freed.invariant.marked told) some))))
