use Rattle.std.proofs.Common.{Some}
use Rattle.save_bytes.proofs.SpaceLemmas.{IfDamaged-map}
use Rattle.save_bytes.proofs.CallLemmas.{reads_then}
use Rattle.entry_tables.specs.declared.table.EntryFault.TheVariants as fault
use Rattle.entry_tables.proofs.StayLemmas.{HasEntryTable-stays}
use Rattle.entry_tables.proofs.CauseLemmas.{passed_error}
use Rattle.entry_audit.specs.declared.table.TableFault.TheVariants.{Entries}
use Rattle.entry_audit.proofs.StayLemmas.{HasReadCause-map, bad_read, cause_later, cause_of_bytes, zero_blamed}
use Rattle.entry_audit.proofs.StayLemmas.{told_later, plain_later}
use Rattle.entry_audit.proofs.CopyLemmas.{marked_later, marked_still, zero_later, freed_later, entries_later}
use Rattle.entry_audit.proofs.CopyLemmas.{needed_bytes}
use Rattle.entry_audit.proofs.read.read_table.Goals as goal

pub returns-in_err-heads-clause-cause : goal.returns-in_err-heads-clause-cause
returns-in_err-heads-clause-cause g c =
    rw (passed_error _ c.in_err-heads.field-0.0 c.from_residual.ensures.1)
    (HasReadCause-map (Some c.in_err-heads.field-0.0) (λ plain. plain) (λ told. told.tells.told)
    (λ told part level block h. h) (λ told table entry none. absurd none) c.in_err-heads.ensures.cause)

pub read_zero-requires : goal.read_zero-requires
read_zero-requires g c =
    HasEntryTable-stays (g.S.Space.state c.args.space.now) (g.S.Space.state c.read_heads.new.space)
    c.in_ok-heads.ensures.reads.stays c.args.kind c.args.info c.requires

pub returns-in_err-read_zero-clause-cause : goal.returns-in_err-read_zero-clause-cause
returns-in_err-read_zero-clause-cause g c =
    let old = g.S.Space.state c.args.space.now in
    let mid = g.S.Space.state c.read_heads.new.space in
    let stays = c.in_ok-heads.ensures.reads.stays in
    let kind = c.args.kind in
    let info = c.args.info in
    let bad = c.in_err-read_zero.field-0.0 in
    let read = c.in_err-read_zero.ensures.read in
    rw (passed_error _ (Entries (fault.Bad bad)) c.from_residual-in_err-read_zero.ensures.1)
    (bad_read bad
    (λ told. IfDamaged-map (Some bad)
    (λ part level block. zero_blamed old mid stays kind info c.requires c.args.count part level block told)
    (read.damaged (stays.space.told told.tells.told)))
    (λ plain. read.plain (plain_later old mid stays kind info c.requires plain)))

pub returns-in_err-read_zero-clause-reads : goal.returns-in_err-read_zero-clause-reads
returns-in_err-read_zero-clause-reads g c =
    rw (passed_error _ (Entries (fault.Bad c.in_err-read_zero.field-0.0)) c.from_residual-in_err-read_zero.ensures.1)
    (reads_then g.met.S.Space.keeps_join c.in_ok-heads.ensures.reads c.in_err-read_zero.ensures.reads)

pub freed_marks-requires : goal.freed_marks-requires
freed_marks-requires g c =
    let reads = reads_then g.met.S.Space.keeps_join c.in_ok-heads.ensures.reads c.in_ok-read_zero.ensures.reads in
    HasEntryTable-stays (g.S.Space.state c.args.space.now) (g.S.Space.state c.read_zero.new.space) reads.stays
    c.args.kind c.args.info c.requires

pub returns-in_err-marks-clause-cause : goal.returns-in_err-marks-clause-cause
returns-in_err-marks-clause-cause g c =
    let reads = reads_then g.met.S.Space.keeps_join c.in_ok-heads.ensures.reads c.in_ok-read_zero.ensures.reads in
    rw (passed_error _ c.in_err-marks.field-0.0 c.from_residual-in_err-marks.ensures.1)
    (cause_later (g.S.Space.state c.args.space.now) (g.S.Space.state c.read_zero.new.space) reads.stays c.args.kind
    c.args.info c.requires c.args.count (Some c.in_err-marks.field-0.0) c.in_err-marks.ensures.cause)

pub returns-in_err-marks-clause-reads : goal.returns-in_err-marks-clause-reads
returns-in_err-marks-clause-reads g c =
    let reads = reads_then g.met.S.Space.keeps_join c.in_ok-heads.ensures.reads c.in_ok-read_zero.ensures.reads in
    rw (passed_error _ c.in_err-marks.field-0.0 c.from_residual-in_err-marks.ensures.1)
    (reads_then g.met.S.Space.keeps_join reads c.in_err-marks.ensures.reads)

pub read_entries-requires-clause-table : goal.read_entries-requires-clause-table
read_entries-requires-clause-table g c =
    let reads = reads_then g.met.S.Space.keeps_join c.in_ok-heads.ensures.reads c.in_ok-read_zero.ensures.reads in
    let more = reads_then g.met.S.Space.keeps_join reads c.in_ok-marks.ensures.reads in
    HasEntryTable-stays (g.S.Space.state c.args.space.now) (g.S.Space.state c.freed_marks.new.space) more.stays
    c.args.kind c.args.info c.requires

pub returns-in_err-entries-clause-cause : goal.returns-in_err-entries-clause-cause
returns-in_err-entries-clause-cause g c =
    let old = g.S.Space.state c.args.space.now in
    let mid = g.S.Space.state c.read_zero.new.space in
    let late = g.S.Space.state c.freed_marks.new.space in
    let kind = c.args.kind in
    let info = c.args.info in
    let count = c.args.count in
    let reads = reads_then g.met.S.Space.keeps_join c.in_ok-heads.ensures.reads c.in_ok-read_zero.ensures.reads in
    let more = reads_then g.met.S.Space.keeps_join reads c.in_ok-marks.ensures.reads in
    rw (passed_error _ c.in_err-entries.field-0.0 c.from_residual-in_err-entries.ensures.1)
    (cause_of_bytes old late more.stays kind info c.requires count _ (Some c.in_err-entries.field-0.0)
    (λ told. (
      told_later old late more.stays kind info c.requires count told,
      rw c.deref.ensures.value
          (marked_still old late more.stays kind info c.requires count told c.in_ok-marks.marks.items
          (marked_later old mid reads.stays kind info c.requires count told c.in_ok-marks.marks.items
          c.in_ok-marks.ensures.marks)),
    ))
    c.in_err-entries.ensures.cause)

pub returns-in_err-entries-clause-reads : goal.returns-in_err-entries-clause-reads
returns-in_err-entries-clause-reads g c =
    let reads = reads_then g.met.S.Space.keeps_join c.in_ok-heads.ensures.reads c.in_ok-read_zero.ensures.reads in
    let more = reads_then g.met.S.Space.keeps_join reads c.in_ok-marks.ensures.reads in
    rw (passed_error _ c.in_err-entries.field-0.0 c.from_residual-in_err-entries.ensures.1)
    (reads_then g.met.S.Space.keeps_join more c.in_err-entries.ensures.reads)

pub returns-clause-table : goal.returns-clause-table
returns-clause-table g c = λ told.
    let old = g.S.Space.state c.args.space.now in
    let first = g.S.Space.state c.read_heads.new.space in
    let mid = g.S.Space.state c.read_zero.new.space in
    let late = g.S.Space.state c.freed_marks.new.space in
    let kind = c.args.kind in
    let info = c.args.info in
    let count = c.args.count in
    let heads = c.in_ok-heads.ensures in
    let reads = reads_then g.met.S.Space.keeps_join heads.reads c.in_ok-read_zero.ensures.reads in
    let more = reads_then g.met.S.Space.keeps_join reads c.in_ok-marks.ensures.reads in
    let marks = c.in_ok-marks.marks.items in
    let marked = marked_later old mid reads.stays kind info c.requires count told marks c.in_ok-marks.ensures.marks in
    let entries = entries_later old late more.stays kind info c.requires count told marks
    c.in_ok-entries.entries.items marked (rw c.deref.ensures.value at c.in_ok-entries.ensures.entries) in
    record {
      freed = marked.freed;
      entries = entries;
      heads = heads.heads told.tells.told;
      bytes = needed_bytes old.cells kind info
          (zero_later old first heads.reads.stays kind info c.requires count told
          (c.in_ok-read_zero.ensures.read.done (heads.reads.stays.space.told told.tells.told)))
          (heads.bytes told.tells.told)
          (freed_later old mid reads.stays kind info c.requires count told marked.freed c.in_ok-marks.ensures.bytes)
          c.in_ok-entries.entries.items entries;
    }

pub returns-clause-reads : goal.returns-clause-reads
returns-clause-reads g c =
    let reads = reads_then g.met.S.Space.keeps_join c.in_ok-heads.ensures.reads c.in_ok-read_zero.ensures.reads in
    let more = reads_then g.met.S.Space.keeps_join reads c.in_ok-marks.ensures.reads in
    reads_then g.met.S.Space.keeps_join more c.in_ok-entries.ensures.reads
