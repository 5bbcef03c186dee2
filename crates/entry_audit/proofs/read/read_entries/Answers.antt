use Rattle.std.proofs.Common.{◌≡◌, ◌<◌, [], ◌∷◌, ◌++◌, refl, arith, length-append}
use Rattle.save_bytes.proofs.CallLemmas.{reads_then}
use Rattle.entry_tables.specs.declared.table.EntryFault.TheVariants as fault
use Rattle.entry_tables.specs.Tables.{table_in}
use Rattle.entry_tables.proofs.CauseLemmas.{passed_error}
use Rattle.entry_tables.proofs.StayLemmas.{HasEntryTable-stays}
use Rattle.entry_audit.specs.declared.table.TableFault.TheVariants.{Entries}
use Rattle.entry_audit.proofs.StayLemmas.{bad_read, used_blamed, plain_later}
use Rattle.entry_audit.proofs.CopyLemmas.{unmarked_used, copied_of, copied_push, copied_later}
use Rattle.entry_audit.proofs.read.read_entries.Goals as goal

pub read_used-requires : goal.read_used-requires
read_used-requires g c =
    HasEntryTable-stays (g.S.Space.state c.args.space.now) (g.S.Space.state c.loop-entry.space)
    c.loop-entry.invariant.reads.stays c.args.kind c.args.info c.requires.table

pub returns-in_err-read-clause-cause : goal.returns-in_err-read-clause-cause
returns-in_err-read-clause-cause g c =
    let old = g.S.Space.state c.args.space.now in
    let mid = g.S.Space.state c.loop-entry.space in
    let kind = c.args.kind in
    let info = c.args.info in
    let stays = c.loop-entry.invariant.reads.stays in
    let bad = c.in_err-read.field-0.0 in
    let used = c.is_used.ensures in
    rw (passed_error _ (Entries (fault.Bad bad)) c.from_residual.ensures.1)
    (bad_read bad
    (λ both.
    let below : c.loop-entry.entry < (table_in old.cells kind info).count =
    omega (arith, c.loop-entry-test.true, both.0.counted) in
    used_blamed old mid stays kind info c.requires.table c.args.count c.loop-entry.entry c.is_used.result bad both.0
    below
    (λ wanted. unmarked_used kind (table_in old.cells kind info) c.args.marks.now both.1 c.loop-entry.entry below
    (used.some wanted) (used.unmarked wanted))
    c.in_err-read.ensures.unused c.in_err-read.ensures.damaged)
    (λ plain. c.in_err-read.ensures.plain (plain_later old mid stays kind info c.requires.table plain)))

pub returns-in_err-read-clause-reads : goal.returns-in_err-read-clause-reads
returns-in_err-read-clause-reads g c =
    rw (passed_error _ (Entries (fault.Bad c.in_err-read.field-0.0)) c.from_residual.ensures.1)
    (reads_then g.met.S.Space.keeps_join c.loop-entry.invariant.reads c.in_err-read.ensures.reads)

pub loop-entry-preserved : goal.loop-entry-preserved
loop-entry-preserved g c =
    let old = g.S.Space.state c.args.space.now in
    let mid = g.S.Space.state c.loop-entry.space in
    let kind = c.args.kind in
    let info = c.args.info in
    let before = c.loop-entry.invariant in
    let used = c.is_used.ensures in
    let entries = c.loop-entry.entries.items in
    let read = c.in_ok-read.read in
    let pushed : c.push.new.self.items ≡ entries ++ read ∷ [] = c.in-Ok-push.ensures.items in
    record {
      reads = reads_then g.met.S.Space.keeps_join before.reads c.in_ok-read.ensures.reads;
      many = rw pushed (omega (arith, length-append entries (read ∷ []), before.many));
      each = λ told marked. rw pushed (
          let below : c.loop-entry.entry < (table_in old.cells kind info).count =
          omega (arith, c.loop-entry-test.true, told.counted) in
          copied_push kind info old.cells entries read (before.each told marked)
          (rw before.many
          (copied_of kind (table_in old.cells kind info) c.args.marks.now marked c.loop-entry.entry below info old.cells
          c.is_used.result read refl used.some used.unmarked used.no
          (copied_later old mid before.reads.stays kind info c.requires.table c.args.count told c.loop-entry.entry
          c.is_used.result read below c.in_ok-read.ensures.fields))));
    }

pub returns-in_default-push-clause-reads : goal.returns-in_default-push-clause-reads
returns-in_default-push-clause-reads g c =
    reads_then g.met.S.Space.keeps_join c.loop-entry.invariant.reads c.in_ok-read.ensures.reads
