use Rattle.std.proofs.Common.{Some}
use Rattle.save_bytes.proofs.CallLemmas.{reads_then}
use Rattle.entry_tables.specs.Tables.{table_in, info_of}
use Rattle.entry_tables.specs.Hash.{bucket_number}
use Rattle.entry_tables.specs.declared.word.Word.TheVariants.{Head, Link, First}
use Rattle.entry_tables.specs.declared.table.EntryKind.TheVariants.{Dir}
use Rattle.entry_tables.proofs.CauseLemmas.{passed_on, passed_error, plain_stays}
use Rattle.entry_tables.proofs.QuietLemmas.{stays_can}
use Rattle.entry_changes.proofs.WalkLemmas.{read_then, bytes_then}
use Rattle.entry_changes.proofs.PlannedLemmas.{zero_has}
use Rattle.entry_changes.proofs.ExactLemmas.{word_never}
use Rattle.entry_additions.specs.Additions.{AreCountsOf}
use Rattle.entry_additions.proofs.PlanLemmas.{addition_bad_cause, addition_exact, head_has, first_has, head_blamed}
use Rattle.entry_additions.proofs.PlanLemmas.{first_blamed, counts_then, taking_before, take_never, take_cause}
use Rattle.entry_additions.proofs.PlanLemmas.{addition_planned}
use Rattle.entry_additions.proofs.plan.plan_addition.Goals as goal

pub returns-in_err-taken-clause-cause : goal.returns-in_err-taken-clause-cause
returns-in_err-taken-clause-cause g c =
    let join = g.met.S.Space.keeps_join in
    let s = g.S.Space.state c.args.space.now in
    let read = reads_then join c.in_ok-counts.ensures.reads c.in_ok-freed.ensures.reads in
    let error = c.in_err-taken.field-0.0 in
    rw (passed_error _ error c.from_residual-in_err-taken.ensures.1)
    (take_cause s (g.S.Space.state c.read_word.new.space) c.args.dirs c.args.files c.requires read.stays c.args.kind
    c.args.parent c.args.name.now.0 c.in_ok-counts.counts c.in_ok-freed.freed error
    (λ can. record {
      count = (rw c.info_for-info.ensures at c.in_ok-counts.ensures.count) (can.tells Dir).told;
      most = (rw c.info_for-info.ensures at c.in_ok-counts.ensures.most) (can.tells Dir).told;
      first = read_then s (g.S.Space.state c.read_counts.new.space) c.args.dirs c.args.files c.requires can
          c.in_ok-counts.ensures.reads.stays (Link c.args.kind 0) (zero_has s c.args.dirs c.args.files can c.args.kind)
          c.in_ok-freed.freed c.in_ok-freed.ensures.value;
    })
    c.in_err-taken.ensures.full c.in_err-taken.ensures.broken c.in_err-taken.ensures.damaged
    c.in_err-taken.ensures.plain)

pub returns-in_err-taken-clause-exact : goal.returns-in_err-taken-clause-exact
returns-in_err-taken-clause-exact g c = λ can may words.
    let join = g.met.S.Space.keeps_join in
    let s = g.S.Space.state c.args.space.now in
    let read = reads_then join c.in_ok-counts.ensures.reads c.in_ok-freed.ensures.reads in
    let error = c.in_err-taken.field-0.0 in
    addition_exact s c.args.dirs c.args.files c.args.kind c.args.parent c.args.name.now.0 _
    (returns-in_err-taken-clause-cause g c) can may words.room
    (rw (passed_error _ error c.from_residual-in_err-taken.ensures.1)
    (take_never s (g.S.Space.state c.read_word.new.space) c.args.dirs c.args.files c.requires can read.stays
    c.args.kind c.args.parent c.args.name.now.0 c.in_ok-counts.counts c.in_ok-freed.freed
    (record {
      count = (rw c.info_for-info.ensures at c.in_ok-counts.ensures.count) (can.tells Dir).told;
      most = (rw c.info_for-info.ensures at c.in_ok-counts.ensures.most) (can.tells Dir).told;
      first = read_then s (g.S.Space.state c.read_counts.new.space) c.args.dirs c.args.files c.requires can
          c.in_ok-counts.ensures.reads.stays (Link c.args.kind 0) (zero_has s c.args.dirs c.args.files can c.args.kind)
          c.in_ok-freed.freed c.in_ok-freed.ensures.value;
    }) _ words.freed c.in_err-taken.ensures.damaged))

pub returns-in_err-taken-clause-reads : goal.returns-in_err-taken-clause-reads
returns-in_err-taken-clause-reads g c =
    let join = g.met.S.Space.keeps_join in
    rw (passed_error _ c.in_err-taken.field-0.0 c.from_residual-in_err-taken.ensures.1)
    (reads_then join (reads_then join c.in_ok-counts.ensures.reads c.in_ok-freed.ensures.reads)
    c.in_err-taken.ensures.reads)

pub returns-in_err-link-clause-cause : goal.returns-in_err-link-clause-cause
returns-in_err-link-clause-cause g c =
    let join = g.met.S.Space.keeps_join in
    let s = g.S.Space.state c.args.space.now in
    let freed_read = reads_then join c.in_ok-counts.ensures.reads c.in_ok-freed.ensures.reads in
    let taken_read = reads_then join freed_read c.in_ok-taken.ensures.reads in
    let bucket_is = rw c.info_for-info.ensures at c.bucket.ensures.number in
    let t = g.S.Space.state c.take.new.space in
    let bad = c.in_err-link.field-0.0 in
    rw (passed_on _ bad c.from_residual-in_err-link.ensures.1)
    (addition_bad_cause s c.args.dirs c.args.files c.args.kind c.args.parent c.args.name.now.0 bad
    (λ can may. head_blamed s t c.args.dirs c.args.files c.requires can taken_read.stays c.args.kind c.args.parent
    c.args.name.now.0 (Some bad) (rw bucket_is at c.in_err-link.ensures.read))
    (λ is. c.in_err-link.ensures.plain (plain_stays s.shape t.shape taken_read.stays.space.shape is)))

pub returns-in_err-link-clause-exact : goal.returns-in_err-link-clause-exact
returns-in_err-link-clause-exact g c = λ can may words.
    let join = g.met.S.Space.keeps_join in
    let s = g.S.Space.state c.args.space.now in
    let freed_read = reads_then join c.in_ok-counts.ensures.reads c.in_ok-freed.ensures.reads in
    let taken_read = reads_then join freed_read c.in_ok-taken.ensures.reads in
    let bucket_is = rw c.info_for-info.ensures at c.bucket.ensures.number in
    let t = g.S.Space.state c.take.new.space in
    let bad = c.in_err-link.field-0.0 in
    addition_exact s c.args.dirs c.args.files c.args.kind c.args.parent c.args.name.now.0 _
    (returns-in_err-link-clause-cause g c) can may words.room
    (rw (passed_on _ bad c.from_residual-in_err-link.ensures.1)
    (word_never s t c.args.dirs c.args.files c.requires can taken_read.stays
    (Head c.args.kind (bucket_number c.args.parent c.args.name.now.0
    (info_of c.args.dirs c.args.files c.args.kind).buckets)) (Some bad)
    (head_has s c.args.dirs c.args.files c.requires c.args.kind c.args.parent c.args.name.now.0) words.head
    (rw bucket_is at c.in_err-link.ensures.read)))

pub returns-in_err-link-clause-reads : goal.returns-in_err-link-clause-reads
returns-in_err-link-clause-reads g c =
    let join = g.met.S.Space.keeps_join in
    rw (passed_on _ c.in_err-link.field-0.0 c.from_residual-in_err-link.ensures.1)
    (reads_then join
    (reads_then join (reads_then join c.in_ok-counts.ensures.reads c.in_ok-freed.ensures.reads)
    c.in_ok-taken.ensures.reads) c.in_err-link.ensures.reads)

pub returns-in_err-sibling-clause-cause : goal.returns-in_err-sibling-clause-cause
returns-in_err-sibling-clause-cause g c =
    let join = g.met.S.Space.keeps_join in
    let s = g.S.Space.state c.args.space.now in
    let freed_read = reads_then join c.in_ok-counts.ensures.reads c.in_ok-freed.ensures.reads in
    let taken_read = reads_then join freed_read c.in_ok-taken.ensures.reads in
    let link_read = reads_then join taken_read c.in_ok-link.ensures.reads in
    let t = g.S.Space.state c.read_word-2.new.space in
    let bad = c.in_err-sibling.field-0.0 in
    rw (passed_on _ bad c.from_residual-in_err-sibling.ensures.1)
    (addition_bad_cause s c.args.dirs c.args.files c.args.kind c.args.parent c.args.name.now.0 bad
    (λ can may. first_blamed s t c.args.dirs c.args.files c.requires can link_read.stays c.args.kind c.args.parent
    (Some bad) may.can.directory c.in_err-sibling.ensures.read)
    (λ is. c.in_err-sibling.ensures.plain (plain_stays s.shape t.shape link_read.stays.space.shape is)))

pub returns-in_err-sibling-clause-exact : goal.returns-in_err-sibling-clause-exact
returns-in_err-sibling-clause-exact g c = λ can may words.
    let join = g.met.S.Space.keeps_join in
    let s = g.S.Space.state c.args.space.now in
    let freed_read = reads_then join c.in_ok-counts.ensures.reads c.in_ok-freed.ensures.reads in
    let taken_read = reads_then join freed_read c.in_ok-taken.ensures.reads in
    let link_read = reads_then join taken_read c.in_ok-link.ensures.reads in
    let t = g.S.Space.state c.read_word-2.new.space in
    let bad = c.in_err-sibling.field-0.0 in
    addition_exact s c.args.dirs c.args.files c.args.kind c.args.parent c.args.name.now.0 _
    (returns-in_err-sibling-clause-cause g c) can may words.room
    (rw (passed_on _ bad c.from_residual-in_err-sibling.ensures.1)
    (word_never s t c.args.dirs c.args.files c.requires can link_read.stays (First c.args.kind c.args.parent) (Some bad)
    (first_has s c.args.dirs c.args.files can c.args.kind c.args.parent may.can.directory) words.first
    c.in_err-sibling.ensures.read))

pub returns-in_err-sibling-clause-reads : goal.returns-in_err-sibling-clause-reads
returns-in_err-sibling-clause-reads g c =
    let join = g.met.S.Space.keeps_join in
    rw (passed_on _ c.in_err-sibling.field-0.0 c.from_residual-in_err-sibling.ensures.1)
    (reads_then join
    (reads_then join
    (reads_then join (reads_then join c.in_ok-counts.ensures.reads c.in_ok-freed.ensures.reads)
    c.in_ok-taken.ensures.reads) c.in_ok-link.ensures.reads) c.in_err-sibling.ensures.reads)

pub returns-clause-words : goal.returns-clause-words
returns-clause-words g c = λ can may.
    let join = g.met.S.Space.keeps_join in
    let s = g.S.Space.state c.args.space.now in
    let freed_read = reads_then join c.in_ok-counts.ensures.reads c.in_ok-freed.ensures.reads in
    let taken_read = reads_then join freed_read c.in_ok-taken.ensures.reads in
    let bucket_is = rw c.info_for-info.ensures at c.bucket.ensures.number in
    let link_read = reads_then join taken_read c.in_ok-link.ensures.reads in
    let are : AreCountsOf (table_in s.cells c.args.kind (info_of c.args.dirs c.args.files c.args.kind))
    c.in_ok-counts.counts c.in_ok-freed.freed = record {
      count = (rw c.info_for-info.ensures at c.in_ok-counts.ensures.count) (can.tells Dir).told;
      most = (rw c.info_for-info.ensures at c.in_ok-counts.ensures.most) (can.tells Dir).told;
      first = read_then s (g.S.Space.state c.read_counts.new.space) c.args.dirs c.args.files c.requires can
          c.in_ok-counts.ensures.reads.stays (Link c.args.kind 0) (zero_has s c.args.dirs c.args.files can c.args.kind)
          c.in_ok-freed.freed c.in_ok-freed.ensures.value;
    } in
    let taking = taking_before s (g.S.Space.state c.read_word.new.space) c.args.dirs c.args.files c.requires can
    freed_read.stays c.args.kind c.in_ok-taken.taken
    (c.in_ok-taken.ensures.taken (stays_can s c.args.dirs c.args.files c.requires can
    (g.S.Space.state c.read_word.new.space) freed_read.stays)
    (counts_then s (g.S.Space.state c.read_word.new.space) c.args.dirs c.args.files c.requires can freed_read.stays
    c.args.kind c.in_ok-counts.counts c.in_ok-freed.freed are)) in
    record {
      room = taking.room;
      zero = bytes_then s (g.S.Space.state c.read_counts.new.space) c.args.dirs c.args.files c.requires can
          c.in_ok-counts.ensures.reads.stays (Link c.args.kind 0) (zero_has s c.args.dirs c.args.files can c.args.kind)
          c.in_ok-freed.ensures.read;
      freed = taking.freed;
      head = bytes_then s (g.S.Space.state c.take.new.space) c.args.dirs c.args.files c.requires can taken_read.stays
          (Head c.args.kind (bucket_number c.args.parent c.args.name.now.0
          (info_of c.args.dirs c.args.files c.args.kind).buckets))
          (head_has s c.args.dirs c.args.files c.requires c.args.kind c.args.parent c.args.name.now.0)
          (rw bucket_is at c.in_ok-link.ensures.read);
      first = bytes_then s (g.S.Space.state c.read_word-2.new.space) c.args.dirs c.args.files c.requires can
          link_read.stays (First c.args.kind c.args.parent)
          (first_has s c.args.dirs c.args.files can c.args.kind c.args.parent may.can.directory)
          c.in_ok-sibling.ensures.read;
    }

pub returns-clause-plan : goal.returns-clause-plan
returns-clause-plan g c = λ can may.
    let join = g.met.S.Space.keeps_join in
    let s = g.S.Space.state c.args.space.now in
    let freed_read = reads_then join c.in_ok-counts.ensures.reads c.in_ok-freed.ensures.reads in
    let taken_read = reads_then join freed_read c.in_ok-taken.ensures.reads in
    let bucket_is = rw c.info_for-info.ensures at c.bucket.ensures.number in
    let link_read = reads_then join taken_read c.in_ok-link.ensures.reads in
    let are : AreCountsOf (table_in s.cells c.args.kind (info_of c.args.dirs c.args.files c.args.kind))
    c.in_ok-counts.counts c.in_ok-freed.freed = record {
      count = (rw c.info_for-info.ensures at c.in_ok-counts.ensures.count) (can.tells Dir).told;
      most = (rw c.info_for-info.ensures at c.in_ok-counts.ensures.most) (can.tells Dir).told;
      first = read_then s (g.S.Space.state c.read_counts.new.space) c.args.dirs c.args.files c.requires can
          c.in_ok-counts.ensures.reads.stays (Link c.args.kind 0) (zero_has s c.args.dirs c.args.files can c.args.kind)
          c.in_ok-freed.freed c.in_ok-freed.ensures.value;
    } in
    let taking = taking_before s (g.S.Space.state c.read_word.new.space) c.args.dirs c.args.files c.requires can
    freed_read.stays c.args.kind c.in_ok-taken.taken
    (c.in_ok-taken.ensures.taken (stays_can s c.args.dirs c.args.files c.requires can
    (g.S.Space.state c.read_word.new.space) freed_read.stays)
    (counts_then s (g.S.Space.state c.read_word.new.space) c.args.dirs c.args.files c.requires can freed_read.stays
    c.args.kind c.in_ok-counts.counts c.in_ok-freed.freed are)) in
    let head_there = head_has s c.args.dirs c.args.files c.requires c.args.kind c.args.parent c.args.name.now.0 in
    let first_there = first_has s c.args.dirs c.args.files can c.args.kind c.args.parent may.can.directory in
    addition_planned s c.args.dirs c.args.files can c.args.kind c.args.parent c.args.name.now.0 c.in_ok-taken.taken
    c.bucket.result c.in_ok-sibling.sibling c.in_ok-link.link c.added_behind.result taking
    (returns-clause-words g c can may) (zero_has s c.args.dirs c.args.files can c.args.kind) head_there first_there
    bucket_is
    (read_then s (g.S.Space.state c.take.new.space) c.args.dirs c.args.files c.requires can taken_read.stays
    (Head c.args.kind (bucket_number c.args.parent c.args.name.now.0
    (info_of c.args.dirs c.args.files c.args.kind).buckets)) head_there c.in_ok-link.link
    (rw bucket_is at c.in_ok-link.ensures.value))
    (read_then s (g.S.Space.state c.read_word-2.new.space) c.args.dirs c.args.files c.requires can link_read.stays
    (First c.args.kind c.args.parent) first_there c.in_ok-sibling.sibling c.in_ok-sibling.ensures.value)
    c.added_behind.ensures.place c.added_behind.ensures.edits

pub returns-clause-cause : goal.returns-clause-cause
returns-clause-cause g c = record {
  damaged = λ can may. tt;
  plain = λ is. tt;
  broken = λ can. tt;
  full = λ can. tt;
  room = λ can.
      (let join = g.met.S.Space.keeps_join in
      let s = g.S.Space.state c.args.space.now in
      let freed_read = reads_then join c.in_ok-counts.ensures.reads c.in_ok-freed.ensures.reads in
      let taken_read = reads_then join freed_read c.in_ok-taken.ensures.reads in
      let are : AreCountsOf (table_in s.cells c.args.kind (info_of c.args.dirs c.args.files c.args.kind))
      c.in_ok-counts.counts c.in_ok-freed.freed = record {
        count = (rw c.info_for-info.ensures at c.in_ok-counts.ensures.count) (can.tells Dir).told;
        most = (rw c.info_for-info.ensures at c.in_ok-counts.ensures.most) (can.tells Dir).told;
        first = read_then s (g.S.Space.state c.read_counts.new.space) c.args.dirs c.args.files c.requires can
            c.in_ok-counts.ensures.reads.stays (Link c.args.kind 0)
            (zero_has s c.args.dirs c.args.files can c.args.kind)
            c.in_ok-freed.freed c.in_ok-freed.ensures.value;
      } in
      let taking = taking_before s (g.S.Space.state c.read_word.new.space) c.args.dirs c.args.files c.requires can
      freed_read.stays c.args.kind c.in_ok-taken.taken
      (c.in_ok-taken.ensures.taken (stays_can s c.args.dirs c.args.files c.requires can
      (g.S.Space.state c.read_word.new.space) freed_read.stays)
      (counts_then s (g.S.Space.state c.read_word.new.space) c.args.dirs c.args.files c.requires can freed_read.stays
      c.args.kind c.in_ok-counts.counts c.in_ok-freed.freed are)) in
      taking.room);
}

pub returns-clause-reads : goal.returns-clause-reads
returns-clause-reads g c =
    let join = g.met.S.Space.keeps_join in
    reads_then join
    (reads_then join
    (reads_then join (reads_then join c.in_ok-counts.ensures.reads c.in_ok-freed.ensures.reads)
    c.in_ok-taken.ensures.reads) c.in_ok-link.ensures.reads) c.in_ok-sibling.ensures.reads
