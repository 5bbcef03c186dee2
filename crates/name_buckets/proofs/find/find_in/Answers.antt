use Rattle.std.proofs.Common.{◌≡◌, ◌+◌, ◌*◌, ◌<◌, ◌≤◌, Some, refl, sym, ◌∙◌, arith, add-zero}
use Rattle.save_bytes.proofs.SpaceLemmas.{IfDamaged-map}
use Rattle.entry_tables.specs.Hash.{bucket_number}
use Rattle.entry_tables.specs.Kinds.{entry_size}
use Rattle.entry_tables.specs.Tables.{table_in, entry_place, bucket_place}
use Rattle.entry_tables.specs.Layout.{OfBucket, OfUsed, InBucket}
use Rattle.entry_tables.proofs.EntryLemmas.{least_some, counted_entry}
use Rattle.save_bytes.proofs.CallLemmas.{reads_then}
use Rattle.entry_tables.proofs.StayLemmas.{HasEntryTable-stays, entry_fits, needed_read, table_read, fault_read}
use Rattle.entry_tables.proofs.CauseLemmas.{passed_on, bad_cause, broken_cause, plain_stays}
use Rattle.name_buckets.proofs.FindLemmas.{HasPassed-none, HasPassed-more, passed_stands, match_found, none_found, broken_past, broken_long}
use Rattle.name_buckets.proofs.LookLemmas.{look_stays, head_stays, entry_blamed}
use Rattle.name_buckets.proofs.find.find_in.Given.{Over}
use Rattle.name_buckets.proofs.find.find_in.Goals.{After-bucket-number}
use Rattle.name_buckets.proofs.find.find_in.Goals as goal

-- the bucket is one of the table's
own_below : (g : Over) (c : After-bucket-number g) → bucket_number c.args.parent c.args.name.now.0 c.args.info.buckets < c.args.info.buckets
own_below g c = rw (sym c.bucket-number.ensures.number) c.bucket-number.ensures.below

pub returns-in_err-entry-clause-reads : goal.returns-in_err-entry-clause-reads
returns-in_err-entry-clause-reads g c =
    let bad = c.in_err-entry.field-0.0 in
    rw (passed_on _ bad c.from_residual-in_err-entry.ensures.1)
    (reads_then g.met.S.Space.keeps_join c.in_ok-count.ensures.reads c.in_err-entry.ensures.reads)

pub returns-in_err-entry-clause-cause : goal.returns-in_err-entry-clause-cause
returns-in_err-entry-clause-cause g c =
    let old = g.S.Space.state c.args.space.now in
    let mid = g.S.Space.state c.read_counts.new.space in
    let kind = c.args.kind in
    let info = c.args.info in
    let number = c.bucket-number.result in
    let below = c.bucket-number.ensures.below in
    let bad = c.in_err-entry.field-0.0 in
    let stays = c.in_ok-count.ensures.reads.stays in
    let read = c.in_err-entry.ensures.read in
    let there : info.buckets_at + 4 * c.from.result ≡ bucket_place info number = rw c.from.ensures refl in
    rw (passed_on _ bad c.from_residual-in_err-entry.ensures.1)
    (bad_cause old kind info _ _ bad
    (λ tells rule. IfDamaged-map (Some bad)
    (λ part level block first. needed_read old mid stays kind info c.requires tells.told (bucket_place info number) 4 part level block
    (omega (arith, below, c.requires.buckets)) (λ x within. OfBucket number below within)
    (fault_read kind info mid.cells (bucket_place info number) 4 part level block first))
    (rw there at read.damaged (stays.space.told tells.told)))
    (λ plain. read.plain (plain_stays old.shape mid.shape stays.space.shape plain)))

pub loop-step-init : goal.loop-step-init
loop-step-init g c =
    let space = g.S.Space in
    let old = space.state c.args.space.now in
    let mid = space.state c.read_counts.new.space in
    let stays = c.in_ok-count.ensures.reads.stays in
    let info = c.args.info in
    let number = c.bucket-number.ensures in
    let own = bucket_number c.args.parent c.args.name.now.0 info.buckets in
    let below = own_below g (goal.at.loop-step-init g c).After-bucket-number in
    let there : info.buckets_at + 4 * c.from.result ≡ bucket_place info own = rw (c.from.ensures, number.number) refl in
    record {
      reads = reads_then g.met.S.Space.keeps_join c.in_ok-count.ensures.reads c.in_ok-entry.ensures.reads;
      passed = λ tells. HasPassed-none c.in_ok-entry.entry ((rw there at c.in_ok-entry.ensures.number (stays.space.told tells.told))
          ∙ head_stays old mid stays c.args.kind info c.requires tells (c.in_ok-count.ensures.known tells.told) own
          below);
    }

pub returns-then-entry-eq0-clause-found : goal.returns-then-entry-eq0-clause-found
returns-then-entry-eq0-clause-found g c = λ tells lists.
    none_found (rw c.if-entry-eq0.true at c.loop-step.invariant.passed tells) refl
    (own_below g (goal.at.returns-then-entry-eq0-clause-found g c).After-bucket-number) lists

pub returns-then-entry-count-clause-cause : goal.returns-then-entry-count-clause-cause
returns-then-entry-count-clause-cause g c =
    let old = g.S.Space.state c.args.space.now in
    let number = c.bucket-number.ensures in
    let below = own_below g (goal.at.returns-then-entry-count-clause-cause g c).After-bucket-number in
    broken_cause old c.args.kind c.args.info _ _ c.bucket_table.result c.bucket-number.result
    (λ tells. (
      c.bucket_table.ensures,
      number.number,
      rw number.number (broken_past (c.loop-step.invariant.passed tells) c.if-entry-eq0.false below
          (omega (arith, c.if-entry-count.true, c.in_ok-count.ensures.count tells.told))),
    ))

pub look_at-requires : goal.look_at-requires
look_at-requires g c =
    HasEntryTable-stays (g.S.Space.state c.args.space.now) (g.S.Space.state c.loop-step.space) c.loop-step.invariant.reads.stays
    c.args.kind c.args.info c.requires

pub returns-in_err-look_at-clause-cause : goal.returns-in_err-look_at-clause-cause
returns-in_err-look_at-clause-cause g c =
    let old = g.S.Space.state c.args.space.now in
    let mid = g.S.Space.state c.loop-step.space in
    let kind = c.args.kind in
    let info = c.args.info in
    let own = bucket_number c.args.parent c.args.name.now.0 info.buckets in
    let below = own_below g (goal.at.returns-in_err-look_at-clause-cause g c).After-bucket-number in
    let e = c.loop-step.entry in
    let bad = c.in_err-look_at.field-0.0 in
    let stays = c.loop-step.invariant.reads.stays in
    rw (passed_on _ bad c.from_residual-in_err-look_at.ensures.1)
    (bad_cause old kind info _ _ bad
    (λ tells rule.
    let list = rule own below in
    let used = (passed_stands (c.loop-step.invariant.passed tells) list.0 c.if-entry-eq0.false list.1).used in
    let known = c.in_ok-count.ensures.known tells.told in
    let fits = entry_fits old mid stays kind info c.requires tells known e
    (omega (arith, used.below, tells.most known)) in
    IfDamaged-map (Some bad)
    (λ part level block. needed_read old mid stays kind info c.requires tells.told (entry_place kind info e) (entry_size kind) part
    level block fits (λ x within. OfUsed e used within)) (c.in_err-look_at.ensures.damaged (stays.space.told tells.told)))
    (λ plain. c.in_err-look_at.ensures.plain (plain_stays old.shape mid.shape stays.space.shape plain)))

pub returns-in_err-look_at-clause-reads : goal.returns-in_err-look_at-clause-reads
returns-in_err-look_at-clause-reads g c =
    let bad = c.in_err-look_at.field-0.0 in
    rw (passed_on _ bad c.from_residual-in_err-look_at.ensures.1)
    (reads_then g.met.S.Space.keeps_join c.loop-step.invariant.reads c.in_err-look_at.ensures.reads)

pub returns-in-Found-clause-found : goal.returns-in-Found-clause-found
returns-in-Found-clause-found g c = λ tells lists.
    let old = g.S.Space.state c.args.space.now in
    let mid = g.S.Space.state c.loop-step.space in
    let counts = c.in_ok-count.ensures in
    let below = own_below g (goal.at.returns-in-Found-clause-found g c).After-bucket-number in
    let known = counts.known tells.told in
    let has = counted_entry old c.args.kind c.args.info tells known c.loop-step.entry c.if-entry-eq0.false
    (omega (arith, c.if-entry-count.false, counts.count tells.told)) in
    let look = rw c.in-Found.is at (look_stays old mid c.loop-step.invariant.reads.stays c.args.kind c.args.info c.requires tells
    known c.loop-step.entry c.args.parent c.args.name.now.0 _ has c.in_ok-look_at.ensures.look) in
    match_found (c.loop-step.invariant.passed tells) c.if-entry-eq0.false below look lists

pub returns-in-Found-clause-reads : goal.returns-in-Found-clause-reads
returns-in-Found-clause-reads g c =
    reads_then g.met.S.Space.keeps_join c.loop-step.invariant.reads c.in_ok-look_at.ensures.reads

pub loop-step-preserved : goal.loop-step-preserved
loop-step-preserved g c =
    let space = g.S.Space in
    let old = space.state c.args.space.now in
    let mid = space.state c.loop-step.space in
    let counts = c.in_ok-count.ensures in
    let before = c.loop-step.invariant in
    record {
      reads = reads_then g.met.S.Space.keeps_join before.reads c.in_ok-look_at.ensures.reads;
      passed = λ tells.
          (let known = counts.known tells.told in
          let has = counted_entry old c.args.kind c.args.info tells known c.loop-step.entry c.if-entry-eq0.false
          (omega (arith, c.if-entry-count.false, counts.count tells.told)) in
          let look = rw c.in-Other.is at (look_stays old mid before.reads.stays c.args.kind c.args.info c.requires tells
          known c.loop-step.entry c.args.parent c.args.name.now.0 _ has c.in_ok-look_at.ensures.look) in
          HasPassed-more (before.passed tells) c.in-Other.next c.if-entry-eq0.false look.0 look.1);
    }

pub returns-clause-cause : goal.returns-clause-cause
returns-clause-cause g c =
    let old = g.S.Space.state c.args.space.now in
    let kind = c.args.kind in
    let info = c.args.info in
    let t = table_in old.cells kind info in
    let number = c.bucket-number.ensures in
    let below = own_below g (goal.at.returns-clause-cause g c).After-bucket-number in
    broken_cause old kind info _ _ c.bucket_table.result c.bucket-number.result
    (λ tells. (
      c.bucket_table.ensures,
      number.number,
      (let counts = c.in_ok-count.ensures in
          let some : 1 ≤ t.count = omega (arith, least_some kind, tells.least (counts.known tells.told)) in
          rw number.number (broken_long (c.loop-step.invariant.passed tells) below
          (omega (arith, counts.count tells.told, c.loop-step-test.false)) some)),
    ))

pub returns-in_err-entry-clause-blamed : goal.returns-in_err-entry-clause-blamed
returns-in_err-entry-clause-blamed g c = λ tells.
    let old = g.S.Space.state c.args.space.now in
    let mid = g.S.Space.state c.read_counts.new.space in
    let kind = c.args.kind in
    let info = c.args.info in
    let number = c.bucket-number.result in
    let below = c.bucket-number.ensures.below in
    let bad = c.in_err-entry.field-0.0 in
    let stays = c.in_ok-count.ensures.reads.stays in
    let read = c.in_err-entry.ensures.read in
    let there : info.buckets_at + 4 * c.from.result ≡ bucket_place info number = rw c.from.ensures refl in
    rw (passed_on _ bad c.from_residual-in_err-entry.ensures.1)
    (IfDamaged-map (Some bad)
    (λ part level block first. table_read old mid stays kind info c.requires tells.told (bucket_place info number) 4
    part
    level block (omega (arith, below, c.requires.buckets)) (λ x within. InBucket number below within)
    (fault_read kind info mid.cells (bucket_place info number) 4 part level block first))
    (rw there at read.damaged (stays.space.told tells.told)))

pub returns-in_err-look_at-clause-blamed : goal.returns-in_err-look_at-clause-blamed
returns-in_err-look_at-clause-blamed g c = λ tells.
    let old = g.S.Space.state c.args.space.now in
    let counts = c.in_ok-count.ensures in
    let below : c.loop-step.entry < (table_in old.cells c.args.kind c.args.info).count =
    omega (arith, c.if-entry-count.false, counts.count tells.told) in
    let bad = c.in_err-look_at.field-0.0 in
    rw (passed_on _ bad c.from_residual-in_err-look_at.ensures.1)
    (entry_blamed old (g.S.Space.state c.loop-step.space) c.loop-step.invariant.reads.stays c.args.kind c.args.info
    c.requires tells (counts.known tells.told) c.loop-step.entry 0 (entry_size c.args.kind) bad (omega arith) below
    (rw add-zero c.in_err-look_at.ensures.damaged))
