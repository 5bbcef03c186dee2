use Rattle.std.proofs.Common.{◌≡◌, ◌+◌, Some, length, refl, sym, ◌∙◌, ap, subst, arith}
use Rattle.save_bytes.proofs.SpaceLemmas.{IfDamaged-map}
use Rattle.entry_tables.specs.Kinds.{table_number, link_offset}
use Rattle.entry_tables.specs.Tables.{Table, table_in, entry_place}
use Rattle.entry_tables.specs.Rules.{CanBeFreed}
use Rattle.entry_tables.specs.Fails.{NamesWrongly}
use Rattle.entry_tables.proofs.EntryLemmas.{some_counted, link_last}
use Rattle.save_bytes.proofs.CallLemmas.{reads_then}
use Rattle.entry_tables.proofs.StayLemmas.{HasEntryTable-stays, entry_fits, needed_read}
use Rattle.entry_tables.proofs.CauseLemmas.{passed_on, bad_cause, broken_cause, plain_stays}
use Rattle.save_bytes.specs.Refusals.{IfDamaged}
use Rattle.entry_tables.specs.Layout.{BlamesTable}
use Rattle.name_buckets.proofs.LookLemmas.{same_table, link_stays, among_stays, entry_blamed, blamed_before}
use Rattle.name_buckets.proofs.FreeLemmas.{HasFollowed-more, followed_below, followed_needed, room_counted, wrong_number, not_long}
use Rattle.name_buckets.proofs.free.free_in.Goals.{then-next-least_freed-via-then-next-least_freed}
use Rattle.name_buckets.proofs.free.free_in.Goals.{then-next-least_freed-via-else-next-least_freed+then-next-counts}
use Rattle.name_buckets.proofs.free.free_in.Goals as goal

pub entry_word-requires-clause-table : goal.entry_word-requires-clause-table
entry_word-requires-clause-table g c =
    HasEntryTable-stays (g.S.Space.state c.args.space.now) (g.S.Space.state c.loop-freed.space)
    c.loop-freed.invariant.reads.stays
    c.args.kind c.args.info c.requires

pub returns-in_err-next-clause-cause : goal.returns-in_err-next-clause-cause
returns-in_err-next-clause-cause g c =
    let old = g.S.Space.state c.args.space.now in
    let mid = g.S.Space.state c.loop-freed.space in
    let kind = c.args.kind in
    let info = c.args.info in
    let from = c.loop-freed.from in
    let bad = c.in_err-next.field-0.0 in
    let stays = c.loop-freed.invariant.reads.stays in
    rw (passed_on _ bad c.from_residual-in_err-next.ensures.1)
    (bad_cause old kind info _ _ bad
    (λ tells rule.
    let known = c.in_ok-counts.ensures.known tells.told in
    let followed = c.loop-freed.invariant.followed tells in
    let below = followed_below followed (some_counted old kind info tells known) in
    let fits = entry_fits old mid stays kind info c.requires tells known from (omega (arith, below, tells.most known))
    in
    IfDamaged-map (Some bad)
    (λ part level block. needed_read old mid stays kind info c.requires tells.told (entry_place kind info from + link_offset kind) 4
    part level block (omega (arith, fits, link_last kind)) (λ x within. followed_needed followed info x rule within))
    (rw c.link_offset.ensures at c.in_err-next.ensures.damaged (stays.space.told tells.told)))
    (λ plain. c.in_err-next.ensures.plain (plain_stays old.shape mid.shape stays.space.shape plain)))

pub returns-in_err-next-clause-reads : goal.returns-in_err-next-clause-reads
returns-in_err-next-clause-reads g c =
    let bad = c.in_err-next.field-0.0 in
    rw (passed_on _ bad c.from_residual-in_err-next.ensures.1)
    (reads_then g.met.S.Space.keeps_join c.loop-freed.invariant.reads c.in_err-next.ensures.reads)

pub returns-then-next-eq0-clause-free : goal.returns-then-next-eq0-clause-free
returns-then-next-eq0-clause-free g c = λ tells.
    let old = g.S.Space.state c.args.space.now in
    let counts = c.in_ok-counts.ensures in
    let known = counts.known tells.told in
    let followed = c.loop-freed.invariant.followed tells in
    let next = link_stays old (g.S.Space.state c.loop-freed.space) c.loop-freed.invariant.reads.stays c.args.kind c.args.info c.requires
    tells known c.loop-freed.from c.in_ok-next.next c.link_offset.result c.link_offset.ensures
    (followed_below followed (some_counted old c.args.kind c.args.info tells known)) c.in_ok-next.ensures.word in
    room_counted followed (c.saturating_sub.result + c.loop-freed.freed) (sym next ∙ c.if-next-eq0.true)
    (rw (c.saturating_sub.ensures, counts.count tells.told, counts.most tells.told) refl)

pub returns-then-next-eq0-clause-reads : goal.returns-then-next-eq0-clause-reads
returns-then-next-eq0-clause-reads g c =
    reads_then g.met.S.Space.keeps_join c.loop-freed.invariant.reads c.in_ok-next.ensures.reads

pub returns-then-next-least_freed-clause-reads : goal.returns-then-next-least_freed-clause-reads
returns-then-next-least_freed-clause-reads g c =
    rw c.names_wrongly.ensures
    (reads_then g.met.S.Space.keeps_join c.loop-freed.invariant.reads c.in_ok-next.ensures.reads)

pub returns-then-next-least_freed-clause-cause : goal.returns-then-next-least_freed-clause-cause
returns-then-next-least_freed-clause-cause g c =
    let old = g.S.Space.state c.args.space.now in
    let kind = c.args.kind in
    let t = table_in old.cells kind c.args.info in
    rw c.names_wrongly.ensures
    (broken_cause old kind c.args.info _ _ (table_number kind) c.loop-freed.from
    (λ tells. (
      refl,
      (let counts = c.in_ok-counts.ensures in
          let known = counts.known tells.told in
          let followed = c.loop-freed.invariant.followed tells in
          let next = link_stays old (g.S.Space.state c.loop-freed.space) c.loop-freed.invariant.reads.stays kind c.args.info c.requires
          tells known c.loop-freed.from c.in_ok-next.next c.link_offset.result c.link_offset.ensures
          (followed_below followed (some_counted old kind c.args.info tells known)) c.in_ok-next.ensures.word in
          let counted = counts.count tells.told in
          let cannot : ¬ CanBeFreed kind t c.in_ok-next.next = λ can.
          elim c.then-next-least_freed.branch [
            | then-next-least_freed-via-then-next-least_freed w ↦ omega (arith, can.0, w.if-next-least_freed.true, c.least_freed.ensures)
            | then-next-least_freed-via-else-next-least_freed+then-next-counts w ↦ omega (arith, can.1, w.if-next-counts.true, counted)
          ]
          in
          wrong_number followed c.in_ok-next.next next c.if-next-eq0.false cannot),
    )))

pub loop-freed-preserved : goal.loop-freed-preserved
loop-freed-preserved g c =
    let space = g.S.Space in
    let old = space.state c.args.space.now in
    let before = c.loop-freed.invariant in
    record {
      reads = reads_then g.met.S.Space.keeps_join before.reads c.in_ok-next.ensures.reads;
      followed = λ tells.
          (let counts = c.in_ok-counts.ensures in
          let known = counts.known tells.told in
          let followed = before.followed tells in
          let next = link_stays old (space.state c.loop-freed.space) before.reads.stays c.args.kind c.args.info c.requires tells known
          c.loop-freed.from c.in_ok-next.next c.link_offset.result c.link_offset.ensures
          (followed_below followed (some_counted old c.args.kind c.args.info tells known)) c.in_ok-next.ensures.word in
          HasFollowed-more followed c.in_ok-next.next next c.if-next-eq0.false (
            omega (arith, c.if-next-least_freed.false, c.least_freed.ensures),
            omega (arith, c.if-next-counts.false, counts.count tells.told),
          ));
    }

pub circle_end-requires : goal.circle_end-requires
circle_end-requires g c =
    HasEntryTable-stays (g.S.Space.state c.args.space.now) (g.S.Space.state c.loop-freed.space)
    c.loop-freed.invariant.reads.stays
    c.args.kind c.args.info c.requires

pub returns-in_err-end-clause-cause : goal.returns-in_err-end-clause-cause
returns-in_err-end-clause-cause g c =
    let old = g.S.Space.state c.args.space.now in
    let mid = g.S.Space.state c.loop-freed.space in
    let kind = c.args.kind in
    let bad = c.in_err-end.field-0.0 in
    rw (passed_on _ bad c.from_residual-in_err-end.ensures.1)
    (bad_cause old kind c.args.info _ _ bad
    (λ tells rule.
    let counts = c.in_ok-counts.ensures in
    absurd (not_long (c.loop-freed.invariant.followed tells) (omega
    (arith, c.loop-freed-test.false, counts.count tells.told))
    (some_counted old kind c.args.info tells (counts.known tells.told)) rule))
    (λ plain. c.in_err-end.ensures.plain (plain_stays old.shape mid.shape
    c.loop-freed.invariant.reads.stays.space.shape plain)))

pub returns-in_err-end-clause-reads : goal.returns-in_err-end-clause-reads
returns-in_err-end-clause-reads g c =
    let bad = c.in_err-end.field-0.0 in
    rw (passed_on _ bad c.from_residual-in_err-end.ensures.1)
    (reads_then g.met.S.Space.keeps_join c.loop-freed.invariant.reads c.in_err-end.ensures.reads)

pub returns-clause-cause : goal.returns-clause-cause
returns-clause-cause g c =
    let old = g.S.Space.state c.args.space.now in
    let mid = g.S.Space.state c.loop-freed.space in
    let kind = c.args.kind in
    let info = c.args.info in
    let stays = c.loop-freed.invariant.reads.stays in
    let end = c.in_ok-end.end in
    rw c.names_wrongly-2.ensures
    (broken_cause old kind info _ _ (table_number kind) end
    (λ tells. (
      refl,
      (let counts = c.in_ok-counts.ensures in
          let known = counts.known tells.told in
          let followed = c.loop-freed.invariant.followed tells in
          let same = same_table old mid stays kind info c.requires tells known in
          let counted = ap (λ (t : Table). t.count) same ∙ sym (counts.count tells.told) in
          let many : length followed.front ≡ c.in_ok-counts.counts.count =
          omega (arith, followed.many, c.loop-freed-test.false, c.loop-freed.auto.freed-end) in
          let wrong = among_stays old mid stays kind info c.requires tells known followed.front c.loop-freed.from
          (NamesWrongly kind (table_in mid.cells kind info) end) followed.begins
          (λ tells_too known_too begins. c.in_ok-end.ensures.wrong tells_too known_too counted followed.front
          c.loop-freed.from begins many) in
          subst (λ (t : Table). NamesWrongly kind t end) same wrong),
    )))

pub returns-clause-reads : goal.returns-clause-reads
returns-clause-reads g c =
    rw c.names_wrongly-2.ensures
    (reads_then g.met.S.Space.keeps_join c.loop-freed.invariant.reads c.in_ok-end.ensures.reads)

pub returns-in_err-next-clause-blamed : goal.returns-in_err-next-clause-blamed
returns-in_err-next-clause-blamed g c = λ tells.
    let old = g.S.Space.state c.args.space.now in
    let kind = c.args.kind in
    let before = c.loop-freed.invariant in
    let known = c.in_ok-counts.ensures.known tells.told in
    let below = followed_below (before.followed tells) (some_counted old kind c.args.info tells known) in
    let bad = c.in_err-next.field-0.0 in
    rw (passed_on _ bad c.from_residual-in_err-next.ensures.1)
    (entry_blamed old (g.S.Space.state c.loop-freed.space) before.reads.stays kind c.args.info c.requires tells known
    c.loop-freed.from (link_offset kind) 4 bad (omega (arith, link_last kind)) below
    (rw c.link_offset.ensures at c.in_err-next.ensures.damaged))

pub returns-in_err-end-clause-blamed : goal.returns-in_err-end-clause-blamed
returns-in_err-end-clause-blamed g c = λ tells.
    let old = g.S.Space.state c.args.space.now in
    let mid = g.S.Space.state c.loop-freed.space in
    let kind = c.args.kind in
    let info = c.args.info in
    let stays = c.loop-freed.invariant.reads.stays in
    let known = c.in_ok-counts.ensures.known tells.told in
    let followed = c.loop-freed.invariant.followed tells in
    let many : length followed.front ≡ c.in_ok-counts.counts.count =
    omega (arith, followed.many, c.loop-freed-test.false, c.loop-freed.auto.freed-end) in
    let bad = c.in_err-end.field-0.0 in
    rw (passed_on _ bad c.from_residual-in_err-end.ensures.1)
    (blamed_before old mid stays kind info c.requires tells known bad
    (among_stays old mid stays kind info c.requires tells known followed.front c.loop-freed.from
    (IfDamaged (Some bad) (BlamesTable kind info mid.cells)) followed.begins
    (λ tells_too known_too begins. c.in_err-end.ensures.blamed tells_too known_too followed.front c.loop-freed.from
    begins many)))
