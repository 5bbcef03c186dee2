use Rattle.std.proofs.Common.{Some, ◌≡◌, ◌↔◌, ℕ, IsTrue, sym, ◌∙◌, subst, arith}
use Rattle.std.proofs.lemmas.Bool.{false≢true}
use Rattle.std.specs.List.{Contains}
use Rattle.save_bytes.proofs.CallLemmas.{Reads-same, reads_then}
use Rattle.entry_tables.specs.Tables.{table_in}
use Rattle.entry_tables.specs.Layout.{HasCounts, TellsEntryTable, BlamesTable}
use Rattle.entry_tables.proofs.EntryLemmas.{link_last, some_counted}
use Rattle.entry_tables.proofs.CauseLemmas.{passed_error}
use Rattle.save_bytes.specs.Refusals.{IfDamaged}
use Rattle.entry_tables.specs.Kinds.{link_offset}
use Rattle.name_buckets.proofs.LookLemmas.{link_stays, among_stays, entry_blamed, blamed_before}
use Rattle.name_buckets.proofs.FreeLemmas.{HasFollowedOnce, HasFollowedOnce-none, HasFollowedOnce-more, followed_below, named_before, not_once}
use Rattle.name_buckets.proofs.free.circle_end.Given.{Over}
use Rattle.name_buckets.proofs.free.circle_end.Goals.{In_ok-is_among}
use Rattle.name_buckets.proofs.free.circle_end.Goals as goal

pub loop-passed-init : goal.loop-passed-init
loop-passed-init g c = record {
  reads = Reads-same g.S.Space.state g.S.Space.keeps g.S.Space.lands g.met.S.Space.keeps_same c.args.space.now;
  followed = λ tells known front last is_front many. HasFollowedOnce-none c.args.kind
      (table_in (g.S.Space.state c.args.space.now).cells c.args.kind c.args.info);
}

pub returns-in_err-next-clause-reads : goal.returns-in_err-next-clause-reads
returns-in_err-next-clause-reads g c =
    rw (passed_error _ c.in_err-next.field-0.0 c.from_residual.ensures.1)
    (reads_then g.met.S.Space.keeps_join c.loop-passed.invariant.reads c.in_err-next.ensures.reads)

pub returns-in_err-is_among-clause-reads : goal.returns-in_err-is_among-clause-reads
returns-in_err-is_among-clause-reads g c =
    rw (passed_error _ c.in_err-is_among.field-0.0 c.from_residual-in_err-is_among.ensures.1)
    (reads_then g.met.S.Space.keeps_join (reads_then g.met.S.Space.keeps_join c.loop-passed.invariant.reads
    c.in_ok-next.ensures.reads)
    c.in_err-is_among.ensures.reads)

-- the next entry, and whether it is among those that were passed
next_seen : (g : Over) (c : In_ok-is_among g) → (tells : TellsEntryTable (g.S.Space.state c.args.space.now)
    c.args.kind c.args.info)
    → (known : HasCounts (g.S.Space.state c.args.space.now).cells c.args.info)
    → (h : HasFollowedOnce c.args.kind (table_in (g.S.Space.state c.args.space.now).cells c.args.kind c.args.info)
    c.loop-passed.passed c.loop-passed.from)
    → (c.in_ok-next.next ≡ (table_in (g.S.Space.state c.args.space.now).cells c.args.kind c.args.info).link
    c.loop-passed.from)
    × (IsTrue c.in_ok-is_among.field-0 ↔ Contains h.followed.front c.in_ok-next.next)
next_seen g c tells known h =
    let old = g.S.Space.state c.args.space.now in
    let before = c.loop-passed.invariant.reads in
    let both = reads_then g.met.S.Space.keeps_join before c.in_ok-next.ensures.reads in
    let below = followed_below h.followed (some_counted old c.args.kind c.args.info tells known) in (
      link_stays old (g.S.Space.state c.loop-passed.space) before.stays c.args.kind c.args.info c.requires tells known
          c.loop-passed.from c.in_ok-next.next c.link_offset.result c.link_offset.ensures below
          c.in_ok-next.ensures.word,
      among_stays old (g.S.Space.state c.entry_word.new.space) both.stays c.args.kind c.args.info c.requires tells known
          h.followed.front c.loop-passed.from (IsTrue c.in_ok-is_among.field-0 ↔ Contains h.followed.front
          c.in_ok-next.next)
          h.followed.begins (λ tells_too known_too begins. c.in_ok-is_among.ensures.among tells_too known_too
          h.followed.front
          c.loop-passed.from begins h.followed.many),
    )

pub returns-then-branch-clause-wrong : goal.returns-then-branch-clause-wrong
returns-then-branch-clause-wrong g c = λ tells known counted front last is_front many.
    let h = c.loop-passed.invariant.followed tells known front last is_front many in
    let seen = next_seen g (goal.at.returns-then-branch-clause-wrong g c).In_ok-is_among tells known h in
    named_before h (subst (λ (n : ℕ). Contains h.followed.front n) seen.0 (seen.1.0 c.if-branch.true))

pub returns-then-branch-clause-reads : goal.returns-then-branch-clause-reads
returns-then-branch-clause-reads g c =
    reads_then g.met.S.Space.keeps_join (reads_then g.met.S.Space.keeps_join c.loop-passed.invariant.reads
    c.in_ok-next.ensures.reads)
    c.in_ok-is_among.ensures.reads

pub loop-passed-preserved : goal.loop-passed-preserved
loop-passed-preserved g c = record {
  reads = reads_then g.met.S.Space.keeps_join (reads_then g.met.S.Space.keeps_join c.loop-passed.invariant.reads
      c.in_ok-next.ensures.reads)
      c.in_ok-is_among.ensures.reads;
  followed = λ tells known front last is_front many.
      (let h = c.loop-passed.invariant.followed tells known front last is_front many in
      let seen = next_seen g (goal.at.loop-passed-preserved g c).In_ok-is_among tells known h in
      HasFollowedOnce-more h c.in_ok-next.next last front is_front (omega (arith, many, c.loop-passed-test.true)) seen.0
      (λ within. false≢true (sym c.if-branch.false ∙ seen.1.1 within)));
}

pub returns-clause-wrong : goal.returns-clause-wrong
returns-clause-wrong g c = λ tells known counted front last is_front many.
    let h = c.loop-passed.invariant.followed tells known front last is_front many in
    absurd (not_once h.followed (omega (arith, counted, c.loop-passed-test.false))
    (some_counted (g.S.Space.state c.args.space.now) c.args.kind c.args.info tells known) h.once)

pub returns-in_err-next-clause-blamed : goal.returns-in_err-next-clause-blamed
returns-in_err-next-clause-blamed g c = λ tells known front last is_front many.
    let old = g.S.Space.state c.args.space.now in
    let kind = c.args.kind in
    let before = c.loop-passed.invariant in
    let h = before.followed tells known front last is_front many in
    let below = followed_below h.followed (some_counted old kind c.args.info tells known) in
    let bad = c.in_err-next.field-0.0 in
    rw (passed_error _ bad c.from_residual.ensures.1)
    (entry_blamed old (g.S.Space.state c.loop-passed.space) before.reads.stays kind c.args.info c.requires tells known
    c.loop-passed.from (link_offset kind) 4 bad (omega (arith, link_last kind)) below
    (rw c.link_offset.ensures at c.in_err-next.ensures.damaged))

pub returns-in_err-is_among-clause-blamed : goal.returns-in_err-is_among-clause-blamed
returns-in_err-is_among-clause-blamed g c = λ tells known front last is_front many.
    let old = g.S.Space.state c.args.space.now in
    let mid = g.S.Space.state c.entry_word.new.space in
    let kind = c.args.kind in
    let info = c.args.info in
    let h = c.loop-passed.invariant.followed tells known front last is_front many in
    let both = reads_then g.met.S.Space.keeps_join c.loop-passed.invariant.reads c.in_ok-next.ensures.reads in
    let bad = c.in_err-is_among.field-0.0 in
    rw (passed_error _ bad c.from_residual-in_err-is_among.ensures.1)
    (blamed_before old mid both.stays kind info c.requires tells known bad
    (among_stays old mid both.stays kind info c.requires tells known h.followed.front c.loop-passed.from
    (IfDamaged (Some bad) (BlamesTable kind info mid.cells)) h.followed.begins
    (λ tells_too known_too begins. c.in_err-is_among.ensures.blamed tells_too known_too h.followed.front
    c.loop-passed.from begins h.followed.many)))
