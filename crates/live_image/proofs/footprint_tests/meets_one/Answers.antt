use Rattle.std.proofs.Common.{◌≡◌, ⊎_elim, refl, arith}
use Rattle.std.proofs.lemmas.Bool.{cases_eq, both_ways, false≢true}
use Rattle.live_image.proofs.FootprintTestLemmas.{met_from, met_to, level_bound, log_bound}
use Rattle.live_image.proofs.footprint_tests.meets_one.Goals as goal

pub meets-requires-clause-fits : goal.meets-requires-clause-fits
meets-requires-clause-fits c =
    let bound = level_bound c.args.difi.now c.requires.levels c.requires.sizes c.requires.small c.loop-level.level
    (c.loop-level.auto.level, omega arith) in
    rw c.level_place-place.ensures (omega (arith, bound))

pub meets-requires-clause-logs : goal.meets-requires-clause-logs
meets-requires-clause-logs c =
    let bound = log_bound c.args.difi.now c.requires.levels c.requires.sizes c.requires.small c.loop-level.level
    (c.loop-level.auto.level, omega arith) in
    rw c.level_place-place.ensures (bound, c.requires.sizes.dpfs3.1)

pub returns-then-meets : goal.returns-then-meets
returns-then-meets c =
    let there = rw (c.level_place-place.ensures, c.above.ensures) at (c.meets.ensures.0 c.if-meets.true) in (
      λ yes. met_from c.args.difi.now c.args.touched c.args.block c.loop-level.level
          (c.loop-level.auto.level, omega arith)
          c.requires.touched there,
      λ met. refl,
    )

pub loop-level-preserved : goal.loop-level-preserved
loop-level-preserved c = λ k in_tree less there.
    ⊎_elim
    (λ (same : k ≡ c.loop-level.level).
    both_ways c.meets.result c.if-meets.false
    (c.meets.ensures.1 (rw (c.level_place-place.ensures, c.above.ensures) (rw same at there))))
    (λ (other : k ≡ c.loop-level.level → ⊥). c.loop-level.invariant k in_tree (omega (arith, less, other)) there)
    (cases_eq k c.loop-level.level)

pub returns : goal.returns
returns c = (
  λ no. absurd (false≢true no),
  λ met.
      let there = met_to c.args.difi.now c.args.touched c.args.block met in
      absurd (c.loop-level.invariant there.0 there.1.0 (omega (arith, there.1.0.1, c.loop-level-test.false)) there.1.1),
)
