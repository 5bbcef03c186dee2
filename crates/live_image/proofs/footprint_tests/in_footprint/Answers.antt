use Rattle.std.proofs.Common.{◌≡◌, ⊎_elim, refl, subst, arith}
use Rattle.std.proofs.lemmas.Bool.{false≢true, both_ways, cases_eq}
use Rattle.live_image.specs.Footprint.{MayWrite, write_footprint}
use Rattle.live_image.proofs.WriteLemmas.{in_sector}
use Rattle.live_image.proofs.MayWriteLemmas.{each, sector_is}
use Rattle.live_image.proofs.footprint_tests.in_footprint.Goals as goal

pub returns-then-may_write_there : goal.returns-then-may_write_there
returns-then-may_write_there c =
    let blocks = each c.args.touched.0 c.args.touched.1 in
    let there = c.may_write_there.ensures.0 c.if-may_write_there.true in (
      λ some. subst (write_footprint c.args.grain c.args.image.now (each c.args.touched.0 c.args.touched.1)) there.0
          (in_sector c.args.grain c.args.image.now
          (each c.args.touched.0 c.args.touched.1) c.loop-place.place c.requires.grain (omega arith) there.1),
      λ has. refl,
    )

pub loop-place-preserved : goal.loop-place-preserved
loop-place-preserved c = λ k less here may.
    ⊎_elim
    (λ (same : k ≡ c.loop-place.place).
    both_ways c.may_write_there.result c.if-may_write_there.false
    (c.may_write_there.ensures.1 (
      rw same at here,
      subst (MayWrite c.args.image.now (each c.args.touched.0 c.args.touched.1)) same may,
    )))
    (λ (other : k ≡ c.loop-place.place → ⊥). c.loop-place.invariant k (omega (arith, less, other)) here may)
    (cases_eq k c.loop-place.place)

pub returns : goal.returns
returns c = (
  λ no. absurd (false≢true no),
  λ has.
      absurd (c.loop-place.invariant has.place (omega (arith, has.inside, c.loop-place-test.false))
      (sector_is c.args.grain c.args.sector has.place has.begins has.ends) has.may),
)
