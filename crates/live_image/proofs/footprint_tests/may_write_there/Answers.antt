use Rattle.live_image.proofs.footprint_tests.may_write_there.Goals as goal

pub returns-then-place-grain : goal.returns-then-place-grain
returns-then-place-grain c = (
  λ h. (c.if-place-grain.true, c.may_write.ensures.0 h),
  λ both. c.may_write.ensures.1 both.1,
)
