use Rattle.std.proofs.Common.{arith}
use Rattle.page_image.proofs.FrameLemmas.{frame_fits, mark_fits}
use Rattle.page_image.proofs.state.ImageState.mark_at.Goals as goal

pub overflow_mul-result : goal.overflow_mul-result
overflow_mul-result c = let f = frame_fits c.args.self.now c.args.at _ c.requires.there c.frame_of.ensures in
    omega arith

pub overflow_add-result : goal.overflow_add-result
overflow_add-result c = let f = frame_fits c.args.self.now c.args.at _ c.requires.there c.frame_of.ensures in
    omega arith

pub returns-clause-fits : goal.returns-clause-fits
returns-clause-fits c = mark_fits c.args.self.now c.args.at _ c.requires.there c.frame_of.ensures
