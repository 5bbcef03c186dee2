use Rattle.std.proofs.Common.{arith}
use Rattle.page_image.proofs.FrameLemmas.{lent_front, lent_held}
use Rattle.page_image.proofs.state.ImageState.held.Goals as goal

pub returns-then-start-lt512 : goal.returns-then-start-lt512
returns-then-start-lt512 c = λ disk.
    lent_front disk c.args.self.now c.args.at c.args.most c.min.result c.front.result.now c.front.ensures.len
    (omega arith) (omega arith) (omega arith)
    (omega arith) c.front.ensures.bytes

pub returns : goal.returns
returns c = λ disk.
    lent_held disk c.args.self.now c.args.at c.args.most c.min-2.result c.part.result.now c.part.ensures.len
    (omega arith) (omega arith) (omega arith)
    c.byte_at.result c.if-start-lt512.false (omega arith) c.requires.there c.byte_at.ensures.is c.part.ensures.bytes
