use Rattle.std.proofs.Common.{arith}
use Rattle.page_image.proofs.FrameLemmas.{held_frame}
use Rattle.page_image.proofs.state.ImageState.touch.Goals as goal

pub index_mut-requires : goal.index_mut-requires
index_mut-requires c =
    let below = held_frame c.args.self.now c.args.page c.requires.held in
    let same = c.frame_of-frame.ensures in
    let layout = c.args.self.now.layout in
    omega arith
