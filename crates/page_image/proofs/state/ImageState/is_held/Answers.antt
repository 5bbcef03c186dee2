use Rattle.std.proofs.Common.{Some, None, sym, ◌∙◌, arith}
use Rattle.page_image.proofs.FrameLemmas.{held_as, unheld_past}
use Rattle.page_image.proofs.state.ImageState.is_held.Goals as goal

pub returns-then-len-frame : goal.returns-then-len-frame
returns-then-len-frame c = unheld_past c.args.self.now c.args.page _ c.frame_of-frame.ensures (omega arith)

pub returns-in-Some : goal.returns-in-Some
returns-in-Some c =
    held_as c.args.self.now c.args.page c.frame_of-frame.result (Some c.in-Some.held) c.frame_of-frame.ensures
    (sym c.in-Some.is ∙ c.page_in.ensures)

pub returns-in-None : goal.returns-in-None
returns-in-None c =
    held_as c.args.self.now c.args.page c.frame_of-frame.result None c.frame_of-frame.ensures
    (sym c.in-None.is ∙ c.page_in.ensures)
