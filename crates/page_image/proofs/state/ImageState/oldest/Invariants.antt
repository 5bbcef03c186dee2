use Rattle.std.proofs.Common.{◌<◌, length}
use Rattle.page_image.proofs.state.ImageState.oldest.Given as goal

abbrev pub invariant-loop-frame : goal.invariant-loop-frame
invariant-loop-frame l = l.oldest < length l.self.uses.items
