use Rattle.std.proofs.Common.{refl}
use Rattle.page_image.proofs.StateLemmas.{headed}
use Rattle.page_image.proofs.state.ImageState.set_header.Goals as goal

pub returns : goal.returns
returns c = headed c.args.self.now c.unmark_first.new.self _ c.unmark_first.ensures refl refl refl refl refl refl
    c.args.header.now refl
