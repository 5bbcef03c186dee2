use Rattle.std.proofs.Common.{refl, ◌∙◌}
use Rattle.live_image.proofs.TestLemmas.{first_bytes-front, header_if_ok}
use Rattle.live_image.proofs.live_tests.header_of.Goals as goal

pub returns-clause-header : goal.returns-clause-header
returns-clause-header c =
    let image = c.args.image.now in
    header_if_ok image c.read.result
    (c.read.ensures.exact image refl (c.copy_from_slice.ensures.after ∙ first_bytes-front image c.requires))
