use Rattle.std.proofs.Common.{rules}
use Rattle.save_bytes.specs.Spots.{Frame}
use Rattle.save_disk.specs.MemDesks.{state_of}
use Rattle.page_image.proofs.DiskLemmas.{kept_disk}
use Rattle.page_image.proofs.tests.write_header.Goals as goal

pub returns : goal.returns
returns c =
    let kept = (c.write_header.ensures.leaves Frame (λ k below lands. lands) tt).0 in
    kept_disk (state_of c.args.desk.now) _ c.args.state.now _ (search rules) c.requires
