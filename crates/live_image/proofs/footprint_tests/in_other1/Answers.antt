use Rattle.std.proofs.Common.{◌-◌}
use Rattle.live_image.proofs.FootprintTestLemmas.{in_copy_at}
use Rattle.live_image.proofs.footprint_tests.in_other1.Goals as goal

pub returns : goal.returns
returns c =
    in_copy_at c.args.partition.now.at
    (1 - c.args.difi.now.selector) c.args.place c.copy_start-start.result c.args.difi.now.dpfs1
    c.lies_from.result c.copy_start-start.ensures c.lies_from.ensures
