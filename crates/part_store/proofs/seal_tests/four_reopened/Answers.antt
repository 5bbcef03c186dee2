use Rattle.std.proofs.Common.{rules}
use Rattle.save_bytes.specs.Memory.{memory_shape}
use Rattle.part_store.proofs.seal_tests.four_reopened.Goals as goal

pub new-view-requires : goal.new-view-requires
new-view-requires c =
    let can = c.settle.ensures.view (memory_shape 110592 512) 300 c.in_ok-part.ensures.view in
    search rules
