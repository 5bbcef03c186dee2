use Rattle.std.proofs.Common.{◌≤◌, length, refl, ap, lit≤, arith}
use Rattle.tree_paths.proofs.tests.children.Goals as goal

pub has_children-requires : goal.has_children-requires
has_children-requires c =
    let same = ap length c.new-space.ensures.holes.bytes_now in
    let buckets_end : 4 ≤ length c.new-space.result.bytes.now = omega (arith, same) in
    let zero_end : 104 ≤ length c.new-space.result.bytes.now = omega (arith, same) in
    record { sound = c.new-space.ensures.sound; first = refl; some = lit≤ tt; buckets = buckets_end; zero = zero_end }
