use Rattle.std.proofs.Common.{◌≤◌, length, refl, ap, lit≤, arith}
use Rattle.entry_tables.specs.declared.table.EntryKind.TheVariants.{Dir, File}
use Rattle.tree_paths.proofs.tests.standing.Goals as goal

pub find_path-requires : goal.find_path-requires
find_path-requires c Dir =
    let same = ap length c.new-space.ensures.holes.bytes_now in
    let buckets_end : 4 ≤ length c.new-space.result.bytes.now = omega (arith, same) in
    let zero_end : 104 ≤ length c.new-space.result.bytes.now = omega (arith, same) in
    record { sound = c.new-space.ensures.sound; first = refl; some = lit≤ tt; buckets = buckets_end; zero = zero_end }
find_path-requires c File =
    let same = ap length c.new-space.ensures.holes.bytes_now in
    let buckets_end : 8 ≤ length c.new-space.result.bytes.now = omega (arith, same) in
    let zero_end : 560 ≤ length c.new-space.result.bytes.now = omega (arith, same) in
    record { sound = c.new-space.ensures.sound; first = refl; some = lit≤ tt; buckets = buckets_end; zero = zero_end }
