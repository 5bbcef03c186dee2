use Rattle.std.proofs.Common.{◌≤◌, length, refl, ap, lit≤, arith}
use Rattle.entry_tables.specs.declared.table.EntryKind.TheVariants.{Dir, File}
use Rattle.name_buckets.proofs.add_tests.found_in.Goals as goal

pub new-entries-requires : goal.new-entries-requires
new-entries-requires c Dir =
    let same = ap length c.new-space.ensures.memory.bytes_now in
    let buckets_end : 172 ≤ length c.new-space.result.bytes.now = omega (arith, same, c.requires) in
    let zero_end : 1064 ≤ length c.new-space.result.bytes.now = omega (arith, same, c.requires) in
    record { sound = c.new-space.ensures.sound; first = refl; some = lit≤ tt; buckets = buckets_end; zero = zero_end }
new-entries-requires c File =
    let same = ap length c.new-space.ensures.memory.bytes_now in
    let buckets_end : 208 ≤ length c.new-space.result.bytes.now = omega (arith, same, c.requires) in
    let zero_end : 1584 ≤ length c.new-space.result.bytes.now = omega (arith, same, c.requires) in
    record { sound = c.new-space.ensures.sound; first = refl; some = lit≤ tt; buckets = buckets_end; zero = zero_end }
