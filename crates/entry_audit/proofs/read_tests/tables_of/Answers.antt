use Rattle.std.proofs.Common.{◌≤◌, length, refl, ap, lit≤, arith}
use Rattle.entry_tables.specs.declared.table.EntryKind.TheVariants.{Dir, File}
use Rattle.entry_audit.proofs.read_tests.tables_of.Goals as goal

pub read_tables-requires-clause-tables : goal.read_tables-requires-clause-tables
read_tables-requires-clause-tables c Dir =
    let same = ap length c.new-space.ensures.memory.bytes_now in
    let buckets_end : 172 ≤ length c.new-space.result.bytes.now = omega (arith, same, c.requires.bytes) in
    let zero_end : 1064 ≤ length c.new-space.result.bytes.now = omega (arith, same, c.requires.bytes) in
    record { sound = c.new-space.ensures.sound; first = refl; some = lit≤ tt; buckets = buckets_end; zero = zero_end }
read_tables-requires-clause-tables c File =
    let same = ap length c.new-space.ensures.memory.bytes_now in
    let buckets_end : 208 ≤ length c.new-space.result.bytes.now = omega (arith, same, c.requires.bytes) in
    let zero_end : 1584 ≤ length c.new-space.result.bytes.now = omega (arith, same, c.requires.bytes) in
    record { sound = c.new-space.ensures.sound; first = refl; some = lit≤ tt; buckets = buckets_end; zero = zero_end }
