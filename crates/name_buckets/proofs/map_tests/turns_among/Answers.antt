use Rattle.std.proofs.Common.{◌≤◌, ◌+◌, ◌*◌, length, refl, ap, lit≤, arith}
use Rattle.entry_tables.specs.declared.table.EntryKind.TheVariants.{Dir, File}
use Rattle.name_buckets.proofs.map_tests.turns_among.Goals as goal

pub new-entries-requires : goal.new-entries-requires
new-entries-requires c Dir =
    let same = ap length c.new-space.ensures.memory.bytes_now in
    let buckets_end : 4 ≤ length c.new-space.result.bytes.now = omega (arith, same) in
    let zero_end : 208 ≤ length c.new-space.result.bytes.now = omega (arith, same) in
    record { sound = c.new-space.ensures.sound; first = refl; some = lit≤ tt; buckets = buckets_end; zero = zero_end }
new-entries-requires c File =
    let same = ap length c.new-space.ensures.memory.bytes_now in
    let buckets = c.args.buckets in
    let buckets_end : 4 + 4 * buckets ≤ length c.new-space.result.bytes.now = omega (arith, same, c.requires.few) in
    let zero_end : 376 ≤ length c.new-space.result.bytes.now = omega (arith, same) in
    record {
      sound = c.new-space.ensures.sound;
      first = refl;
      some = c.requires.some;
      buckets = buckets_end;
      zero = zero_end;
    }
