use Rattle.std.proofs.Common.{◌+◌, ◌*◌, arith}
use Rattle.chain_space.proofs.ShownLemmas.{run_inside}
use Rattle.file_reader.proofs.reading.Reading.with_run.Goals as goal

pub invariant_of-result : goal.invariant_of-result
invariant_of-result c = record {
  inside = rw (c.from.ensures, c.from-2.ensures, c.from-block.ensures)
      (run_inside c.args.self.info.region_at
      (c.args.self.info.region_at + c.args.self.info.count * c.args.self.info.block) c.args.self.info.block
      c.args.self.info.count c.args.run.block c.args.run.len c.requires.inside (omega arith));
}
