use Rattle.std.proofs.Common.{◌≡◌, ◌-◌, ◌≤◌}
use Rattle.ivfc_tree.specs.Levels.{HasBlock}
use Rattle.ivfc_tree.specs.Paths.{block_above}
use Rattle.ivfc_tree.proofs.prepare.block_above.Given as goal

abbrev pub invariant-loop-upper : goal.invariant-loop-upper
invariant-loop-upper l = record {
  low : l.level ≤ l.upper;
  high : l.upper ≤ 4;
  is : l.above ≡ block_above l.difi 4 l.block l.upper;
  there : HasBlock l.difi l.upper l.above;
}

abbrev pub decreases-loop-upper : goal.decreases-loop-upper
decreases-loop-upper l = l.upper - l.level
