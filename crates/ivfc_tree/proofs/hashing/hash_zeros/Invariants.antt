use Rattle.std.proofs.Common.{◌-◌, ◌≤◌, replicate}
use Rattle.ivfc_tree.specs.Hashing.{Takes}
use Rattle.ivfc_tree.proofs.hashing.hash_zeros.Given as goal

abbrev pub invariant-loop-left : goal.invariant-loop-left
invariant-loop-left l = record {
  within : l.left ≤ l.count;
  hashed : Takes l.initial.hasher l.hasher (replicate (l.count - l.left) 0);
}

abbrev pub decreases-loop-left : goal.decreases-loop-left
decreases-loop-left l = l.left
