use Rattle.std.proofs.Common.{◌≡◌, ℕ, ◌<◌, ◌≤◌, false}
use Rattle.dpfs_tree.specs.Marks.{is_marked}
use Rattle.dpfs_tree.proofs.state.DpfsState.some_touched.Given as goal

abbrev pub invariant-loop-block : goal.invariant-loop-block
invariant-loop-block l = (k : ℕ) → l.from ≤ k → k < l.block → is_marked l.self.touched.items k ≡ false
