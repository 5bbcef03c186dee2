use Rattle.std.proofs.Common.{◌-◌, ◌≤◌, IsTrue, None}
use Rattle.save_bytes.specs.Writes.{IsWithin, Writes}
use Rattle.dpfs_tree.specs.Copies.{IsCopied}
use Rattle.dpfs_tree.proofs.copy.copy_range.Given as goal

abbrev pub invariant-loop-done : goal.invariant-loop-done
invariant-loop-done g l = record {
  within : l.done ≤ l.n;
  copied : IsTrue (g.S.Space.state l.fn.base).told
      → IsCopied (g.S.Space.state l.fn.base).cells l.from l.to l.done (g.S.Space.state l.base).cells;
  writes : Writes g.S.Space.state g.S.Space.keeps g.S.Space.lands (IsWithin l.to l.n) l.fn.base l.base None;
}

abbrev pub decreases-loop-done : goal.decreases-loop-done
decreases-loop-done g l = l.n - l.done
