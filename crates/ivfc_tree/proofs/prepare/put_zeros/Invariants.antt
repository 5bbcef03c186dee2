use Rattle.std.proofs.Common.{◌≡◌, ℕ, ◌+◌, ◌-◌, ◌<◌, ◌≤◌, IsTrue, None}
use Rattle.save_bytes.specs.Cells.{Byte}
use Rattle.save_bytes.specs.Writes.{IsWithin, Writes}
use Rattle.ivfc_tree.proofs.prepare.put_zeros.Given as goal

abbrev pub invariant-loop-done : goal.invariant-loop-done
invariant-loop-done g l = record {
  within : l.done ≤ l.n;
  zeros : IsTrue (g.S.Space.state l.fn.base).told → (k : ℕ) → k < l.done → (g.S.Space.state l.base).cells (l.at + k) ≡
      Byte 0;
  writes : Writes g.S.Space.state g.S.Space.keeps g.S.Space.lands (IsWithin l.at l.n) l.fn.base l.base None;
}

abbrev pub decreases-loop-done : goal.decreases-loop-done
decreases-loop-done g l = l.n - l.done
