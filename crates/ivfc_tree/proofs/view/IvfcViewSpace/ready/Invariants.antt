use Rattle.std.proofs.Common.{ℕ, ◌+◌, ◌-◌, ◌<◌, ◌≤◌, None, IsTrue}
use Rattle.save_bytes.specs.Cells.{IsUnspoilt}
use Rattle.save_bytes.specs.Reads.{Reads}
use Rattle.ivfc_tree.specs.Held.{shown, HashKeeps, hash_lands}
use Rattle.ivfc_tree.proofs.view.IvfcViewSpace.ready.Given as goal

abbrev pub invariant-loop-done : goal.invariant-loop-done
invariant-loop-done g l = record {
  within : l.done ≤ l.n;
  unspoilt : IsTrue (shown g.S.Space.state l.initial.self).told
      → (k : ℕ) → k < l.done → IsUnspoilt ((shown g.S.Space.state l.initial.self).cells (l.at + k));
  reads : Reads (shown g.S.Space.state) (HashKeeps g.S.Space.keeps) (hash_lands g.S.Space.lands) l.initial.self
      l.self None;
}

abbrev pub decreases-loop-done : goal.decreases-loop-done
decreases-loop-done g l = l.n - l.done
