use Rattle.std.proofs.Common.{◌-◌, ◌≤◌, None, IsTrue}
use Rattle.save_bytes.specs.CellNumbers.{bytes_in}
use Rattle.save_bytes.specs.Reads.{Reads}
use Rattle.ivfc_tree.specs.Hashing.{Takes}
use Rattle.ivfc_tree.proofs.hashing.hash_range.Given as goal

abbrev pub invariant-loop-done : goal.invariant-loop-done
invariant-loop-done g l = record {
  within : l.done ≤ l.len;
  hashed : IsTrue (g.S.Space.state l.initial.base).told
      → Takes l.initial.hasher l.hasher (bytes_in (g.S.Space.state l.initial.base).cells l.at l.done);
  reads : Reads g.S.Space.state g.S.Space.keeps g.S.Space.lands l.initial.base l.base None;
}

abbrev pub decreases-loop-done : goal.decreases-loop-done
decreases-loop-done g l = l.len - l.done
