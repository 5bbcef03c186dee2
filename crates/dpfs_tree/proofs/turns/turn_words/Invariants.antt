use Rattle.std.proofs.Common.{◌-◌, ◌*◌, ◌≤◌, IsTrue, None}
use Rattle.save_bytes.specs.Writes.{IsWithin, Writes}
use Rattle.dpfs_tree.specs.Turns.{AreTurned}
use Rattle.dpfs_tree.proofs.TurnLemmas.{AreWaiting}
use Rattle.dpfs_tree.proofs.turns.turn_words.Given as goal

abbrev pub invariant-loop-done : goal.invariant-loop-done
invariant-loop-done g l = record {
  within : l.done ≤ l.count;
  turned : IsTrue (g.S.Space.state l.fn.base).told
      → AreTurned (g.T.Turns.flags l.turns) (g.S.Space.state l.fn.base).cells l.at l.at
      l.first l.done (g.S.Space.state l.base).cells;
  waiting : IsTrue (g.S.Space.state l.fn.base).told
      → AreWaiting (g.S.Space.state l.fn.base).cells l.at l.done l.count (g.S.Space.state l.base).cells;
  writes : Writes g.S.Space.state g.S.Space.keeps g.S.Space.lands (IsWithin l.at (4 * l.count)) l.fn.base l.base None;
}

abbrev pub decreases-loop-done : goal.decreases-loop-done
decreases-loop-done g l = l.count - l.done
