use Rattle.std.proofs.Common.{◌-◌, ◌≤◌, IsTrue, None}
use Rattle.save_bytes.specs.Writes.{Writes}
use Rattle.ivfc_tree.specs.Known.{is_told}
use Rattle.ivfc_tree.specs.Readies.{HasNoSpoilt, RangeSites, IsInPaths, MarksWithin, ReadiesRange}
use Rattle.ivfc_tree.proofs.put.prepare_range.Given as goal

abbrev pub invariant-loop-done : goal.invariant-loop-done
invariant-loop-done g l = record {
  within : l.done ≤ l.n;
  readied : IsTrue (is_told (g.S.Space.state l.fn.base) l.master l.difi l.fn.state)
      → HasNoSpoilt (g.S.Space.state l.fn.base).cells l.master l.difi l.fn.state l.at l.n
      → ReadiesRange l.master l.difi l.at l.n l.done (g.S.Space.state l.fn.base).cells l.fn.state
      (g.S.Space.state l.base).cells l.state;
  marks : MarksWithin (IsInPaths l.difi l.at l.n) l.fn.state l.state;
  writes : Writes g.S.Space.state g.S.Space.keeps g.S.Space.lands (RangeSites l.difi l.at l.n) l.fn.base l.base None;
}

abbrev pub decreases-loop-done : goal.decreases-loop-done
decreases-loop-done g l = l.n - l.done
