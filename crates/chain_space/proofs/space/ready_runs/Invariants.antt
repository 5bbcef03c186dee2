use Rattle.std.proofs.Common.{◌-◌, ◌≤◌, None}
use Rattle.save_bytes.specs.Answers.{IsReady}
use Rattle.save_bytes.specs.Reads.{Reads}
use Rattle.chain_space.specs.Shown.{shown_state}
use Rattle.chain_space.proofs.space.ready_runs.Given as goal

abbrev pub invariant-loop-done : goal.invariant-loop-done
invariant-loop-done g l = record {
  within : l.done ≤ l.n;
  ready : IsReady (shown_state l.shown.info l.shown.first l.shown.blocks
      (g.S.Space.state l.initial.base)) l.at l.done None;
  reads : Reads g.S.Space.state g.S.Space.keeps g.S.Space.lands l.initial.base l.base None;
}

abbrev pub decreases-loop-done : goal.decreases-loop-done
decreases-loop-done g l = l.n - l.done
