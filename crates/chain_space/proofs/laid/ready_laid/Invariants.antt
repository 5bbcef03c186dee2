use Rattle.std.proofs.Common.{◌-◌, ◌≤◌, None}
use Rattle.save_bytes.specs.Answers.{IsReady}
use Rattle.save_bytes.specs.Reads.{Reads}
use Rattle.chain_space.specs.Laid.{extra_of, laid_state}
use Rattle.chain_space.proofs.laid.ready_laid.Given as goal

abbrev pub invariant-loop-done : goal.invariant-loop-done
invariant-loop-done g l = record {
  within : l.done ≤ l.n;
  ready : IsReady (laid_state (extra_of l.region_at l.block l.blocks)
      (g.S.Space.state l.initial.base)) l.at l.done None;
  reads : Reads g.S.Space.state g.S.Space.keeps g.S.Space.lands l.initial.base l.base None;
}

abbrev pub decreases-loop-done : goal.decreases-loop-done
decreases-loop-done g l = l.n - l.done
