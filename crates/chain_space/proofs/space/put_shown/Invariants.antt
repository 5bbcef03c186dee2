use Rattle.std.proofs.Common.{◌-◌, ◌≤◌, None, length, take}
use Rattle.save_bytes.specs.Answers.{IsReady}
use Rattle.save_bytes.specs.Puts.{Puts}
use Rattle.save_bytes.specs.Spots.{MovesOnly}
use Rattle.chain_space.specs.Shown.{ShownLands}
use Rattle.chain_space.specs.ShownLaws.{with_blocks}
use Rattle.chain_space.proofs.space.put_shown.Given as goal

abbrev pub invariant-loop-done : goal.invariant-loop-done
invariant-loop-done g l =
    let was = with_blocks l.shown (g.S.Space.state l.fn.base) in
    record {
      within : l.done ≤ length l.bytes;
      ready : IsReady was l.at (length l.bytes) None;
      puts : Puts was l.at (take l.done l.bytes) (with_blocks l.shown (g.S.Space.state l.base)) None;
      moves : MovesOnly g.S.Space.keeps (ShownLands g.S.Space.state g.S.Space.lands l.shown.info l.shown.first) was
          l.fn.base l.at
          l.done l.base None;
    }

abbrev pub decreases-loop-done : goal.decreases-loop-done
decreases-loop-done g l = length l.initial.bytes - l.done
