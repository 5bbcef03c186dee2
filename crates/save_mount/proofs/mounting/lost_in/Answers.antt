use Rattle.std.proofs.Common.{◌≡◌, ℕ, ◌+◌, sym, ◌∙◌, subst, arith}
use Rattle.save_mount.specs.Counts.{IsCountOf}
use Rattle.save_mount.proofs.LostLemmas.{IsOutBelow, out_none, out_more, out_skip, out_all}
use Rattle.save_mount.proofs.mounting.lost_in.Goals as goal
use Rattle.save_mount.proofs.mounting.lost_in.Goals.{then-not-has, else-not-has}

pub loop-entry-init : goal.loop-entry-init
loop-entry-init c = record { few = omega arith; lost = out_none c.args.held.now }

pub loop-entry-preserved : goal.loop-entry-preserved
loop-entry-preserved c = elim c.if-not-has.branch [
  | then-not-has w ↦ rw w.lost-is (record {
    few = omega (arith, c.loop-entry.invariant.few);
    lost = out_more c.args.held.now c.loop-entry.entry c.loop-entry.lost c.loop-entry.invariant.lost (omega arith)
        (sym c.has.ensures ∙ w.if-not-has.true);
  })
  | else-not-has w ↦ rw w.lost-is (record {
    few = omega (arith, c.loop-entry.invariant.few);
    lost = out_skip c.args.held.now c.loop-entry.entry c.loop-entry.lost c.loop-entry.invariant.lost
        (sym c.has.ensures ∙ w.if-not-has.false);
  })
]

pub returns-clause-lost : goal.returns-clause-lost
returns-clause-lost c =
    let end : c.loop-entry.entry ≡ c.args.count + 1 = omega arith in
    out_all c.args.held.now c.args.count c.loop-entry.lost
    (subst (λ (n : ℕ). IsCountOf (IsOutBelow c.args.held.now n) c.loop-entry.lost) end c.loop-entry.invariant.lost)
