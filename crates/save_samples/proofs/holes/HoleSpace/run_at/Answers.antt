use Rattle.std.proofs.Common.{sym, ◌∙◌}
use Rattle.save_samples.proofs.HoleLemmas.{run_is}
use Rattle.save_samples.proofs.holes.HoleSpace.run_at.Goals as goal

pub returns-in-Filled-clause-run : goal.returns-in-Filled-clause-run
returns-in-Filled-clause-run c =
    let bounds = c.bounds-start in
    rw c.min.ensures (run_is c.args.self.now c.args.at c.args.most bounds.result.0 bounds.result.1 c.requires.inside
    c.requires.some
    (sym c.hole_at-hole.ensures.hole ∙ c.in-Filled.is) bounds.ensures.start bounds.ensures.len)
