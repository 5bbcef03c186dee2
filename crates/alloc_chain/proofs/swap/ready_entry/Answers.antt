use Rattle.std.proofs.Common.{arith}
use Rattle.std.specs.Result.{result_err}
use Rattle.save_bytes.proofs.SpaceLemmas.{IfDamaged-map}
use Rattle.alloc_chain.proofs.SwapLemmas.{spoilt_entry}
use Rattle.alloc_chain.proofs.swap.ready_entry.Goals as goal

pub returns-clause-damaged : goal.returns-clause-damaged
returns-clause-damaged g c = λ told.
    IfDamaged-map (result_err c.ready.result)
    (spoilt_entry (g.S.Space.state c.args.base.now).cells c.args.info c.args.entry _ c.requires.inside (omega (
      arith,
      c.from.ensures,
    )))
    (c.ready.ensures.ready.damaged told)
