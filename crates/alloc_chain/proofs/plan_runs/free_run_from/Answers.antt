use Rattle.std.proofs.Common.{Some}
use Rattle.chain_nodes.proofs.FaultLemmas.{FaultsOnly-map}
use Rattle.alloc_chain.proofs.plan_runs.free_run_from.Goals as goal

pub returns-in-Err-clause-faults : goal.returns-in-Err-clause-faults
returns-in-Err-clause-faults g c =
    FaultsOnly-map (g.S.Space.state c.args.base.now) c.args.info (Some c.in-Err.fault) (λ told e broken _. broken)
    (λ told e fails. fails) c.in-Err.ensures.faults
