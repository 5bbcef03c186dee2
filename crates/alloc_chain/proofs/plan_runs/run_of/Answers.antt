use Rattle.std.proofs.Common.{ℕ, [], Option, refl, sym, subst, arith}
use Rattle.std.specs.Result.{result_err}
use Rattle.chain_nodes.proofs.FaultLemmas.{FaultsOnly-map}
use Rattle.alloc_chain.specs.PlanRuns.{PlanFaultsOnly}
use Rattle.alloc_chain.specs.PlanRuns.IsPlanBroken.{InFree}
use Rattle.alloc_chain.specs.PlanRuns.IsPlanNeeded.{ForFree}
use Rattle.alloc_chain.proofs.plan_runs.run_of.Goals as goal

pub returns-in-Some-clause-faults : goal.returns-in-Some-clause-faults
returns-in-Some-clause-faults g c =
    let s = g.S.Space.state c.args.base.now in
    let info = c.args.info in
    subst (λ (old : Option ℕ). PlanFaultsOnly s info old c.args.pos (result_err c.run_from.result))
    (sym c.in-Some.is) c.run_from.ensures.faults

pub returns-in-None-clause-faults : goal.returns-in-None-clause-faults
returns-in-None-clause-faults g c =
    let s = g.S.Space.state c.args.base.now in
    let info = c.args.info in
    subst (λ (old : Option ℕ). PlanFaultsOnly s info old c.args.pos (result_err c.free_run.result))
    (sym c.in-None.is)
    (FaultsOnly-map s info (result_err c.free_run.result)
    (λ told e broken _ has. InFree (broken (λ list linked. omega (arith, has [] list refl linked))))
    (λ told e needed. ForFree needed) c.free_run.ensures.faults)
