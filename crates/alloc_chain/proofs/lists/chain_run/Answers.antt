use Rattle.std.proofs.Common.{◌<◌, ℕ, List, length, Some, Err, sym, subst}
use Rattle.chain_nodes.specs.declared.node.Lead.TheVariants.{Opens}
use Rattle.chain_nodes.specs.Table.{table_in}
use Rattle.chain_nodes.specs.Runs.{IsRunIn}
use Rattle.chain_nodes.proofs.FaultLemmas.{FaultsOnly-map}
use Rattle.chain_nodes.proofs.ExactLemmas.{same_list, run_in, list_done}
use Rattle.alloc_chain.proofs.lists.chain_run.Goals as goal

pub returns-in-Ok-Some-clause-exact : goal.returns-in-Ok-Some-clause-exact
returns-in-Ok-Some-clause-exact g c = λ told list chain less.
    let info = c.args.info in
    run_in (table_in (g.S.Space.state c.args.base.now).cells info) info.count c.requires.few Opens c.args.first list
    chain.linked
    c.args.pos c.in-Ok-Some.run' (rw c.in-Ok-Some.field-0-is at (c.in-Ok-Some.ensures.run told))

pub returns-in-Ok-None-clause-exact : goal.returns-in-Ok-None-clause-exact
returns-in-Ok-None-clause-exact g c = λ told list chain less.
    let info = c.args.info in
    let table = table_in (g.S.Space.state c.args.base.now).cells info in
    let none = rw c.in-Ok-None.field-0-is at (c.in-Ok-None.ensures.run told) in
    none (λ other linked. subst (λ (l : List ℕ). c.args.pos < length l)
    (sym (same_list table info.count c.requires.few Opens c.args.first list chain.linked other linked)) less)

pub returns-in-Err-clause-exact : goal.returns-in-Err-clause-exact
returns-in-Err-clause-exact g c = λ told list chain less.
    list_done (IsRunIn list c.args.pos) (g.S.Space.state c.args.base.now) c.args.info Opens c.args.first list
    (Err c.in-Err.fault) c.requires.few told chain.linked chain.once c.in-Err.ensures.faults tt

pub returns-in-Err-clause-faults : goal.returns-in-Err-clause-faults
returns-in-Err-clause-faults g c =
    FaultsOnly-map (g.S.Space.state c.args.base.now) c.args.info (Some c.in-Err.fault) (λ told e broken _ _. broken)
    (λ told e fails. fails) c.in-Err.ensures.faults
