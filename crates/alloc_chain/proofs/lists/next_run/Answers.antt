use Rattle.std.specs.Result.{result_err}
use Rattle.chain_nodes.specs.Table.{table_in}
use Rattle.chain_nodes.specs.Runs.{IsRunIn}
use Rattle.save_bytes.proofs.CallLemmas.{IfOk-map}
use Rattle.chain_nodes.proofs.FaultLemmas.{FaultsOnly-map}
use Rattle.chain_nodes.proofs.ExactLemmas.{run_in, list_done}
use Rattle.alloc_chain.proofs.lists.next_run.Goals as goal

pub returns-clause-exact : goal.returns-clause-exact
returns-clause-exact g c = λ told place list linked once.
    let s = g.S.Space.state c.args.base.now in
    let info = c.args.info in
    let cursor = c.args.cursor in
    let few = c.requires.table.few in
    list_done (λ step. IsRunIn list cursor.passed step.0) s info cursor.opens cursor.first list c.advance.result few
    told
    linked once
    (FaultsOnly-map s info (result_err c.advance.result) (λ _ e broken. broken place.reached)
    (λ _ e fails. fails place.reached)
    c.advance.ensures.faults)
    (IfOk-map c.advance.result (λ step. run_in (table_in s.cells info) info.count few cursor.opens cursor.first list
    linked
    cursor.passed step.0) (c.advance.ensures.run told place.reached))

pub returns-clause-faults : goal.returns-clause-faults
returns-clause-faults g c =
    FaultsOnly-map (g.S.Space.state c.args.base.now) c.args.info (result_err c.advance.result)
    (λ told e broken place. broken place.reached) (λ told e fails place. fails place.reached) c.advance.ensures.faults
