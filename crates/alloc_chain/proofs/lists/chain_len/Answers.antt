use Rattle.std.proofs.Common.{◌≡◌, length, ◌∙◌, ap}
use Rattle.std.specs.Result.{result_err}
use Rattle.chain_nodes.specs.declared.node.Lead.TheVariants.{Opens}
use Rattle.chain_nodes.specs.Table.{table_in}
use Rattle.save_bytes.proofs.CallLemmas.{IfOk-map}
use Rattle.chain_nodes.proofs.FaultLemmas.{FaultsOnly-map}
use Rattle.chain_nodes.proofs.ExactLemmas.{same_list, list_done}
use Rattle.alloc_chain.proofs.lists.chain_len.Goals as goal

pub returns-clause-exact : goal.returns-clause-exact
returns-clause-exact g c = λ told list chain.
    let s = g.S.Space.state c.args.base.now in
    let info = c.args.info in
    let same = same_list (table_in s.cells info) info.count c.requires.few Opens c.args.first list chain.linked in
    list_done (λ n. n ≡ length list) s info Opens c.args.first list c.list_len.result c.requires.few told chain.linked
    chain.once c.list_len.ensures.faults
    (IfOk-map c.list_len.result (λ n (other, linked, is). is ∙ ap length (same other linked))
    (c.list_len.ensures.length told))

pub returns-clause-faults : goal.returns-clause-faults
returns-clause-faults g c =
    FaultsOnly-map (g.S.Space.state c.args.base.now) c.args.info (result_err c.list_len.result)
    (λ told e broken _. broken)
    (λ told e fails. fails) c.list_len.ensures.faults
