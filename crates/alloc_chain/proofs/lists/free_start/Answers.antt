use Rattle.std.proofs.Common.{Err}
use Rattle.chain_nodes.specs.declared.node.Lead.TheVariants.{OpensFree}
use Rattle.chain_nodes.specs.Table.{table_in}
use Rattle.chain_nodes.specs.Chains.{IsLinkedBy}
use Rattle.chain_nodes.proofs.ExactLemmas.{done_unless_disk, no_free_break, no_free_need}
use Rattle.alloc_chain.proofs.lists.free_start.Goals as goal

pub returns-in-Err-clause-exact : goal.returns-in-Err-clause-exact
returns-in-Err-clause-exact g c = λ told list free.
    let s = g.S.Space.state c.args.base.now in
    let table = table_in s.cells c.args.info in
    done_unless_disk s c.args.info told (λ cursor. IsLinkedBy table c.args.info.count OpensFree cursor.first list)
    (Err c.in-Err.fault) (no_free_break table c.args.info.count list c.requires.few free.linked free.once)
    (no_free_need table c.args.info.count list c.requires.few free.read free.linked)
    c.in-Err.ensures.faults tt
