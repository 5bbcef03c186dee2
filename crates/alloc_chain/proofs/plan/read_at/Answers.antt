use Rattle.std.proofs.Common.{Err}
use Rattle.chain_nodes.specs.Table.{table_in}
use Rattle.chain_nodes.proofs.ExactLemmas.{done_unless_disk, no_fault_in}
use Rattle.alloc_chain.specs.Plans.{IsFirstOf}
use Rattle.alloc_chain.proofs.PlanLemmas.{first_of}
use Rattle.alloc_chain.proofs.plan.read_at.Goals as goal

pub returns-in-Ok-clause-exact : goal.returns-in-Ok-clause-exact
returns-in-Ok-clause-exact g c = λ told nodes linked starts.
    let info = c.args.info in
    let read = c.in-Ok.ensures in
    first_of (table_in (g.S.Space.state c.args.base.now).cells info) info.count c.requires.table.few c.args.lead
    nodes c.args.first
    _ c.requires.entry.some linked starts (read.node told) read.first read.next

pub returns-in-Err-clause-exact : goal.returns-in-Err-clause-exact
returns-in-Err-clause-exact g c = λ told nodes linked starts.
    let s = g.S.Space.state c.args.base.now in
    let info = c.args.info in
    let table = table_in s.cells info in
    let none = no_fault_in table info.count c.requires.table.few c.args.lead nodes c.args.first in
    done_unless_disk s info told (IsFirstOf nodes) (Err c.in-Err.fault)
    (λ entry broken. none entry linked starts c.requires.entry.some broken.1)
    (λ entry part level block faulty _. none entry linked starts c.requires.entry.some faulty)
    c.in-Err.ensures.faults tt
