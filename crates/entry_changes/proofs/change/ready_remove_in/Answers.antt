use Rattle.entry_changes.proofs.TakenLemmas.{ready_planned}
use Rattle.entry_changes.proofs.change.ready_remove_in.Goals as goal

pub returns-clause-ready : goal.returns-clause-ready
returns-clause-ready g c = λ can may.
    ready_planned (g.S.Space.state c.args.space.now) c.args.dirs c.args.files c.args.kind c.args.entry
    c.in_ok-removal.field-0 (c.in_ok-removal.ensures.plan can may)
