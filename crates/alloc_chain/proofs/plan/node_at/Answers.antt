use Rattle.std.proofs.Common.{arith}
use Rattle.save_bytes.proofs.CallLemmas.{reads_then}
use Rattle.alloc_chain.specs.Plans.{IsFirstOf, IsNodeAt}
use Rattle.alloc_chain.proofs.PlanLemmas.{done_other, nodes_later, start_at}
use Rattle.alloc_chain.proofs.plan.node_at.Goals as goal

pub returns-in-Err-clause-exact : goal.returns-in-Err-clause-exact
returns-in-Err-clause-exact g c = λ told nodes linked starts few.
    done_other (IsFirstOf nodes) (IsNodeAt nodes c.args.passed) c.in-Err.fault
    (c.in-Err.ensures.exact told nodes linked starts)

pub returns-in-Ok-clause-exact : goal.returns-in-Ok-clause-exact
returns-in-Ok-clause-exact g c = λ told nodes linked starts few.
    let read = c.in-Ok.ensures in
    let stays = read.reads.stays in
    let later = nodes_later (g.S.Space.state c.args.base.now) (g.S.Space.state c.read_at.new.base) c.args.info
    c.requires.table stays told c.args.lead nodes linked in
    c.walk_on.ensures.exact (stays.space.told told) c.args.lead nodes c.args.passed later
    (omega (arith, few, c.requires.passed))
    (start_at nodes c.args.passed c.in-Ok.start (read.exact told nodes linked starts) read.counted)

pub returns-in-Ok-clause-reads : goal.returns-in-Ok-clause-reads
returns-in-Ok-clause-reads g c = reads_then g.met.S.Space.keeps_join c.in-Ok.ensures.reads c.walk_on.ensures.reads
