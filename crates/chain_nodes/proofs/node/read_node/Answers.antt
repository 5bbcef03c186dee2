use Rattle.std.proofs.Common.{Some, None}
use Rattle.save_bytes.proofs.CallLemmas.{reads_then}
use Rattle.save_bytes.specs.Reads.{Reads}
use Rattle.chain_nodes.proofs.NodeLemmas.{second_faults, last_faults, whole_node}
use Rattle.chain_nodes.proofs.node.read_node.Given.{Over}
use Rattle.chain_nodes.proofs.node.read_node.Goals.{In-Ok-read_second}
use Rattle.chain_nodes.proofs.node.read_node.Goals as goal

-- the calls on the first entry and on the second
both : (g : Over) (c : In-Ok-read_second g)
    → Reads g.S.Space.state g.S.Space.keeps g.S.Space.lands c.args.base.now c.read_second.new.base None
both g c =
    reads_then g.met.S.Space.keeps_join c.in-Ok.ensures.reads c.in-Ok-read_second.ensures.reads

pub returns-in-Err-read_second-clause-faults : goal.returns-in-Err-read_second-clause-faults
returns-in-Err-read_second-clause-faults g c =
    second_faults (g.S.Space.state c.args.base.now) (g.S.Space.state c.read_head.new.base) c.args.info c.args.lead
    c.args.first c.in-Ok.v c.requires.table c.in-Ok.ensures.reads.stays c.if-v-lt-FLAG.false c.in-Ok.ensures.head
    (Some c.in-Err-read_second.fault) c.in-Err-read_second.ensures.faults

pub returns-in-Ok-read_last-clause-node : goal.returns-in-Ok-read_last-clause-node
returns-in-Ok-read_last-clause-node g c = λ told.
    whole_node (g.S.Space.state c.args.base.now) (g.S.Space.state c.read_head.new.base) c.args.info c.args.lead
    c.args.first c.in-Ok.v c.requires.table c.in-Ok.ensures.reads.stays c.if-v-lt-FLAG.false c.in-Ok.ensures.head
    (g.S.Space.state c.read_second.new.base)
    (both g (goal.at.returns-in-Ok-read_last-clause-node g c).In-Ok-read_second).stays
    c.in-Ok-read_second.last c.in-Ok-read_second.ensures.second told c.requires.entry.some
    (c.in-Ok.ensures.flag c.if-v-lt-FLAG.false) c.in-Ok-read_last.ensures.last

pub returns-in-Ok-read_last-clause-reads : goal.returns-in-Ok-read_last-clause-reads
returns-in-Ok-read_last-clause-reads g c =
    reads_then g.met.S.Space.keeps_join (both g (goal.at.returns-in-Ok-read_last-clause-reads g c).In-Ok-read_second)
    c.in-Ok-read_last.ensures.reads

pub returns-in-Err-read_last-clause-faults : goal.returns-in-Err-read_last-clause-faults
returns-in-Err-read_last-clause-faults g c =
    last_faults (g.S.Space.state c.args.base.now) (g.S.Space.state c.read_head.new.base) c.args.info c.args.lead
    c.args.first c.in-Ok.v c.requires.table c.in-Ok.ensures.reads.stays c.if-v-lt-FLAG.false c.in-Ok.ensures.head
    (g.S.Space.state c.read_second.new.base)
    (both g (goal.at.returns-in-Err-read_last-clause-faults g c).In-Ok-read_second).stays
    c.in-Ok-read_second.last c.in-Ok-read_second.ensures.second (Some c.in-Err-read_last.fault)
    c.in-Err-read_last.ensures.faults

pub returns-in-Err-read_last-clause-reads : goal.returns-in-Err-read_last-clause-reads
returns-in-Err-read_last-clause-reads g c =
    reads_then g.met.S.Space.keeps_join (both g (goal.at.returns-in-Err-read_last-clause-reads g c).In-Ok-read_second)
    c.in-Err-read_last.ensures.reads
