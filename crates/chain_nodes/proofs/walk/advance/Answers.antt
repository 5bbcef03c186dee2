use Rattle.std.proofs.Common.{ℕ, Some, subst}
use Rattle.save_bytes.specs.Cells.{Cell}
use Rattle.save_bytes.proofs.CallLemmas.{reads_then}
use Rattle.save_bytes.proofs.SpaceLemmas.{Stays-same}
use Rattle.chain_nodes.specs.Table.{table_in}
use Rattle.chain_nodes.specs.Faults.{IsBroken, FailsAt}
use Rattle.chain_nodes.specs.Runs.{IsReached}
use Rattle.chain_nodes.proofs.TableLemmas.{table_stays}
use Rattle.chain_nodes.proofs.FaultLemmas.{FaultsOnly-later}
use Rattle.chain_nodes.proofs.ListLemmas.{list_faults, reached_step}
use Rattle.chain_nodes.proofs.walk.advance.Goals as goal

pub returns-in-Err-clause-faults : goal.returns-in-Err-clause-faults
returns-in-Err-clause-faults g c =
    list_faults c.requires.table (Stays-same (g.S.Space.state c.args.base.now)) c.args.cursor.first c.args.cursor
    (Some c.in-Err.fault) c.requires.next c.in-Err.ensures.faults

pub returns-then-behind-from-clause-faults : goal.returns-then-behind-from-clause-faults
returns-then-behind-from-clause-faults g c =
    let old = g.S.Space.state c.args.base.now in
    let mid = g.S.Space.state c.read_node.new.base in
    let info = c.args.info in
    let from = c.args.cursor.first in
    let link = c.in-Ok.link in
    let moved = c.behind-behind.ensures in
    let same = table_stays old mid info c.requires.table c.in-Ok.ensures.reads.stays in
    FaultsOnly-later old mid info (Some c.shared_fault.result) c.requires.table c.in-Ok.ensures.reads.stays
    (λ told e broken reached. subst (λ (t : ℕ → ℕ → Cell). IsReached t info.count c.args.cursor.opens from
    c.behind-behind.result
    → IsBroken t info.count c.args.cursor.opens from e) (same told) broken
    (reached_step (table_in old.cells info) info.count c.args.cursor.opens from c.args.cursor c.behind-behind.result
    link.node link.next
    reached (c.in-Ok.ensures.node told) c.in-Ok.ensures.next c.in-Ok.ensures.first moved.lead moved.next moved.passed))
    (λ told e fails _. subst (λ (t : ℕ → ℕ → Cell). FailsAt t info.count c.args.cursor.opens from e) (same told) fails)
    c.shared_fault.ensures.faults

pub returns-then-behind-from-clause-reads : goal.returns-then-behind-from-clause-reads
returns-then-behind-from-clause-reads g c =
    reads_then g.met.S.Space.keeps_join c.in-Ok.ensures.reads c.shared_fault.ensures.reads

pub returns-clause-reached : goal.returns-clause-reached
returns-clause-reached g c = λ told reached.
    let moved = c.behind-behind.ensures in
    let link = c.in-Ok.link in
    reached_step (table_in (g.S.Space.state c.args.base.now).cells c.args.info) c.args.info.count c.args.cursor.opens
    c.args.cursor.first
    c.args.cursor c.behind-behind.result link.node link.next reached (c.in-Ok.ensures.node told) c.in-Ok.ensures.next
    c.in-Ok.ensures.first moved.lead moved.next moved.passed
