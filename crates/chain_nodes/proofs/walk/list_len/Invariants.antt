use Rattle.std.proofs.Common.{◌≡◌, ◌-◌, ◌≤◌, IsTrue, None}
use Rattle.save_bytes.specs.Reads.{Reads}
use Rattle.chain_nodes.specs.Table.{table_in}
use Rattle.chain_nodes.specs.Runs.{IsReached}
use Rattle.chain_nodes.proofs.walk.list_len.Given as goal

abbrev pub invariant-loop-cursor : goal.invariant-loop-cursor
invariant-loop-cursor g l = record {
  opens : l.cursor.opens ≡ l.fn.lead;
  first : l.cursor.first ≡ l.first;
  next : l.cursor.next ≤ l.info.count;
  passed : l.cursor.passed ≤ l.info.count;
  reached : IsTrue (g.S.Space.state l.initial.base).told
      → IsReached (table_in (g.S.Space.state l.initial.base).cells l.info) l.info.count l.fn.lead l.first l.cursor;
  reads : Reads g.S.Space.state g.S.Space.keeps g.S.Space.lands l.initial.base l.base None;
}

abbrev pub decreases-loop-cursor : goal.decreases-loop-cursor
decreases-loop-cursor g l = l.info.count - l.cursor.passed
