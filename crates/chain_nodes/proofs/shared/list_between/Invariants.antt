use Rattle.std.proofs.Common.{◌≡◌, ◌-◌, ◌≤◌, IsTrue, None}
use Rattle.save_bytes.specs.Reads.{Reads}
use Rattle.chain_nodes.specs.Table.{table_in}
use Rattle.chain_nodes.specs.Chains.{entries_of}
use Rattle.chain_nodes.specs.Runs.{IsReached}
use Rattle.chain_nodes.specs.Between.{count_between}
use Rattle.chain_nodes.proofs.shared.list_between.Given as goal

abbrev pub invariant-loop-cursor : goal.invariant-loop-cursor
invariant-loop-cursor g l = record {
  next : l.cursor.next ≤ l.info.count;
  between : l.between ≤ l.cursor.passed;
  reached : IsTrue (g.S.Space.state l.initial.base).told
      → (reached : IsReached (table_in (g.S.Space.state l.initial.base).cells l.info) l.info.count l.fn.lead
      l.fn.first l.cursor) × (l.between ≡ count_between l.low l.high (entries_of reached.nodes));
  within : IsTrue (g.S.Space.state l.initial.base).told
      → IsReached (table_in (g.S.Space.state l.initial.base).cells l.info) l.info.count l.fn.lead l.fn.first l.end
      → l.cursor.passed ≤ l.end.passed;
  reads : Reads g.S.Space.state g.S.Space.keeps g.S.Space.lands l.initial.base l.base None;
}

abbrev pub decreases-loop-cursor : goal.decreases-loop-cursor
decreases-loop-cursor g l = l.end.passed - l.cursor.passed
