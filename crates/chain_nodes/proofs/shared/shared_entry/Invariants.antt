use Rattle.std.proofs.Common.{◌+◌, ◌-◌, ◌<◌, ◌≤◌, IsTrue, None}
use Rattle.save_bytes.specs.Reads.{Reads}
use Rattle.chain_nodes.specs.Table.{table_in}
use Rattle.chain_nodes.specs.Chains.{entries_of}
use Rattle.chain_nodes.specs.Runs.{IsReached}
use Rattle.chain_nodes.specs.Between.{count_between}
use Rattle.chain_nodes.proofs.shared.shared_entry.Given as goal

abbrev pub invariant-loop-low : goal.invariant-loop-low
invariant-loop-low g l = record {
  low : l.low ≤ l.high;
  high : l.high ≤ l.info.count;
  crowded : IsTrue (g.S.Space.state l.initial.base).told
      → (reached : IsReached (table_in (g.S.Space.state l.initial.base).cells l.info) l.info.count l.lead l.first
      l.end) → l.high + 1 - l.low < count_between l.low l.high (entries_of reached.nodes);
  reads : Reads g.S.Space.state g.S.Space.keeps g.S.Space.lands l.initial.base l.base None;
}

abbrev pub decreases-loop-low : goal.decreases-loop-low
decreases-loop-low g l = l.high - l.low
