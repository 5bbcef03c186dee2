use Rattle.chain_nodes.specs.Table.{HasAllocationTable}
use Rattle.alloc_chain.proofs.tests.by_planned_runs.Given as goal

abbrev pub invariant-loop-runs : goal.invariant-loop-runs
invariant-loop-runs g l = HasAllocationTable (g.S.Space.state l.chain.base.now).shape l.chain.info
