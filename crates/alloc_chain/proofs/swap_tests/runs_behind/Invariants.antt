use Rattle.chain_nodes.specs.Table.{HasAllocationTable}
use Rattle.alloc_chain.proofs.swap_tests.runs_behind.Given as goal

abbrev pub invariant-loop-k : goal.invariant-loop-k
invariant-loop-k g l = HasAllocationTable (g.S.Space.state l.chain.base.now).shape l.chain.info
