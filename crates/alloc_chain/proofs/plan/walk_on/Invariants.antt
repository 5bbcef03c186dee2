use Rattle.std.proofs.Common.{◌≡◌, ℕ, ◌+◌, ◌-◌, ◌*◌, ◌≤◌, IsTrue, List, None}
use Rattle.save_bytes.specs.Reads.{Reads}
use Rattle.chain_nodes.specs.declared.node.Node.{Node}
use Rattle.alloc_chain.specs.Plans.{IsInTable, IsNodeAt}
use Rattle.chain_nodes.specs.Table.{table_in}
use Rattle.chain_nodes.specs.declared.node.Lead.{Lead}
use Rattle.chain_nodes.specs.Chains.{AreNodes}
use Rattle.alloc_chain.proofs.plan.walk_on.Given as goal

abbrev pub invariant-loop-at : goal.invariant-loop-at
invariant-loop-at g l = record {
  in_table : IsInTable l.info.count l.at;
  end : l.at.end ≤ 3 * l.info.count;
  low : l.fn.from.end + l.fn.from.node.first ≤ l.pos + l.fn.from.node.last + 1
      → l.at.end + l.at.node.first ≤ l.pos + l.at.node.last + 1;
  still : l.fn.from.next ≡ 0 → (l.at.next ≡ 0) × (l.at.end ≡ l.fn.from.end);
  exact : IsTrue (g.S.Space.state l.initial.base).told → (lead : Lead) (nodes : List Node) (before : ℕ)
      → AreNodes (table_in (g.S.Space.state l.initial.base).cells l.info) l.info.count lead nodes 0
      → IsNodeAt nodes before l.fn.from → IsNodeAt nodes before l.at;
  reads : Reads g.S.Space.state g.S.Space.keeps g.S.Space.lands l.initial.base l.base None;
}

abbrev pub decreases-loop-at : goal.decreases-loop-at
decreases-loop-at g l = 3 * l.info.count - l.at.end
