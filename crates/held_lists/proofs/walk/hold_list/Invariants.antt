use Rattle.std.proofs.Common.{ℕ, ◌-◌, ◌≤◌, IsTrue, None, List}
use Rattle.save_bytes.specs.Reads.{Reads}
use Rattle.chain_nodes.specs.declared.node.Node.{Node}
use Rattle.chain_nodes.specs.Table.{table_in}
use Rattle.held_lists.specs.Sets.{HasRoomFor}
use Rattle.held_lists.specs.Walks.{IsWalkedBy}
use Rattle.held_lists.proofs.walk.hold_list.Given as goal

abbrev pub invariant-loop-at : goal.invariant-loop-at
invariant-loop-at g l = record {
  next : l.at.next ≤ l.info.count;
  passed : l.at.passed ≤ l.info.count;
  room : (entry : ℕ) → HasRoomFor l.initial.held entry → HasRoomFor l.held entry;
  walked : IsTrue (g.S.Space.state l.initial.base).told → (nodes : List Node)
      × IsWalkedBy (table_in (g.S.Space.state l.initial.base).cells l.info) l.info.count l.fn.lead l.first
      l.initial.held nodes l.at l.held;
  reads : Reads g.S.Space.state g.S.Space.keeps g.S.Space.lands l.initial.base l.base None;
}

abbrev pub decreases-loop-at : goal.decreases-loop-at
decreases-loop-at g l = l.info.count - l.at.passed
