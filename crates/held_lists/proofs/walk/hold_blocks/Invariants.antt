use Rattle.std.specs.List.{All}
use Rattle.std.proofs.Common.{◌<◌, ◌≡◌, ℕ, ◌+◌, ◌-◌, ◌≤◌, IsTrue, None, List, length, min, map, take, ◌++◌}
use Rattle.save_bytes.specs.Reads.{Reads}
use Rattle.chain_nodes.specs.declared.node.Node.{Node}
use Rattle.chain_nodes.specs.declared.node.Lead.TheVariants.{Opens}
use Rattle.chain_nodes.specs.Table.{table_in}
use Rattle.chain_nodes.specs.Chains.{entries_of}
use Rattle.held_lists.specs.Sets.{HasRoomFor}
use Rattle.held_lists.specs.Walks.{IsWalkedBy}
use Rattle.held_lists.proofs.walk.hold_blocks.Given as goal

abbrev pub invariant-loop-at : goal.invariant-loop-at
invariant-loop-at g l = record {
  next : l.at.next ≤ l.info.count;
  passed : l.at.passed ≤ l.info.count;
  room : (entry : ℕ) → HasRoomFor l.initial.held entry → HasRoomFor l.held entry;
  len : length l.blocks.items ≡ length l.initial.blocks.items + min l.most l.at.passed;
  inside : All (λ block. block < l.info.count) l.initial.blocks.items → All (λ block. block < l.info.count) l.blocks.items;
  walked : IsTrue (g.S.Space.state l.initial.base).told → (nodes : List Node)
      × (IsWalkedBy (table_in (g.S.Space.state l.initial.base).cells l.info) l.info.count Opens l.first
      l.initial.held nodes l.at l.held
      × (l.blocks.items ≡ l.initial.blocks.items ++ map (λ entry. entry - 1) (take l.most (entries_of nodes))));
  reads : Reads g.S.Space.state g.S.Space.keeps g.S.Space.lands l.initial.base l.base None;
}

abbrev pub decreases-loop-at : goal.decreases-loop-at
decreases-loop-at g l = l.info.count - l.at.passed
