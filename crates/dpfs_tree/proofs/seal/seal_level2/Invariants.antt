use Rattle.std.proofs.Common.{◌-◌, ◌≤◌, IsTrue, None}
use Rattle.save_bytes.specs.Writes.{Writes}
use Rattle.difi.specs.Places.{blocks_of}
use Rattle.dpfs_tree.specs.Picks.{bytes_of}
use Rattle.dpfs_tree.specs.Seals.{SealsLevel2, AreBlocksSealed}
use Rattle.dpfs_tree.proofs.seal.seal_level2.Given as goal

abbrev pub invariant-loop-block : goal.invariant-loop-block
invariant-loop-block g l = record {
  within : l.block ≤ blocks_of l.difi.dpfs2;
  sealed : IsTrue (g.S.Space.state l.fn.base).told
      → AreBlocksSealed l.part_at l.difi l.state (g.S.Space.state l.fn.base).cells l.block
      (g.S.Space.state l.base).cells;
  writes : Writes g.S.Space.state g.S.Space.keeps g.S.Space.lands
      (SealsLevel2 (bytes_of (g.S.Space.state l.fn.base).cells) l.part_at l.difi l.state) l.fn.base l.base None;
}

abbrev pub decreases-loop-block : goal.decreases-loop-block
decreases-loop-block g l = blocks_of l.difi.dpfs2 - l.block
