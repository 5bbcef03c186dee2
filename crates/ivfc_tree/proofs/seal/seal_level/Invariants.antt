use Rattle.std.proofs.Common.{◌≡◌, ℕ, ◌-◌, ◌<◌, ◌≤◌, IsTrue, None}
use Rattle.sha2.specs.Sha256.{sha256}
use Rattle.save_bytes.specs.Writes.{Writes}
use Rattle.ivfc_tree.specs.Levels.{padded_block, hash_entry}
use Rattle.ivfc_tree.specs.Marks.{is_marked}
use Rattle.ivfc_tree.specs.Seals.{HasMarkedBlock, LevelSites, MasterSites, DiffersAt, CountsOn}
use Rattle.ivfc_tree.proofs.seal.seal_level.Given as goal

abbrev pub invariant-loop-block : goal.invariant-loop-block
invariant-loop-block g l = record {
  within : l.block ≤ l.blocks;
  digests : IsTrue (g.S.Space.state l.fn.base).told → (number : ℕ) → number < l.block
      → HasMarkedBlock l.difi (is_marked l.fn.state) l.level number
      → hash_entry (g.S.Space.state l.base).cells l.master l.difi l.level number
      ≡ sha256 (padded_block (g.S.Space.state l.base).cells l.difi l.level number);
  writes : Writes g.S.Space.state g.S.Space.keeps g.S.Space.lands (LevelSites l.difi (is_marked l.fn.state) l.level)
      l.fn.base l.base None;
  master : DiffersAt (MasterSites l.difi (is_marked l.fn.state) l.level) l.fn.master l.master;
  counts : CountsOn l.fn.state l.state;
}

abbrev pub decreases-loop-block : goal.decreases-loop-block
decreases-loop-block g l = l.blocks - l.block
