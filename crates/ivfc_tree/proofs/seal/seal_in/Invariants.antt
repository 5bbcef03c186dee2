use Rattle.std.proofs.Common.{ℕ, ◌<◌, ◌≤◌, IsTrue, None}
use Rattle.save_bytes.specs.Writes.{Writes}
use Rattle.ivfc_tree.specs.Marks.{is_marked}
use Rattle.ivfc_tree.specs.Seals.{HashSites, MasterSites, DiffersAt, CountsOn, AreDigests}
use Rattle.ivfc_tree.proofs.seal.seal_in.Given as goal

abbrev pub invariant-loop-level : goal.invariant-loop-level
invariant-loop-level g l = record {
  within : l.level ≤ 4;
  digests : IsTrue (g.S.Space.state l.fn.base).told → (deeper : ℕ) → l.level < deeper
      → AreDigests (g.S.Space.state l.base).cells l.master l.difi (is_marked l.fn.state) deeper;
  writes : Writes g.S.Space.state g.S.Space.keeps g.S.Space.lands (HashSites l.difi (is_marked l.fn.state))
      l.fn.base l.base
      None;
  master : DiffersAt (MasterSites l.difi (is_marked l.fn.state) 1) l.fn.master l.master;
  counts : CountsOn l.fn.state l.state;
}

abbrev pub decreases-loop-level : goal.decreases-loop-level
decreases-loop-level g l = l.level
