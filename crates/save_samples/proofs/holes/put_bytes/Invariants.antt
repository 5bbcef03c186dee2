use Rattle.std.proofs.Common.{ℕ, ◌+◌, ◌<◌, None, length, take}
use Rattle.save_bytes.specs.Cells.{IsUnspoilt}
use Rattle.save_bytes.specs.Puts.{Puts}
use Rattle.save_bytes.specs.Spots.{MovesOnly}
use Rattle.save_samples.specs.Holes.{hole_state, HoleKeeps, HoleLands}
use Rattle.save_samples.proofs.holes.put_bytes.Given as goal

abbrev pub invariant-loop-k : goal.invariant-loop-k
invariant-loop-k l = record {
  puts : Puts (hole_state l.fn.space) l.at (take l.k l.bytes) (hole_state l.space) None;
  moves : MovesOnly HoleKeeps HoleLands (hole_state l.fn.space) l.fn.space l.at l.k l.space None;
  unspoilt : (j : ℕ) → j < length l.bytes → IsUnspoilt ((hole_state l.space).cells (l.at + j));
}
