use Rattle.std.proofs.Common.{◌≡◌, ◌*◌}
use Rattle.dpfs_tree.specs.Turns.{mask_of}
use Rattle.dpfs_tree.proofs.turns.mask.Given as goal

abbrev pub invariant-loop-i : goal.invariant-loop-i
invariant-loop-i g l = l.bits ≡ mask_of (g.T.Turns.flags l.turns) (32 * l.n) l.i
