use Rattle.std.proofs.Common.{ℕ, ◌<◌}
use Rattle.ivfc_tree.specs.Levels.{IsLevel, level_of}
use Rattle.ivfc_tree.specs.Paths.{block_above}
use Rattle.live_image.proofs.FootprintTestLemmas.{Meets}
use Rattle.live_image.proofs.footprint_tests.meets_one.Given as goal

abbrev pub invariant-loop-level : goal.invariant-loop-level
invariant-loop-level l =
    (k : ℕ) → IsLevel k → k < l.level → Meets l.difi (level_of l.difi k) (block_above l.difi 4 l.touched k) l.block → ⊥
