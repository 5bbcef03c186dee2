use Rattle.std.proofs.Common.{arith, rules, tests, refl, ◌<◌, ◌-◌, replicate, set, length, min, length, ◌≡◌}
use Rattle.std.proofs.lemmas.List.{length-replicate}
use Rattle.save_samples.specs.declared.holes.Hole.TheVariants.{Filled}
use Rattle.save_samples.proofs.HoleLemmas.{IsBlockPut, clear_put, block_put, block_moved, moved_at}
use Rattle.save_samples.proofs.holes.HoleSpace.clear_block.Goals as goal
use Rattle.save_samples.proofs.holes.HoleSpace.clear_block.Goals.{After-zero_part}

cleared : (c : After-zero_part) → let s = c.args.self.now in let bounds = c.bounds-start.result in
    IsBlockPut s.block bounds.0 (replicate bounds.1 0) s.bytes.now c.zero_part.new.bytes s.holes.now
    (set s.holes.now c.hole_at-number.result.1 Filled)
cleared c =
    let s = c.args.self.now in
    let some : 0 < s.block = search (rules, tests, c.requires.sound) in
    let bounds = c.bounds-start in
    let zeroed = c.zero_part.ensures in
    let len_is : bounds.result.1 ≡ min s.block
    (length s.bytes.now - bounds.result.0) = rw bounds.ensures.start bounds.ensures.len in
    rw c.hole_at-number.ensures.number
    (clear_put s.block c.args.at bounds.result.0 bounds.result.1 s.bytes.now c.zero_part.new.bytes
    s.holes.now some (omega (arith, c.requires.inside))
    (rw c.hole_at-number.ensures.number at c.hole_at-number.ensures.inside)
    bounds.ensures.start len_is zeroed.size zeroed.zeros zeroed.before zeroed.behind)

pub returns-clause-puts : goal.returns-clause-puts
returns-clause-puts c =
    rw (c.bounds-start.ensures.start, c.bounds-start.ensures.len) at (block_put _ _ _ _ _ _ _ (cleared c))

pub returns-clause-moves : goal.returns-clause-moves
returns-clause-moves c =
    moved_at _ _ c.bounds-start.result.0 c.bounds-start.result.1 _ _ c.bounds-start.ensures.start
    c.bounds-start.ensures.len
    (block_moved _ _ c.bounds-start.result.0 c.bounds-start.result.1 (replicate c.bounds-start.result.1 0)
    (length-replicate c.bounds-start.result.1 0) refl refl refl (cleared c))
