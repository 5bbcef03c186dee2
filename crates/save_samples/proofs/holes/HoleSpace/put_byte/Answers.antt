use Rattle.std.proofs.Common.{[], ◌∷◌, sym, ◌∙◌, subst, refl, arith, rules, tests, ◌<◌}
use Rattle.save_samples.specs.declared.holes.HoleSpace.{HoleSpace}
use Rattle.save_samples.proofs.HoleLemmas.{IsHolePut, filled_hole_put, blank_put, zeros_here, others_stay, block_put}
use Rattle.save_samples.proofs.HoleLemmas.{block_moved}
use Rattle.save_samples.proofs.holes.HoleSpace.put_byte.Goals as goal
use Rattle.save_samples.proofs.holes.HoleSpace.put_byte.Goals.{in-NeverWritten, in_default, Joined-hole}

hole_put : (c : Joined-hole) → IsHolePut c.args.self.now c.match-hole.self c.args.at c.args.byte
hole_put c = elim c.match-hole.branch [
  | in-NeverWritten w ↦
      let s = c.args.self.now in
      let some : 0 < s.block = search (rules, tests, c.requires.writable.inside.sound) in
      let zeroed = w.zero_part.ensures in
      let blank = sym c.hole_at-hole.ensures.hole ∙ w.in-NeverWritten.is in
      subst (λ (m : HoleSpace). IsHolePut s m c.args.at c.args.byte) (sym w.self-is) (record {
        same_bytes = refl;
        same_holes = refl;
        same_block = refl;
        put = rw c.hole_at-hole.ensures.number
            (blank_put s.block c.args.at c.args.byte w.in-NeverWritten.field-0 s.bytes.now
            w.zero_part.new.bytes s.holes.now some (omega (arith, c.requires.writable.inside.inside)) blank
            (rw c.hole_at-hole.ensures.number at c.hole_at-hole.ensures.inside) zeroed.size
            (zeros_here s.block c.args.at w.bounds-start.result.0 w.bounds-start.result.1 s.bytes.now
            w.zero_part.new.bytes some
            w.bounds-start.ensures.start (rw
            (← w.bounds-start.ensures.start) at w.bounds-start.ensures.len) zeroed.zeros)
            (others_stay s.block c.args.at w.bounds-start.result.0 w.bounds-start.result.1 s.bytes.now
            w.zero_part.new.bytes some
            w.bounds-start.ensures.start (rw
            (← w.bounds-start.ensures.start) at w.bounds-start.ensures.len) zeroed.before zeroed.behind));
      })
  | in_default w ↦ subst (λ (m : HoleSpace). IsHolePut c.args.self.now m c.args.at c.args.byte) (sym w.self-is)
      (filled_hole_put c.args.self.now c.args.at c.args.byte c.requires.writable.inside c.requires.unspoilt
      (λ level e. w.in_default.not-NeverWritten level (c.hole_at-hole.ensures.hole ∙ e)))
]

pub returns-clause-puts : goal.returns-clause-puts
returns-clause-puts c =
    let put = hole_put c in
    rw put.same_block (block_put _ c.args.at (c.args.byte ∷ []) _ _ _ _ put.put)

pub returns-clause-moves : goal.returns-clause-moves
returns-clause-moves c =
    let put = hole_put c in
    block_moved _ _ c.args.at 1 (c.args.byte ∷ []) refl put.same_bytes put.same_holes put.same_block put.put
