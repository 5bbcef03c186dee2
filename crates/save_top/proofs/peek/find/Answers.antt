use Rattle.std.proofs.Common.{◌≡◌, ◌+◌, ◌*◌, ◌<◌, ℕ, refl, ◌∙◌, ap, subst, arith}
use Rattle.difi.specs.declared.places.LevelPlace.{LevelPlace}
use Rattle.difi.specs.Places.{blocks_of}
use Rattle.difi.proofs.PlaceLemmas.{block_begins}
use Rattle.save_top.proofs.peek.find.Goals as goal

pub returns-then-block-have-clause-miss : goal.returns-then-block-have-clause-miss
returns-then-block-have-clause-miss c =
    let of = c.level_four-level.ensures.level in
    let level = c.level_four-level.result in
    let have : c.div_ceil-have.result ≡ blocks_of level = rw (← c.block_size-size.ensures.size) c.div_ceil-have.ensures in
    (omega (arith, c.if-part-have.false, c.from-have.ensures, c.parts.ensures), (of.0, of.1, (have ∙ ap blocks_of of.2, c.if-block-have.true)))

pub overflow_sub-level : goal.overflow_sub-level
overflow_sub-level c =
    let level = c.level_four-level.result in
    let have : c.div_ceil-have.result ≡ blocks_of level = rw (← c.block_size-size.ensures.size) c.div_ceil-have.ensures in
    let begins = block_begins c.args.block level.size level.log (omega (arith, c.if-block-have.false, have)) in
    rw c.block_size-size.ensures.size (omega (arith, begins))

pub returns-clause-place : goal.returns-clause-place
returns-clause-place c =
    let of = c.level_four-level.ensures.level in
    let level = c.level_four-level.result in
    let have : c.div_ceil-have.result ≡ blocks_of level = rw (← c.block_size-size.ensures.size) c.div_ceil-have.ensures in
    let size = c.block_size-size.ensures.size in
    record {
      number = refl;
      part_there = omega (arith, c.if-part-have.false, c.from-have.ensures, c.parts.ensures);
      in_part = (
        of.0,
        of.1,
        record {
          there = subst (λ (l : LevelPlace). c.args.block < blocks_of l) of.2 (omega (arith, c.if-block-have.false, have));
          at = ap (λ (n : ℕ). n + c.args.block * c.block_size-size.result) c.start_of.ensures.start ∙ rw (← of.2, size) refl;
          len = c.min.ensures ∙ rw (← of.2, size) refl;
        },
      );
    }
