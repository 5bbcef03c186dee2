use Rattle.std.proofs.Common.{◌≡◌, ◌*◌, refl, arith}
use Rattle.std.proofs.lemmas.Nat.{pow_below}
use Rattle.dpfs_tree.specs.Turns.{mask_of}
use Rattle.dpfs_tree.proofs.TurnLemmas.{mask_of-lt, mask_of-more}
use Rattle.dpfs_tree.proofs.turns.mask.Goals as goal

pub loop-i-init : goal.loop-i-init
unfolding mask_of
loop-i-init g c = refl

pub overflow_mul-bits : goal.overflow_mul-bits
overflow_mul-bits g c =
    let below = mask_of-lt (g.T.Turns.flags c.args.turns.now) (32 * c.args.n) c.loop-i.i in
    omega (arith, c.loop-i.invariant, below, pow_below c.loop-i.i 32 c.loop-i-test.true)

pub overflow_add-bits : goal.overflow_add-bits
overflow_add-bits g c =
    let below = mask_of-lt (g.T.Turns.flags c.args.turns.now) (32 * c.args.n) c.loop-i.i in
    omega (arith, c.loop-i.invariant, below, pow_below c.loop-i.i 32 c.loop-i-test.true, c.bit.ensures.small)

pub loop-i-preserved : goal.loop-i-preserved
loop-i-preserved g c =
    let more = mask_of-more (g.T.Turns.flags c.args.turns.now) (32 * c.args.n) c.loop-i.i in
    let bit = rw c.is_turned.ensures at c.bit.ensures.value in
    rw more (omega (arith, c.loop-i.invariant, bit))

pub overflow_cast-result : goal.overflow_cast-result
overflow_cast-result g c =
    let full : c.loop-i.i ≡ 32 = omega (arith, c.loop-i-test.false, c.loop-i.auto.i-end) in
    let below = rw full at (mask_of-lt (g.T.Turns.flags c.args.turns.now) (32 * c.args.n) c.loop-i.i) in
    omega (arith, rw full at c.loop-i.invariant, below)
