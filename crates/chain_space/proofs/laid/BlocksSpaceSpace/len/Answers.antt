use Rattle.std.proofs.Common.{arith}
use Rattle.chain_space.specs.LaidHeld.{extra_in}
use Rattle.chain_space.proofs.LaidLemmas.{can_lay-facts}
use Rattle.chain_space.proofs.laid.BlocksSpaceSpace.len.Goals as goal

pub returns : goal.returns
returns g c = λ sound.
    let space = c.args.self.now in
    let room = can_lay-facts (extra_in space) (g.S.Space.state space.base.now).shape sound in
    let extra = rw c.from.ensures at c.saturating_mul.ensures in
    omega (arith, room.lie.fits, c.len.ensures room.sound, extra, c.saturating_add.ensures)
