use Rattle.std.proofs.Common.{arith}
use Rattle.chain_space.specs.ShownLaws.{can_show-facts}
use Rattle.chain_space.proofs.behind.ChainSpaceSpace.len.Goals as goal

pub returns : goal.returns
returns g c = λ sound.
    let space = c.args.self.now in
    let room = can_show-facts (g.S.Space.state space.base.now).shape space.shown.info space.shown.blocks sound in
    omega (arith, room.fits, c.len.ensures room.table.sound, c.shown_len.ensures, c.saturating_add.ensures)
