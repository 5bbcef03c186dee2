use Rattle.chain_space.specs.Laid.{extra_of}
use Rattle.chain_space.proofs.LaidLemmas.{true-can_lay}
use Rattle.chain_space.proofs.laid.BlocksSpace.new.Goals as goal

pub returns-clause-sound : goal.returns-clause-sound
returns-clause-sound g c =
    true-can_lay (extra_of c.args.region_at c.args.block c.args.blocks.now)
    (g.S.Space.state c.args.base.now).shape c.requires
