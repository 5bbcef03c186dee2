use Rattle.dpfs_tree.proofs.BitLemmas.{bit_of-number}
use Rattle.dpfs_tree.proofs.bits.bit_at.Goals as goal

pub returns-clause-bit : goal.returns-clause-bit
returns-clause-bit g c = λ told. bit_of-number (g.S.Space.state c.args.base.now).cells c.args.from c.args.k c.in-Ok.word
    (c.in-Ok.ensures.number told)
