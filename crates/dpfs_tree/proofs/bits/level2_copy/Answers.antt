use Rattle.std.proofs.Common.{◌≡◌, ℕ, IfOk, subst}
use Rattle.dpfs_tree.specs.Picks.{bytes_of}
use Rattle.dpfs_tree.proofs.BitLemmas.{bit_of-pick1}
use Rattle.dpfs_tree.proofs.bits.level2_copy.Goals as goal

pub returns-clause-bit : goal.returns-clause-bit
returns-clause-bit g c = λ told.
    let is = bit_of-pick1 (bytes_of (g.S.Space.state c.args.base.now).cells) c.args.part_at c.args.difi.now
    c.args.selector c.copy_start-level1.result c.args.block c.copy_start-level1.ensures in
    subst (λ (n : ℕ). IfOk c.bit_at.result (λ copy. copy ≡ n)) is (c.bit_at.ensures.bit told)
