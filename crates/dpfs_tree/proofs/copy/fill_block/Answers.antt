use Rattle.std.specs.Result.{result_err}
use Rattle.std.proofs.Common.{◌+◌, length}
use Rattle.save_bytes.specs.Writes.{IsWithin}
use Rattle.save_bytes.proofs.WriteLemmas.{writes_both, within_part}
use Rattle.dpfs_tree.proofs.copy.fill_block.Goals as goal

pub returns-in-Ok-clause-writes : goal.returns-in-Ok-clause-writes
returns-in-Ok-clause-writes g c =
    let space = g.S.Space in
    let n = length c.args.bytes.now in
    writes_both space.state space.keeps space.lands g.met.S.Space.keeps_join (IsWithin c.args.to c.args.len)
    (IsWithin (c.args.to + c.args.skipped) n) (IsWithin c.args.to c.args.len) c.args.base.now c.copy_around.new.base
    c.put_bytes-in-Ok.new.base (result_err c.put_bytes-in-Ok.result) (λ x there. there)
    (within_part c.args.to c.args.len c.args.skipped n c.requires.inside) c.in-Ok.ensures.writes
    c.put_bytes-in-Ok.ensures.writes
