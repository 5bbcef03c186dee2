use Rattle.std.proofs.Common.{length, arith}
use Rattle.std.specs.Result.{result_err}
use Rattle.dpfs_tree.proofs.PickLemmas.{run_of-is}
use Rattle.dpfs_tree.proofs.BlockLemmas.{external_writable}
use Rattle.dpfs_tree.proofs.StepLemmas.{external_put}
use Rattle.dpfs_tree.proofs.write.put_piece.Goals as goal

pub put_bytes-requires-clause-writable : goal.put_bytes-requires-clause-writable
put_bytes-requires-clause-writable g c =
    let run = run_of-is c.args.difi.now c.args.at c.requires.view in
    external_writable (g.S.Space.state c.args.base.now).shape c.args.part_at c.args.difi.now c.args.state.now.selector
    c.requires.tree
    c.args.at (length c.args.bytes.now) c.if-at-difi.true (omega (arith, run.in_view, c.requires.inside))
    c.requires.view

pub returns-then-at-difi : goal.returns-then-at-difi
returns-then-at-difi g c =
    let space = g.S.Space in
    let run = run_of-is c.args.difi.now c.args.at c.requires.view in
    let new = c.put_bytes.new.base in
    external_put space.state space.keeps space.lands g.met.S.Space.keeps_join g.met.S.Space.keeps_hold c.args.base.now
    new new
    c.args.part_at c.args.difi.now c.args.state.now c.args.at c.args.bytes.now c.requires.tree c.requires.some
    (result_err c.put_bytes.result) c.if-at-difi.true (omega (arith, run.in_view, c.requires.inside))
    c.put_bytes.ensures.writes
    c.put_bytes.ensures.bytes
