use Rattle.std.proofs.Common.{◌≡◌, length, take, arith}
use Rattle.std.proofs.lemmas.List.{length-take-le}
use Rattle.dpfs_tree.proofs.PickLemmas.{run_of-is}
use Rattle.dpfs_tree.proofs.write.put_run.Goals as goal

pub put_piece-requires-clause-some : goal.put_piece-requires-clause-some
put_piece-requires-clause-some g c =
    let run = run_of-is c.args.difi.now c.args.at c.requires.view in
    let n = c.min-run.result in
    let len : length (take n c.args.bytes.now) ≡ n = length-take-le n c.args.bytes.now
    (omega (arith, c.min-run.ensures)) in
    omega (arith, len, c.min-run.ensures, c.run_at.ensures, run.some, c.requires.some)

pub returns-in-Ok-clause-count : goal.returns-in-Ok-clause-count
returns-in-Ok-clause-count g c =
    let run = run_of-is c.args.difi.now c.args.at c.requires.view in
    (omega (arith, c.min-run.ensures, c.run_at.ensures, run.some, c.requires.some), omega (arith, c.min-run.ensures))
