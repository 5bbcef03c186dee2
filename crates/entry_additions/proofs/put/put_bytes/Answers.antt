use Rattle.std.proofs.Common.{◌≡◌, length, arith, rules}
use Rattle.std.specs.Result.{result_err}
use Rattle.entry_tables.proofs.ChangeLemmas.{ChangesAt-put}
use Rattle.entry_additions.proofs.put.put_bytes.Goals as goal

pub returns-in-Dir-clause-changes : goal.returns-in-Dir-clause-changes
returns-in-Dir-clause-changes g c =
    let space = g.S.Space in
    let long : length c.dir_bytes.result ≡ 0x28 = search rules in
    let inside = rw c.in-Dir.is at c.requires.inside.inside in
    rw c.in-Dir.is (rw long at (ChangesAt-put space.state space.keeps space.lands c.args.space.now c.put.new.self
    c.args.at c.dir_bytes.result (omega (arith, long, inside)) (result_err c.put.result) c.put.ensures.plain
    c.put.ensures.puts c.put.ensures.moves))

pub returns-in-File-clause-changes : goal.returns-in-File-clause-changes
returns-in-File-clause-changes g c =
    let space = g.S.Space in
    let long : length c.file_bytes.result ≡ 0x30 = search rules in
    let inside = rw c.in-File.is at c.requires.inside.inside in
    rw c.in-File.is (rw long at (ChangesAt-put space.state space.keeps space.lands c.args.space.now
    c.put-in-File.new.self c.args.at c.file_bytes.result (omega (arith, long, inside)) (result_err c.put-in-File.result)
    c.put-in-File.ensures.plain c.put-in-File.ensures.puts c.put-in-File.ensures.moves))
