use Rattle.std.proofs.Common.{arith}
use Rattle.save_bytes.specs.Spots.{Frame}
use Rattle.page_image.proofs.DiskLemmas.{kept_disk}
use Rattle.page_image.proofs.PutLemmas.{put_held, puts_first}
use Rattle.page_image.proofs.putting.put_within.Goals as goal

pub put-requires-clause-inside : goal.put-requires-clause-inside
put-requires-clause-inside g c = let same = (c.in_ok-reach.ensures.leaves Frame tt).0 in
    omega (arith, same.len, c.requires.inside)

pub returns-clause-done : goal.returns-clause-done
returns-clause-done g c =
    let d = g.D.Disk.state c.args.disk.now in
    let e = g.D.Disk.state c.reach.new.disk in
    let i = c.args.image.now in
    let j = c.reach.new.image in
    let reached = c.in_ok-reach.ensures in
    puts_first d e i j c.put.new.self c.args.at c.args.piece.now reached.leaves reached.told
    (kept_disk d e i j (reached.leaves Frame tt).0 c.requires.disk_of)
    (put_held e j c.put.new.self c.args.at c.args.piece.now c.put.ensures c.requires.behind c.requires.in_page
    reached.held) c.requires.inside
