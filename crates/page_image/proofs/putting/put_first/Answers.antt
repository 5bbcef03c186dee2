use Rattle.std.proofs.Common.{◌≤◌, ℕ, length, take, subst, arith}
use Rattle.std.proofs.lemmas.List.{length-take-le}
use Rattle.page_image.specs.PutFronts.{PutsFirst}
use Rattle.page_image.proofs.putting.put_first.Goals as goal

pub returns-clause-done : goal.returns-clause-done
returns-clause-done g c =
    let few : c.min-n.result ≤ length c.args.bytes.now = omega (arith, c.min-n.ensures) in
    let long = length-take-le c.min-n.result c.args.bytes.now few in
    subst (λ (n : ℕ). PutsFirst c.args.at (take c.min-n.result c.args.bytes.now) n (g.D.Disk.state c.args.disk.now)
    c.args.image.now
    (g.D.Disk.state c.put_piece.new.disk) c.put_piece.new.image)
    long c.in_ok-put_piece.ensures.done
