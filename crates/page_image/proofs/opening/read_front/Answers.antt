use Rattle.std.proofs.Common.{◌≡◌, ◌*◌, ◌+◌, ℕ, get_or, sym, subst, arith}
use Rattle.std.proofs.Math.Nat.{zero-mul}
use Rattle.page_image.specs.Frames.{IsByteRead}
use Rattle.page_image.proofs.ReadLemmas.{own_read}
use Rattle.page_image.proofs.opening.read_front.Goals as goal

pub returns-clause-read : goal.returns-clause-read
returns-clause-read g c = λ k below.
    let d = g.D.Disk.state c.args.disk.now in
    let place : 0 * c.args.grain + k ≡ k = omega (arith, zero-mul c.args.grain) in
    let read = own_read d c.args.grain 0 c.read.new.out (g.met.D.Disk.sound c.args.disk.now) c.requires.grain
    c.in_ok-read.ensures.value k
    (omega (arith, c.requires.least)) in
    let byte : IsByteRead d c.args.grain k (get_or c.read.new.out k 0) =
    subst (λ (x : ℕ). IsByteRead d c.args.grain x (get_or c.read.new.out k 0)) place read in
    subst (λ (b : ℕ). IsByteRead d c.args.grain k b) (sym (c.take_front.ensures k below)) byte
