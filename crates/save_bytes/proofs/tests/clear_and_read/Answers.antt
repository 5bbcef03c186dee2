use Rattle.std.proofs.Common.{◌≡◌, ℕ, Result, Ok, Err, IfOk, refl, arith}
use Rattle.save_bytes.specs.declared.space.Bad.{Bad}
use Rattle.save_bytes.specs.Cells.{Cell, Byte}
use Rattle.save_bytes.proofs.SpaceLemmas.{can_put}
use Rattle.save_bytes.proofs.PutLemmas.{HasPut-cleared}
use Rattle.save_bytes.proofs.tests.clear_and_read.Goals as goal

read_zero : (result : Result ℕ Bad) (cell : Cell) → cell ≡ Byte 0 → IfOk result (λ byte. cell ≡ Byte byte) → IfOk result (λ byte. byte ≡ 0)
read_zero (Ok byte) cell zero is = cc
read_zero (Err bad) cell zero is = tt

pub returns-clause-zero : goal.returns-clause-zero
returns-clause-zero g c = λ told.
    let old = g.F.Space.state c.args.space.now in
    let new = g.F.Space.state c.clear.new.self in
    let puts = c.in_ok-clear.ensures.puts in
    let floor = g.met.F.Floor in
    let can = can_put old _ _ (g.met.F.Space.no_twins c.args.space.now (floor.ground c.args.space.now).single) told in
    let zero : new.cells c.args.at ≡ Byte 0 =
    HasPut-cleared old c.args.at new.cells (floor.blocks c.args.space.now c.requires.sound) (omega arith) (puts.done can) c.args.at (omega arith) refl in
    read_zero c.read_one.result (new.cells c.args.at) zero (c.read_one.ensures.byte (puts.space.told can))
