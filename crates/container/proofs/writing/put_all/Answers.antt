use Rattle.std.proofs.Common.{◌≡◌, ℕ, ◌+◌, length, subst, arith}
use Rattle.std.specs.Result.{result_err}
use Rattle.save_bytes.specs.Spots.{MovesOnly}
use Rattle.container.specs.StoreHeld.{store_of}
use Rattle.container.specs.Overs.{OpenedKeeps, opened_lands}
use Rattle.container.proofs.writing.put_all.Goals as goal

pub returns-clause-moves : goal.returns-clause-moves
returns-clause-moves g c =
    let states = g.D.Disk.state in
    let cut = c.split_at.ensures in
    let long : length c.split_at.result.0.now + length c.split_at.result.1.now ≡ length c.args.bytes.now =
    omega (arith, cut.front_len, cut.back_len) in
    subst
    (λ (n : ℕ). MovesOnly (OpenedKeeps states) (opened_lands states)
    (store_of (states c.args.disk.now) c.args.container.now)
    (record { container = c.args.container.now; disk = c.args.disk.now }) c.args.at n
    (record { container = c.put_across.new.container; disk = c.put_across.new.disk }) (result_err c.put_across.result))
    long c.put_across.ensures.moves
