use Rattle.std.proofs.Common.{◌≡◌, length, None, arith, rules}
use Rattle.std.specs.Result.{result_err}
use Rattle.save_bytes.specs.State.{CanPut}
use Rattle.save_bytes.proofs.JoinLemmas.{CanPut-later}
use Rattle.save_bytes.proofs.PutLemmas.{Puts-unspoilt, IsReady-unspoilt}
use Rattle.save_bytes.proofs.tests.put_twice.Goals as goal

pub returns-clause-never : goal.returns-clause-never
returns-clause-never g c = λ can_at can_other.
    let old = g.S.Space.state c.args.space.now in
    let mid = g.S.Space.state c.put.new.self in
    let puts = c.in_ok-put.ensures.puts in
    let two : length c.args.bytes ≡ 2 = search rules in
    let can : CanPut old c.args.other (length c.args.bytes) = rw two can_other in
    let ready = Puts-unspoilt old mid c.args.at 2 c.args.other c.args.bytes None puts can (omega arith) (c.requires.first_ready.done can_at.told) in
    let later = CanPut-later old mid c.args.at 2 (omega arith) (puts.space.told can) (puts.space.twins can) can_at in
    IsReady-unspoilt mid c.args.at 2 (result_err c.put-2.result) (rw two at c.put-2.ensures.ready later) later.told ready
