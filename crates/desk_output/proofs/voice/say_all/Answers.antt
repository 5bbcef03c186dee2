use Rattle.std.proofs.Common.{take, drop, length, ◌-◌}
use Rattle.std.proofs.lemmas.List.{take_rest}
use Rattle.save_disk.specs.Trace.{Said}
use Rattle.save_disk.proofs.Telling.{tells_more, steady_join}
use Rattle.desk_output.specs.Output.{SaysBefore}
use Rattle.desk_output.proofs.Telling.{said_more, only_more}
use Rattle.desk_output.proofs.voice.say_all.Goals as goal

pub loop-rest-preserved : goal.loop-rest-preserved
loop-rest-preserved g c =
    let old = g.D.Disk.state c.args.desk.now in
    let before = g.D.Disk.state c.loop-rest.desk in
    let after = g.D.Disk.state c.say.new.self in
    let rest = c.loop-rest.rest.now in
    let n = c.in_ok-taken.taken in
    let said = c.in_ok-taken.ensures in (
      tells_more (SaysBefore rest c.args.bytes.now)
          (SaysBefore (take (length rest - n) (drop n rest)) c.args.bytes.now) (Said (take n rest))
          old before after c.loop-rest.invariant.0 said.said
          (λ events so_far. said_more c.args.bytes.now rest (take (length rest - n) (drop n rest)) n events
          (take_rest rest n) so_far),
      only_more (take n rest) old.told before.told after.told c.loop-rest.invariant.1 said.said,
      steady_join old before after c.loop-rest.invariant.2 said.steady,
    )
