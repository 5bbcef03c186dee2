use Rattle.std.proofs.Common.{length}
use Rattle.save_disk.specs.State.{IsSteady}
use Rattle.save_disk.specs.Tells.{Tells}
use Rattle.desk_output.specs.Output.{SaysBefore, HasOnlySaid}
use Rattle.desk_output.proofs.voice.say_all.Given as goal

abbrev pub invariant-loop-rest : goal.invariant-loop-rest
invariant-loop-rest g l =
    let state = g.D.Disk.state in
    Tells (SaysBefore l.rest l.bytes) (state l.initial.desk) (state l.desk)
    × HasOnlySaid (state l.initial.desk).told (state l.desk).told
    × IsSteady (state l.initial.desk) (state l.desk)

abbrev pub decreases-loop-rest : goal.decreases-loop-rest
decreases-loop-rest g l = length l.rest
