use Rattle.save_disk.specs.State.{IsSteady}
use Rattle.save_disk.specs.Tells.{Tells}
use Rattle.desk_output.specs.Output.{SaysBefore, HasOnlySaid}
use Rattle.desk_output.proofs.RowLemmas.{lines_to}
use Rattle.desk_output.proofs.rows.say_rows.Given as goal

abbrev pub invariant-loop-row : goal.invariant-loop-row
invariant-loop-row g l =
    let state = g.D.Disk.state in
    Tells (SaysBefore l.pending.items (lines_to l.row-index l.rows)) (state l.initial.desk) (state l.desk)
    × HasOnlySaid (state l.initial.desk).told (state l.desk).told
    × IsSteady (state l.initial.desk) (state l.desk)
