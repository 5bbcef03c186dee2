-- The line on the standard error for each status.
use Rattle.std.specs.Prelude.{ℕ, ◌==◌, List, Option, Some, None, codes, if◌then◌else◌}

abbrev pub complaint_of : ℕ → Option (List ℕ)
complaint_of status =
    if status == 2 then Some (codes "usage: save_cli FILE [sealed] COMMAND")
    else if status == 3 then Some (codes "disk fault")
    else if status == 4 then Some (codes "source fault")
    else if status == 5 then Some (codes "sink fault")
    else if status == 6 then Some (codes "out of memory")
    else None
