-- What a desk in memory shows.
use Rattle.std.specs.Prelude.{refl}
use Rattle.save_disk.specs.declared.memory.MemDesk.{MemDesk}
use Rattle.save_disk.specs.State.{State, IsSound}
use Rattle.save_disk.specs.Grains.{known_grain}
use Rattle.save_disk.specs.CallLogs.{log_of}
use Rattle.save_disk.specs.Traces.{told_of}
use Rattle.save_disk.specs.Memory.{Memory, state_from}

abbrev pub memory_of : MemDesk → Memory
memory_of desk = record { trace = told_of desk.trace; log = log_of desk.log }

abbrev pub state_of : MemDesk → State
state_of desk = state_from (memory_of desk)

pub is_sound : (desk : MemDesk) → IsSound (state_of desk)
is_sound desk = record {
  grain = known_grain desk.trace.grain desk.trace.is_known;
  size = desk.trace.is_small;
  told_size = refl;
  told_grain = refl;
  told_writes = desk.trace.fits;
}
