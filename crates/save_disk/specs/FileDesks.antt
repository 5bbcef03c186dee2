-- What a desk over a file shows.
use Rattle.std.specs.Prelude.{None, IsNone, IsTrue}
use Rattle.save_disk.specs.declared.file.FileDesk.{FileDesk}
use Rattle.save_disk.specs.State.{State, IsSound}
use Rattle.save_disk.specs.Grains.{known_grain}

abbrev pub file_state : FileDesk → State
file_state desk = record {
  told = None;
  size = desk.size;
  grain = desk.grain;
  counts = record { disk = desk.disk; source = desk.source; sink = desk.sink };
}

-- no file is open
abbrev pub IsClosed : FileDesk → Type 0
IsClosed desk = IsNone desk.opened

-- the standard streams are not its own
abbrev pub IsMute : FileDesk → Type 0
IsMute desk = IsNone desk.streams

-- the input has ended
abbrev pub IsEnded : FileDesk → Type 0
IsEnded desk = IsTrue desk.is_at_end

-- what no call changes of how the desk was opened
pub record StaysOpened (before after : FileDesk) : Type 0 where
  pub closed : IsClosed before → IsClosed after
  pub mute : IsMute before → IsMute after
  pub heard : IsMute after → IsMute before
  pub ended : IsEnded before → IsEnded after

pub is_sound : (desk : FileDesk) → IsSound (file_state desk)
is_sound desk = record {
  grain = known_grain desk.grain desk.is_known;
  size = desk.is_small;
  told_size =
      tt;
  told_grain = tt;
  told_writes = tt;
}
