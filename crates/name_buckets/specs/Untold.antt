-- A space that tells nothing.
use Rattle.std.specs.Prelude.{◌-◌, ◌^◌, true, false}
use Rattle.save_bytes.specs.Cells.{Byte}
use Rattle.save_bytes.specs.State.{State}

-- 4,096 places of which nothing is told, over a disk that always fails
abbrev pub untold_state : State
untold_state = record {
  shape = record { size = 4096; sound = true; plain = false; first = 0; doubled = false; block_start = λ x. x; block_len = λ x. 1 };
  told = false;
  cells = λ x. Byte 0;
  bottom = λ x. x;
  is_fixed = λ x. false;
  faults = 2 ^ 64 - 1;
}
