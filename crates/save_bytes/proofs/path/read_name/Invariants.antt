use Rattle.std.proofs.Common.{◌≡◌, ◌≤◌, ◌-◌, length, take, drop}
use Rattle.save_bytes.specs.Paths.{filled}
use Rattle.save_bytes.specs.PathReading.{behind_bytes, name_from}
use Rattle.save_bytes.proofs.path.read_name.Given as goal

abbrev pub invariant-loop-bytes : goal.invariant-loop-bytes
invariant-loop-bytes l = record {
  read : name_from 16 l.text ≡ behind_bytes (take l.count l.bytes) (name_from (16 - l.count) (drop l.at l.text));
  inside : l.at ≤ length l.text;
  short : l.count ≤ 16;
  long : length l.bytes ≡ 16;
  filled : l.bytes ≡ filled (take l.count l.bytes);
}

abbrev pub decreases-loop-bytes : goal.decreases-loop-bytes
decreases-loop-bytes l = length l.text - l.at
