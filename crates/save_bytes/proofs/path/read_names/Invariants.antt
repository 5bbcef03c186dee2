use Rattle.std.proofs.Common.{◌≡◌, ◌≤◌, ◌-◌, length, drop}
use Rattle.save_bytes.specs.PathReading.{behind_names, names_from}
use Rattle.save_bytes.proofs.path.read_names.Given as goal

abbrev pub invariant-loop-at : goal.invariant-loop-at
invariant-loop-at l = record {
  read : names_from 64 l.text ≡ behind_names l.path (names_from (64 - length l.path) (drop l.at l.text));
  inside : l.at ≤ length l.text;
  few : length l.path ≤ 64;
}

abbrev pub decreases-loop-at : goal.decreases-loop-at
decreases-loop-at l = length l.text - l.at
