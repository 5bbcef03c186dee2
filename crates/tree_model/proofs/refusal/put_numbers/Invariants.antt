use Rattle.std.proofs.Common.{◌≡◌, ◌≤◌, ◌+◌, ◌*◌, ◌++◌, take}
use Rattle.std.specs.List.{flat_map}
use Rattle.arrayvec.specs.ArrayVec.{array_vec_len}
use Rattle.tree_model.specs.Lines.{number_text}
use Rattle.tree_model.proofs.refusal.put_numbers.Given as goal

abbrev pub invariant-loop-number : goal.invariant-loop-number
invariant-loop-number l = record {
  text : l.out.items ≡ l.fn.out.items ++ flat_map number_text (take l.number-index l.numbers);
  room : array_vec_len l.out ≤ array_vec_len l.fn.out + 21 * l.number-index;
}
