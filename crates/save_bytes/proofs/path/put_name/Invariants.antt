use Rattle.std.proofs.Common.{◌≡◌, ◌≤◌, ◌+◌, ◌*◌, ◌++◌, ◌∷◌, take}
use Rattle.std.specs.List.{flat_map}
use Rattle.arrayvec.specs.ArrayVec.{array_vec_len}
use Rattle.save_bytes.specs.Paths.{byte_text}
use Rattle.save_bytes.proofs.path.put_name.Given as goal

abbrev pub invariant-loop-byte : goal.invariant-loop-byte
invariant-loop-byte l = record {
  text : l.out.items ≡ l.fn.out.items ++ (47 ∷ flat_map byte_text (take l.byte-index l.byte-items));
  room : array_vec_len l.out ≤ array_vec_len l.fn.out + 1 + 4 * l.byte-index;
}
