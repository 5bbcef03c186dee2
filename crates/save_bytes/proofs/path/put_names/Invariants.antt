use Rattle.std.proofs.Common.{◌≡◌, ◌≤◌, ◌*◌, ◌∷◌, take}
use Rattle.std.specs.List.{flat_map}
use Rattle.arrayvec.specs.ArrayVec.{array_vec_len}
use Rattle.save_bytes.specs.Paths.{name_text}
use Rattle.save_bytes.proofs.path.put_names.Given as goal

abbrev pub invariant-loop-name : goal.invariant-loop-name
invariant-loop-name l = record {
  text : l.out.items ≡ flat_map (λ name. 47 ∷ name_text name.0) (take l.name-index l.names);
  room : array_vec_len l.out ≤ 65 * l.name-index;
}
