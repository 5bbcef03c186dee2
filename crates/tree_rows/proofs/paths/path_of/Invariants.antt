use Rattle.std.proofs.Common.{◌≡◌, ◌≤◌, length, take}
use Rattle.std.specs.List.{All}
use Rattle.tree_rows.proofs.PathLemmas.{IsSomeName}
use Rattle.tree_rows.proofs.paths.path_of.Given as goal

abbrev pub invariant-loop-bytes : goal.invariant-loop-bytes
invariant-loop-bytes l =
    length l.names ≤ 64 → All IsSomeName l.names → l.path ≡ take l.bytes-index l.names
