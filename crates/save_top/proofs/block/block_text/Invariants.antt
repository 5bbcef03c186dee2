use Rattle.std.proofs.Common.{◌≡◌, ◌++◌}
use Rattle.std.specs.Slice.Iter.{chunks_rest, chunks_size}
use Rattle.save_top.specs.Texts.{block_text}
use Rattle.save_top.proofs.Blocks.{lines_of}
use Rattle.save_top.proofs.block.block_text.Given as goal

abbrev pub invariant-loop-piece : goal.invariant-loop-piece
invariant-loop-piece l =
    goal.iterator-loop-piece.can_next l.piece-iterator
    × goal.iterator-loop-piece.is_finite l.piece-iterator
    × (chunks_size l.piece-iterator ≡ 32)
    × (l.text.items ++ lines_of (chunks_rest l.piece-iterator) ≡ block_text l.part l.block l.bytes)
