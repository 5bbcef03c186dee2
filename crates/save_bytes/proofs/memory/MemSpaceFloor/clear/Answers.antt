use Rattle.std.proofs.Common.{ℕ, ◌-◌, ◌*◌, ◌/◌, min, length, replicate, refl, arith}
use Rattle.std.proofs.lemmas.List.{length-replicate}
use Rattle.save_bytes.proofs.MemoryLemmas.{bytes_put, bytes_moved, block_cleared}
use Rattle.save_bytes.proofs.memory.MemSpaceFloor.clear.Goals as goal

pub returns-clause-puts : goal.returns-clause-puts
returns-clause-puts c =
    let s = c.args.self.now in
    bytes_put s.bytes.now _ _ c.zero_part.new.bytes
    (block_cleared s.bytes.now c.zero_part.new.bytes s.block c.args.at _ _ (omega arith)
    c.block_of-start.ensures.start c.block_of-start.ensures.len c.zero_part.ensures) s.block

pub returns-clause-moves : goal.returns-clause-moves
returns-clause-moves c =
    let s = c.args.self.now in
    let len : ℕ = min s.block (length s.bytes.now - c.args.at / s.block * s.block) in
    bytes_moved _ _ (c.args.at / s.block * s.block) len (replicate len 0) (length-replicate len 0) refl refl
    (block_cleared s.bytes.now c.zero_part.new.bytes s.block c.args.at _ _ (omega arith)
    c.block_of-start.ensures.start c.block_of-start.ensures.len c.zero_part.ensures)
