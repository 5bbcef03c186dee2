use Rattle.std.proofs.Common.{[], sym, ◌∙◌, ap}
use Rattle.sha2.specs.Sha256.{sha256}
use Rattle.ivfc_tree.proofs.HashLemmas.{padded_block-is}
use Rattle.ivfc_tree.proofs.LevelLemmas.{block_placed}
use Rattle.ivfc_tree.proofs.hashing.block_digest.Goals as goal

pub returns-clause-digest : goal.returns-clause-digest
returns-clause-digest g c = λ told.
    let base = g.S.Space.state c.args.base.now in
    let placed = block_placed base.shape c.args.difi.now c.args.level c.args.block c.requires.levels c.requires.there in
    let is = padded_block-is base.cells c.args.difi.now c.args.level c.args.block placed.begins in
    let zeros = c.hash_zeros.ensures _ (c.in_ok-hash_range.ensures.hashed told [] c.new-hasher.ensures) in
    c.finalize.ensures _ zeros ∙ ap sha256 (rw (c.min-len.ensures, c.block_size-size.ensures, c.level_of-place.ensures)
    (sym is))
