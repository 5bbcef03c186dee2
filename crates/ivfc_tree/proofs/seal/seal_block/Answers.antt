use Rattle.std.proofs.Common.{◌≡◌, ◌<◌, ◌+◌, ◌*◌, ℕ, length, sym, ◌∙◌, ap, arith}
use Rattle.std.specs.Result.{result_err}
use Rattle.sha2.specs.Sha256.{sha256}
use Rattle.save_bytes.specs.State.{Shape}
use Rattle.save_bytes.specs.Writes.{IsWithin}
use Rattle.save_bytes.proofs.SpaceLemmas.{IfDone-both}
use Rattle.save_bytes.proofs.WriteLemmas.{Writes-wider, writes_after}
use Rattle.difi.specs.declared.places.LevelPlace.{LevelPlace}
use Rattle.ivfc_tree.specs.ViewLaws.{block-same}
use Rattle.ivfc_tree.specs.Seals.{IsInEntry}
use Rattle.ivfc_tree.proofs.HashLemmas.{hash_entry-first}
use Rattle.ivfc_tree.proofs.SealStepLemmas.{sealed_entry}
use Rattle.ivfc_tree.proofs.seal.seal_block.Goals as goal

pub returns-then-level-eq1-clause-entry : goal.returns-then-level-eq1-clause-entry
returns-then-level-eq1-clause-entry g c = λ told.
    let old = g.S.Space.state c.args.base.now in
    let mid = g.S.Space.state c.block_digest.new.base in
    let stays = c.in-Ok.ensures.reads.stays in
    let block = block-same old.shape c.args.difi.now c.requires.tree.levels mid.cells old.cells (stays.cells told)
    c.args.level c.args.block c.requires.there.in_tree in
    sym (hash_entry-first mid.cells c.put_first.new.master c.args.difi.now c.args.level c.args.block
    c.if-level-eq1.true
    c.in-Ok.digest (sym c.put_first.ensures.entry)) ∙ c.in-Ok.ensures.digest told ∙ ap sha256 (sym block)

pub returns-clause-entry : goal.returns-clause-entry
returns-clause-entry g c = λ told.
    let old = g.S.Space.state c.args.base.now in
    let mid = g.S.Space.state c.block_digest.new.base in
    let new = g.S.Space.state c.put_bytes.new.base in
    let reads = c.in-Ok.ensures.reads in
    let told_mid = reads.stays.space.told told in
    let size = ap (λ (shape : Shape). shape.size) reads.stays.space.shape in
    let place = ap (λ (level : LevelPlace). level.at + 32 * c.args.block) c.level_of.ensures in
    let below : 1 < c.args.level = omega (arith, c.if-level-eq1.false, c.requires.there.in_tree.0) in
    IfDone-both (result_err c.put_bytes.result)
    (λ bytes. λ stays.
    sealed_entry old.shape c.args.difi.now _ c.requires.tree c.args.level c.args.block c.requires.there old.cells
    mid.cells
    new.cells c.args.master.now c.in-Ok.digest (c.level_of.result.at + 32 * c.args.block) below place (omega arith)
    (reads.stays.cells told) (λ x inside. stays x (omega (arith, inside, size))) (c.in-Ok.ensures.digest told) bytes)
    (c.put_bytes.ensures.bytes told_mid) (c.put_bytes.ensures.writes.others told_mid)

pub returns-clause-writes : goal.returns-clause-writes
returns-clause-writes g c =
    let space = g.S.Space in
    let place = ap (λ (level : LevelPlace). level.at + 32 * c.args.block) c.level_of.ensures in
    let below : 1 < c.args.level = omega (arith, c.if-level-eq1.false, c.requires.there.in_tree.0) in
    let at : ℕ = c.level_of.result.at + 32 * c.args.block in
    let long : length c.in-Ok.digest ≡ 32 = omega arith in
    let refusal = result_err c.put_bytes.result in
    let sites = IsInEntry c.args.difi.now c.args.level c.args.block in
    writes_after space.state space.keeps space.lands g.met.S.Space.keeps_join g.met.S.Space.keeps_hold sites
    c.args.base.now c.block_digest.new.base c.put_bytes.new.base refusal c.in-Ok.ensures.reads
    (Writes-wider space.state space.keeps space.lands (IsWithin at (length c.in-Ok.digest)) sites
    c.block_digest.new.base
    c.put_bytes.new.base refusal
    (λ told x inside within. (below, (omega (arith, place, within.0), omega (arith, place, long, within.1))))
    c.put_bytes.ensures.writes)
