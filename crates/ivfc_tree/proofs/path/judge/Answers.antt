use Rattle.std.proofs.Common.{None, Some, ◌∙◌, ap}
use Rattle.sha2.specs.Sha256.{sha256}
use Rattle.save_bytes.proofs.CallLemmas.{Reads-join}
use Rattle.ivfc_tree.specs.ViewLaws.{block-same}
use Rattle.ivfc_tree.proofs.path.judge.Goals as goal

pub returns-in-Ok-block_digest-clause-state : goal.returns-in-Ok-block_digest-clause-state
returns-in-Ok-block_digest-clause-state g c = λ told.
    let old = g.S.Space.state c.args.base.now in
    let mid = g.S.Space.state c.entry_of.new.base in
    let stays = c.in-Ok.ensures.reads.stays in
    let block = block-same old.shape c.args.difi.now c.requires.tree.levels mid.cells old.cells (stays.cells told)
    c.args.level c.args.block
    c.requires.there.in_tree in
    let digest = c.in-Ok-block_digest.ensures.digest (stays.space.told told) ∙ ap sha256 block in
    rw (← c.in-Ok.ensures.entry told, ← digest) c.compare.ensures.judged

pub returns-in-Ok-block_digest-clause-reads : goal.returns-in-Ok-block_digest-clause-reads
returns-in-Ok-block_digest-clause-reads g c =
    let space = g.S.Space in
    Reads-join space.state space.keeps space.lands g.met.S.Space.keeps_join c.args.base.now c.entry_of.new.base
    c.block_digest.new.base None
    c.in-Ok.ensures.reads c.in-Ok-block_digest.ensures.reads

pub returns-in-Err-block_digest-clause-reads : goal.returns-in-Err-block_digest-clause-reads
returns-in-Err-block_digest-clause-reads g c =
    let space = g.S.Space in
    Reads-join space.state space.keeps space.lands g.met.S.Space.keeps_join c.args.base.now c.entry_of.new.base
    c.block_digest.new.base
    (Some c.in-Err-block_digest.bad) c.in-Ok.ensures.reads c.in-Err-block_digest.ensures.reads
