use Rattle.std.proofs.Common.{◌+◌, None, arith}
use Rattle.save_bytes.proofs.CellLemmas.{bytes_in-append, bytes_in-same}
use Rattle.save_bytes.proofs.CallLemmas.{Reads-join, Reads-same}
use Rattle.ivfc_tree.proofs.HashLemmas.{takes_none, takes_more}
use Rattle.ivfc_tree.proofs.hashing.hash_range.Goals as goal

pub loop-done-init : goal.loop-done-init
loop-done-init g c =
    let space = g.S.Space in
    record {
      within = omega arith;
      hashed = λ told. takes_none (space.state c.args.base.now).cells c.args.at c.args.hasher.now;
      reads = Reads-same space.state space.keeps space.lands g.met.S.Space.keeps_same c.args.base.now;
    }

pub loop-done-preserved : goal.loop-done-preserved
loop-done-preserved g c =
    let space = g.S.Space in
    let old = (space.state c.args.base.now).cells in
    let mid = (space.state c.loop-done.base).cells in
    let before = c.loop-done.invariant in
    let piece = c.in_ok-done.ensures in
    let done = c.loop-done.done in
    let n = c.in_ok-done.field-0 in
    record {
      within = omega (arith, piece.count);
      hashed = λ told.
          (let stays = before.reads.stays in
          let same = bytes_in-same mid old (c.args.at + done) (c.args.at + done) n
          (λ k h. stays.cells told (c.args.at + done + k) (omega (arith, h, piece.count, c.requires.inside.inside))) in
          rw (bytes_in-append old c.args.at done n, ← same)
          (takes_more c.args.hasher.now c.loop-done.hasher c.hash_piece.new.hasher _ _
          (before.hashed told) (piece.hashed (stays.space.told told))));
      reads = Reads-join space.state space.keeps space.lands g.met.S.Space.keeps_join c.args.base.now c.loop-done.base
          c.hash_piece.new.base None
          before.reads piece.reads;
    }
