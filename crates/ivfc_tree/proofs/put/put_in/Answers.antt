use Rattle.std.proofs.Common.{◌≡◌, ◌+◌, length, sym, ap, subst, arith}
use Rattle.std.proofs.lemmas.Bool.{and_parts}
use Rattle.std.specs.Result.{result_err}
use Rattle.save_bytes.specs.State.{Shape, IsWritable}
use Rattle.save_bytes.specs.Writes.{IsWithin}
use Rattle.save_bytes.proofs.SpaceLemmas.{IfDone-both}
use Rattle.save_bytes.proofs.WriteLemmas.{Writes-wider, Writes-join}
use Rattle.difi.specs.declared.places.LevelPlace.{LevelPlace}
use Rattle.ivfc_tree.specs.Levels.{level_of}
use Rattle.ivfc_tree.specs.ViewLaws.{level4_size}
use Rattle.ivfc_tree.specs.Readies.{RangeSites}
use Rattle.ivfc_tree.proofs.ContentsLemmas.{range_writable, range_sites, puts_contents}
use Rattle.ivfc_tree.proofs.put.put_in.Goals as goal

pub overflow_add-level_of : goal.overflow_add-level_of
overflow_add-level_of g c =
    let place = ap (λ (level : LevelPlace). level.at) c.level_of.ensures in
    let inside = c.requires.tree.levels.inside 4 (omega arith, omega arith) in
    omega (arith, place, c.requires.inside, level4_size c.args.difi.now, inside, c.requires.tree.levels.small)

pub put_bytes-requires-clause-writable : goal.put_bytes-requires-clause-writable
put_bytes-requires-clause-writable g c =
    let old = g.S.Space.state c.args.base.now in
    let n = length c.args.bytes.now in
    rw c.level_of.ensures
    (subst (λ (shape : Shape). IsWritable shape ((level_of c.args.difi.now 4).at + c.args.at) n)
    (sym c.in-Ok.ensures.writes.space.shape)
    (range_writable old.shape c.args.difi.now (length c.args.master.now) c.args.at n c.requires.tree c.requires.inside))

pub returns-in-Ok-clause-puts : goal.returns-in-Ok-clause-puts
returns-in-Ok-clause-puts g c = λ told ready.
    let space = g.S.Space in
    let old = space.state c.args.base.now in
    let mid = space.state c.prepare_range.new.base in
    let new = space.state c.put_bytes.new.base in
    let difi = c.args.difi.now in
    let at = c.args.at in
    let bytes = c.args.bytes.now in
    let writes = c.in-Ok.ensures.writes in
    let mid_told = writes.space.told (and_parts _ _ told).0 in
    let size : mid.shape.size ≡ old.shape.size = ap (λ (shape : Shape). shape.size) writes.space.shape in
    let place = ap (λ (level : LevelPlace). level.at) c.level_of.ensures in
    let range = c.in-Ok.ensures.readied told ready in
    IfDone-both (result_err c.put_bytes.result)
    (λ are others. puts_contents old difi c.args.master.now c.requires.tree at bytes c.requires.inside mid.cells
    new.cells c.args.state.now
    c.prepare_range.new.state range (rw place at are) (λ x below out. others x (omega (arith, below, size))
    (rw place out)))
    (c.put_bytes.ensures.bytes mid_told) (c.put_bytes.ensures.writes.others mid_told)

pub returns-in-Ok-clause-writes : goal.returns-in-Ok-clause-writes
returns-in-Ok-clause-writes g c =
    let space = g.S.Space in
    let difi = c.args.difi.now in
    let at = c.args.at in
    let n = length c.args.bytes.now in
    let place = ap (λ (level : LevelPlace). level.at) c.level_of.ensures in
    let refusal = result_err c.put_bytes.result in
    Writes-join space.state space.keeps space.lands g.met.S.Space.keeps_join (RangeSites difi at n) c.args.base.now
    c.prepare_range.new.base
    c.put_bytes.new.base refusal c.in-Ok.ensures.writes
    (Writes-wider space.state space.keeps space.lands (IsWithin (c.level_of.result.at + at) n) (RangeSites difi at n)
    c.prepare_range.new.base
    c.put_bytes.new.base refusal (λ told x below site. range_sites difi at n c.requires.inside x (rw place at site))
    c.put_bytes.ensures.writes)
