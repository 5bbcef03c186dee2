use Rattle.std.proofs.Common.{length, sym, subst}
use Rattle.std.proofs.lemmas.Bool.{and_parts}
use Rattle.std.specs.Result.{result_err}
use Rattle.save_bytes.specs.State.{Shape}
use Rattle.save_bytes.proofs.WriteLemmas.{writes_after}
use Rattle.ivfc_tree.specs.Marks.{is_marked}
use Rattle.ivfc_tree.specs.Paths.{block_above, block_state}
use Rattle.ivfc_tree.specs.KnownLaws.{true-remembers}
use Rattle.ivfc_tree.specs.View.{HasTree}
use Rattle.ivfc_tree.specs.ViewLaws.{state-same}
use Rattle.ivfc_tree.specs.Readies.{PathSites}
use Rattle.ivfc_tree.proofs.FillLemmas.{done_both}
use Rattle.ivfc_tree.proofs.LearnLemmas.{made_later}
use Rattle.ivfc_tree.proofs.NameLemmas.{above_there}
use Rattle.ivfc_tree.proofs.StageLemmas.{puts_within}
use Rattle.ivfc_tree.proofs.StartLemmas.{good_start, path_ready}
use Rattle.ivfc_tree.proofs.prepare.prepare.Goals as goal

pub blank_from-requires-clause-there : goal.blank_from-requires-clause-there
blank_from-requires-clause-there g c =
    rw c.block_above-above.ensures
    (above_there (g.S.Space.state c.args.base.now).shape c.args.difi.now (length c.args.master.now) c.requires.tree 4
    c.args.block c.args.last
    c.requires.there c.requires.last.0 c.requires.last.1)

pub returns-in-Ok-clause-readied : goal.returns-in-Ok-clause-readied
returns-in-Ok-clause-readied g c = λ told unspoilt.
    let space = g.S.Space in
    let old = space.state c.args.base.now in
    let mid = space.state c.blank_from.new.base in
    let new = space.state c.prepare_path.new.base in
    let difi = c.args.difi.now in
    let master = c.args.master.now in
    let block = c.args.block in
    let last = c.args.last in
    let looked = c.blank_from.new.state in
    let marks = c.in-Ok.ensures.learns.marks in
    let known = true-remembers mid.cells master difi looked (and_parts _ _ (c.in-Ok.ensures.told told)).1 in
    let tree = c.requires.tree in
    let reads = c.in-Ok.ensures.reads in
    let base_told = (and_parts _ _ told).0 in
    let same = reads.stays.cells base_told in
    let above = above_there old.shape difi (length master) tree 4 block last c.requires.there c.requires.last.0
    c.requires.last.1 in
    let is = state-same old.shape difi master tree mid.cells old.cells same (is_marked looked)
    (is_marked c.args.state.now) marks last (block_above difi 4 block last) above in
    let from = rw c.block_above-above.ensures at (c.in-Ok.ensures.from told) in
    let good_to = good_start old.shape difi master tree mid.cells (is_marked looked) known.closed block
    c.requires.there last c.in-Ok.from c.requires.last.0
    c.requires.last.1 (block_state old.cells master difi c.args.state.now last (block_above difi 4 block last)) is
    unspoilt from in
    let later_tree : HasTree mid.shape difi (length master) =
    subst (λ (shape : Shape). HasTree shape difi (length master)) (sym reads.stays.space.shape) tree in
    done_both (result_err c.prepare_path.result)
    (λ readied marked. path_ready old.shape difi master tree block c.requires.there last c.requires.last.1 old.cells
    mid.cells new.cells same
    c.args.state.now looked c.prepare_path.new.state marks known c.prepare_path.ensures.marks marked
    (readied master later_tree good_to))
    (c.prepare_path.ensures.readied (reads.stays.space.told base_told)) c.prepare_path.ensures.marked

pub returns-in-Ok-clause-writes : goal.returns-in-Ok-clause-writes
returns-in-Ok-clause-writes g c =
    let space = g.S.Space in
    writes_after space.state space.keeps space.lands g.met.S.Space.keeps_join g.met.S.Space.keeps_hold
    (PathSites c.args.difi.now c.args.block) c.args.base.now c.blank_from.new.base c.prepare_path.new.base
    (result_err c.prepare_path.result)
    c.in-Ok.ensures.reads c.prepare_path.ensures.writes

pub prepare_path-requires-clause-made : goal.prepare_path-requires-clause-made
prepare_path-requires-clause-made g c =
    made_later c.args.difi.now c.args.state.now c.blank_from.new.state c.in-Ok.ensures.learns.many c.requires.made

pub returns-in-Ok-clause-marks : goal.returns-in-Ok-clause-marks
returns-in-Ok-clause-marks g c =
    let learns = c.in-Ok.ensures.learns in
    puts_within c.args.difi.now c.args.block c.args.last c.args.state.now c.blank_from.new.state
    c.prepare_path.new.state learns.marks learns.many
    c.prepare_path.ensures.marks
