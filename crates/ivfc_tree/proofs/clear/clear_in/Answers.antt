use Rattle.std.proofs.Common.{◌≡◌, ℕ, sym, ap, subst}
use Rattle.std.proofs.lemmas.Bool.{and_parts}
use Rattle.std.specs.Result.{result_err}
use Rattle.save_bytes.specs.State.{Shape}
use Rattle.save_bytes.specs.Writes.{IsWithin}
use Rattle.save_bytes.proofs.WriteLemmas.{Writes-wider, Writes-join}
use Rattle.ivfc_tree.specs.Levels.{HasBlock, block_begin, len_of}
use Rattle.ivfc_tree.specs.Marks.{MarksBlock}
use Rattle.ivfc_tree.specs.Eases.{ZeroesBlock}
use Rattle.ivfc_tree.specs.Readies.{PathSites}
use Rattle.ivfc_tree.proofs.PathLemmas.{block_above-here}
use Rattle.ivfc_tree.proofs.LearnLemmas.{made_later}
use Rattle.ivfc_tree.proofs.FillLemmas.{done_both, done_of}
use Rattle.ivfc_tree.proofs.StageLemmas.{block_sites}
use Rattle.ivfc_tree.proofs.ClearLemmas.{clears_contents, marks_cleared}
use Rattle.ivfc_tree.proofs.clear.clear_in.Goals as goal

pub zero_and_mark-requires-clause-made : goal.zero_and_mark-requires-clause-made
zero_and_mark-requires-clause-made g c =
    made_later c.args.difi.now c.args.state.now c.prepare.new.state c.in-Ok.ensures.marks.many c.requires.made

pub returns-in-Ok-clause-clears : goal.returns-in-Ok-clause-clears
returns-in-Ok-clause-clears g c = λ told unspoilt.
    let space = g.S.Space in
    let old = space.state c.args.base.now in
    let mid = space.state c.prepare.new.base in
    let new = space.state c.zero_and_mark.new.base in
    let writes = c.in-Ok.ensures.writes in
    let size : mid.shape.size ≡ old.shape.size = ap (λ (shape : Shape). shape.size) writes.space.shape in
    let path = c.in-Ok.ensures.readied told unspoilt in
    done_both (result_err c.zero_and_mark.result)
    (λ (zeroed : ZeroesBlock mid.shape.size c.args.difi.now 4 c.args.block mid.cells new.cells)
    (marks : MarksBlock 4 c.args.block c.prepare.new.state c.zero_and_mark.new.state).
    clears_contents old c.args.difi.now c.args.master.now c.requires.tree c.args.block c.requires.there mid.cells
    new.cells c.args.state.now
    c.prepare.new.state c.zero_and_mark.new.state path (rw size at zeroed) marks)
    (c.zero_and_mark.ensures.zeroed (writes.space.told (and_parts _ _ told).0))
    (done_of (MarksBlock 4 c.args.block c.prepare.new.state c.zero_and_mark.new.state)
    (λ bad. c.zero_and_mark.new.state ≡ c.prepare.new.state) c.zero_and_mark.result c.zero_and_mark.ensures.marks)

pub returns-in-Ok-clause-marks : goal.returns-in-Ok-clause-marks
returns-in-Ok-clause-marks g c =
    marks_cleared c.args.difi.now c.args.block c.args.state.now c.prepare.new.state c.zero_and_mark.new.state
    c.zero_and_mark.result
    c.zero_and_mark.ensures.marks c.in-Ok.ensures.marks

pub returns-in-Ok-clause-writes : goal.returns-in-Ok-clause-writes
returns-in-Ok-clause-writes g c =
    let space = g.S.Space in
    let difi = c.args.difi.now in
    let block = c.args.block in
    let refusal = result_err c.zero_and_mark.result in
    let here = block_above-here difi 3 block in
    let there = subst (λ (b : ℕ). HasBlock difi 4 b) (sym here) c.requires.there in
    let sites = block_sites (space.state c.args.base.now).shape difi block 4 c.requires.tree.levels there in
    Writes-join space.state space.keeps space.lands g.met.S.Space.keeps_join (PathSites difi block) c.args.base.now
    c.prepare.new.base
    c.zero_and_mark.new.base refusal c.in-Ok.ensures.writes
    (Writes-wider space.state space.keeps space.lands (IsWithin (block_begin difi 4 block) (len_of difi 4 block))
    (PathSites difi block)
    c.prepare.new.base c.zero_and_mark.new.base refusal
    (λ told x below site. sites x
    (subst (λ (b : ℕ). IsWithin (block_begin difi 4 b) (len_of difi 4 b) x) (sym here) site))
    c.zero_and_mark.ensures.writes)
