use Rattle.std.proofs.Common.{◌≡◌, ◌<◌, ◌≤◌, ℕ, true, max, None, Some, refl, sym, ◌∙◌, ap, subst, arith, ⊎_elim}
use Rattle.std.proofs.lemmas.Bool.{cases_lt}
use Rattle.save_bytes.specs.State.{Shape}
use Rattle.save_bytes.proofs.WriteLemmas.{Writes-wider, Writes-join, Writes-read}
use Rattle.save_bytes.proofs.CallLemmas.{Reads-same}
use Rattle.ivfc_tree.specs.Marks.{is_put, is_marked, MarksBlock}
use Rattle.ivfc_tree.specs.Paths.{block_above}
use Rattle.ivfc_tree.specs.Eases.{IsGoodTo}
use Rattle.ivfc_tree.specs.Readies.{PathSites}
use Rattle.ivfc_tree.proofs.LearnLemmas.{made_later}
use Rattle.ivfc_tree.proofs.NameLemmas.{above_there}
use Rattle.ivfc_tree.proofs.ReadyLemmas.{prepares_same}
use Rattle.ivfc_tree.proofs.StageLemmas.{PutsPath-same, puts_more, block_sites, stage}
use Rattle.ivfc_tree.proofs.prepare.prepare_path.Goals as goal

pub loop-level-init : goal.loop-level-init
loop-level-init g c =
    let space = g.S.Space in
    let base = space.state c.args.base.now in
    record {
      readied = λ told master tree good_to.
          (let start : c.args.from ≡ max c.args.from 1 = omega (arith, good_to.some) in (
            subst (λ (f : ℕ). IsGoodTo base.cells master c.args.difi.now (is_marked c.args.state.now) c.args.block
                c.args.last f) start good_to,
            λ at n fits met. prepares_same base.shape c.args.difi.now master tree at n base.cells base.cells _ _
                (λ level block there. refl)
                (λ x below. refl) (λ level block is. is),
          ));
      marked = λ level some below. absurd (omega (arith, some, below));
      marks = PutsPath-same c.args.difi.now c.args.block c.args.last c.args.state.now;
      writes = Writes-read space.state space.keeps space.lands (PathSites c.args.difi.now c.args.block)
          c.args.base.now c.args.base.now None
          (g.met.S.Space.keeps_hold c.args.base.now c.args.base.now) tt
          (Reads-same space.state space.keeps space.lands g.met.S.Space.keeps_same c.args.base.now);
    }

pub prepare_block-requires-clause-made : goal.prepare_block-requires-clause-made
prepare_block-requires-clause-made g c = made_later c.args.difi.now c.args.state.now c.loop-level.state
    c.loop-level.invariant.marks.many c.requires.made

pub prepare_block-requires-clause-there : goal.prepare_block-requires-clause-there
prepare_block-requires-clause-there g c =
    rw c.block_above-above.ensures
    (above_there (g.S.Space.state c.args.base.now).shape c.args.difi.now c.requires.tree.0 c.requires.tree.1 4
    c.args.block c.loop-level.level
    c.requires.there c.loop-level.auto.level (omega (arith, c.requires.last.1, c.loop-level-test.true)))

pub returns-in-Err-clause-writes : goal.returns-in-Err-clause-writes
returns-in-Err-clause-writes g c =
    let space = g.S.Space in
    let base = space.state c.args.base.now in
    let level = c.loop-level.level in
    let above = above_there base.shape c.args.difi.now c.requires.tree.0 c.requires.tree.1 4 c.args.block level
    c.requires.there
    c.loop-level.auto.level (omega (arith, c.requires.last.1, c.loop-level-test.true)) in
    let sites = block_sites base.shape c.args.difi.now c.args.block level c.requires.tree.1.levels above in
    Writes-join space.state space.keeps space.lands g.met.S.Space.keeps_join (PathSites c.args.difi.now c.args.block)
    c.args.base.now
    c.loop-level.base c.prepare_block.new.base (Some c.in-Err.bad) c.loop-level.invariant.writes
    (Writes-wider space.state space.keeps space.lands _ (PathSites c.args.difi.now c.args.block) c.loop-level.base
    c.prepare_block.new.base
    (Some c.in-Err.bad) (λ told x below site. sites x (rw c.block_above-above.ensures at site)) c.in-Err.ensures.writes)

pub loop-level-preserved : goal.loop-level-preserved
loop-level-preserved g c =
    let space = g.S.Space in
    let base = space.state c.args.base.now in
    let difi = c.args.difi.now in
    let block = c.args.block in
    let last = c.args.last in
    let level = c.loop-level.level in
    let before = c.loop-level.invariant in
    let some : 1 ≤ level = c.loop-level.auto.level in
    let within : level ≤ last = omega (arith, c.loop-level-test.true) in
    let above = above_there base.shape difi c.requires.tree.0 c.requires.tree.1 4 block level c.requires.there some
    (omega (arith, c.requires.last.1, within)) in
    let sites = block_sites base.shape difi block level c.requires.tree.1.levels above in
    let size : (space.state c.loop-level.base).shape.size ≡ base.shape.size = ap (λ (shape : Shape). shape.size)
    before.writes.space.shape in
    let marks : MarksBlock level (block_above difi 4 block level) c.loop-level.state c.prepare_block.new.state =
    rw c.block_above-above.ensures at c.in-Ok.ensures.marks in
    record {
      readied = λ told master tree good_to.
          stage base.shape difi master tree block c.requires.there base.cells (space.state c.loop-level.base).cells
          (space.state c.prepare_block.new.base).cells (is_marked c.args.state.now) (is_marked c.loop-level.state)
          (is_marked c.prepare_block.new.state) c.args.from last level c.requires.last.1 some within
          (before.readied told master tree good_to)
          (rw (c.block_above-above.ensures, size) at c.in-Ok.ensures.readied (before.writes.space.told told));
      marked = λ j some_j below.
          ⊎_elim
          (λ (higher : j < level).
          ap is_put (marks.0.others j _ (λ at. absurd (omega (arith, at, higher)))) ∙ before.marked j some_j higher)
          (λ (last_one : level ≤ j).
          (let same : j ≡ level = omega (arith, last_one, below) in
          subst (λ (m : ℕ). is_marked c.prepare_block.new.state m (block_above difi 4 block m) ≡ true) (sym same)
          (ap is_put marks.0.here)))
          (cases_lt j level);
      marks = puts_more difi block last level c.args.state.now c.loop-level.state c.prepare_block.new.state
          above.in_tree within before.marks marks;
      writes = Writes-join space.state space.keeps space.lands g.met.S.Space.keeps_join (PathSites difi block)
          c.args.base.now
          c.loop-level.base c.prepare_block.new.base None before.writes
          (Writes-wider space.state space.keeps space.lands _ (PathSites difi block) c.loop-level.base
          c.prepare_block.new.base None
          (λ told x below site. sites x (rw c.block_above-above.ensures at site)) c.in-Ok.ensures.writes);
    }

pub returns-clause-readied : goal.returns-clause-readied
returns-clause-readied g c = λ told master tree good_to. (c.loop-level.invariant.readied told master tree good_to).1
