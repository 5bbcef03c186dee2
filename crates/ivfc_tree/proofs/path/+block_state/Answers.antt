use Rattle.std.proofs.Common.{◌≡◌, suc, ◌-◌, ◌<◌, sym, ◌∙◌, arith}
use Rattle.std.specs.Result.{result_err}
use Rattle.save_bytes.proofs.SpaceLemmas.{Stays-same}
use Rattle.save_bytes.proofs.CallLemmas.{Reads-join}
use Rattle.ivfc_tree.proofs.LevelLemmas.{parent_of_there}
use Rattle.ivfc_tree.proofs.LearnLemmas.{finds_said, finds_fault, finds_failed, finds_look, finds_top, made_later}
use Rattle.ivfc_tree.proofs.path.+block_state.Goals as goal

pub returns-in-Some-clause-finds : goal.returns-in-Some-clause-finds
returns-in-Some-clause-finds g t c =
    finds_said (g.S.Space.state c.args.base.now) c.args.master.now c.args.difi.now c.requires.tree c.args.state.now
    c.args.level
    c.args.block
    c.requires.there.in_tree.0 c.requires.there c.in-Some.found (sym c.recall.ensures ∙ c.in-Some.is)

pub returns-then-level-eq1-clause-finds : goal.returns-then-level-eq1-clause-finds
returns-then-level-eq1-clause-finds g t c =
    let base = g.S.Space.state c.args.base.now in
    let difi = c.args.difi.now in
    let state = c.args.state.now in
    let next : c.args.level ≡ suc 0 = omega (arith, c.if-level-eq1.true) in
    finds_look base c.args.master.now difi c.requires.tree state c.args.level c.args.block 0 next
    (sym c.recall.ensures ∙ c.in_default.is) base state (finds_top base c.args.master.now difi c.requires.tree state _)
    (g.S.Space.state c.look.new.base) c.look.new.state (Stays-same base) c.requires.there c.look.result
    c.look.ensures.reads.stays
    c.look.ensures.plain c.look.ensures.looks

pub returns-in-Err-clause-finds : goal.returns-in-Err-clause-finds
returns-in-Err-clause-finds g t c =
    let next : c.args.level ≡ suc (c.args.level - 1) = omega (arith, c.requires.there.in_tree.0) in
    finds_failed (g.S.Space.state c.args.base.now) c.args.master.now c.args.difi.now c.requires.tree c.args.state.now
    c.args.level
    c.args.block (c.args.level - 1) next
    (sym c.recall.ensures ∙ c.in_default.is) (g.S.Space.state c.block_state.new.base) c.block_state.new.state
    c.in-Err.bad
    c.in-Err.ensures.plain
    (rw c.parent_of-above.ensures at c.in-Err.ensures.finds)

pub look-requires-in-Good-clause-made : goal.look-requires-in-Good-clause-made
look-requires-in-Good-clause-made g t c =
    made_later c.args.difi.now c.args.state.now c.block_state.new.state c.in-Ok.ensures.finds.learns.many
    c.requires.made

pub returns-in-Good-clause-finds : goal.returns-in-Good-clause-finds
returns-in-Good-clause-finds g t c =
    let next : c.args.level ≡ suc (c.args.level - 1) = omega (arith, c.requires.there.in_tree.0) in
    finds_look (g.S.Space.state c.args.base.now) c.args.master.now c.args.difi.now c.requires.tree c.args.state.now
    c.args.level
    c.args.block (c.args.level - 1) next
    (sym c.recall.ensures ∙ c.in_default.is) (g.S.Space.state c.block_state.new.base) c.block_state.new.state
    (rw (c.parent_of-above.ensures, c.in-Good.is) at c.in-Ok.ensures.finds)
    (g.S.Space.state c.look-in-Good.new.base) c.look-in-Good.new.state c.in-Ok.ensures.reads.stays c.requires.there
    c.look-in-Good.result c.look-in-Good.ensures.reads.stays c.look-in-Good.ensures.plain c.look-in-Good.ensures.looks

pub returns-in-Good-clause-reads : goal.returns-in-Good-clause-reads
returns-in-Good-clause-reads g t c =
    let space = g.S.Space in
    Reads-join space.state space.keeps space.lands g.met.S.Space.keeps_join c.args.base.now c.block_state.new.base
    c.look-in-Good.new.base
    (result_err c.look-in-Good.result) c.in-Ok.ensures.reads c.look-in-Good.ensures.reads

pub returns-in_default-found : goal.returns-in_default-found
returns-in_default-found g t c =
    let next : c.args.level ≡ suc (c.args.level - 1) = omega (arith, c.requires.there.in_tree.0) in
    record {
      finds = finds_fault (g.S.Space.state c.args.base.now) c.args.master.now c.args.difi.now c.requires.tree
          c.args.state.now
          c.args.level
          c.args.block (c.args.level - 1) next
          (sym c.recall.ensures ∙ c.in_default.is) (g.S.Space.state c.block_state.new.base) c.block_state.new.state
          c.in-Ok.found
          c.in_default-found.not-Good (rw c.parent_of-above.ensures at c.in-Ok.ensures.finds);
      plain = c.in-Ok.ensures.plain;
      reads = c.in-Ok.ensures.reads;
    }

pub block_state-requires : goal.block_state-requires
block_state-requires g t c κs within =
    let below : 1 < c.args.level = omega (arith, c.if-level-eq1.false, c.requires.there.in_tree.0) in
    let parent = parent_of_there (g.S.Space.state c.args.base.now).shape c.args.difi.now _ c.args.level c.args.block
    c.requires.tree below c.requires.there in (
      omega (arith, c.decreases, c.requires.there.in_tree.0),
      (within, (c.requires.tree, (rw c.parent_of-above.ensures parent, c.requires.made))),
    )
