use Rattle.std.proofs.Common.{ℕ, ◌/◌, ◌^◌, ◌<◌, length, IsTrue, sym, ◌∙◌, arith}
use Rattle.std.proofs.lemmas.Bool.{and_parts}
use Rattle.save_bytes.specs.State.{State}
use Rattle.difi.specs.Places.{block_size}
use Rattle.ivfc_tree.specs.declared.view.IvfcView.{IvfcView}
use Rattle.ivfc_tree.specs.KnownLaws.{true-remembers}
use Rattle.ivfc_tree.specs.Held.{shown}
use Rattle.ivfc_tree.specs.ViewLaws.{HasParent, block_of_there, parent_there}
use Rattle.ivfc_tree.specs.KeepLaws.{shown_can, shown_tree}
use Rattle.ivfc_tree.proofs.ViewLemmas.{clearable, spoilt_above}
use Rattle.ivfc_tree.proofs.view.IvfcViewFloor.clear_ready.Goals as goal

-- the block of a place has its parent in the tree
parent_of_place : {S : Type 0} (states : S → State)
    (fits : (s : S) → IsTrue (states s).shape.sound → (states s).shape.size < 2 ^ 64) (view : IvfcView S)
    → IsTrue (shown states view).shape.sound → (at : ℕ) → at < view.difi.now.ivfc4.size
    → HasParent view.difi.now 3 (at / block_size view.difi.now.ivfc4)
parent_of_place states fits view sound at inside =
    parent_there (states view.base.now).shape view.difi.now (length view.master.now) 3 _
    (shown_tree states fits view sound)
    (omega arith) (block_of_there view.difi.now at inside)

pub block_size-requires : goal.block_size-requires
block_size-requires g c =
    let space = g.S.Space in
    (shown_can space.state g.met.S.Space.size_fits c.args.self.now c.requires.sound).block_sizes.ivfc4.1

pub parent_of-above-requires-clause-log : goal.parent_of-above-requires-clause-log
parent_of-above-requires-clause-log g c =
    let space = g.S.Space in
    let tree = shown_tree space.state g.met.S.Space.size_fits c.args.self.now c.requires.sound in
    (tree.levels.logs 3 (omega arith, omega arith)).1

pub parent_of-above-requires-clause-fits : goal.parent_of-above-requires-clause-fits
parent_of-above-requires-clause-fits g c =
    let space = g.S.Space in
    let fits = g.met.S.Space.size_fits in
    let levels = (shown_tree space.state fits c.args.self.now c.requires.sound).levels in
    let above = parent_of_place space.state fits c.args.self.now c.requires.sound c.args.at
    (omega (arith, c.requires.inside)) in
    rw c.block_size.ensures (omega (arith, above.inside, levels.inside 3 (omega arith, omega arith), levels.small))

pub found-requires-clause-there : goal.found-requires-clause-there
found-requires-clause-there g c =
    rw (c.parent_of-above.ensures, c.block_size.ensures)
    (parent_of_place g.S.Space.state g.met.S.Space.size_fits c.args.self.now c.requires.sound c.args.at
    (omega (arith, c.requires.inside))).parent

pub returns-in-Bad-clause-ready : goal.returns-in-Bad-clause-ready
returns-in-Bad-clause-ready g c =
    let view = c.args.self.now in
    let cells = (g.S.Space.state view.base.now).cells in
    let block = block_of_there view.difi.now c.args.at (omega (arith, c.requires.inside)) in
    record {
      done = λ told. tt;
      damaged = λ told. rw c.in-Ok.ensures.looks.hold.same_part
          (spoilt_above cells view.master.now view.difi.now view.state.now (c.args.at / block_size view.difi.now.ivfc4)
          view.part _
          (true-remembers cells view.master.now view.difi.now view.state.now (and_parts _ _ told).1).closed
          block c.in-Bad.level c.in-Bad.block
          (sym c.in-Bad.is ∙ rw (c.parent_of-above.ensures, c.block_size.ensures) at c.in-Ok.ensures.found told));
      plain = λ plain. absurd (cc);
    }

pub returns-in_default : goal.returns-in_default
returns-in_default g c =
    let view = c.args.self.now in
    let cells = (g.S.Space.state view.base.now).cells in
    record {
      ready = record {
        done = λ told. clearable cells view.master.now view.difi.now view.state.now
            (c.args.at / block_size view.difi.now.ivfc4)
            view.part _ c.in-Ok.found
            (rw (c.parent_of-above.ensures, c.block_size.ensures) at c.in-Ok.ensures.found told)
            c.in_default.not-Bad;
        damaged = λ told. tt;
        plain = λ plain. tt;
      };
      reads = c.in-Ok.ensures.reads;
    }
