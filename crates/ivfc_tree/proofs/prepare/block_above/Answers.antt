use Rattle.std.proofs.Common.{◌≡◌, ◌-◌, ◌*◌, ◌^◌, ◌<◌, ◌≤◌, ℕ, suc, sym, ◌∙◌, ap, subst, arith}
use Rattle.difi.specs.declared.descriptor.Difi.{Difi}
use Rattle.save_bytes.specs.State.{Shape}
use Rattle.ivfc_tree.specs.Levels.{HasBlock, level_of, parent_of}
use Rattle.ivfc_tree.specs.Paths.{block_above}
use Rattle.ivfc_tree.specs.View.{HasTree}
use Rattle.ivfc_tree.specs.ViewLaws.{parent_there}
use Rattle.ivfc_tree.proofs.NameLemmas.{block_above-parent}
use Rattle.ivfc_tree.proofs.PathLemmas.{block_above-here}
use Rattle.ivfc_tree.proofs.prepare.block_above.Goals as goal

-- one step up the path
record IsUp (difi : Difi) (block upper : ℕ) (above : ℕ) : Type 0 where
  log : (level_of difi upper).log ≤ 16
  fits : 32 * above < 2 ^ 64
  is : parent_of difi upper above ≡ block_above difi 4 block upper
  there : HasBlock difi upper (parent_of difi upper above)

up : (base : Shape) (difi : Difi) (master_len block upper below above : ℕ) → HasTree base difi master_len → 1 ≤ upper
    → below ≡ suc upper
    → below ≤ 4 → above ≡ block_above difi 4 block below → HasBlock difi below above → IsUp difi block upper above
up base difi master_len block upper below above tree some next deep is there =
    let here = subst (λ (n : ℕ). HasBlock difi n above) next there in
    let parent = parent_there base difi master_len upper above tree some here in
    record {
      log = (tree.levels.logs upper parent.parent.in_tree).1;
      fits = omega (arith, parent.inside, tree.levels.inside upper parent.parent.in_tree, tree.levels.small);
      is = ap (λ (b : ℕ). parent_of difi upper b) (is ∙ ap (λ (n : ℕ). block_above difi 4 block n) next)
          ∙ block_above-parent difi 4 block upper some (omega (arith, next, deep));
      there = parent.parent;
    }

pub loop-upper-init : goal.loop-upper-init
loop-upper-init c = record {
  low = c.requires.level.1;
  high = omega arith;
  is = sym (block_above-here c.args.difi.now 3 c.args.block);
  there = c.requires.there;
}

pub loop-upper-preserved : goal.loop-upper-preserved
loop-upper-preserved c =
    let before = c.loop-upper.invariant in
    let upper : ℕ = c.loop-upper.upper - 1 in
    let tree = c.requires.tree in
    let step = up tree.0 c.args.difi.now tree.1 c.args.block upper c.loop-upper.upper c.loop-upper.above tree.2
    (omega (arith, c.requires.level.0, c.loop-upper-test.true)) (omega (arith, c.loop-upper-test.true)) before.high
    before.is before.there in
    record {
      low = omega (arith, c.loop-upper-test.true);
      high = omega (arith, before.high);
      is = c.parent_of-above.ensures ∙ step.is;
      there = rw c.parent_of-above.ensures step.there;
    }
