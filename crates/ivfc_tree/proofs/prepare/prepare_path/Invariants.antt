use Rattle.std.proofs.Common.{◌≡◌, ℕ, ◌+◌, ◌<◌, ◌≤◌, true, max, List, length, IsTrue, None}
use Rattle.save_bytes.specs.Writes.{Writes}
use Rattle.ivfc_tree.specs.Marks.{is_marked}
use Rattle.ivfc_tree.specs.Paths.{block_above}
use Rattle.ivfc_tree.specs.View.{HasTree}
use Rattle.ivfc_tree.specs.Eases.{MeetsBlock, Prepares, IsGoodTo}
use Rattle.ivfc_tree.specs.Readies.{PathSites, PutsPath}
use Rattle.ivfc_tree.proofs.prepare.prepare_path.Given as goal

abbrev pub invariant-loop-level : goal.invariant-loop-level
invariant-loop-level g l = record {
  readied : IsTrue (g.S.Space.state l.fn.base).told → (master : List ℕ)
      → HasTree (g.S.Space.state l.fn.base).shape l.difi (length master)
      → IsGoodTo (g.S.Space.state l.fn.base).cells master l.difi (is_marked l.fn.state) l.block l.last l.from
      → IsGoodTo (g.S.Space.state l.base).cells master l.difi (is_marked l.state) l.block l.last (max l.from l.level)
      × ((at n : ℕ) → at + n ≤ l.difi.ivfc4.size → MeetsBlock l.difi at n l.block
      → Prepares master l.difi at n (g.S.Space.state l.fn.base).cells (is_marked l.fn.state)
      (g.S.Space.state l.base).cells (is_marked l.state));
  marked : (level : ℕ) → 1 ≤ level → level < l.level → is_marked l.state level (block_above l.difi 4 l.block level) ≡
      true;
  marks : PutsPath l.difi l.block l.last l.fn.state l.state;
  writes : Writes g.S.Space.state g.S.Space.keeps g.S.Space.lands (PathSites l.difi l.block) l.fn.base l.base None;
}
