use Rattle.std.proofs.Common.{◌≡◌, ◌∙◌, sym, take}
use Rattle.std.proofs.lemmas.Bool.{false≢true}
use Rattle.std.proofs.lemmas.Slice.Eq.{bytes_eq-Decides}
use Rattle.std.proofs.lemmas.Bool.{eq-eqb, eqb-true}
use Rattle.tree_rules.specs.Information.{letters_of, version_of_tree}
use Rattle.tree_layout.proofs.HeaderLemmas.{lettered_from, letters_back, version_back}
use Rattle.tree_layout.proofs.reading.is_lettered.Goals as goal

pub returns-then-eq : goal.returns-then-eq
returns-then-eq c = λ cells are. (
  λ is. lettered_from c.args.kind cells c.args.front.now c.told-front are
      ((bytes_eq-Decides (take 4 c.args.front.now) c.letters_of.result).0 (sym c.eq.ensures ∙ c.if-eq.true)
      ∙ c.letters_of.ensures)
      (sym c.u32_at.ensures ∙ eqb-true c.u32_at.result c.version_of_tree.result is ∙ c.version_of_tree.ensures),
  λ h. eq-eqb c.u32_at.result c.version_of_tree.result (c.u32_at.ensures
      ∙ version_back c.args.kind cells c.args.front.now c.told-front are h ∙ sym c.version_of_tree.ensures),
)

pub returns-else-eq : goal.returns-else-eq
returns-else-eq c = λ cells are. (
  λ is. absurd (false≢true (sym c.if-eq.false ∙ is)),
  λ h. c.eq.ensures ∙ (bytes_eq-Decides (take 4 c.args.front.now) c.letters_of.result).1
      (letters_back c.args.kind cells c.args.front.now c.told-front are h ∙ sym c.letters_of.ensures),
)
