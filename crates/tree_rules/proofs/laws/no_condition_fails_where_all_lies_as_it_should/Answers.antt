use Rattle.tree_rules.proofs.LayoutLemmas.{layout_from, layout_to}
use Rattle.tree_rules.proofs.laws.no_condition_fails_where_all_lies_as_it_should.Goals as goal

pub returns : goal.returns
returns c = λ kind split size info t. (layout_from kind split size info t, layout_to kind split size info t)
