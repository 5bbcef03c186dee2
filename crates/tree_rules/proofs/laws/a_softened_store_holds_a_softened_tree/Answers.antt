use Rattle.tree_rules.proofs.Softened.{tree_softens}
use Rattle.tree_rules.proofs.laws.a_softened_store_holds_a_softened_tree.Goals as goal

pub returns : goal.returns
returns c = λ kind size split cells new tree read kept soft. tree_softens kind size split cells new tree read kept soft
