use Rattle.tree_rules.proofs.SomeTree.{some_tree}
use Rattle.tree_rules.proofs.laws.some_tree_is_read.Goals as goal

pub returns : goal.returns
returns c = λ kind size split cells holds. some_tree kind size split cells holds.0 holds.1
