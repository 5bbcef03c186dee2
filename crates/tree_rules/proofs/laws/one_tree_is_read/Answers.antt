use Rattle.tree_rules.proofs.OneReading.{one_tree}
use Rattle.tree_rules.proofs.laws.one_tree_is_read.Goals as goal

pub returns : goal.returns
returns c = λ kind size split cells tree other. one_tree kind size split cells tree other
