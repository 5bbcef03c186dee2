use Rattle.tree_rules.proofs.OneTree.{one_list}
use Rattle.tree_rules.proofs.laws.one_list_a_holder.Goals as goal

pub returns : goal.returns
returns c = λ kind size split cells lists others. one_list kind size split cells lists others
