use Rattle.tree_rules.proofs.FailLaws.{nothing_breaks}
use Rattle.tree_rules.proofs.laws.no_rule_fails_where_a_tree_is_held.Goals as goal

pub returns : goal.returns
returns c = λ kind size split cells number entry holds. nothing_breaks kind size split cells holds.0 holds.1 number entry
