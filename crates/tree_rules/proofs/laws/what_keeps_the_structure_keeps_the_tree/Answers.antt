use Rattle.tree_rules.proofs.Kept.{consistent_kept}
use Rattle.tree_rules.proofs.laws.what_keeps_the_structure_keeps_the_tree.Goals as goal

pub returns : goal.returns
returns c = λ kind size split cells new lists h kept. consistent_kept kind size split cells new lists h kept
