use Rattle.tree_model.proofs.CommandLemmas.{target_stands}
use Rattle.tree_model.proofs.laws.words_stand_for_one_target.Goals as goal

pub returns : goal.returns
returns c = target_stands
