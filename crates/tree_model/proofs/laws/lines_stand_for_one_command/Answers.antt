use Rattle.tree_model.proofs.CommandLemmas.{one_command}
use Rattle.tree_model.proofs.laws.lines_stand_for_one_command.Goals as goal

pub returns : goal.returns
returns c = one_command
