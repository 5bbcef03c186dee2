use Rattle.tree_model.proofs.NumberLemmas.{number_stands}
use Rattle.tree_model.proofs.laws.numbers_are_as_printed.Goals as goal

pub returns : goal.returns
returns c = number_stands
