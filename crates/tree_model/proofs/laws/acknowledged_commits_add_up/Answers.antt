use Rattle.tree_model.proofs.PrintLemmas.{acknowledged_one, acknowledged_more, acknowledged_front}
use Rattle.tree_model.proofs.laws.acknowledged_commits_add_up.Goals as goal

pub returns-clause-one : goal.returns-clause-one
returns-clause-one c = acknowledged_one

pub returns-clause-more : goal.returns-clause-more
returns-clause-more c = acknowledged_more

pub returns-clause-front : goal.returns-clause-front
returns-clause-front c = acknowledged_front
