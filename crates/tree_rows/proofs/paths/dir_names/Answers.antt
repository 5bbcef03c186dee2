use Rattle.std.proofs.Common.{◌∙◌}
use Rattle.tree_rows.proofs.paths.dir_names.Goals as goal

pub returns : goal.returns
returns c = λ t path read orderly at. c.reverse.ensures.items ∙ c.in_ok-names.ensures t path read orderly at
