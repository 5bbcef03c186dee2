use Rattle.std.proofs.Common.{rules}
use Rattle.std.specs.Map.{values_of}
use Rattle.std.proofs.lemmas.Iterator.Adapters.{items_from_extend}
use Rattle.std.proofs.lemmas.Iterator.Consumers.{YieldsList-from_rest}
use Rattle.tree_rows.proofs.rows.rows_in.Goals as goal

pub returns-clause-rows : goal.returns-clause-rows
returns-clause-rows c =
    let h = items_from_extend c.extend.result c.extend.ensures.ran
    (YieldsList-from_rest (values_of c.args.found.entries) cc) in
    search rules
