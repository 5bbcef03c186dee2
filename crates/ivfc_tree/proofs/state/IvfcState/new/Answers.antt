use Rattle.std.proofs.Common.{ap}
use Rattle.ivfc_tree.specs.Marks.{is_put}
use Rattle.ivfc_tree.proofs.OriginLemmas.{CameFrom-none}
use Rattle.ivfc_tree.proofs.PathLemmas.{state_is}
use Rattle.ivfc_tree.proofs.StateLemmas.{new_marks}
use Rattle.ivfc_tree.proofs.state.IvfcState.new.Goals as goal

pub returns-clause-unmarked : goal.returns-clause-unmarked
returns-clause-unmarked c level block =
    ap is_put (new_marks c.args.difi.now c.in_ok-new.field-0 c.in_ok-new.ensures level block)

pub returns-clause-origin : goal.returns-clause-origin
returns-clause-origin c difi cells master = CameFrom-none difi _ cells master (returns-clause-unmarked c)

pub returns-clause-empty : goal.returns-clause-empty
returns-clause-empty c = new_marks c.args.difi.now c.in_ok-new.field-0 c.in_ok-new.ensures

pub returns-clause-paths : goal.returns-clause-paths
returns-clause-paths c cells master level block = state_is cells master c.args.difi.now _
    (λ upper at. ap is_put (new_marks c.args.difi.now c.in_ok-new.field-0 c.in_ok-new.ensures upper at)) level block
