use Rattle.dpfs_tree.proofs.PickLemmas.{unmarked, place_of-chosen}
use Rattle.dpfs_tree.proofs.state.DpfsState.new.Goals as goal

pub returns-clause-chosen : goal.returns-clause-chosen
returns-clause-chosen c = λ bytes part_at x below. place_of-chosen bytes part_at c.args.difi.now
    (record { selector = c.args.difi.now.selector; touched = c.in_ok-touched.touched }) x
    (unmarked _ _ (c.in_ok-touched.ensures.items_if_clones_equal (λ y same. same)))
