use Rattle.std.proofs.Common.{ℕ, ◌∙◌, ap}
use Rattle.dpfs_tree.specs.Picks.{chosen}
use Rattle.dpfs_tree.proofs.PickLemmas.{place_of-chosen}
use Rattle.dpfs_tree.proofs.state.DpfsState.settle.Goals as goal

pub returns-clause-chosen : goal.returns-clause-chosen
returns-clause-chosen c = λ bytes part_at x difi.
    place_of-chosen bytes part_at difi c.clear.new.self x c.clear.ensures.unmarked
    ∙ ap (λ (s : ℕ). chosen bytes part_at difi s x) c.clear.ensures.selects
