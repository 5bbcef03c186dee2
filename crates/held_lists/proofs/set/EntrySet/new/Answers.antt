use Rattle.std.proofs.Common.{ap, ◌+◌, ℕ, ◌/◌, ◌∙◌, ◌==◌, List}
use Rattle.held_lists.specs.Sets.{has_entry}
use Rattle.held_lists.proofs.SetLemmas.{none_set, entry_bit}
use Rattle.held_lists.proofs.set.EntrySet.new.Goals as goal

pub returns-clause-none : goal.returns-clause-none
unfolding has_entry
returns-clause-none c entry =
    ap (λ (words : List ℕ). entry_bit words entry == 1) (c.in_ok-vec.ensures.items_if_clones_equal (λ y same. same))
    ∙ ap (λ (bit : ℕ). bit == 1) (none_set (c.args.count / 64 + 1) entry)
