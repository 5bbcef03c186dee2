use Rattle.std.proofs.Common.{ap, ℕ, ◌==◌}
use Rattle.held_lists.specs.Sets.{has_entry}
use Rattle.held_lists.proofs.SetLemmas.{set_same, set_other}
use Rattle.held_lists.proofs.set.EntrySet.insert.Goals as goal

pub returns-clause-inserted : goal.returns-clause-inserted
unfolding has_entry
returns-clause-inserted c = ap (λ (bit : ℕ). bit == 1)
    (set_same c.args.self.now.words.items c.args.entry c.index.result.now c.requires c.index.ensures)

pub returns-clause-others : goal.returns-clause-others
unfolding has_entry
returns-clause-others c other apart = ap (λ (bit : ℕ). bit == 1)
    (set_other c.args.self.now.words.items c.args.entry c.index.result.now c.requires c.index.ensures other apart)
