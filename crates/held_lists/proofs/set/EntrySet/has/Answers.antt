use Rattle.std.proofs.Common.{ap, nat_eq, ℕ, ◌/◌, ◌%◌, ◌∙◌}
use Rattle.std.proofs.lemmas.Nat.Bits.{shr_and_one}
use Rattle.std.proofs.lemmas.List.{get_or_read}
use Rattle.std.specs.Int.{bit_at}
use Rattle.held_lists.specs.Sets.{has_entry}
use Rattle.held_lists.proofs.set.EntrySet.has.Goals as goal

pub returns : goal.returns
unfolding has_entry
returns c =
    let word = get_or_read c.args.self.now.words.items (c.args.entry / 64) c.index.result.now c.requires c.index.ensures 0 in
    ap (λ (bit : ℕ). nat_eq bit 1) (shr_and_one c.index.result.now (c.args.entry % 64))
    ∙ ap (λ (word : ℕ). nat_eq (bit_at word (c.args.entry % 64)) 1) word
