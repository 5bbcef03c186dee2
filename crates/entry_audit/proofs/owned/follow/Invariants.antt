use Rattle.std.proofs.Common.{◌≡◌, ℕ, List, length}
use Rattle.entry_audit.specs.Owned.{IsFollowed}
use Rattle.entry_audit.proofs.OwnedLemmas.{unseen}
use Rattle.entry_audit.proofs.owned.follow.Given as goal

abbrev pub invariant-loop-entry : goal.invariant-loop-entry
invariant-loop-entry l = record {
  len : length l.seen.items ≡ length l.initial.seen.items;
  followed : (front : List ℕ) × IsFollowed l.links l.list l.head l.initial.seen.items l.seen.items front l.entry;
}

abbrev pub decreases-loop-entry : goal.decreases-loop-entry
decreases-loop-entry l = unseen l.seen.items
