use Rattle.std.proofs.Common.{ℕ, ◌<◌}
use Rattle.entry_audit.specs.Owned.{link_at, MustStandIn, IsSeen}
use Rattle.entry_audit.proofs.owned.lacking.Given as goal

abbrev pub invariant-loop-entry : goal.invariant-loop-entry
invariant-loop-entry l = (owner e : ℕ) → e < l.entry → owner < l.lists → MustStandIn owner (link_at l.links e)
    → IsSeen l.seen e
