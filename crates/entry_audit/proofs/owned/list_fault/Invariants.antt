use Rattle.std.proofs.Common.{◌≡◌, length}
use Rattle.entry_audit.proofs.OwnedLemmas.{AreFollowed}
use Rattle.entry_audit.proofs.owned.list_fault.Given as goal

abbrev pub invariant-loop-list : goal.invariant-loop-list
invariant-loop-list l = record {
  len : length l.seen.items ≡ length l.links;
  followed : AreFollowed l.links l.heads l.seen.items l.list;
}
