use Rattle.std.proofs.Common.{◌≤◌}
use Rattle.save_mount.specs.Audited.{HasUnread}
use Rattle.save_mount.proofs.tables.unread.Given as goal

abbrev pub invariant-loop-entry : goal.invariant-loop-entry
invariant-loop-entry l = record {
  few : l.count ≤ l.entry;
  unread : HasUnread l.entries l.entry l.count;
}
