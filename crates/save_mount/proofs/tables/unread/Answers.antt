use Rattle.std.proofs.Common.{arith}
use Rattle.save_mount.proofs.CountLemmas.{unread_none, unread_more, unread_skip}
use Rattle.save_mount.proofs.tables.unread.Goals as goal
use Rattle.save_mount.proofs.tables.unread.Goals.{then-is_unread, else-is_unread}

pub loop-entry-init : goal.loop-entry-init
loop-entry-init c = record { few = omega arith; unread = unread_none c.args.entries.now }

pub loop-entry-preserved : goal.loop-entry-preserved
loop-entry-preserved c = elim c.if-is_unread.branch [
  | then-is_unread w ↦ rw w.count-is (record {
    few = omega (arith, c.loop-entry.invariant.few);
    unread = unread_more c.args.entries.now c.loop-entry.entry c.loop-entry.count c.loop-entry.invariant.unread
        (c.is_unread.ensures.some w.if-is_unread.true) (c.is_unread.ensures.none w.if-is_unread.true);
  })
  | else-is_unread w ↦ rw w.count-is (record {
    few = omega (arith, c.loop-entry.invariant.few);
    unread = unread_skip c.args.entries.now c.loop-entry.entry c.loop-entry.count c.loop-entry.invariant.unread
        (c.is_unread.ensures.no w.if-is_unread.false);
  })
]
