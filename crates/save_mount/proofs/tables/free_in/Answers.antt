use Rattle.std.proofs.Common.{List, length, Option, refl, subst}
use Rattle.entry_audit.specs.declared.table.ReadEntry.{ReadEntry}
use Rattle.save_mount.specs.Audited.{HasUnread}
use Rattle.save_mount.proofs.CountLemmas.{room_of}
use Rattle.save_mount.proofs.tables.free_in.Goals as goal

pub returns : goal.returns
returns c kind t read counts =
    room_of kind t c.args.table.now read c.args.counts.count c.args.counts.most c.unread.result _ counts.count counts.most
    (subst (λ (entries : List (Option ReadEntry)). HasUnread entries (length entries) c.unread.result)
    c.deref.ensures.value c.unread.ensures.unread) refl
