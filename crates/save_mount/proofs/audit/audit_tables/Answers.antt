use Rattle.save_mount.proofs.TableLemmas.{begins_small}
use Rattle.save_mount.proofs.audit.audit_tables.Goals as goal

pub table_infos-requires : goal.table_infos-requires
table_infos-requires g c =
    rw (c.len.ensures c.requires.sound) (begins_small (g.S.Space.state c.args.store.now).shape c.args.kind
    c.args.split c.args.info.now c.args.places.now c.args.blocks.now c.requires)
