use Rattle.std.proofs.Common.{refl}
use Rattle.save_bytes.proofs.CallLemmas.{reads_then}
use Rattle.entry_tables.specs.declared.table.EntryKind.TheVariants.{Dir, File}
use Rattle.tree_rules.specs.Lists.{Free, OfTable, IsTableList}
use Rattle.save_mount.specs.Held.{IsTableFault, TableNeeds}
use Rattle.save_mount.specs.Holders.{with_list}
use Rattle.save_mount.specs.Structure.NeedsStructure.{NeedsFree, NeedsChain}
use Rattle.save_mount.proofs.HeldLemmas.{held_later}
use Rattle.save_mount.proofs.CauseLemmas.{cause_map, cause_later}
use Rattle.save_mount.proofs.StructureLemmas.{no_lists, free_holds, free_fails, table_holds, table_fails, structure_of}
use Rattle.save_mount.proofs.structure.hold_structure.Goals as goal

pub returns-in-Err-clause-cause : goal.returns-in-Err-clause-cause
returns-in-Err-clause-cause g c told =
    let s = g.S.Space.state c.args.base.now in
    cause_map s.cells c.args.p.now.chain c.in-Err.fault
    (λ e fails. free_fails s.cells c.args.p.now fails.none fails.is_none e fails.fault)
    (λ e needed. NeedsFree needed) (c.in-Err.ensures.cause told)

pub returns-in-Err-with_table-clause-cause : goal.returns-in-Err-with_table-clause-cause
returns-in-Err-with_table-clause-cause g c told =
    let s = g.S.Space.state c.args.base.now in
    let stays = c.in-Ok.ensures.reads.stays in
    let begun = c.in-Ok.ensures.held told in
    cause_later c.requires.table stays told c.in-Err-with_table.fault
    (λ e fault. table_fails s.cells c.args.p.now c.in-Ok.found.held (with_list no_lists Free begun.list)
    (free_holds s.cells c.args.p.now c.in-Ok.found begun) Dir refl e (held_later c.requires.table stays
    (λ table. IsTableFault table c.args.p.now.chain.count c.args.p.now.dirs.table c.in-Ok.found.held e) told fault))
    (λ e needed. NeedsChain Dir (held_later c.requires.table stays
    (λ table. TableNeeds table c.args.p.now.chain.count c.args.p.now.dirs.table e) told needed))
    (c.in-Err-with_table.ensures.cause (stays.space.told told))

pub returns-in-Err-with_table-clause-reads : goal.returns-in-Err-with_table-clause-reads
returns-in-Err-with_table-clause-reads g c =
    reads_then g.met.S.Space.keeps_join c.in-Ok.ensures.reads c.in-Err-with_table.ensures.reads

pub returns-in-Ok-with_table-2-clause-held : goal.returns-in-Ok-with_table-2-clause-held
returns-in-Ok-with_table-2-clause-held g c told =
    let s = g.S.Space.state c.args.base.now in
    let count = c.args.p.now.chain.count in
    let stays = c.in-Ok.ensures.reads.stays in
    let after = (reads_then g.met.S.Space.keeps_join c.in-Ok.ensures.reads c.in-Ok-with_table.ensures.reads).stays in
    let dirs = c.in-Ok-with_table.ensures.held (stays.space.told told) in
    let files = c.in-Ok-with_table-2.ensures.held (after.space.told told) in
    structure_of s.cells c.args.p.now c.in-Ok.found (c.in-Ok.ensures.held told) c.with_table.new.found
    c.with_table-2.new.found dirs.0 files.0
    (held_later c.requires.table stays (λ table. IsTableList table count c.args.p.now.dirs.table dirs.0) told dirs.1.0)
    dirs.1.1.0 dirs.1.1.1 c.in-Ok-with_table.ensures.free
    (held_later c.requires.table after (λ table. IsTableList table count c.args.p.now.files.table files.0) told files.1.0)
    files.1.1.0 files.1.1.1 c.in-Ok-with_table-2.ensures.free

pub returns-in-Ok-with_table-2-clause-reads : goal.returns-in-Ok-with_table-2-clause-reads
returns-in-Ok-with_table-2-clause-reads g c =
    reads_then g.met.S.Space.keeps_join
    (reads_then g.met.S.Space.keeps_join c.in-Ok.ensures.reads c.in-Ok-with_table.ensures.reads)
    c.in-Ok-with_table-2.ensures.reads

pub returns-in-Err-with_table-2-clause-cause : goal.returns-in-Err-with_table-2-clause-cause
returns-in-Err-with_table-2-clause-cause g c told =
    let s = g.S.Space.state c.args.base.now in
    let count = c.args.p.now.chain.count in
    let stays = c.in-Ok.ensures.reads.stays in
    let after = (reads_then g.met.S.Space.keeps_join c.in-Ok.ensures.reads c.in-Ok-with_table.ensures.reads).stays in
    let begun = c.in-Ok.ensures.held told in
    let first = with_list no_lists Free begun.list in
    let dirs = c.in-Ok-with_table.ensures.held (stays.space.told told) in
    cause_later c.requires.table after told c.in-Err-with_table-2.fault
    (λ e fault. table_fails s.cells c.args.p.now c.with_table.new.found.held (with_list first (OfTable Dir) dirs.0)
    (table_holds s.cells c.args.p.now c.in-Ok.found.held first (free_holds s.cells c.args.p.now c.in-Ok.found begun)
    Dir refl c.with_table.new.found.held dirs.0
    (held_later c.requires.table stays (λ table. IsTableList table count c.args.p.now.dirs.table dirs.0) told dirs.1.0)
    dirs.1.1.0) File refl e (held_later c.requires.table after
    (λ table. IsTableFault table count c.args.p.now.files.table c.with_table.new.found.held e) told fault))
    (λ e needed. NeedsChain File (held_later c.requires.table after
    (λ table. TableNeeds table count c.args.p.now.files.table e) told needed))
    (c.in-Err-with_table-2.ensures.cause (after.space.told told))

pub returns-in-Err-with_table-2-clause-reads : goal.returns-in-Err-with_table-2-clause-reads
returns-in-Err-with_table-2-clause-reads g c =
    reads_then g.met.S.Space.keeps_join
    (reads_then g.met.S.Space.keeps_join c.in-Ok.ensures.reads c.in-Ok-with_table.ensures.reads)
    c.in-Err-with_table-2.ensures.reads
