use Rattle.std.proofs.Common.{None, Some, refl}
use Rattle.save_bytes.proofs.CallLemmas.{reads_then}
use Rattle.save_bytes.proofs.SpaceLemmas.{IfDamaged-map}
use Rattle.entry_tables.specs.declared.table.EntryKind.{EntryKind}
use Rattle.entry_tables.specs.declared.table.EntryKind.TheVariants.{Dir, File}
use Rattle.entry_tables.specs.Tables.{table_in, tables_in}
use Rattle.entry_tables.proofs.StayLemmas.{HasEntryTable-stays}
use Rattle.save_mount.specs.Audited.{AreCountsOf}
use Rattle.save_mount.proofs.AuditLemmas.{counts_before, known_before, counts_fault, bad_cause, layout_is, few_counts}
use Rattle.save_mount.proofs.tables.read_layout.Goals as goal

-- what holds of both kinds
both : (P : EntryKind → Type 0) → P Dir → P File → (kind : EntryKind) → P kind
both P dir file Dir = dir
both P dir file File = file

pub read_counts-requires : goal.read_counts-requires
read_counts-requires g c = c.requires.tables Dir

pub read_counts-requires-2 : goal.read_counts-requires-2
read_counts-requires-2 g c =
    HasEntryTable-stays (g.S.Space.state c.args.space.now) (g.S.Space.state c.read_counts.new.space)
    c.in-Ok.ensures.reads.stays File c.args.files (c.requires.tables File)

pub returns-in-Err-clause-cause : goal.returns-in-Err-clause-cause
returns-in-Err-clause-cause g c told =
    bad_cause c.args.kind c.args.split c.args.size c.args.info.now c.args.dirs c.args.files
    (g.S.Space.state c.args.space.now).cells _ c.in-Err.bad c.refused.ensures
    (IfDamaged-map (Some c.in-Err.bad) (λ part level block first. (Dir, first))
    (c.in-Err.ensures.read.damaged told))

pub returns-in-Err-read_counts-clause-cause : goal.returns-in-Err-read_counts-clause-cause
returns-in-Err-read_counts-clause-cause g c told =
    let old = g.S.Space.state c.args.space.now in
    let mid = g.S.Space.state c.read_counts.new.space in
    let stays = c.in-Ok.ensures.reads.stays in
    bad_cause c.args.kind c.args.split c.args.size c.args.info.now c.args.dirs c.args.files old.cells _
    c.in-Err-read_counts.bad c.refused-in-Err-read_counts.ensures
    (IfDamaged-map (Some c.in-Err-read_counts.bad)
    (λ part level block first. (
      File,
      counts_fault old mid stays told File c.args.files (c.requires.tables File)
          part level block first,
    ))
    (c.in-Err-read_counts.ensures.read.damaged (stays.space.told told)))

pub returns-in-None-clause-counted : goal.returns-in-None-clause-counted
returns-in-None-clause-counted g c told =
    let old = g.S.Space.state c.args.space.now in
    let mid = g.S.Space.state c.read_counts.new.space in
    let stays = c.in-Ok.ensures.reads.stays in
    let later = stays.space.told told in
    let dirs : AreCountsOf (table_in old.cells Dir c.args.dirs) c.in-Ok.counts =
    record { count = c.in-Ok.ensures.count told; most = c.in-Ok.ensures.most told } in
    let files = counts_before old mid stays told File c.args.files (c.requires.tables File) c.in-Ok-read_counts.counts
    (record { count = c.in-Ok-read_counts.ensures.count later; most = c.in-Ok-read_counts.ensures.most later }) in
    record {
      layout = layout_is c.args.kind c.args.split c.args.size c.args.info.now c.requires.faultless c.in-Ok.counts
          c.in-Ok-read_counts.counts None c.in-None.ensures (tables_in old.cells c.args.dirs c.args.files) dirs files;
      known = both _ (c.in-Ok.ensures.known told)
          (known_before old mid stays told File c.args.files (c.requires.tables File)
          (c.in-Ok-read_counts.ensures.known later));
      dir_counts = dirs;
      file_counts = files;
    }

pub returns-in-None-clause-few : goal.returns-in-None-clause-few
returns-in-None-clause-few g c =
    few_counts c.args.kind c.args.split c.args.size c.args.info.now c.requires.faultless c.in-Ok.counts
    c.in-Ok-read_counts.counts None c.in-None.ensures refl

pub returns-in-None-clause-reads : goal.returns-in-None-clause-reads
returns-in-None-clause-reads g c =
    reads_then g.met.S.Space.keeps_join c.in-Ok.ensures.reads c.in-Ok-read_counts.ensures.reads

pub returns-in-Some-clause-cause : goal.returns-in-Some-clause-cause
returns-in-Some-clause-cause g c told =
    let old = g.S.Space.state c.args.space.now in
    let mid = g.S.Space.state c.read_counts.new.space in
    let stays = c.in-Ok.ensures.reads.stays in
    let later = stays.space.told told in
    let dirs : AreCountsOf (table_in old.cells Dir c.args.dirs) c.in-Ok.counts =
    record { count = c.in-Ok.ensures.count told; most = c.in-Ok.ensures.most told } in
    let files = counts_before old mid stays told File c.args.files (c.requires.tables File) c.in-Ok-read_counts.counts
    (record { count = c.in-Ok-read_counts.ensures.count later; most = c.in-Ok-read_counts.ensures.most later }) in
    layout_is c.args.kind c.args.split c.args.size c.args.info.now c.requires.faultless c.in-Ok.counts
    c.in-Ok-read_counts.counts (Some c.in-Some.condition) c.in-Some.ensures
    (tables_in old.cells c.args.dirs c.args.files) dirs files

pub returns-in-Some-clause-reads : goal.returns-in-Some-clause-reads
returns-in-Some-clause-reads g c =
    reads_then g.met.S.Space.keeps_join c.in-Ok.ensures.reads c.in-Ok-read_counts.ensures.reads
