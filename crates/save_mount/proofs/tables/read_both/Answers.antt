use Rattle.std.proofs.Common.{Option, sym, subst, ◌∙◌, arith, ap}
use Rattle.save_bytes.specs.declared.space.Bad.{Bad}
use Rattle.save_bytes.specs.Reads.{Reads}
use Rattle.save_bytes.proofs.CallLemmas.{reads_then}
use Rattle.entry_tables.specs.declared.table.EntryKind.TheVariants.{Dir, File}
use Rattle.entry_tables.specs.Tables.{Tables, info_of}
use Rattle.entry_tables.proofs.StayLemmas.{HasEntryTable-stays}
use Rattle.entry_audit.specs.Read.{AreReadTables}
use Rattle.save_mount.specs.Causes.{bad_of}
use Rattle.save_mount.specs.Audited.{HasTablesCause}
use Rattle.save_mount.proofs.AuditLemmas.{told_still, tables_before, bytes_before, tables_cause, bad_of_table}
use Rattle.save_mount.proofs.tables.read_both.Goals as goal

pub read_tables-requires-clause-tables : goal.read_tables-requires-clause-tables
read_tables-requires-clause-tables g c kind =
    HasEntryTable-stays (g.S.Space.state c.args.space.now) (g.S.Space.state c.read_layout.new.space)
    c.in-Ok.ensures.reads.stays kind (info_of c.args.dirs c.args.files kind) (c.requires.tables kind)

pub returns-in-Ok-read_tables-clause-read : goal.returns-in-Ok-read_tables-clause-read
returns-in-Ok-read_tables-clause-read g c told =
    let old = g.S.Space.state c.args.space.now in
    let mid = g.S.Space.state c.read_layout.new.space in
    let stays = c.in-Ok.ensures.reads.stays in
    let counted = c.in-Ok.ensures.counted told in
    let still = told_still old c.args.kind c.args.split c.args.size c.args.info.now c.args.dirs c.args.files c.requires
    told c.in-Ok.counts counted mid stays in
    let read = subst (λ (t : Tables). AreReadTables t c.in-Ok-read_tables.read)
    (tables_before old c.args.kind c.args.split c.args.size c.args.info.now c.args.dirs c.args.files c.requires
    told c.in-Ok.counts counted mid stays) (c.in-Ok-read_tables.ensures.read still) in
    record {
      counted = counted;
      read = read;
      bytes = bytes_before old c.args.kind c.args.split c.args.size c.args.info.now c.args.dirs c.args.files c.requires
          told c.in-Ok.counts counted mid stays c.in-Ok-read_tables.read read (c.in-Ok-read_tables.ensures.bytes still);
    }

pub returns-in-Ok-read_tables-clause-long : goal.returns-in-Ok-read_tables-clause-long
returns-in-Ok-read_tables-clause-long g c =
    let few = c.in-Ok.ensures.few in
    let dirs = c.in-Ok-read_tables.ensures.lengths Dir in
    let files = c.in-Ok-read_tables.ensures.lengths File in
    record {
      few = few;
      dirs = dirs.entries;
      files = files.entries;
      short = record {
        dirs = omega (arith, dirs.entries, few.dirs, few.few_dirs);
        files = omega (arith, files.entries, few.files, few.few_files);
        dir_heads = omega (arith, dirs.heads, c.requires.few Dir);
        file_heads = omega (arith, files.heads, c.requires.few File);
      };
    }

pub returns-in-Ok-read_tables-clause-reads : goal.returns-in-Ok-read_tables-clause-reads
returns-in-Ok-read_tables-clause-reads g c =
    reads_then g.met.S.Space.keeps_join c.in-Ok.ensures.reads c.in-Ok-read_tables.ensures.reads

pub returns-in-Err-read_tables-clause-cause : goal.returns-in-Err-read_tables-clause-cause
returns-in-Err-read_tables-clause-cause g c told =
    let old = g.S.Space.state c.args.space.now in
    let mid = g.S.Space.state c.read_layout.new.space in
    subst (HasTablesCause c.args.kind c.args.split c.args.size c.args.info.now c.args.dirs c.args.files old.cells)
    (sym c.refused_table.ensures)
    (tables_cause old c.args.kind c.args.split c.args.size c.args.info.now c.args.dirs c.args.files c.requires
    told c.in-Ok.counts (c.in-Ok.ensures.counted told) mid c.in-Ok.ensures.reads.stays c.in-Err-read_tables.fault
    c.in-Err-read_tables.ensures.cause)

pub returns-in-Err-read_tables-clause-reads : goal.returns-in-Err-read_tables-clause-reads
returns-in-Err-read_tables-clause-reads g c =
    subst (λ (refusal : Option Bad). Reads g.S.Space.state g.S.Space.keeps g.S.Space.lands c.args.space.now
    c.read_tables.new.space refusal)
    (sym (ap bad_of c.refused_table.ensures ∙ bad_of_table c.in-Err-read_tables.fault))
    (reads_then g.met.S.Space.keeps_join c.in-Ok.ensures.reads c.in-Err-read_tables.ensures.reads)
