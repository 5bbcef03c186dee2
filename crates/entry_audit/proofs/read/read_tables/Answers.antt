use Rattle.std.proofs.Common.{Some}
use Rattle.save_bytes.proofs.CallLemmas.{reads_then}
use Rattle.entry_tables.specs.declared.table.EntryKind.{EntryKind}
use Rattle.entry_tables.specs.declared.table.EntryKind.TheVariants.{Dir, File}
use Rattle.entry_tables.proofs.StayLemmas.{HasEntryTable-stays}
use Rattle.entry_tables.proofs.CauseLemmas.{passed_error}
use Rattle.entry_audit.proofs.StayLemmas.{HasReadCause-map, cause_later}
use Rattle.entry_audit.proofs.CopyLemmas.{table_later}
use Rattle.entry_audit.proofs.ReadLemmas.{table_was_read}
use Rattle.entry_audit.proofs.read.read_tables.Goals as goal

-- what holds of both kinds
both : (P : EntryKind → Type 0) → P Dir → P File → (kind : EntryKind) → P kind
both P dir file Dir = dir
both P dir file File = file

pub read_table-requires : goal.read_table-requires
read_table-requires g c = c.requires.tables Dir

pub read_table-requires-2 : goal.read_table-requires-2
read_table-requires-2 g c =
    HasEntryTable-stays (g.S.Space.state c.args.space.now) (g.S.Space.state c.read_table.new.space)
    c.in_ok-dir_table.ensures.reads.stays File c.args.files (c.requires.tables File)

pub returns-in_err-dir_table-clause-cause : goal.returns-in_err-dir_table-clause-cause
returns-in_err-dir_table-clause-cause g c =
    rw (passed_error _ c.in_err-dir_table.field-0.0 c.from_residual.ensures.1)
    (HasReadCause-map (Some c.in_err-dir_table.field-0.0) (λ plain. plain) (λ told. told Dir)
    (λ told part level block h. (Dir, h)) (λ told table entry fails. (Dir, fails.0, fails.1))
    c.in_err-dir_table.ensures.cause)

pub returns-in_err-file_table-clause-cause : goal.returns-in_err-file_table-clause-cause
returns-in_err-file_table-clause-cause g c =
    rw (passed_error _ c.in_err-file_table.field-0.0 c.from_residual-in_err-file_table.ensures.1)
    (HasReadCause-map (Some c.in_err-file_table.field-0.0) (λ plain. plain) (λ told. told File)
    (λ told part level block h. (File, h)) (λ told table entry fails. (File, fails.0, fails.1))
    (cause_later (g.S.Space.state c.args.space.now) (g.S.Space.state c.read_table.new.space)
    c.in_ok-dir_table.ensures.reads.stays File c.args.files (c.requires.tables File) c.args.file_count
    (Some c.in_err-file_table.field-0.0) c.in_err-file_table.ensures.cause))

pub returns-in_err-file_table-clause-reads : goal.returns-in_err-file_table-clause-reads
returns-in_err-file_table-clause-reads g c =
    rw (passed_error _ c.in_err-file_table.field-0.0 c.from_residual-in_err-file_table.ensures.1)
    (reads_then g.met.S.Space.keeps_join c.in_ok-dir_table.ensures.reads c.in_err-file_table.ensures.reads)

pub returns-clause-read : goal.returns-clause-read
returns-clause-read g c = λ told.
    let old = g.S.Space.state c.args.space.now in
    both _
    (table_was_read old c.args.dirs c.args.files Dir c.args.dir_count c.in_ok-dir_table.dir_table (told Dir)
    (c.in_ok-dir_table.ensures.table (told Dir)))
    (table_was_read old c.args.dirs c.args.files File c.args.file_count c.in_ok-file_table.file_table (told File)
    (table_later old (g.S.Space.state c.read_table.new.space) c.in_ok-dir_table.ensures.reads.stays File c.args.files
    (c.requires.tables File) c.args.file_count (told File) c.in_ok-file_table.file_table
    c.in_ok-file_table.ensures.table))

pub returns-clause-bytes : goal.returns-clause-bytes
returns-clause-bytes g c = λ told.
    let old = g.S.Space.state c.args.space.now in
    both _
    (c.in_ok-dir_table.ensures.table (told Dir)).bytes
    (table_later old (g.S.Space.state c.read_table.new.space) c.in_ok-dir_table.ensures.reads.stays File c.args.files
    (c.requires.tables File) c.args.file_count (told File) c.in_ok-file_table.file_table
    c.in_ok-file_table.ensures.table).bytes

pub returns-clause-lengths : goal.returns-clause-lengths
returns-clause-lengths g c =
    both _
    (record { entries = c.in_ok-dir_table.ensures.entries_many; heads = c.in_ok-dir_table.ensures.heads_many })
    (record { entries = c.in_ok-file_table.ensures.entries_many; heads = c.in_ok-file_table.ensures.heads_many })

pub returns-clause-reads : goal.returns-clause-reads
returns-clause-reads g c =
    reads_then g.met.S.Space.keeps_join c.in_ok-dir_table.ensures.reads c.in_ok-file_table.ensures.reads
