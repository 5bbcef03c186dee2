use Rattle.entry_tables.specs.declared.table.EntryKind.TheVariants.{Dir, File}
use Rattle.entry_tables.specs.Tables.{tables_in}
use Rattle.save_mount.proofs.AuditLemmas.{rule_cause}
use Rattle.save_mount.proofs.tables.audit_read.Goals as goal

pub returns-in-Err-clause-cause : goal.returns-in-Err-clause-cause
returns-in-Err-clause-cause c kind split size info cells found =
    rule_cause kind split size info c.args.dirs c.args.files cells
    c.in-Err.fault found.counted.layout
    (c.in-Err.ensures.cause (tables_in cells c.args.dirs c.args.files) found.read)

pub returns-clause-audited : goal.returns-clause-audited
returns-clause-audited c kind split size info cells found =
    let t = tables_in cells c.args.dirs c.args.files in
    record {
      dirs_at = λ i. c.args.dirs;
      files_at = λ i. c.args.files;
      layout = found.counted.layout;
      read = found.read;
      orderly = c.in-Ok.ensures.orderly t found.read;
      bytes = found.bytes;
      free_dirs = c.free_in-free_dirs.ensures Dir t (found.read Dir) found.counted.dir_counts;
      free_files = c.free_in-free_files.ensures File t (found.read File) found.counted.file_counts;
    }
