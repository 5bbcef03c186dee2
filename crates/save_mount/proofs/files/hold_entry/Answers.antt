use Rattle.std.proofs.Common.{sym, subst, Err}
use Rattle.chain_nodes.specs.Table.{table_in}
use Rattle.entry_tables.specs.declared.table.EntryKind.TheVariants.{File}
use Rattle.entry_audit.specs.Read.{IsReadOf}
use Rattle.save_mount.specs.declared.lists.FileFault.{FileFault}
use Rattle.save_mount.specs.Held.{HasFileCause}
use Rattle.save_mount.specs.Files.{HasFilesCause}
use Rattle.save_mount.specs.Holders.{with_list}
use Rattle.tree_rules.specs.Lists.{OfFile}
use Rattle.save_mount.proofs.FileLemmas.{unused_holds, file_holds, wrong_cause, chain_cause}
use Rattle.save_mount.proofs.files.hold_entry.Goals as goal

pub returns-in_default-clause-held : goal.returns-in_default-clause-held
returns-in_default-clause-held g c told t lists read holds none =
    let table = table_in (g.S.Space.state c.args.base.now).cells c.args.p.now.chain in (
      lists,
      unused_holds table c.args.p.now t c.args.held.now lists holds c.args.entry
          (subst (IsReadOf File t c.args.entry) c.in_default.is read) none,
    )

pub returns-in-Ok-clause-held : goal.returns-in-Ok-clause-held
returns-in-Ok-clause-held g c told t lists read holds none =
    let table = table_in (g.S.Space.state c.args.base.now).cells c.args.p.now.chain in
    let walked = c.in-Ok.ensures.held told in (
      with_list lists (OfFile c.args.entry) walked.0,
      file_holds table c.args.p.now t c.args.held.now lists holds c.args.entry c.requires.table.few c.in-Some.file
          (subst (IsReadOf File t c.args.entry) c.in-Some.is read) none c.hold_file.new.held walked.0 walked.1.0
          walked.1.1,
    )

pub returns-in-Err-Chain-clause-cause : goal.returns-in-Err-Chain-clause-cause
returns-in-Err-Chain-clause-cause g c told t lists read holds none =
    let s = g.S.Space.state c.args.base.now in
    let chain = c.args.p.now.chain in
    let file = c.in-Some.file in
    let faults = subst (λ (fault : FileFault). HasFileCause s chain file.start file.wide c.args.held.now (Err fault))
    c.in-Err-Chain.field-0-is c.in-Err-Chain.ensures.faults in
    subst (HasFilesCause (table_in s.cells chain) c.args.p.now t) (sym c.refused_list.ensures)
    (chain_cause s c.args.p.now t c.args.held.now lists holds c.args.entry c.requires.table.few file
    (subst (IsReadOf File t c.args.entry) c.in-Some.is read) none c.in-Err-Chain.fault told faults.chain)

pub returns-in-Err-Wrong-clause-cause : goal.returns-in-Err-Wrong-clause-cause
returns-in-Err-Wrong-clause-cause g c told t lists read holds none =
    let s = g.S.Space.state c.args.base.now in
    let chain = c.args.p.now.chain in
    let file = c.in-Some.file in
    let faults = subst (λ (fault : FileFault). HasFileCause s chain file.start file.wide c.args.held.now (Err fault))
    c.in-Err-Wrong.field-0-is c.in-Err-Wrong.ensures.faults in
    wrong_cause (table_in s.cells chain) c.args.p.now t c.args.held.now lists holds c.args.entry c.requires.table.few
    file (subst (IsReadOf File t c.args.entry) c.in-Some.is read) none (faults.wrong told)
