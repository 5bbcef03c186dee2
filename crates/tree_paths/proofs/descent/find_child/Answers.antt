use Rattle.std.proofs.Common.{IfOk}
use Rattle.entry_tables.specs.declared.table.TableInfo.{TableInfo}
use Rattle.entry_tables.specs.Tables.{tables_in}
use Rattle.name_buckets.specs.Replies.{IsFoundEntry}
use Rattle.tree_paths.specs.Causes.{TellsTables, HaveLists, HasPathCause}
use Rattle.tree_paths.proofs.CauseLemmas.{entries_same, path_cause}
use Rattle.tree_paths.proofs.descent.find_child.Goals as goal

pub returns-in-Some-clause-found : goal.returns-in-Some-clause-found
returns-in-Some-clause-found g c =
    let states = g.S.Space.state in
    let kind = c.args.kind in
    rw c.in-Some.is
    (entries_same
    (λ s (dirs files : TableInfo). TellsTables (states s) dirs files
    → HaveLists (tables_in (states s).cells dirs files) → IfOk c.find.result
    (IsFoundEntry kind ((tables_in (states s).cells dirs files).table kind) c.in-Some.dir c.args.name.now.0))
    c.new.result _ c.args.dirs c.args.files c.new.ensures.holds
    (λ tells lists. c.find.ensures.found (tells.tells kind) (lists.buckets kind)))

pub returns-in-Some-clause-cause : goal.returns-in-Some-clause-cause
returns-in-Some-clause-cause g c =
    let states = g.S.Space.state in
    let entries = c.new.result in
    entries_same (λ s (dirs files : TableInfo). HasPathCause (states s) dirs files c.find.result)
    entries _ c.args.dirs c.args.files c.new.ensures.holds
    (path_cause (states entries.space.now) entries.dirs entries.files c.args.kind c.in-Some.dir c.args.name.now.0
    c.find.result c.find.ensures.cause c.find.ensures.blamed)
