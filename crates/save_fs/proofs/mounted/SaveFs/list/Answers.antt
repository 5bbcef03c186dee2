use Rattle.save_fs.proofs.NamedLemmas.{rows_named}
use Rattle.tree_rules.specs.Information.{information_in}
use Rattle.tree_model.specs.declared.kind.TreeKind.TheVariants.{Save}
use Rattle.tree_rules.specs.Places.{places_of, tree_tables}
use Rattle.tree_rules.specs.Trees.{table_chains}
use Rattle.save_fs.proofs.ListLemmas.{tables_read, refused_reply}
use Rattle.save_fs.proofs.mounted.SaveFs.list.Goals as goal

pub returns-in-Err-clause-rows : goal.returns-in-Err-clause-rows
returns-in-Err-clause-rows g c told tree h =
    let s = g.S.Space.state c.args.store.now in
    rw c.refused_rows.ensures (refused_reply s.shape.size c.args.self.now s.cells tree h c.in-Err.fault
    (c.in-Err.ensures.cause told (table_chains h.reads.lists) (rw c.deref.ensures.value h.mount.blocks_are)))

pub returns-in-Ok-rows_of-clause-rows : goal.returns-in-Ok-rows_of-clause-rows
returns-in-Ok-rows_of-clause-rows g c told tree h =
    let s = g.S.Space.state c.args.store.now in
    let p = places_of Save c.args.self.now.split (information_in s.cells) in
    let read = c.in-Ok.ensures.read told (table_chains h.reads.lists) (rw c.deref.ensures.value h.mount.blocks_are) in
    rw c.new.ensures (c.in-Ok-rows_of.ensures s.cells h.reads.lists p
    (tree_tables s.shape.size p (table_chains h.reads.lists) s.cells)
    tree (tables_read s.shape.size c.args.self.now s.cells tree h c.in-Ok.found read) h.reads.consistent.orderly
    h.reads.read)

pub returns-in-Err-clause-named : goal.returns-in-Err-clause-named
returns-in-Err-clause-named g c = rw c.refused_rows.ensures (rows_named c.in-Err.fault)
