use Rattle.std.proofs.Common.{◌≡◌, Bool, ◌∙◌, arith}
use Rattle.entry_tables.specs.declared.table.EntryKind.TheVariants.{Dir, File}
use Rattle.entry_tables.specs.Tables.{table_in, tables_in}
use Rattle.entry_tables.specs.Used.{used_entries}
use Rattle.entry_tables.proofs.EntryLemmas.{used_entry}
use Rattle.entry_tables.proofs.CauseLemmas.{entry_cause}
use Rattle.tree_paths.proofs.CauseLemmas.{dir_exact}
use Rattle.tree_paths.proofs.ChildLemmas.{some_first, last_first, first_is}
use Rattle.tree_paths.proofs.children.has_children.Goals as goal

pub returns-in_err-entry_bytes-clause-exact : goal.returns-in_err-entry_bytes-clause-exact
returns-in_err-entry_bytes-clause-exact g c = λ files tells used bytes.
    let s = g.S.Space.state c.args.space.now in
    dir_exact {A = Bool} s c.args.dirs files (used_entries (table_in s.cells Dir c.args.dirs) c.args.entry)
    c.from_residual.result tells used bytes
    (entry_cause s Dir c.args.dirs c.args.entry c.child_offset-offset.result 8 _ c.in_err-entry_bytes.field-0.0
    (omega (arith, c.child_offset-offset.ensures)) c.from_residual.ensures.1 c.in_err-entry_bytes.ensures.damaged
    c.in_err-entry_bytes.ensures.plain)

pub returns-in_err-entry_bytes-clause-cause : goal.returns-in_err-entry_bytes-clause-cause
returns-in_err-entry_bytes-clause-cause g c =
    entry_cause (g.S.Space.state c.args.space.now) Dir c.args.dirs c.args.entry c.child_offset-offset.result 8 _
    c.in_err-entry_bytes.field-0.0 (omega (arith, c.child_offset-offset.ensures)) c.from_residual.ensures.1
    c.in_err-entry_bytes.ensures.damaged c.in_err-entry_bytes.ensures.plain

pub returns-then-dir-ne0-clause-children : goal.returns-then-dir-ne0-clause-children
returns-then-dir-ne0-clause-children g c = λ files tells orderly used.
    let s = g.S.Space.state c.args.space.now in
    let t = tables_in s.cells c.args.dirs files in
    let has = used_entry s Dir c.args.dirs (tells.tells Dir) (tells.known Dir) c.args.entry used in
    some_first t orderly c.args.entry used Dir c.u32_at-dir.result
    (c.u32_at-dir.ensures
    ∙ first_is s.cells c.args.dirs files c.args.entry c.child_offset-offset.result c.entry_bytes.new.out Dir 0 has
    (c.in_ok-entry_bytes.ensures.bytes (tells.tells Dir) has.below) (omega (arith, c.entry_bytes.auto.out))
    (omega (arith, c.child_offset-offset.ensures))) c.if-dir-ne0.true

pub returns-else-dir-ne0-clause-children : goal.returns-else-dir-ne0-clause-children
returns-else-dir-ne0-clause-children g c = λ files tells orderly used.
    let s = g.S.Space.state c.args.space.now in
    let t = tables_in s.cells c.args.dirs files in
    let has = used_entry s Dir c.args.dirs (tells.tells Dir) (tells.known Dir) c.args.entry used in
    let offset = c.child_offset-offset in
    let are = c.in_ok-entry_bytes.ensures.bytes (tells.tells Dir) has.below in
    let none : c.u32_at-dir.result ≡ 0 = omega (arith, c.if-dir-ne0.false) in
    last_first t orderly c.args.entry used c.u32_at-dir.result c.u32_at-file.result
    (c.u32_at-dir.ensures
    ∙ first_is s.cells c.args.dirs files c.args.entry offset.result c.entry_bytes.new.out Dir 0 has are
    (omega (arith, c.entry_bytes.auto.out)) (omega (arith, offset.ensures))) none
    (c.u32_at-file.ensures
    ∙ first_is s.cells c.args.dirs files c.args.entry offset.result c.entry_bytes.new.out File 4 has are
    (omega (arith, c.entry_bytes.auto.out)) (omega (arith, offset.ensures)))
