use Rattle.std.proofs.Common.{refl, sym, ◌∙◌}
use Rattle.entry_tables.specs.declared.table.EntryKind.TheVariants.{Dir}
use Rattle.save_bytes.proofs.CallLemmas.{IfOk-map}
use Rattle.name_buckets.specs.Held.{tables_of}
use Rattle.entry_tables.proofs.EntryLemmas.{field_there}
use Rattle.name_buckets.proofs.ChildLemmas.{first_child}
use Rattle.name_buckets.proofs.HeldLemmas.{entries_read}
use Rattle.name_buckets.proofs.view.Entries.first.Goals as goal

pub returns-clause-reads : goal.returns-clause-reads
returns-clause-reads g c = entries_read _ _ _ _ _ c.requires _ refl refl refl c.word_in.ensures.reads

pub word_in-requires-clause-table : goal.word_in-requires-clause-table
word_in-requires-clause-table g c = c.requires Dir

pub returns-clause-child : goal.returns-clause-child
returns-clause-child g c = λ tells has.
    let t = tables_of g.S.Space.state c.args.self.now in
    let kind = c.args.kind in
    let dir = c.args.dir in
    IfOk-map c.word_in.result
    (λ e is. first_child t kind dir e (is ∙ sym (field_there (t.table Dir) dir _ 0 has)))
    ((rw c.child_offset.ensures at c.word_in.ensures.word) tells has.below)
