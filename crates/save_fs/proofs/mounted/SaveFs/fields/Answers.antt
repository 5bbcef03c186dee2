use Rattle.save_fs.proofs.NamedLemmas.{entry_named}
use Rattle.std.proofs.Common.{ap, ◌∙◌, rules, None, Err, ◌≡◌}
use Rattle.entry_tables.specs.declared.table.EntryKind.TheVariants.{File}
use Rattle.chain_space.specs.Laid.{extra_of}
use Rattle.tree_model.specs.declared.kind.TreeKind.TheVariants.{Save}
use Rattle.save_mount.proofs.TableLemmas.{can_lay}
use Rattle.chain_space.proofs.LaidHeldLemmas.{base_reads}
use Rattle.entry_tables.specs.declared.table.FileFields.{FileFields}
use Rattle.entry_tables.specs.Causes.{bad_of}
use Rattle.save_fs.specs.Faults.{bad_in}
use Rattle.save_fs.specs.Mounted.{tables_on}
use Rattle.save_fs.proofs.LookupLemmas.{stands_in, room_of, tables_stand, fields_read, fields_exact}
use Rattle.save_fs.proofs.LookupLemmas.{exact_done, entry_bad}
use Rattle.save_fs.proofs.mounted.SaveFs.fields.Goals as goal

pub new-space-requires : goal.new-space-requires
new-space-requires g c =
    let s = (g.S.Space.state c.args.store.now).shape in
    let m = c.args.self.now.mounted in
    rw c.deref.ensures.value (can_lay s Save c.args.self.now.split m.info m.places m.blocks.items
    (stands_in s c.args.self.now c.requires))

pub fields_in-requires : goal.fields_in-requires
fields_in-requires g c =
    let holds = c.new-space.ensures.holds in
    let m = c.args.self.now.mounted in
    tables_stand g.S.Space.state c.new-space.result c.args.store.now c.args.self.now c.requires holds.base_now
    (holds.same_extra ∙ ap (extra_of m.places.chain.region_at m.places.chain.block) c.deref.ensures.value) File

pub returns-in-Ok-clause-fields : goal.returns-in-Ok-clause-fields
returns-in-Ok-clause-fields g c told lists mount used =
    let holds = c.new-space.ensures.holds in
    let m = c.args.self.now.mounted in
    let extra = holds.same_extra ∙ ap (extra_of m.places.chain.region_at m.places.chain.block) c.deref.ensures.value in
    fields_read g.S.Space.state c.new-space.result c.args.store.now c.args.self.now c.requires holds.base_now extra
    told lists mount c.args.entry used c.in-Ok.fields c.in-Ok.ensures.start c.in-Ok.ensures.wide

pub returns-in-Err-clause-fields : goal.returns-in-Err-clause-fields
returns-in-Err-clause-fields g c told lists mount used =
    let holds = c.new-space.ensures.holds in
    let m = c.args.self.now.mounted in
    let extra = holds.same_extra ∙ ap (extra_of m.places.chain.region_at m.places.chain.block) c.deref.ensures.value in
    let space = g.S.Space in
    let first = c.new-space.result in
    let t = tables_on (space.state c.args.store.now).shape.size c.args.self.now (space.state c.args.store.now).cells
    lists in
    rw c.refused_entry.ensures (exact_done FileFields FileFields c.in-Err.fault
    (λ (fields : FileFields). (fields.start ≡ t.start c.args.entry) × (fields.wide ≡ t.wide c.args.entry))
    (fields_exact space.state first c.args.store.now c.args.self.now c.requires holds.base_now extra told lists mount
    c.args.entry used FileFields c.in-Err.fault c.in-Err.ensures.cause))

pub returns-in-Ok-clause-reads : goal.returns-in-Ok-clause-reads
returns-in-Ok-clause-reads g c =
    let holds = c.new-space.ensures.holds in
    let m = c.args.self.now.mounted in
    let extra = holds.same_extra ∙ ap (extra_of m.places.chain.region_at m.places.chain.block) c.deref.ensures.value in
    let space = g.S.Space in
    let first = c.new-space.result in
    let laws = g.met.S.Space in
    let last = c.fields_in.new.space in
    let room = room_of space.state first c.args.store.now c.args.self.now c.requires holds.base_now extra in
    let kept = c.in-Ok.ensures.reads.frame.2 in
    let shape = laws.keeps_shape first.base.now last.base.now (laws.keeps_hold first.base.now last.base.now kept) in
    let reads = base_reads space.state space.keeps space.lands first last None room shape c.in-Ok.ensures.reads in
    let same = rw holds.base_now at reads in
    search rules

pub returns-in-Err-clause-reads : goal.returns-in-Err-clause-reads
returns-in-Err-clause-reads g c =
    let holds = c.new-space.ensures.holds in
    let m = c.args.self.now.mounted in
    let extra = holds.same_extra ∙ ap (extra_of m.places.chain.region_at m.places.chain.block) c.deref.ensures.value in
    let space = g.S.Space in
    let first = c.new-space.result in
    let laws = g.met.S.Space in
    let last = c.fields_in.new.space in
    let room = room_of space.state first c.args.store.now c.args.self.now c.requires holds.base_now extra in
    let kept = c.in-Err.ensures.reads.frame.2 in
    let shape = laws.keeps_shape first.base.now last.base.now (laws.keeps_hold first.base.now last.base.now kept) in
    let refusal : bad_in c.refused_entry.result ≡ bad_of {A = FileFields} (Err c.in-Err.fault) =
    ap bad_in c.refused_entry.ensures ∙ entry_bad FileFields c.in-Err.fault in
    let reads = base_reads space.state space.keeps space.lands first last (bad_of {A = FileFields}
    (Err c.in-Err.fault)) room shape c.in-Err.ensures.reads in
    let same = rw holds.base_now at reads in
    rw refusal (search rules)

pub returns-in-Err-clause-named : goal.returns-in-Err-clause-named
returns-in-Err-clause-named g c = rw c.refused_entry.ensures (entry_named c.in-Err.fault)
