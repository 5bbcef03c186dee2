use Rattle.save_fs.proofs.NamedLemmas.{entry_named}
use Rattle.std.proofs.Common.{ap, subst, ◌∙◌, rules, None, Err, ◌≡◌}
use Rattle.chain_space.specs.Laid.{extra_of}
use Rattle.chain_space.proofs.LaidHeldLemmas.{base_reads}
use Rattle.entry_tables.specs.Tables.{Tables}
use Rattle.entry_tables.specs.Causes.{bad_of}
use Rattle.tree_model.specs.declared.kind.TreeKind.TheVariants.{Save}
use Rattle.tree_paths.specs.Standings.{IsStanding}
use Rattle.save_mount.proofs.TableLemmas.{can_lay}
use Rattle.save_fs.specs.Faults.{bad_in}
use Rattle.save_fs.specs.Mounted.{tables_on}
use Rattle.tree_paths.specs.declared.descent.Standing.{Standing}
use Rattle.save_fs.proofs.LookupLemmas.{stands_in, room_of, tables_stand, tables_are, orderly, needed, tells}
use Rattle.save_fs.proofs.LookupLemmas.{entry_bad, exact_done}
use Rattle.save_fs.proofs.mounted.SaveFs.standing.Goals as goal

pub new-space-requires : goal.new-space-requires
new-space-requires g c =
    let s = (g.S.Space.state c.args.store.now).shape in
    let m = c.args.self.now.mounted in
    rw c.deref.ensures.value (can_lay s Save c.args.self.now.split m.info m.places m.blocks.items
    (stands_in s c.args.self.now c.requires))

pub find_path-requires : goal.find_path-requires
find_path-requires g c =
    let holds = c.new-space.ensures.holds in
    let m = c.args.self.now.mounted in
    tables_stand g.S.Space.state c.new-space.result c.args.store.now c.args.self.now c.requires holds.base_now
    (holds.same_extra ∙ ap (extra_of m.places.chain.region_at m.places.chain.block) c.deref.ensures.value)

pub returns-in-Ok-clause-standing : goal.returns-in-Ok-clause-standing
returns-in-Ok-clause-standing g c told lists mount =
    let holds = c.new-space.ensures.holds in
    let m = c.args.self.now.mounted in
    let extra = holds.same_extra ∙ ap (extra_of m.places.chain.region_at m.places.chain.block) c.deref.ensures.value in
    let space = g.S.Space.state in
    let view = c.new-space.result in
    subst (λ (t : Tables). IsStanding t c.args.path.now c.in-Ok.standing)
    (tables_are space view c.args.store.now c.args.self.now c.requires holds.base_now extra told lists mount)
    (c.in-Ok.ensures.standing
    (tells space view c.args.store.now c.args.self.now c.requires holds.base_now extra told lists mount)
    (orderly space view c.args.store.now c.args.self.now c.requires holds.base_now extra told lists mount))

pub returns-in-Err-clause-standing : goal.returns-in-Err-clause-standing
returns-in-Err-clause-standing g c told lists mount =
    let holds = c.new-space.ensures.holds in
    let m = c.args.self.now.mounted in
    let extra = holds.same_extra ∙ ap (extra_of m.places.chain.region_at m.places.chain.block) c.deref.ensures.value in
    let space = g.S.Space in
    let first = c.new-space.result in
    rw c.refused_entry.ensures (exact_done Standing Standing c.in-Err.fault
    (IsStanding (tables_on (space.state c.args.store.now).shape.size
    c.args.self.now (space.state c.args.store.now).cells lists) c.args.path.now) (c.in-Err.ensures.exact
    (tells space.state first c.args.store.now c.args.self.now c.requires holds.base_now extra told lists mount)
    (orderly space.state first c.args.store.now c.args.self.now c.requires holds.base_now extra told lists mount)
    (needed space.state first c.args.store.now c.args.self.now c.requires holds.base_now extra told lists mount)))

pub returns-in-Ok-clause-reads : goal.returns-in-Ok-clause-reads
returns-in-Ok-clause-reads g c =
    let holds = c.new-space.ensures.holds in
    let m = c.args.self.now.mounted in
    let extra = holds.same_extra ∙ ap (extra_of m.places.chain.region_at m.places.chain.block) c.deref.ensures.value in
    let space = g.S.Space in
    let first = c.new-space.result in
    let laws = g.met.S.Space in
    let last = c.find_path.new.space in
    let room = room_of space.state first c.args.store.now c.args.self.now c.requires holds.base_now extra in
    let kept = c.in-Ok.ensures.reads.frame.2 in
    let shape = laws.keeps_shape first.base.now last.base.now (laws.keeps_hold first.base.now last.base.now kept) in
    let reads = base_reads space.state space.keeps space.lands first last None room shape c.in-Ok.ensures.reads in
    let same = rw holds.base_now at reads in
    search rules

pub returns-in-Err-clause-reads : goal.returns-in-Err-clause-reads
returns-in-Err-clause-reads g c =
    let holds = c.new-space.ensures.holds in
    let m = c.args.self.now.mounted in
    let extra = holds.same_extra ∙ ap (extra_of m.places.chain.region_at m.places.chain.block) c.deref.ensures.value in
    let space = g.S.Space in
    let first = c.new-space.result in
    let laws = g.met.S.Space in
    let last = c.find_path.new.space in
    let room = room_of space.state first c.args.store.now c.args.self.now c.requires holds.base_now extra in
    let kept = c.in-Err.ensures.reads.frame.2 in
    let shape = laws.keeps_shape first.base.now last.base.now (laws.keeps_hold first.base.now last.base.now kept) in
    let refusal : bad_in c.refused_entry.result ≡ bad_of {A = Standing} (Err c.in-Err.fault) =
    ap bad_in c.refused_entry.ensures ∙ entry_bad Standing c.in-Err.fault in
    let reads = base_reads space.state space.keeps space.lands first last (bad_of {A = Standing} (Err c.in-Err.fault))
    room shape c.in-Err.ensures.reads in
    let same = rw holds.base_now at reads in
    rw refusal (search rules)

pub returns-in-Err-clause-named : goal.returns-in-Err-clause-named
returns-in-Err-clause-named g c = rw c.refused_entry.ensures (entry_named c.in-Err.fault)
