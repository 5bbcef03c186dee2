use Rattle.std.proofs.Common.{ℕ, IfOk, IfErr, rules}
use Rattle.save_bytes.specs.Cells.{Cell}
use Rattle.entry_tables.specs.declared.table.TableInfo.{TableInfo}
use Rattle.chain_space.proofs.LaidHeldLemmas.{base_reads}
use Rattle.save_mount.specs.Causes.{refusal_in}
use Rattle.save_mount.specs.Audited.{AreTablesRead, HasTablesCause}
use Rattle.save_mount.proofs.TableLemmas.{can_lay, begins_small, room_in, audit_in, told_in, cells_in, moved}
use Rattle.save_mount.proofs.audit.read_stored.Goals as goal

pub table_infos-requires : goal.table_infos-requires
table_infos-requires g c =
    rw (c.len-size.ensures c.requires.sound) (begins_small (g.S.Space.state c.args.store.now).shape c.args.kind
    c.args.split c.args.info.now c.args.places.now c.args.blocks.now c.requires)

pub new-space-requires : goal.new-space-requires
new-space-requires g c =
    can_lay (g.S.Space.state c.args.store.now).shape c.args.kind c.args.split c.args.info.now c.args.places.now
    c.args.blocks.now c.requires

pub read_both-requires : goal.read_both-requires
read_both-requires g c =
    let holds = c.new-space.ensures.holds in
    rw (c.table_infos.ensures.dirs, c.table_infos.ensures.files, c.len-size.ensures c.requires.sound)
    (audit_in g.S.Space.state c.new-space.result c.args.store.now c.args.places.now c.args.blocks.now holds.base_now
    holds.same_extra c.args.kind c.args.split c.args.info.now c.requires)

pub returns-clause-read : goal.returns-clause-read
returns-clause-read g c told chains are =
    let space = g.S.Space in
    let view = c.new-space.result in
    let holds = c.new-space.ensures.holds in
    moved (λ (n : ℕ) (dirs files : TableInfo) (cells : ℕ → Cell). IfOk c.read_both.result
    (AreTablesRead c.args.kind c.args.split n c.args.info.now dirs files cells)) c.args.places.now c.len-size.result
    (space.state c.args.store.now).shape.size c.table_infos.result.0 c.table_infos.result.1 _ _
    (c.len-size.ensures c.requires.sound) c.table_infos.ensures.dirs c.table_infos.ensures.files
    (cells_in space.state view c.args.store.now c.args.places.now c.args.blocks.now holds.base_now holds.same_extra
    chains are)
    (c.read_both.ensures.read (told_in space.state view c.args.store.now c.args.places.now c.args.blocks.now
    holds.base_now holds.same_extra told))

pub returns-clause-cause : goal.returns-clause-cause
returns-clause-cause g c told chains are =
    let space = g.S.Space in
    let view = c.new-space.result in
    let holds = c.new-space.ensures.holds in
    moved (λ (n : ℕ) (dirs files : TableInfo) (cells : ℕ → Cell). IfErr c.read_both.result
    (HasTablesCause c.args.kind c.args.split n c.args.info.now dirs files cells)) c.args.places.now c.len-size.result
    (space.state c.args.store.now).shape.size c.table_infos.result.0 c.table_infos.result.1 _ _
    (c.len-size.ensures c.requires.sound) c.table_infos.ensures.dirs c.table_infos.ensures.files
    (cells_in space.state view c.args.store.now c.args.places.now c.args.blocks.now holds.base_now holds.same_extra
    chains are)
    (c.read_both.ensures.cause (told_in space.state view c.args.store.now c.args.places.now c.args.blocks.now
    holds.base_now holds.same_extra told))

pub returns-clause-reads : goal.returns-clause-reads
returns-clause-reads g c =
    let space = g.S.Space in
    let laws = g.met.S.Space in
    let holds = c.new-space.ensures.holds in
    let first = c.new-space.result in
    let last = c.read_both.new.space in
    let room = room_in space.state first c.args.store.now c.args.places.now c.args.blocks.now holds.base_now
    holds.same_extra (can_lay (space.state c.args.store.now).shape c.args.kind c.args.split c.args.info.now
    c.args.places.now c.args.blocks.now c.requires) in
    let kept = c.read_both.ensures.reads.frame.2 in
    let shape = laws.keeps_shape first.base.now last.base.now (laws.keeps_hold first.base.now last.base.now kept) in
    let reads = base_reads space.state space.keeps space.lands first last (refusal_in c.read_both.result) room shape
    c.read_both.ensures.reads in
    let same = rw holds.base_now at reads in
    search rules
