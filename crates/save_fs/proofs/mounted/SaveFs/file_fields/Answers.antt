use Rattle.save_fs.proofs.NamedLemmas.{get_named}
use Rattle.std.proofs.Common.{◌≡◌, sym, subst}
use Rattle.entry_tables.specs.declared.table.EntryKind.TheVariants.{File}
use Rattle.entry_tables.specs.declared.table.FileFields.{FileFields}
use Rattle.entry_tables.specs.Used.{used_entries}
use Rattle.entry_tables.specs.Tables.{Tables}
use Rattle.save_bytes.proofs.CallLemmas.{reads_then}
use Rattle.save_fs.specs.Mounted.{tables_on}
use Rattle.save_fs.proofs.GetLemmas.{file_fields, fields_refused}
use Rattle.save_fs.proofs.LaterLemmas.{mount_mid, tables_mid}
use Rattle.save_fs.proofs.mounted.SaveFs.file_fields.Goals as goal

pub returns-in-Ok-fields-clause-found : goal.returns-in-Ok-fields-clause-found
returns-in-Ok-fields-clause-found g c told tree h =
    let old = g.S.Space.state c.args.store.now in
    let mid = g.S.Space.state c.file_at.new.store in
    let fs = c.args.self.now in
    let lists = h.reads.lists in
    let stays = c.in-Ok.ensures.reads.stays in
    let at = c.in-Ok.ensures.found told tree h in
    let tables = tables_mid old mid stays told fs lists h.mount in
    let used = subst (λ (t : Tables). used_entries (t.table File) c.in-Ok.file) (sym tables) at.0.0.used in
    let found = c.in-Ok-fields.ensures.fields (stays.space.told told) lists
    (mount_mid old mid stays told fs lists h.mount) used in
    let moved = subst (λ (t : Tables). (c.in-Ok-fields.fields.start ≡ t.start c.in-Ok.file)
    × (c.in-Ok-fields.fields.wide ≡ t.wide c.in-Ok.file)) tables found in
    file_fields old.shape.size fs old.cells tree h c.args.path.now c.in-Ok.file at.0 at.1 c.in-Ok-fields.fields.start
    c.in-Ok-fields.fields.wide moved.0 moved.1

pub returns-in-Ok-fields-clause-reads : goal.returns-in-Ok-fields-clause-reads
returns-in-Ok-fields-clause-reads g c =
    reads_then g.met.S.Space.keeps_join c.in-Ok.ensures.reads c.in-Ok-fields.ensures.reads

pub returns-in-Err-fields-clause-found : goal.returns-in-Err-fields-clause-found
returns-in-Err-fields-clause-found g c told tree h =
    let old = g.S.Space.state c.args.store.now in
    let mid = g.S.Space.state c.file_at.new.store in
    let fs = c.args.self.now in
    let lists = h.reads.lists in
    let stays = c.in-Ok.ensures.reads.stays in
    let at = c.in-Ok.ensures.found told tree h in
    let tables = tables_mid old mid stays told fs lists h.mount in
    let used = subst (λ (t : Tables). used_entries (t.table File) c.in-Ok.file) (sym tables) at.0.0.used in
    let t = tables_on mid.shape.size fs mid.cells lists in
    fields_refused FileFields (λ (fields : FileFields). (fields.start ≡ t.start c.in-Ok.file)
    × (fields.wide ≡ t.wide c.in-Ok.file)) old.cells fs.mounted.places.chain tree c.args.path.now c.in-Err-fields.fault
    (c.in-Err-fields.ensures.fields (stays.space.told told) lists (mount_mid old mid stays told fs lists h.mount) used)

pub returns-in-Err-fields-clause-reads : goal.returns-in-Err-fields-clause-reads
returns-in-Err-fields-clause-reads g c =
    reads_then g.met.S.Space.keeps_join c.in-Ok.ensures.reads c.in-Err-fields.ensures.reads

pub returns-in-Err-fields-clause-named : goal.returns-in-Err-fields-clause-named
returns-in-Err-fields-clause-named g c = get_named c.in-Err-fields.fault c.in-Err-fields.ensures.named
