use Rattle.std.proofs.Common.{refl, arith, rules}
use Rattle.std.specs.Result.{result_err}
use Rattle.save_bytes.specs.State.{CanPut}
use Rattle.save_bytes.specs.Writes.{IsWithin}
use Rattle.save_bytes.specs.Spots.{Hold}
use Rattle.entry_tables.specs.declared.table.EntryKind.TheVariants.{Dir}
use Rattle.entry_tables.specs.Kinds.{entry_size}
use Rattle.entry_tables.specs.Tables.{HasEntry, tables_in, info_of, entry_place}
use Rattle.entry_tables.specs.Changes.{CanChangeTables}
use Rattle.entry_tables.proofs.ChangeLemmas.{ChangesAt-where, ChangesAt-never}
use Rattle.entry_additions.proofs.PutLemmas.{entry_can_put, entry_outside, entry_done}
use Rattle.entry_additions.proofs.put.put_entry.Goals as goal

pub entry_at-requires : goal.entry_at-requires
entry_at-requires g c = rw c.info_for.ensures
    (omega (arith, c.len.ensures (c.requires Dir).sound, (c.requires c.args.kind).zero))

pub put_bytes-requires : goal.put_bytes-requires
put_bytes-requires g c = record {
  inside = record {
    sound = (c.requires Dir).sound;
    inside = omega (arith, c.in-Some.ensures.inside, c.len.ensures (c.requires Dir).sound);
  };
  behind_first = omega (arith, (c.requires Dir).first);
}

pub returns-in-Some-clause-put : goal.returns-in-Some-clause-put
returns-in-Some-clause-put g c = λ can has.
    let s = g.S.Space.state c.args.space.now in
    let at = entry_place c.args.kind (info_of c.args.dirs c.args.files c.args.kind) c.args.place.entry in
    let can_put = entry_can_put s c.args.dirs c.args.files c.requires can c.args.kind c.args.place.entry has in
    let place = rw c.info_for.ensures at c.in-Some.ensures.place in
    entry_done s c.args.dirs c.args.files c.requires can c.args.kind c.args.place.entry has
    (CanPut s at (entry_size c.args.kind)) can_put (g.S.Space.state c.put_bytes.new.space) c.args.place c.args.new
    (result_err c.put_bytes.result) refl
    (record {
      parent = search rules;
      name = search rules;
      start = search rules;
      wide = search rules;
      sibling_fits = search rules;
      link_fits = search rules;
    })
    (rw place at c.put_bytes.ensures.changes).space
    ((rw place at c.put_bytes.ensures.bytes) can_put)
    ((rw place at c.put_bytes.ensures.changes).within can_put)

pub returns-in-Some-clause-ready : goal.returns-in-Some-clause-ready
returns-in-Some-clause-ready g c = λ can has.
    let place = rw c.info_for.ensures at c.in-Some.ensures.place in
    (rw place at c.put_bytes.ensures.ready)
    (entry_can_put (g.S.Space.state c.args.space.now) c.args.dirs c.args.files c.requires can c.args.kind
    c.args.place.entry has)

pub returns-in-Some-clause-changes : goal.returns-in-Some-clause-changes
returns-in-Some-clause-changes g c =
    let s = g.S.Space.state c.args.space.now in
    let place = rw c.info_for.ensures at c.in-Some.ensures.place in
    ChangesAt-where g.S.Space.state g.S.Space.keeps g.S.Space.lands
    (IsWithin (entry_place c.args.kind (info_of c.args.dirs c.args.files c.args.kind) c.args.place.entry)
    (entry_size c.args.kind)) c.args.space.now c.put_bytes.new.space (result_err c.put_bytes.result)
    (λ (both : CanChangeTables s c.args.dirs c.args.files
    × HasEntry ((tables_in s.cells c.args.dirs c.args.files).table c.args.kind) c.args.place.entry).
    entry_can_put s c.args.dirs c.args.files c.requires both.0 c.args.kind c.args.place.entry both.1)
    (rw place at c.put_bytes.ensures.changes)

pub returns-in-None-clause-put : goal.returns-in-None-clause-put
returns-in-None-clause-put g c = λ can has.
    absurd (entry_outside (g.S.Space.state c.args.space.now) c.args.dirs c.args.files c.args.kind c.args.place.entry
    c.len.result (c.len.ensures (c.requires Dir).sound) (rw c.info_for.ensures at c.in-None.ensures.outside)
    (can, has))

pub returns-in-None-clause-ready : goal.returns-in-None-clause-ready
returns-in-None-clause-ready g c = λ can has.
    absurd (entry_outside (g.S.Space.state c.args.space.now) c.args.dirs c.args.files c.args.kind c.args.place.entry
    c.len.result (c.len.ensures (c.requires Dir).sound) (rw c.info_for.ensures at c.in-None.ensures.outside)
    (can, has))

pub returns-in-None-clause-changes : goal.returns-in-None-clause-changes
returns-in-None-clause-changes g c =
    ChangesAt-never g.S.Space.state g.S.Space.keeps g.S.Space.lands
    (IsWithin (entry_place c.args.kind (info_of c.args.dirs c.args.files c.args.kind) c.args.place.entry)
    (entry_size c.args.kind)) c.args.space.now
    (g.met.S.Space.keeps_same Hold c.args.space.now)
    (entry_outside (g.S.Space.state c.args.space.now) c.args.dirs c.args.files c.args.kind c.args.place.entry
    c.len.result (c.len.ensures (c.requires Dir).sound) (rw c.info_for.ensures at c.in-None.ensures.outside))
