use Rattle.std.proofs.Common.{◌+◌, arith}
use Rattle.std.specs.Result.{result_err}
use Rattle.save_bytes.specs.State.{CanPut}
use Rattle.save_bytes.specs.Writes.{IsWithin}
use Rattle.save_bytes.specs.Spots.{Hold}
use Rattle.entry_tables.specs.declared.table.EntryKind.TheVariants.{File}
use Rattle.entry_tables.specs.Tables.{HasEntry, tables_in, entry_place}
use Rattle.entry_tables.specs.Changes.{CanChangeTables}
use Rattle.entry_tables.proofs.ChangeLemmas.{ChangesAt-where, ChangesAt-never}
use Rattle.entry_tables.proofs.SetLemmas.{fields_can_put, fields_outside, fields_done}
use Rattle.entry_tables.proofs.word.set_fields_in.Goals as goal

pub entry_at-requires : goal.entry_at-requires
entry_at-requires g c = omega (arith, c.len.ensures (c.requires File).sound, (c.requires File).zero)

pub put_fields-requires : goal.put_fields-requires
put_fields-requires g c = record {
  inside = record {
    sound = (c.requires File).sound;
    inside = omega (arith, c.in-Some.ensures.inside, c.len.ensures (c.requires File).sound);
  };
  behind_first = omega (arith, (c.requires File).first);
}

pub returns-in-Some-clause-set : goal.returns-in-Some-clause-set
returns-in-Some-clause-set g c = λ can has.
    let s = g.S.Space.state c.args.space.now in
    let at = entry_place File c.args.files c.args.entry + 0x1C in
    let can_put = fields_can_put s c.args.dirs c.args.files c.requires can c.args.entry has in
    fields_done s c.args.dirs c.args.files c.requires can (CanPut s at 12) can_put
    (g.S.Space.state c.put_fields.new.space)
    c.args.entry c.args.fields.start c.args.fields.wide (result_err c.put_fields.result) has
    (rw c.in-Some.ensures.place at c.put_fields.ensures.changes).space
    ((rw c.in-Some.ensures.place at c.put_fields.ensures.start) can_put)
    ((rw c.in-Some.ensures.place at c.put_fields.ensures.wide) can_put)
    ((rw c.in-Some.ensures.place at c.put_fields.ensures.bytes) can_put)
    ((rw c.in-Some.ensures.place at c.put_fields.ensures.changes).within can_put)

pub returns-in-Some-clause-ready : goal.returns-in-Some-clause-ready
returns-in-Some-clause-ready g c = λ can has.
    (rw c.in-Some.ensures.place at c.put_fields.ensures.ready)
    (fields_can_put (g.S.Space.state c.args.space.now) c.args.dirs c.args.files c.requires can c.args.entry has)

pub returns-in-Some-clause-changes : goal.returns-in-Some-clause-changes
returns-in-Some-clause-changes g c =
    ChangesAt-where g.S.Space.state g.S.Space.keeps g.S.Space.lands
    (IsWithin (entry_place File c.args.files c.args.entry + 0x1C) 12) c.args.space.now c.put_fields.new.space
    (result_err c.put_fields.result)
    (λ (both : CanChangeTables (g.S.Space.state c.args.space.now) c.args.dirs c.args.files
    × HasEntry ((tables_in (g.S.Space.state c.args.space.now).cells c.args.dirs c.args.files).table File) c.args.entry).
    fields_can_put (g.S.Space.state c.args.space.now) c.args.dirs c.args.files c.requires both.0 c.args.entry both.1)
    (rw c.in-Some.ensures.place at c.put_fields.ensures.changes)

pub returns-in-None-clause-set : goal.returns-in-None-clause-set
returns-in-None-clause-set g c = λ can has.
    absurd (fields_outside (g.S.Space.state c.args.space.now) c.args.dirs c.args.files c.args.entry c.len.result
    (c.len.ensures (c.requires File).sound) c.in-None.ensures.outside (can, has))

pub returns-in-None-clause-ready : goal.returns-in-None-clause-ready
returns-in-None-clause-ready g c = λ can has.
    absurd (fields_outside (g.S.Space.state c.args.space.now) c.args.dirs c.args.files c.args.entry c.len.result
    (c.len.ensures (c.requires File).sound) c.in-None.ensures.outside (can, has))

pub returns-in-None-clause-changes : goal.returns-in-None-clause-changes
returns-in-None-clause-changes g c =
    ChangesAt-never g.S.Space.state g.S.Space.keeps g.S.Space.lands
    (IsWithin (entry_place File c.args.files c.args.entry + 0x1C) 12) c.args.space.now
    (g.met.S.Space.keeps_same Hold c.args.space.now)
    (fields_outside (g.S.Space.state c.args.space.now) c.args.dirs c.args.files c.args.entry c.len.result
    (c.len.ensures (c.requires File).sound) c.in-None.ensures.outside)
