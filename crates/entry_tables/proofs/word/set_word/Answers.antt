use Rattle.std.proofs.Common.{arith}
use Rattle.std.specs.Result.{result_err}
use Rattle.save_bytes.specs.State.{CanPut}
use Rattle.save_bytes.specs.Writes.{IsWithin}
use Rattle.save_bytes.specs.Spots.{Hold}
use Rattle.entry_tables.specs.declared.table.EntryKind.TheVariants.{Dir}
use Rattle.entry_tables.specs.Tables.{tables_in}
use Rattle.entry_tables.specs.Words.{HasWord, word_place}
use Rattle.entry_tables.specs.Changes.{CanChangeTables}
use Rattle.entry_tables.proofs.ChangeLemmas.{ChangesAt-where, ChangesAt-never}
use Rattle.entry_tables.proofs.SetLemmas.{word_can_put, word_outside, word_done}
use Rattle.entry_tables.proofs.word.set_word.Goals as goal

pub word_at-requires : goal.word_at-requires
word_at-requires g c = λ kind. record {
  buckets = omega (arith, c.len.ensures (c.requires kind).sound, (c.requires kind).buckets);
  zero = omega (arith, c.len.ensures (c.requires kind).sound, (c.requires kind).zero);
}

pub put_number-requires : goal.put_number-requires
put_number-requires g c = record {
  inside = record {
    sound = (c.requires Dir).sound;
    inside = omega (arith, c.in-Some.ensures.inside, c.len.ensures (c.requires Dir).sound);
  };
  behind_first = omega (arith, (c.requires Dir).first);
}

pub returns-in-Some-clause-set : goal.returns-in-Some-clause-set
returns-in-Some-clause-set g c = λ can has.
    let state = g.S.Space.state in
    let s = state c.args.space.now in
    let can_put = word_can_put s c.args.dirs c.args.files c.requires can c.args.word has in
    word_done s c.args.dirs c.args.files c.requires can (CanPut s
    (word_place c.args.dirs c.args.files c.args.word) 4) can_put
    (state c.put_number.new.space) c.args.word c.args.value (result_err c.put_number.result) has
    (rw c.in-Some.ensures.place at c.put_number.ensures.changes).space
    ((rw c.in-Some.ensures.place at c.put_number.ensures.number) can_put)
    ((rw c.in-Some.ensures.place at c.put_number.ensures.bytes) can_put)
    ((rw c.in-Some.ensures.place at c.put_number.ensures.changes).within can_put)

pub returns-in-Some-clause-ready : goal.returns-in-Some-clause-ready
returns-in-Some-clause-ready g c = λ can has.
    (rw c.in-Some.ensures.place at c.put_number.ensures.ready)
    (word_can_put (g.S.Space.state c.args.space.now) c.args.dirs c.args.files c.requires can c.args.word has)

pub returns-in-Some-clause-changes : goal.returns-in-Some-clause-changes
returns-in-Some-clause-changes g c =
    ChangesAt-where g.S.Space.state g.S.Space.keeps g.S.Space.lands
    (IsWithin (word_place c.args.dirs c.args.files c.args.word) 4) c.args.space.now c.put_number.new.space
    (result_err c.put_number.result)
    (λ (both : CanChangeTables (g.S.Space.state c.args.space.now) c.args.dirs c.args.files
    × HasWord (tables_in (g.S.Space.state c.args.space.now).cells c.args.dirs c.args.files) c.args.word).
    word_can_put (g.S.Space.state c.args.space.now) c.args.dirs c.args.files c.requires both.0 c.args.word both.1)
    (rw c.in-Some.ensures.place at c.put_number.ensures.changes)

pub returns-in-None-clause-set : goal.returns-in-None-clause-set
returns-in-None-clause-set g c = λ can has.
    absurd (word_outside (g.S.Space.state c.args.space.now) c.args.dirs c.args.files c.args.word c.len.result c.requires
    (c.len.ensures (c.requires Dir).sound) c.in-None.ensures.outside (can, has))

pub returns-in-None-clause-ready : goal.returns-in-None-clause-ready
returns-in-None-clause-ready g c = λ can has.
    absurd (word_outside (g.S.Space.state c.args.space.now) c.args.dirs c.args.files c.args.word c.len.result c.requires
    (c.len.ensures (c.requires Dir).sound) c.in-None.ensures.outside (can, has))

pub returns-in-None-clause-changes : goal.returns-in-None-clause-changes
returns-in-None-clause-changes g c =
    ChangesAt-never g.S.Space.state g.S.Space.keeps g.S.Space.lands
    (IsWithin (word_place c.args.dirs c.args.files c.args.word) 4) c.args.space.now
    (g.met.S.Space.keeps_same Hold c.args.space.now)
    (word_outside (g.S.Space.state c.args.space.now) c.args.dirs c.args.files c.args.word c.len.result c.requires
    (c.len.ensures (c.requires Dir).sound) c.in-None.ensures.outside)
