use Rattle.std.proofs.Common.{◌∙◌, arith}
use Rattle.save_bytes.proofs.CallLemmas.{IfOk-map}
use Rattle.entry_tables.specs.declared.table.EntryKind.TheVariants.{Dir}
use Rattle.entry_tables.proofs.SetLemmas.{word_outside, word_read}
use Rattle.entry_tables.proofs.word.read_word.Goals as goal

pub word_at-requires : goal.word_at-requires
word_at-requires g c = λ kind. record {
  buckets = omega (arith, c.len.ensures (c.requires kind).sound, (c.requires kind).buckets);
  zero = omega (arith, c.len.ensures (c.requires kind).sound, (c.requires kind).zero);
}

pub space_u32-requires : goal.space_u32-requires
space_u32-requires g c = record {
  sound = (c.requires Dir).sound;
  inside = omega (arith, c.in-Some.ensures.inside, c.len.ensures (c.requires Dir).sound);
}

pub returns-in-Some-clause-value : goal.returns-in-Some-clause-value
returns-in-Some-clause-value g c = λ can has.
    let s = g.S.Space.state c.args.space.now in
    IfOk-map c.space_u32.result
    (λ value is. is ∙ word_read s.cells c.args.dirs c.args.files c.args.word has)
    ((rw c.in-Some.ensures.place at c.space_u32.ensures.number) (can.tells Dir).told)

pub returns-in-Some-clause-read : goal.returns-in-Some-clause-read
returns-in-Some-clause-read g c = λ fits. rw c.in-Some.ensures.place at c.space_u32.ensures.read

pub returns-in-None-clause-value : goal.returns-in-None-clause-value
returns-in-None-clause-value g c = λ can has.
    absurd (word_outside (g.S.Space.state c.args.space.now) c.args.dirs c.args.files c.args.word c.len.result c.requires
    (c.len.ensures (c.requires Dir).sound) c.in-None.ensures.outside (can, has))

pub returns-in-None-clause-read : goal.returns-in-None-clause-read
returns-in-None-clause-read g c = λ fits.
    absurd (c.in-None.ensures.outside (rw (c.len.ensures (c.requires Dir).sound) fits))
