use Rattle.std.proofs.Common.{arith}
use Rattle.entry_tables.specs.declared.table.EntryKind.TheVariants.{Dir}
use Rattle.entry_tables.proofs.word.ready_word.Goals as goal

pub word_at-requires : goal.word_at-requires
word_at-requires g c = λ kind. record {
  buckets = omega (arith, c.len.ensures (c.requires kind).sound, (c.requires kind).buckets);
  zero = omega (arith, c.len.ensures (c.requires kind).sound, (c.requires kind).zero);
}

pub ready-requires : goal.ready-requires
ready-requires g c = record {
  sound = (c.requires Dir).sound;
  inside = omega (arith, c.in-Some.ensures.inside, c.len.ensures (c.requires Dir).sound);
}

pub returns-in-Some-clause-ready : goal.returns-in-Some-clause-ready
returns-in-Some-clause-ready g c = λ fits. rw c.in-Some.ensures.place at c.ready.ensures.ready

pub returns-in-None-clause-ready : goal.returns-in-None-clause-ready
returns-in-None-clause-ready g c = λ fits.
    absurd (c.in-None.ensures.outside (rw (c.len.ensures (c.requires Dir).sound) fits))
