use Rattle.std.proofs.Common.{arith}
use Rattle.entry_tables.specs.declared.table.EntryKind.TheVariants.{Dir}
use Rattle.entry_additions.proofs.put.ready_entry.Goals as goal

pub entry_at-requires : goal.entry_at-requires
entry_at-requires g c = rw c.info_for.ensures
    (omega (arith, c.len.ensures (c.requires Dir).sound, (c.requires c.args.kind).zero))

pub ready-requires : goal.ready-requires
ready-requires g c = record {
  sound = (c.requires Dir).sound;
  inside = omega (arith, c.in-Some.ensures.inside, c.entry_size.ensures, c.len.ensures (c.requires Dir).sound);
}

pub returns-in-Some-clause-ready : goal.returns-in-Some-clause-ready
returns-in-Some-clause-ready g c = λ fits.
    rw c.info_for.ensures at (rw c.in-Some.ensures.place at (rw c.entry_size.ensures at c.ready.ensures.ready))

pub returns-in-None-clause-ready : goal.returns-in-None-clause-ready
returns-in-None-clause-ready g c = λ fits.
    absurd (omega (
      arith,
      fits,
      rw c.info_for.ensures at c.in-None.ensures.outside,
      c.len.ensures (c.requires Dir).sound,
    ))
