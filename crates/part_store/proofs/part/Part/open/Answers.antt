use Rattle.part_store.proofs.PartLemmas.{no_memory}
use Rattle.part_store.proofs.part.Part.open.Goals as goal

pub returns-clause-told : goal.returns-clause-told
returns-clause-told c = no_memory (record {
  number = c.args.number;
  at = c.args.part_at;
  difi = c.args.difi.now;
  dpfs = c.in_ok-new.field-0;
  ivfc = c.in_ok-new-2.field-0;
}) c.in_ok-new-2.ensures.empty
