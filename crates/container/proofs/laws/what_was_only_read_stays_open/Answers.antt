use Rattle.container.proofs.PartLemmas.{kept_whole, kept_as_read}
use Rattle.container.proofs.laws.what_was_only_read_stays_open.Goals as goal

pub returns-clause-whole : goal.returns-clause-whole
returns-clause-whole c = λ old new kept len whole.
    rw (kept.header, len, kept.table)
    (kept_whole old.header old.image.len old.table.items old.parts new.parts kept.parts whole)

pub returns-clause-opened : goal.returns-clause-opened
returns-clause-opened c = λ old new kept sign image is. record {
  opens = is.opens;
  header = rw kept.header is.header;
  table = rw (kept.header, kept.table) is.table;
  parts = rw (kept.header, kept.table)
      (kept_as_read old.table.items old.header old.parts new.parts kept.parts is.parts);
}
