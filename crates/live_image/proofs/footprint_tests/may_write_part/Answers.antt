use Rattle.std.proofs.Common.{sym, ◌∙◌}
use Rattle.container_header.proofs.HeaderRead.{reading-is}
use Rattle.live_image.specs.Same.{HasPart}
use Rattle.live_image.proofs.MayWriteLemmas.{by_descriptor}
use Rattle.live_image.proofs.footprint_tests.may_write_part.Goals as goal

pub returns-in-Ok : goal.returns-in-Ok
returns-in-Ok c =
    let has : HasPart c.args.image.now c.args.header.now c.args.number c.in-Ok.difi = record {
      header_is = reading-is c.args.image.now c.args.header.now c.requires.header;
      counted = c.requires.number;
      described =
          sym (rw (c.table_of-table.ensures, c.places_of.ensures.descriptor, c.places_of.ensures.partition) at
          c.read.ensures.exact)
          ∙ c.in-Ok.is;
    } in
    by_descriptor c.args.image.now c.args.header.now c.args.number c.in-Ok.difi _ c.args.place c.may_write_in.result has
    c.may_write_in.ensures
