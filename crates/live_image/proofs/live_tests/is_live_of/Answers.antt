use Rattle.std.proofs.Common.{arith, sym, ◌∙◌}
use Rattle.container_header.proofs.HeaderRead.{reading-is}
use Rattle.live_image.specs.Same.{HasPart}
use Rattle.live_image.proofs.ImageLemmas.{descriptor_there, table_len, placed}
use Rattle.live_image.proofs.live_tests.is_live_of.Goals as goal

pub read-requires-clause-inside : goal.read-requires-clause-inside
read-requires-clause-inside c =
    let place = descriptor_there c.args.image.now c.args.header.now c.requires.header c.args.number c.requires.number in
    let len = table_len c.args.image.now c.args.header.now c.requires.header in
    rw (c.table_of-table.ensures, c.places_of.ensures.descriptor, len) (omega (arith, place.inside.ends))

pub read-requires-clause-whole : goal.read-requires-clause-whole
read-requires-clause-whole c =
    let place = descriptor_there c.args.image.now c.args.header.now c.requires.header c.args.number c.requires.number in
    rw c.places_of.ensures.descriptor (omega (arith, place.shortest))

has_part : (c : goal.After-difi-in-Ok-1) → HasPart c.args.image.now c.args.header.now c.args.number c.in-Ok.difi
has_part c = record {
  header_is = reading-is c.args.image.now c.args.header.now c.requires.header;
  counted = c.requires.number;
  described =
      sym (rw (c.table_of-table.ensures, c.places_of.ensures.descriptor, c.places_of.ensures.partition) at
      c.read.ensures.exact)
      ∙ c.in-Ok.is;
}

pub is_live_tree-requires : goal.is_live_tree-requires
is_live_tree-requires c =
    rw c.places_of.ensures.partition (placed c.args.image.now c.args.header.now c.args.number c.in-Ok.difi (has_part c))

pub returns-in-Ok : goal.returns-in-Ok
returns-in-Ok c =
    let read =
    sym (rw (c.table_of-table.ensures, c.places_of.ensures.descriptor, c.places_of.ensures.partition) at
    c.read.ensures.exact)
    ∙ c.in-Ok.is in
    rw read (rw c.places_of.ensures.partition at c.is_live_tree.ensures)
