use Rattle.live_image.proofs.MayWriteLemmas.{may_behind}
use Rattle.live_image.proofs.footprint_tests.may_write_behind.Goals as goal

pub returns : goal.returns
returns c =
    may_behind c.args.image.now c.args.header.now c.requires.header c.args.touched.0 c.args.touched.1 c.args.place
    c.requires.behind
    c.lies_from-table.result c.may_write_part-first.result c.may_write_second.result
    (rw c.inactive_table.ensures at c.lies_from-table.ensures) c.may_write_part-first.ensures
    c.may_write_second.ensures
