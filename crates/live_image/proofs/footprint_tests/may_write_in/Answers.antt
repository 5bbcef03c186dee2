use Rattle.live_image.proofs.MayWriteLemmas.{may_in}
use Rattle.live_image.proofs.footprint_tests.may_write_in.Goals as goal

pub returns : goal.returns
returns c =
    let here = c.places_of.ensures.partition in
    may_in c.args.image.now c.args.header.now c.args.number c.args.difi.now c.args.touched c.args.place
    c.in_other1-level1.result c.in_other2.result c.in_other2-2.result c.in_other3.result c.in_other3-2.result
    c.in_external.result
    (rw here at c.in_other1-level1.ensures) (rw here at c.in_other2.ensures) (rw here at c.in_other2-2.ensures)
    (rw here at c.in_other3.ensures) (rw here at c.in_other3-2.ensures) (rw here at c.in_external.ensures)
