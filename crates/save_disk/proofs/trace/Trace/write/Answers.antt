use Rattle.std.proofs.Common.{length, sym, ap, append-nil}
use Rattle.save_disk.specs.Stops.{Fits}
use Rattle.save_disk.proofs.Events.{written_more, said_more, one_write, each_write_more}
use Rattle.save_disk.proofs.trace.Trace.write.Goals as goal

pub invariant_of-self-clause-is_written : goal.invariant_of-self-clause-is_written
invariant_of-self-clause-is_written c =
    let s = c.args.self.now in
    written_more s.grain s.start.items s.image.items _ s.events.items _ _ s.is_written c.add.ensures
    (let long = ap length c.deref.ensures.value in cc)

pub invariant_of-self-clause-is_said : goal.invariant_of-self-clause-is_said
invariant_of-self-clause-is_said c =
    let s = c.args.self.now in
    said_more s.said.items _ s.events.items _ _ s.is_said c.add.ensures (sym (append-nil _))

pub invariant_of-self-clause-fits : goal.invariant_of-self-clause-fits
invariant_of-self-clause-fits c =
    let s = c.args.self.now in
    each_write_more (Fits s.grain (length s.start.items)) s.events.items _ _ s.fits c.add.ensures
    (one_write (Fits s.grain (length s.start.items)) _ _ (c.requires.whole, c.requires.begins_inside))
