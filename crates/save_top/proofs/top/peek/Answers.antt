use Rattle.save_top.specs.Output.{done}
use Rattle.save_top.proofs.RunLemmas.{says_before, says_as, end_done, silent_says, silent_after, reply_of}
use Rattle.save_top.proofs.top.peek.Goals as goal

pub returns-in-Ok-clause-known : goal.returns-in-Ok-clause-known
returns-in-Ok-clause-known g c = end_done c.say.result c.say.ensures.known

pub returns-in-Ok-clause-says : goal.returns-in-Ok-clause-says
returns-in-Ok-clause-says g c = λ sign image told holds.
    let says = rw c.as_slice.ensures.value at c.say.ensures.says in
    says_as _ (done c.in-Ok.text.items) _ _ _ (c.in-Ok.ensures.shown sign image told holds)
    (says_before _ _ _ _ _ _ (c.in-Ok.ensures.quiet holds.clean) says)

pub returns-in-Err-clause-says : goal.returns-in-Err-clause-says
returns-in-Err-clause-says g c = λ sign image told holds.
    says_before _ _ _ _ _ _ (c.in-Err.ensures.quiet holds.clean)
    (c.fail.ensures.says _ (c.of_miss.ensures.said _ (c.in-Err.ensures.miss sign image told holds)))

pub returns-in-Ok-clause-silent : goal.returns-in-Ok-clause-silent
returns-in-Ok-clause-silent g c =
    let state = g.D.Disk.state in
    silent_after (state c.args.desk.now) (state c.show.new.disk) (state c.say.new.desk) (c.in-Ok.ensures.quiet c.requires.clean)
    (silent_says _ _ _ _ _ c.say.ensures.says)

pub returns-in-Err-clause-silent : goal.returns-in-Err-clause-silent
returns-in-Err-clause-silent g c =
    let state = g.D.Disk.state in
    let reply = reply_of c.of_miss.result in
    silent_after (state c.args.desk.now) (state c.show.new.disk) (state c.fail.new.desk) (c.in-Err.ensures.quiet c.requires.clean)
    (silent_says _ _ _ _ _ (c.fail.ensures.says reply.0 reply.1))
