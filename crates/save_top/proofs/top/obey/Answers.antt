use Rattle.std.proofs.Common.{◌∙◌, refl, sym, ap}
use Rattle.container_header.specs.declared.header.Header.{Header}
use Rattle.container.proofs.ReadLemmas.{tells_same}
use Rattle.save_disk.proofs.Told.{fresh_tells}
use Rattle.save_top.specs.declared.form.Act.TheVariants.{Info, Peek}
use Rattle.save_top.specs.Texts.{info_text}
use Rattle.save_top.specs.Output.{done}
use Rattle.save_top.proofs.RunLemmas.{answers_one, says_before, says_as, end_done, opened_reply, silent_says, silent_after, reply_of}
use Rattle.save_top.proofs.top.obey.Goals as goal

pub returns-in-Err-clause-answers : goal.returns-in-Err-clause-answers
returns-in-Err-clause-answers g c = λ told is fresh.
    answers_one _ _ _ _ _ refl
    (says_before _ _ _ _ _ _ c.in-Err.ensures.quiet
    (c.fail.ensures.says _ (c.in-Err.ensures.failure told is fresh c.args.order.act)))

pub returns-in-Info-clause-known : goal.returns-in-Info-clause-known
returns-in-Info-clause-known g c = end_done c.info.result c.info.ensures.known

pub returns-in-Info-clause-answers : goal.returns-in-Info-clause-answers
returns-in-Info-clause-answers g c = λ told is fresh.
    let reply = opened_reply _ told.start (g.D.Disk.state c.open.new.desk) c.in-Ok.container c.args.order Info
    (c.in-Ok.ensures.opened told is fresh) c.in-Info.is in
    let text = ap (λ (header : Header). done (info_text header)) c.header.ensures in
    answers_one _ _ _ _ _ refl
    (says_as _ (done (info_text c.header.result.now)) _ _ _ (reply ∙ sym text)
    (says_before _ _ _ _ _ _ c.in-Ok.ensures.quiet c.info.ensures.says))

pub returns-clause-answers : goal.returns-clause-answers
returns-clause-answers g c = λ told is fresh.
    let quiet = c.in-Ok.ensures.quiet in
    let holds = c.in-Ok.ensures.opened told is fresh in
    let old = g.D.Disk.state c.args.desk.now in
    let sure = tells_same old (g.D.Disk.state c.open.new.desk) quiet c.in-Ok.ensures.steady.size (fresh_tells old told is fresh) in
    let reply = opened_reply _ told.start (g.D.Disk.state c.open.new.desk) c.in-Ok.container c.args.order
    (Peek c.in-Peek.part c.in-Peek.block) holds c.in-Peek.is in
    answers_one _ _ _ _ _ refl
    (says_as _ _ _ _ _ reply (says_before _ _ _ _ _ _ quiet (c.peek.ensures.says _ told.start sure holds)))

pub returns-in-Err-clause-silent : goal.returns-in-Err-clause-silent
returns-in-Err-clause-silent g c =
    let state = g.D.Disk.state in
    let reply = reply_of c.in-Err.failure in
    silent_after (state c.args.desk.now) (state c.open.new.desk) (state c.fail.new.desk) c.in-Err.ensures.quiet
    (silent_says _ _ _ _ _ (c.fail.ensures.says reply.0 reply.1))

pub returns-in-Info-clause-silent : goal.returns-in-Info-clause-silent
returns-in-Info-clause-silent g c =
    let state = g.D.Disk.state in
    silent_after (state c.args.desk.now) (state c.open.new.desk) (state c.info.new.desk) c.in-Ok.ensures.quiet
    (silent_says _ _ _ _ _ c.info.ensures.says)

pub returns-clause-silent : goal.returns-clause-silent
returns-clause-silent g c =
    let state = g.D.Disk.state in
    silent_after (state c.args.desk.now) (state c.open.new.desk) (state c.peek.new.desk) c.in-Ok.ensures.quiet c.peek.ensures.silent
