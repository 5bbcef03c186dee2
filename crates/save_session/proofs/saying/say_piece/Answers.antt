use Rattle.save_session.proofs.SayingLemmas.{disk_said, store_said}
use Rattle.save_session.proofs.saying.say_piece.Goals as goal

pub returns-clause-disk : goal.returns-clause-disk
returns-clause-disk g c =
    let state = g.D.Disk.state in
    let said = c.say_all.ensures in
    disk_said (state c.args.desk.now) (state c.say_all.new.desk) said.only said.steady

pub returns-clause-store : goal.returns-clause-store
returns-clause-store g c =
    let state = g.D.Disk.state in
    let said = c.say_all.ensures in
    store_said (state c.args.desk.now) (state c.say_all.new.desk) said.only said.steady
