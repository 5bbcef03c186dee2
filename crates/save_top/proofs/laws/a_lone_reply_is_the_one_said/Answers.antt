use Rattle.save_top.proofs.RunLemmas.{lone_front, lone_whole}
use Rattle.save_top.proofs.laws.a_lone_reply_is_the_one_said.Goals as goal

pub returns-clause-front : goal.returns-clause-front
returns-clause-front c = lone_front

pub returns-clause-whole : goal.returns-clause-whole
returns-clause-whole c = lone_whole
