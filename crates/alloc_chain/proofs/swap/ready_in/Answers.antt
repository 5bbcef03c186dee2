use Rattle.alloc_chain.proofs.swap.ready_in.Goals as goal

pub returns-in-Ok-clause-answer : goal.returns-in-Ok-clause-answer
returns-in-Ok-clause-answer g c = λ told mine free can. (c.in-Ok.ensures.exact told mine free can).0

pub returns-in-Err-clause-answer : goal.returns-in-Err-clause-answer
returns-in-Err-clause-answer g c = λ told mine free can. (c.in-Err.ensures.exact told mine free can).0
