use Rattle.part_store.proofs.seal_tests.settle.Goals as goal

pub returns-clause-view : goal.returns-clause-view
returns-clause-view c = c.settle.ensures.view _ _ c.requires.view
