use Rattle.save_session.proofs.tests.first_behind.Goals as goal

pub store-store-requires : goal.store-store-requires
store-store-requires g c = c.say_piece.ensures.disk c.args.container.now.image c.requires.disk
