use Rattle.ivfc_tree.proofs.LearnLemmas.{made_later}
use Rattle.ivfc_tree.proofs.seal_tests.mark.Goals as goal

pub returns : goal.returns
returns g c = made_later c.args.difi.now c.args.state.now c.mark.new.self c.mark.ensures.0.many c.requires.made
