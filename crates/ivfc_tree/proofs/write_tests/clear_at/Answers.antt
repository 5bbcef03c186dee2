use Rattle.std.proofs.Common.{rules}
use Rattle.ivfc_tree.proofs.LearnLemmas.{made_later}
use Rattle.ivfc_tree.proofs.write_tests.clear_at.Goals as goal

pub returns : goal.returns
returns c =
    let hold = c.clear.ensures.moves.hold.0 in
    let first = c.new-view.ensures.holds in
    let marks = rw first.state_now at hold.marks in
    let made = made_later c.args.difi.now c.args.state.now c.clear.new.self.state.now marks c.requires.made in
    search (rules, made, hold.same_state, first.same_state)
