use Rattle.std.proofs.Common.{rules}
use Rattle.ivfc_tree.proofs.LearnLemmas.{made_later}
use Rattle.ivfc_tree.proofs.write_tests.byte_at.Goals as goal

pub returns-in-Ok : goal.returns-in-Ok
returns-in-Ok c =
    let last = c.piece.follows.lender-at-none in
    let hold = c.piece.follows.holds-at-none.frame.0 in
    let first = c.new-view.ensures.holds in
    let marks = rw first.state_now at hold.marks in
    let made = made_later c.args.difi.now c.args.state.now last.state.now marks c.requires.made in
    search (rules, made, hold.same_state, first.same_state)

pub returns-in-Err : goal.returns-in-Err
returns-in-Err c =
    let last = c.piece.follows.lender-at-none in
    let hold = c.piece.follows.holds-at-none.frame.0 in
    let first = c.new-view.ensures.holds in
    let marks = rw first.state_now at hold.marks in
    let made = made_later c.args.difi.now c.args.state.now last.state.now marks c.requires.made in
    search (rules, made, hold.same_state, first.same_state)
