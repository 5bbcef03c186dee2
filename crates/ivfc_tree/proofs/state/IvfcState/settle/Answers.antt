use Rattle.std.proofs.Common.{refl}
use Rattle.ivfc_tree.specs.declared.state.IvfcState.{IvfcState}
use Rattle.ivfc_tree.specs.Marks.{is_marked}
use Rattle.ivfc_tree.specs.Settles.{settled}
use Rattle.ivfc_tree.proofs.OriginLemmas.{CameFrom-none}
use Rattle.ivfc_tree.proofs.SettleLemmas.{turned_made, settled_unmarked, settles_hashed}
use Rattle.ivfc_tree.proofs.state.IvfcState.settle.Goals as goal

pub returns-clause-unmarked : goal.returns-clause-unmarked
returns-clause-unmarked c =
    settled_unmarked c.args.self.now (record c.args.self.now { marks = c.end.new.self })
    (record { marks = c.end.ensures; hashed = refl })

pub returns-clause-settles : goal.returns-clause-settles
returns-clause-settles c =
    settles_hashed c.args.self.now (record c.args.self.now { marks = c.end.new.self })
    (record { marks = c.end.ensures; hashed = refl })

pub returns-clause-made : goal.returns-clause-made
returns-clause-made c =
    turned_made settled c.args.self.now (record c.args.self.now { marks = c.end.new.self })
    (record { marks = c.end.ensures; hashed = refl })

pub returns-clause-origin : goal.returns-clause-origin
returns-clause-origin c = λ difi cells master.
    let new : IvfcState = record c.args.self.now { marks = c.end.new.self } in
    CameFrom-none difi (is_marked new) cells master (returns-clause-unmarked c)
