use Rattle.std.proofs.Common.{refl}
use Rattle.ivfc_tree.specs.declared.state.IvfcState.{IvfcState}
use Rattle.ivfc_tree.specs.Marks.{is_marked}
use Rattle.ivfc_tree.proofs.PathLemmas.{state_is}
use Rattle.ivfc_tree.specs.Settles.{dropped}
use Rattle.ivfc_tree.proofs.OriginLemmas.{CameFrom-none}
use Rattle.ivfc_tree.proofs.SettleLemmas.{turned_made, dropped_unmarked, remembers_origin}
use Rattle.ivfc_tree.proofs.state.IvfcState.drop_changes.Goals as goal

pub returns-clause-unmarked : goal.returns-clause-unmarked
returns-clause-unmarked c =
    dropped_unmarked c.args.self.now (record c.args.self.now { marks = c.end.new.self })
    (record { marks = c.end.ensures; hashed = refl })

pub returns-clause-paths : goal.returns-clause-paths
returns-clause-paths c = λ cells master difi.
    let new : IvfcState = record c.args.self.now { marks = c.end.new.self } in
    state_is cells master difi (is_marked new) (returns-clause-unmarked c)

pub returns-clause-remembers : goal.returns-clause-remembers
returns-clause-remembers c =
    remembers_origin c.args.self.now (record c.args.self.now { marks = c.end.new.self })
    (record { marks = c.end.ensures; hashed = refl })

pub returns-clause-made : goal.returns-clause-made
returns-clause-made c =
    turned_made dropped c.args.self.now (record c.args.self.now { marks = c.end.new.self })
    (record { marks = c.end.ensures; hashed = refl })

pub returns-clause-origin : goal.returns-clause-origin
returns-clause-origin c = λ difi cells master.
    let new : IvfcState = record c.args.self.now { marks = c.end.new.self } in
    CameFrom-none difi (is_marked new) cells master (returns-clause-unmarked c)
