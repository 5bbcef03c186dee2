use Rattle.std.proofs.Common.{refl}
use Rattle.part_store.specs.ViewLaws.{shown_can}
use Rattle.part_store.proofs.view.PartViewFloor.clear_ready.Goals as goal

pub clear_ready_in-requires-clause-view : goal.clear_ready_in-requires-clause-view
clear_ready_in-requires-clause-view g c =
    shown_can g.S.Space.state g.met.S.Space.size_fits c.args.self.now c.requires.sound

pub returns-clause-reads : goal.returns-clause-reads
returns-clause-reads g c =
    c.clear_ready_in.ensures.reads c.args.self.now _ (record { base_now = refl; part_now = refl; table_now = refl })
    (record { base_now = refl; part_now = refl; table_now = refl })
    (record { same_base = refl; same_part = refl; same_table = refl })
