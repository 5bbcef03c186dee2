use Rattle.std.proofs.Common.{refl}
use Rattle.part_store.specs.ViewLaws.{shown_can}
use Rattle.part_store.proofs.view.PartViewFloor.clear.Goals as goal

pub clear_in-requires-clause-view : goal.clear_in-requires-clause-view
clear_in-requires-clause-view g c = shown_can g.S.Space.state g.met.S.Space.size_fits c.args.self.now c.requires.sound

pub returns-clause-puts : goal.returns-clause-puts
returns-clause-puts g c =
    let view = c.args.self.now in
    let later = c.clear_in.new in
    c.clear_in.ensures.puts view (record {
      base = record view.base { now = later.base };
      part = record view.part { now = later.part };
      table = record view.table { now = later.table };
    }) (record { base_now = refl; part_now = refl; table_now = refl })
    (record { base_now = refl; part_now = refl; table_now = refl })
    (record { same_base = refl; same_part = refl; same_table = refl })

pub returns-clause-moves : goal.returns-clause-moves
returns-clause-moves g c =
    c.clear_in.ensures.moves c.args.self.now _ (record { base_now = refl; part_now = refl; table_now = refl })
    (record { base_now = refl; part_now = refl; table_now = refl })
    (record { same_base = refl; same_part = refl; same_table = refl })
