use Rattle.container.proofs.ImageLemmas.{store_sound, store_cells, store_paths}
use Rattle.container.proofs.open.Container.store.Goals as goal

pub returns-clause-sound : goal.returns-clause-sound
returns-clause-sound g c = λ whole.
    let container = c.args.self.now in
    store_sound (g.D.Disk.state c.args.disk.now) container.image container.header container.table.items c.requires
    whole.sound whole.table_len container.parts.first container.parts.second whole.count whole.first whole.second

pub returns-clause-cells : goal.returns-clause-cells
returns-clause-cells g c = λ sign image whole opened held.
    let container = c.args.self.now in
    let parts = opened.parts in
    store_cells (g.D.Disk.state c.args.disk.now) container.image image container.header container.table.items
    c.requires held whole.sound whole.table_len opened.table container.parts.first container.parts.second
    parts.count parts.first parts.second

pub returns-clause-statuses : goal.returns-clause-statuses
returns-clause-statuses g c = λ sign image whole opened held.
    let container = c.args.self.now in
    store_paths (g.D.Disk.state c.args.disk.now) container.image image container.header container.table.items
    c.requires held whole.sound whole.table_len opened.table container.parts opened.parts
