use Rattle.std.proofs.Common.{◌≡◌, ◌+◌, length, Some, None, sym, ◌∙◌}
use Rattle.std.specs.Result.{result_err}
use Rattle.page_image.specs.Images.{image_state}
use Rattle.container.specs.StoreHeld.{store_of}
use Rattle.container.proofs.CallLemmas.{size_of}
use Rattle.container.proofs.AcrossLemmas.{across_ready, across_puts, across_moves, can_behind, never, refused_puts}
use Rattle.container.proofs.AcrossLemmas.{refused_moves}
use Rattle.container.proofs.OriginLemmas.{can_put, origins_join, read_come}
use Rattle.container.proofs.writing.put_across.Goals as goal

pub returns-in-Ok-put_in-clause-ready : goal.returns-in-Ok-put_in-clause-ready
returns-in-Ok-put_in-clause-ready g c =
    let states = g.D.Disk.state in
    let first = c.in-Ok-put_in.ensures in
    let place : c.difi.result.now.ivfc4.size ≡ c.args.at + length c.args.first.now =
    size_of c.difi.result.now c.args.container.now.parts.first.difi c.difi.ensures ∙ sym c.requires.place in
    across_ready (store_of (states c.args.disk.now) c.args.container.now)
    (store_of (states c.ready_all.new.disk) c.ready_all.new.container)
    (store_of (states c.put_in.new.disk) c.put_in.new.container) c.args.at c.args.first.now c.args.second.now
    (result_err c.put_in-in-Ok-put_in.result) c.requires.inside.inside c.in-Ok.ensures.ready c.in-Ok.ensures.reads.stays
    first.puts (rw (sym place) c.put_in-in-Ok-put_in.ensures.ready)

pub returns-in-Ok-put_in-clause-puts : goal.returns-in-Ok-put_in-clause-puts
returns-in-Ok-put_in-clause-puts g c =
    let states = g.D.Disk.state in
    let place : c.difi.result.now.ivfc4.size ≡ c.args.at + length c.args.first.now =
    size_of c.difi.result.now c.args.container.now.parts.first.difi c.difi.ensures ∙ sym c.requires.place in
    across_puts (store_of (states c.args.disk.now) c.args.container.now)
    (store_of (states c.ready_all.new.disk) c.ready_all.new.container)
    (store_of (states c.put_in.new.disk) c.put_in.new.container) c.args.at c.args.first.now c.args.second.now
    (result_err c.put_in-in-Ok-put_in.result) c.requires.inside.inside c.in-Ok.ensures.ready c.in-Ok.ensures.reads.stays
    c.in-Ok-put_in.ensures.puts (rw (sym place) c.put_in-in-Ok-put_in.ensures.ready)
    (store_of (states c.put_in-in-Ok-put_in.new.disk) c.put_in-in-Ok-put_in.new.container)
    (rw (sym place) c.put_in-in-Ok-put_in.ensures.puts)

pub returns-in-Ok-put_in-clause-moves : goal.returns-in-Ok-put_in-clause-moves
returns-in-Ok-put_in-clause-moves g c =
    let states = g.D.Disk.state in
    let place : c.difi.result.now.ivfc4.size ≡ c.args.at + length c.args.first.now =
    size_of c.difi.result.now c.args.container.now.parts.first.difi c.difi.ensures ∙ sym c.requires.place in
    let old = store_of (states c.args.disk.now) c.args.container.now in
    let mid = store_of (states c.ready_all.new.disk) c.ready_all.new.container in
    let new = store_of (states c.put_in.new.disk) c.put_in.new.container in
    let refusal = result_err c.put_in-in-Ok-put_in.result in
    across_moves states _ _ _ c.args.at (length c.args.first.now) (length c.args.second.now) c.requires.inside.inside
    c.in-Ok.ensures.reads _ refusal c.in-Ok-put_in.ensures.puts.space.shape
    (can_behind old mid new c.args.at c.args.first.now c.args.second.now refusal c.requires.inside.inside
    c.in-Ok.ensures.ready c.in-Ok.ensures.reads.stays c.in-Ok-put_in.ensures.puts
    (rw (sym place) c.put_in-in-Ok-put_in.ensures.ready))
    (never old mid new c.args.at c.args.first.now c.args.second.now refusal c.requires.inside.inside
    c.in-Ok.ensures.ready c.in-Ok.ensures.reads.stays c.in-Ok-put_in.ensures.puts
    (rw (sym place) c.put_in-in-Ok-put_in.ensures.ready))
    c.in-Ok-put_in.ensures.moves (rw (sym place) c.put_in-in-Ok-put_in.ensures.moves)

pub returns-in-Err-put_in-clause-puts : goal.returns-in-Err-put_in-clause-puts
returns-in-Err-put_in-clause-puts g c =
    let states = g.D.Disk.state in
    refused_puts (store_of (states c.args.disk.now) c.args.container.now)
    (store_of (states c.ready_all.new.disk) c.ready_all.new.container)
    (store_of (states c.put_in.new.disk) c.put_in.new.container) c.args.at c.args.first.now c.args.second.now
    c.in-Err-put_in.bad c.requires.inside.inside c.in-Ok.ensures.reads.stays c.in-Err-put_in.ensures.puts

pub returns-in-Err-put_in-clause-moves : goal.returns-in-Err-put_in-clause-moves
returns-in-Err-put_in-clause-moves g c =
    refused_moves g.D.Disk.state _ _ _ c.args.at (length c.args.first.now) (length c.args.second.now)
    c.requires.inside.inside c.in-Ok.ensures.reads c.in-Err-put_in.bad c.in-Err-put_in.ensures.moves

pub returns-in-Ok-put_in-clause-came : goal.returns-in-Ok-put_in-clause-came
returns-in-Ok-put_in-clause-came g c =
    let states = g.D.Disk.state in
    let mid = c.ready_all.new in
    let next = c.put_in.new in
    let last = c.put_in-in-Ok-put_in.new in
    let refusal = result_err c.put_in-in-Ok-put_in.result in
    origins_join (states c.args.disk.now) (states mid.disk) (states last.disk) c.args.container.now mid.container
    last.container refusal c.in-Ok.ensures.reads.stays.space.told
    (read_come states (record { container = c.args.container.now; disk = c.args.disk.now })
    (record { container = mid.container; disk = mid.disk }) None c.requires.inside.sound c.in-Ok.ensures.reads)
    (origins_join (states mid.disk) (states next.disk) (states last.disk) mid.container next.container last.container
    refusal
    (λ told. c.in-Ok-put_in.ensures.puts.space.told
    (can_put (image_state (states mid.disk) mid.container.image) mid.container.parts.first mid.container.parts.second
    mid.container.table.items c.args.at (length c.args.first.now) told))
    c.in-Ok-put_in.ensures.came c.put_in-in-Ok-put_in.ensures.came)

pub returns-in-Err-put_in-clause-came : goal.returns-in-Err-put_in-clause-came
returns-in-Err-put_in-clause-came g c =
    let states = g.D.Disk.state in
    let mid = c.ready_all.new in
    let next = c.put_in.new in
    origins_join (states c.args.disk.now) (states mid.disk) (states next.disk) c.args.container.now mid.container
    next.container (Some c.in-Err-put_in.bad) c.in-Ok.ensures.reads.stays.space.told
    (read_come states (record { container = c.args.container.now; disk = c.args.disk.now })
    (record { container = mid.container; disk = mid.disk }) None c.requires.inside.sound c.in-Ok.ensures.reads)
    c.in-Err-put_in.ensures.came

pub returns-in-Err-clause-came : goal.returns-in-Err-clause-came
returns-in-Err-clause-came g c =
    let states = g.D.Disk.state in
    let mid = c.ready_all.new in
    read_come states (record { container = c.args.container.now; disk = c.args.disk.now })
    (record { container = mid.container; disk = mid.disk }) (Some c.in-Err.bad) c.requires.inside.sound
    c.in-Err.ensures.reads
