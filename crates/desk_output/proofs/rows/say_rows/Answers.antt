use Rattle.std.proofs.Common.{rules, arith}
use Rattle.std.proofs.lemmas.Result.{on_ok_weaker, on_err_weaker}
use Rattle.save_disk.proofs.Telling.{steady_join}
use Rattle.desk_output.proofs.Telling.{only_join}
use Rattle.desk_output.proofs.RowLemmas.{row_added, rows_cut, rows_said}
use Rattle.desk_output.proofs.rows.say_rows.Goals as goal

pub returns-in_err-make_room-clause-cut : goal.returns-in_err-make_room-clause-cut
returns-in_err-make_room-clause-cut g c =
    let state = g.D.Disk.state in
    let cut = rows_cut c.args.rows.now c.loop-row.row-index c.loop-row.pending.items (state c.args.desk.now)
    (state c.loop-row.desk) (state c.make_room.new.desk) c.loop-row.invariant.0 c.in_err-make_room.ensures.cut in
    search rules

pub returns-in_err-make_room-clause-only : goal.returns-in_err-make_room-clause-only
returns-in_err-make_room-clause-only g c =
    let state = g.D.Disk.state in
    only_join (state c.args.desk.now).told (state c.loop-row.desk).told (state c.make_room.new.desk).told
    c.loop-row.invariant.1 c.in_err-make_room.ensures.only

pub loop-row-preserved : goal.loop-row-preserved
loop-row-preserved g c =
    let state = g.D.Disk.state in
    let old = state c.args.desk.now in
    let before = state c.loop-row.desk in
    let after = state c.make_room.new.desk in
    let room = c.in_ok-make_room.ensures in (
      row_added c.args.rows.now c.loop-row.row-index c.loop-row.pending.items old before after c.loop-row.invariant.0
          c.row-item.result c.make_room.new.pending.items c.put_row.new.out.items
          (omega arith) c.row-item.is room.said c.put_row.ensures,
      only_join old.told before.told after.told c.loop-row.invariant.1 room.only,
      steady_join old before after c.loop-row.invariant.2 room.steady,
    )

pub returns-clause-whole : goal.returns-clause-whole
returns-clause-whole g c =
    let state = g.D.Disk.state in
    on_ok_weaker c.say_all.result
    (rows_said c.args.rows.now c.loop-row.row-index c.loop-row.pending.items (state c.args.desk.now)
    (state c.loop-row.desk) (state c.say_all.new.desk) c.loop-row.invariant.0 (omega arith))
    (rw c.as_slice.ensures.value at c.say_all.ensures.whole)

pub returns-clause-cut : goal.returns-clause-cut
returns-clause-cut g c =
    let state = g.D.Disk.state in
    on_err_weaker c.say_all.result
    (rows_cut c.args.rows.now c.loop-row.row-index c.loop-row.pending.items (state c.args.desk.now)
    (state c.loop-row.desk) (state c.say_all.new.desk) c.loop-row.invariant.0)
    (rw c.as_slice.ensures.value at c.say_all.ensures.cut)

pub returns-clause-only : goal.returns-clause-only
returns-clause-only g c =
    let state = g.D.Disk.state in
    only_join (state c.args.desk.now).told (state c.loop-row.desk).told (state c.say_all.new.desk).told
    c.loop-row.invariant.1 c.say_all.ensures.only
