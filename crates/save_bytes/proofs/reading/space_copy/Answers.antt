use Rattle.std.proofs.Common.{◌≡◌, ◌-◌, ◌≤◌, None, length, arith}
use Rattle.std.proofs.lemmas.List.{places}
use Rattle.save_bytes.proofs.CellLemmas.{copy_more}
use Rattle.save_bytes.proofs.CallLemmas.{Reads-join}
use Rattle.save_bytes.proofs.reading.space_copy.Goals as goal

pub loop-done-preserved : goal.loop-done-preserved
loop-done-preserved g c =
    let before = c.loop-done.invariant in
    let out = c.loop-done.out in
    let part = c.copy_piece.new.out in
    let long : length part ≡ length out - c.loop-done.done = grind (arith, places) in
    let some : c.in_ok-done.field-0 ≤ length part = grind (arith, places) in
    record {
      within = grind (arith, places);
      bytes = λ told. copy_more _ (g.S.Space.state c.loop-done.space).cells (g.S.Space.state c.args.space.now).shape.size c.args.at
          c.loop-done.done c.in_ok-done.field-0 out part (omega arith) (before.reads.stays.cells told) long before.within some
          (before.bytes told) (c.in_ok-done.ensures.bytes (before.reads.stays.space.told told));
      reads = Reads-join g.S.Space.state g.S.Space.keeps g.S.Space.lands g.met.S.Space.keeps_join _ _ _ None before.reads c.in_ok-done.ensures.reads;
    }
