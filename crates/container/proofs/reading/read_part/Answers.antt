use Rattle.std.proofs.Common.{◌≡◌, ◌-◌, ◌+◌, length, ◌∙◌, arith, ap, take, drop, List, ℕ}
use Rattle.std.proofs.lemmas.List.{places}
use Rattle.save_disk.specs.Tells.{image_told}
use Rattle.save_disk.proofs.Telling.{steady_join}
use Rattle.container.proofs.ReadLemmas.{tells_same, told_same, read_more}
use Rattle.container.proofs.reading.read_part.Goals as goal

pub loop-done-preserved : goal.loop-done-preserved
loop-done-preserved g c =
    let state = g.D.Disk.state in
    let before = c.loop-done.invariant in
    let piece = c.in_ok-done.ensures in
    let n = c.in_ok-done.field-0 in
    let done = c.loop-done.done in
    let out = c.loop-done.out in
    let part = c.read_piece.new.out in
    let long : length part ≡ length out - done = grind (arith, places) in
    record {
      within = grind (arith, places);
      bytes = λ sure.
          (let next = piece.bytes (tells_same (state c.args.disk.now) (state c.loop-done.disk) before.quiet before.steady.size sure) in
          let same = told_same (state c.args.disk.now) (state c.loop-done.disk) before.quiet in
          read_more done n c.args.at out part (image_told (state c.args.disk.now)) before.within long
          (omega (arith, long, piece.count)) (before.bytes sure)
          (next ∙ ap (λ (l : List ℕ). take n (drop (c.args.at + done) l)) same));
      quiet = piece.quiet ∙ before.quiet;
      steady = steady_join (state c.args.disk.now) (state c.loop-done.disk) (state c.read_piece.new.disk) before.steady piece.steady;
    }
