use Rattle.std.proofs.Common.{◌≡◌, ◌-◌, ◌≤◌, None, Some, length, arith, rules}
use Rattle.std.proofs.lemmas.List.{places}
use Rattle.save_bytes.proofs.CellLemmas.{copy_more}
use Rattle.save_bytes.proofs.CallLemmas.{Reads-join}
use Rattle.container.specs.StoreHeld.{shown, StoreKeeps, store_lands}
use Rattle.container.specs.StoreLaws.{StoreKeeps-join}
use Rattle.container.proofs.HeldLemmas.{length_fits}
use Rattle.container.proofs.store.Store.copy.Goals as goal

pub overflow_add-at : goal.overflow_add-at
overflow_add-at g c =
    let store = c.args.self.now in
    let container = store.container.now in
    let parts = container.parts in
    let fits = length_fits (g.D.Disk.state store.disk.now) container.image parts.first parts.second container.table.items c.requires.sound in
    omega (arith, fits, c.requires.inside)

pub returns-in_err-done-clause-reads : goal.returns-in_err-done-clause-reads
returns-in_err-done-clause-reads g c =
    let states = g.D.Disk.state in
    let reads = Reads-join (shown states) (StoreKeeps states) (store_lands states) (StoreKeeps-join states) c.args.self.now c.loop-done.self
    c.copy_piece.new.self (Some c.in_err-done.field-0.0) c.loop-done.invariant.reads c.in_err-done.ensures.reads in
    search rules

pub loop-done-preserved : goal.loop-done-preserved
loop-done-preserved g c =
    let states = g.D.Disk.state in
    let out = c.loop-done.out in
    let part = c.copy_piece.new.out in
    let before = c.loop-done.invariant in
    let step = c.in_ok-done.ensures in
    let old = shown states c.args.self.now in
    let mid = shown states c.loop-done.self in
    let long : length part ≡ length out - c.loop-done.done = grind (arith, places) in
    let some : c.in_ok-done.field-0 ≤ length part = grind (arith, places) in
    record {
      within = grind (arith, places);
      bytes = λ told. copy_more old.cells mid.cells old.shape.size c.args.at c.loop-done.done c.in_ok-done.field-0 out part (omega arith)
          (before.reads.stays.cells told) long before.within some (before.bytes told) (step.bytes (before.reads.stays.space.told told));
      reads = Reads-join (shown states) (StoreKeeps states) (store_lands states) (StoreKeeps-join states) c.args.self.now c.loop-done.self
          c.copy_piece.new.self None before.reads step.reads;
    }
