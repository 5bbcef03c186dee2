use Rattle.std.proofs.Common.{◌-◌, ◌≤◌, IsTrue, None, length, take}
use Rattle.save_bytes.specs.Cells.{AreBytesAt}
use Rattle.save_bytes.specs.Reads.{Reads}
use Rattle.container.specs.StoreHeld.{shown, StoreKeeps, store_lands}
use Rattle.container.proofs.store.Store.copy.Given as goal

abbrev pub invariant-loop-done : goal.invariant-loop-done
invariant-loop-done g l =
    let states = g.D.Disk.state in
    record {
      within : l.done ≤ length l.out;
      bytes : IsTrue (shown states l.initial.self).told → AreBytesAt (shown states l.initial.self).cells l.at (take l.done l.out);
      reads : Reads (shown states) (StoreKeeps states) (store_lands states) l.initial.self l.self None;
    }

abbrev pub decreases-loop-done : goal.decreases-loop-done
decreases-loop-done g l = length l.initial.out - l.done
