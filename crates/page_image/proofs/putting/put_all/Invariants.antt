use Rattle.std.proofs.Common.{◌≡◌, ◌⊎◌, ◌+◌, ◌-◌, ◌%◌, ◌≤◌, length}
use Rattle.page_image.specs.PutFronts.{PutsFirst}
use Rattle.page_image.proofs.putting.put_all.Given as goal

abbrev pub decreases-loop-done : goal.decreases-loop-done
decreases-loop-done g l = length l.bytes - l.done

abbrev pub invariant-loop-done : goal.invariant-loop-done
invariant-loop-done g l = record {
  puts : PutsFirst l.at l.bytes l.done (g.D.Disk.state l.initial.disk) l.initial.image (g.D.Disk.state l.disk) l.image;
  few : l.done ≤ length l.bytes;
  fresh : (l.done ≡ length l.bytes) ⊎ ((l.done ≡ 0) ⊎ ((l.at + l.done) % 4096 ≡ 0));
}
