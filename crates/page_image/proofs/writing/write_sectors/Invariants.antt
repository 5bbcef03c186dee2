use Rattle.std.proofs.Common.{◌≡◌, ℕ, ◌<◌, ◌≤◌, false}
use Rattle.page_image.specs.Images.{is_changed}
use Rattle.page_image.specs.WriteOuts.{IsWrittenOut}
use Rattle.page_image.proofs.writing.write_sectors.Given as goal

abbrev pub invariant-loop-sector : goal.invariant-loop-sector
invariant-loop-sector g l = record {
  out : IsWrittenOut (g.D.Disk.state l.initial.disk) l.initial.image (g.D.Disk.state l.disk) l.image;
  clean : (sector : ℕ) → l.first ≤ sector → sector < l.sector → is_changed l.image sector ≡ false;
}
