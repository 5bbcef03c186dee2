use Rattle.std.proofs.Common.{◌≡◌, ℕ, ◌*◌, ◌/◌, ◌<◌, false, get_or, Some, None}
use Rattle.page_image.specs.Images.{is_changed}
use Rattle.page_image.specs.WriteOuts.{IsWrittenOut}
use Rattle.page_image.proofs.writing.write_out.Given as goal

abbrev pub invariant-loop-frame : goal.invariant-loop-frame
invariant-loop-frame g l = record {
  out : IsWrittenOut (g.D.Disk.state l.initial.disk) l.initial.image (g.D.Disk.state l.disk) l.image;
  clean : (frame page sector : ℕ) → frame < l.frame → get_or l.initial.image.pages.items frame None ≡ Some page
      → sector * l.initial.image.grain / 4096 ≡ page → is_changed l.image sector ≡ false;
}
