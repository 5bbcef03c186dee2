use Rattle.std.proofs.Common.{◌≡◌, ℕ, None, length, get_or}
use Rattle.page_image.proofs.opening.no_pages.Given as goal

abbrev pub invariant-loop-frame : goal.invariant-loop-frame
invariant-loop-frame l = record {
  len : length l.pages.items ≡ l._frame;
  none : (frame : ℕ) → get_or l.pages.items frame None ≡ None;
}
