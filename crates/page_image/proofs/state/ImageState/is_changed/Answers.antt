use Rattle.std.proofs.Common.{sym, ◌∙◌}
use Rattle.page_image.proofs.FrameLemmas.{changed_unheld, changed_here}
use Rattle.page_image.proofs.state.ImageState.is_changed.Goals as goal

pub returns-then-not-is_held : goal.returns-then-not-is_held
returns-then-not-is_held c = sym (changed_unheld c.args.self.now _ (sym c.if-not-is_held.ensures))

pub returns : goal.returns
returns c =
    c.mark.ensures ∙ changed_here c.args.self.now _ _ c.requires (sym c.if-not-is_held.ensures) c.mark_at.ensures.is
