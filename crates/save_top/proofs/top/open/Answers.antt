use Rattle.std.proofs.Common.{◌≡◌, ◌∙◌, List, ℕ, ap, subst, slice_index}
use Rattle.save_disk.specs.Tells.{image_told}
use Rattle.save_disk.proofs.Told.{fresh_tells}
use Rattle.container.specs.Signers.{signing}
use Rattle.container.specs.Containers.{IsOpenOf}
use Rattle.container.specs.Openings.{fault_of, IsCaused}
use Rattle.container.proofs.ReadLemmas.{tells_same, told_same}
use Rattle.save_top.proofs.FillLemmas.{told_unread}
use Rattle.save_top.proofs.RunLemmas.{start_told, fault_by}
use Rattle.save_top.specs.Replies.{reply_by}
use Rattle.save_top.proofs.top.open.Goals as goal

pub returns-in-Ok-clause-opened : goal.returns-in-Ok-clause-opened
returns-in-Ok-clause-opened g c = λ told is fresh.
    let old = g.D.Disk.state c.args.desk.now in
    let new = g.D.Disk.state c.open.new.disk in
    let sign = signing g.G.Signer.tag_of g.G.Signer.is_demanding c.args.signer.now in
    let opened = c.in-Ok.ensures in
    let container = c.in-Ok.container in
    let sure = fresh_tells old told is fresh in
    let start : image_told old ≡ told.start = start_told old told is fresh in
    let after : image_told new ≡ told.start = told_same old new opened.quiet ∙ start in
    record {
      whole = opened.whole;
      opened = subst (λ (image : List ℕ). IsOpenOf sign image container) start (opened.opened sure);
      held = λ x inside. opened.image.bytes (tells_same old new opened.quiet opened.steady.size sure) x inside ∙ ap (λ (l : List ℕ). slice_index l x) after;
      clean = opened.image.clean;
      told = told_unread new container opened.told;
    }

pub returns-in-Err-clause-failure : goal.returns-in-Err-clause-failure
returns-in-Err-clause-failure g c = λ told is fresh act.
    let old = g.D.Disk.state c.args.desk.now in
    let sign = signing g.G.Signer.tag_of g.G.Signer.is_demanding c.args.signer.now in
    let start : image_told old ≡ told.start = start_told old told is fresh in
    let caused = subst (λ (image : List ℕ). IsCaused (fault_of sign image) c.in-Err.fault) start
    (c.in-Err.ensures.caused (fresh_tells old told is fresh)) in
    c.of_fault.ensures.said (reply_by (fault_of sign told.start) act told.start)
    (fault_by (fault_of sign told.start) act told.start c.in-Err.fault caused)
