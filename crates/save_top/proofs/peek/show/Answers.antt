use Rattle.std.proofs.Common.{◌≡◌, ℕ, List, length, sym, ◌∙◌, ap, arith}
use Rattle.std.proofs.lemmas.Result.{err_from_is_err_and}
use Rattle.page_image.proofs.ReadLemmas.{written_back}
use Rattle.save_top.specs.Texts.{block_text}
use Rattle.save_top.specs.Output.{done}
use Rattle.save_top.proofs.PeekLemmas.{miss_by, shown_by, refused_by, place_fits}
use Rattle.save_top.proofs.peek.show.Goals as goal

pub returns-in_err-place-clause-miss : goal.returns-in_err-place-clause-miss
returns-in_err-place-clause-miss g c = λ sign image told holds.
    let p = err_from_is_err_and c.from_residual.result c.from_residual.ensures.1 in
    rw (p.1, p.2) (miss_by sign image (g.D.Disk.state c.args.disk.now) c.args.container.now holds c.args.part c.args.block
    c.in_err-place.field-0.0 c.in_err-place.ensures.miss)

pub fill-requires-clause-inside : goal.fill-requires-clause-inside
fill-requires-clause-inside g c =
    let fits = place_fits (g.D.Disk.state c.args.disk.now) c.args.container.now c.args.part c.args.block c.in_ok-place.place c.in_ok-place.ensures.place in
    omega (arith, fits, c.deref_mut.ensures.len, c.in-Ok.ensures.len)

pub returns-in-Err-clause-miss : goal.returns-in-Err-clause-miss
returns-in-Err-clause-miss g c = λ sign image told holds.
    let disk = g.D.Disk.state c.args.disk.now in
    let container = c.args.container.now in
    let long : length c.deref_mut.result.now ≡ c.in_ok-place.place.len = c.deref_mut.ensures.len ∙ c.in-Ok.ensures.len in
    let read = rw long at c.in-Err.ensures.read in
    refused_by sign image disk container holds c.requires.disk c.args.part c.args.block c.in_ok-place.place
    c.in_ok-place.ensures.place c.in-Err.bad c.miss_of.result c.miss_of.ensures
    (read.damaged (holds.told told))

pub returns-in-Ok-block_text-clause-shown : goal.returns-in-Ok-block_text-clause-shown
returns-in-Ok-block_text-clause-shown g c = λ sign image told holds.
    let disk = g.D.Disk.state c.args.disk.now in
    let container = c.args.container.now in
    let bytes : c.deref.result.now ≡ c.fill.new.out = c.deref.ensures.value
    ∙ written_back c.in-Ok.bytes.len c.fill.new.out _ (c.fill.auto.out ∙ c.deref_mut.ensures.len) in
    let long : length c.fill.new.out ≡ c.in_ok-place.place.len = c.fill.auto.out ∙ c.deref_mut.ensures.len ∙ c.in-Ok.ensures.len in
    let shown = shown_by sign image disk container holds c.requires.disk c.args.part c.args.block
    c.in_ok-place.place c.in_ok-place.ensures.place c.fill.new.out long
    (c.in_default-fill.ensures.bytes (holds.told told)) in
    shown ∙ ap done (ap (λ (l : List ℕ). block_text c.args.part c.args.block l) (sym bytes) ∙ sym c.in-Ok-block_text.ensures)
