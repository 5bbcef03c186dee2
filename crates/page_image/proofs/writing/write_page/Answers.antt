use Rattle.std.proofs.Common.{◌≡◌, ◌≤◌, ◌<◌, ◌*◌, ◌/◌, ◌+◌, ℕ, min, max, false, ◌∙◌, ap, arith, ⊎_elim}
use Rattle.std.proofs.lemmas.Bool.{cases_lt}
use Rattle.save_bytes.specs.Spots.{Frame}
use Rattle.page_image.specs.declared.state.ImageState.{ImageState}
use Rattle.page_image.specs.Images.{is_changed, is_changed_at}
use Rattle.page_image.proofs.FrameLemmas.{changed_outside}
use Rattle.page_image.proofs.SectorLemmas.{page_sectors}
use Rattle.page_image.proofs.WriteLemmas.{both_weaker}
use Rattle.page_image.proofs.writing.write_page.Goals as goal

-- where the sectors of a page that begin inside are not changed, none of the page's is
page_clean : (i j : ImageState) (count page sectors end : ℕ) → count ≡ 4096 / i.grain
    → end ≡ max (min sectors (page * count + count)) (page * count)
    → ((s : ℕ) → s * i.grain < i.len → s < sectors) → j.len ≡ i.len → j.grain ≡ i.grain
    → ((s : ℕ) → page * count ≤ s → s < end → is_changed j s ≡ false) → (s : ℕ) → s * i.grain / 4096 ≡ page
    → is_changed j s ≡ false
page_clean i j count page sectors end is_count is_end covers len grain clean s here =
    ⊎_elim
    (λ (inside : s * i.grain < i.len).
    let within = page_sectors i.grain i.layout.known s page here in
    let first : page * count ≡ page * (4096 / i.grain) = ap (λ (n : ℕ). page * n) is_count in
    let below = covers s inside in
    clean s (omega arith) (omega arith))
    (λ (past : i.len ≤ s * i.grain). ap (λ (n : ℕ). is_changed_at j (s * n)) grain
    ∙ changed_outside j (s * i.grain) (omega arith))
    (cases_lt (s * i.grain) i.len)

pub returns-clause-clean : goal.returns-clause-clean
returns-clause-clean g c =
    let i = c.args.image.now in
    let j = c.write_sectors.new.image in
    let first : ℕ = c.args.page * (4096 / c.grain.result) in
    both_weaker c.write_sectors.result (λ same clean.
    page_clean i j (4096 / c.grain.result) c.args.page c.sectors.result c.max-end.result
    (ap (λ (n : ℕ). 4096 / n) c.grain.ensures)
    (c.max-end.ensures ∙ ap (λ (n : ℕ). max n first) c.min.ensures) c.sectors.ensures.covers
    (same.went.leaves Frame).0.len
    (same.went.leaves Frame).0.grain clean)
    c.write_sectors.ensures.done c.write_sectors.ensures.clean
