use Rattle.std.proofs.Common.{◌≡◌, ◌≢◌, ◌*◌, ◌<◌, ℕ, ap, arith, ⊎_elim}
use Rattle.std.proofs.lemmas.Bool.{cases_eq}
use Rattle.save_bytes.specs.Spots.{Frame}
use Rattle.save_bytes.proofs.SpaceLemmas.{Rose-later}
use Rattle.page_image.specs.declared.state.ImageState.{ImageState}
use Rattle.page_image.proofs.CountLemmas.{out_none, out_more, part_more, clean_still}
use Rattle.page_image.proofs.DiskLemmas.{kept_disk}
use Rattle.page_image.proofs.WriteLemmas.{on_err}
use Rattle.page_image.proofs.writing.write_sectors.Goals as goal

begins_as : (i j : ImageState) (s : ℕ) → j.len ≡ i.len → j.grain ≡ i.grain → s * i.grain < i.len → s * j.grain < j.len
begins_as i j s len grain inside =
    let same : s * j.grain ≡ s * i.grain = ap (λ (g : ℕ). s * g) grain in
    omega arith

pub loop-sector-init : goal.loop-sector-init
loop-sector-init g c = record {
  out = out_none (g.D.Disk.state c.args.disk.now) c.args.image.now;
  clean = λ sector from below. absurd (omega arith);
}

pub write_changed-requires-clause-disk_of : goal.write_changed-requires-clause-disk_of
write_changed-requires-clause-disk_of g c =
    kept_disk _ _ _ _ (c.loop-sector.invariant.out.went.leaves Frame).0 c.requires.disk_of

pub write_changed-requires-clause-inside : goal.write_changed-requires-clause-inside
write_changed-requires-clause-inside g c =
    let same = (c.loop-sector.invariant.out.went.leaves Frame).0 in
    let inside = c.requires.inside c.loop-sector.sector c.loop-sector.auto.sector c.loop-sector-test.true in
    begins_as c.args.image.now c.loop-sector.image c.loop-sector.sector same.len same.grain inside

pub returns-in_err-write_changed-clause-failed : goal.returns-in_err-write_changed-clause-failed
returns-in_err-write_changed-clause-failed g c =
    let state = g.D.Disk.state in
    on_err c.from_residual.result
    (part_more (state c.args.disk.now) (state c.loop-sector.disk) (state c.write_changed.new.disk) c.args.image.now
    c.loop-sector.image _
    c.loop-sector.invariant.out c.in_err-write_changed.ensures.failed)

pub returns-in_err-write_changed-clause-cause : goal.returns-in_err-write_changed-clause-cause
returns-in_err-write_changed-clause-cause g c =
    let rose = Rose-later _ (g.D.Disk.state c.loop-sector.disk).counts.disk _
    (c.loop-sector.invariant.out.went.leaves Frame).0.steady.disk in
    on_err c.from_residual.result (rose c.in_err-write_changed.ensures.cause)

pub loop-sector-preserved : goal.loop-sector-preserved
loop-sector-preserved g c =
    let state = g.D.Disk.state in
    let before = c.loop-sector.invariant in
    let step = c.in_ok-write_changed.ensures in
    record {
      out = out_more (state c.args.disk.now) (state c.loop-sector.disk) (state c.write_changed.new.disk)
          c.args.image.now c.loop-sector.image _
          before.out step.done;
      clean = λ sector from below.
          ⊎_elim
          (λ (here : sector ≡ c.loop-sector.sector). rw here step.clean)
          (λ (apart : sector ≢ c.loop-sector.sector).
          clean_still _ _ _ _ step.done.went sector (before.clean sector from (omega arith)))
          (cases_eq sector c.loop-sector.sector);
    }
