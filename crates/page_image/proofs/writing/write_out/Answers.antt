use Rattle.std.proofs.Common.{◌≡◌, ◌≢◌, ◌*◌, ◌/◌, ◌<◌, ℕ, List, length, get_or, Option, Some, None, true, false, refl}
use Rattle.std.proofs.Common.{sym, ◌∙◌, ap, arith, ⊎_elim}
use Rattle.std.proofs.lemmas.Bool.{cases_eq, cases_Bool}
use Rattle.save_bytes.specs.Spots.{Frame}
use Rattle.save_bytes.proofs.SpaceLemmas.{Rose-later}
use Rattle.save_disk.specs.State as disks
use Rattle.page_image.specs.declared.state.ImageState.{ImageState}
use Rattle.page_image.specs.Images.{frame_of, is_changed}
use Rattle.page_image.specs.WriteOuts.{IsWrittenOut}
use Rattle.page_image.proofs.CountLemmas.{out_none, out_more, part_more, clean_still}
use Rattle.page_image.proofs.DiskLemmas.{kept_disk}
use Rattle.page_image.proofs.FrameLemmas.{changed_parts, held_in, held_frame}
use Rattle.page_image.proofs.WriteLemmas.{on_err}
use Rattle.page_image.proofs.writing.write_out.Goals as goal

pub loop-frame-init : goal.loop-frame-init
loop-frame-init g c = record {
  out = out_none (g.D.Disk.state c.args.disk.now) c.args.image.now;
  clean = λ frame page sector below is here. absurd (omega arith);
}

pub page_in-held-requires : goal.page_in-held-requires
page_in-held-requires g c = omega
    (arith, (c.loop-frame.invariant.out.went.leaves Frame).0.frames, c.frames-frame-end.ensures.count)

pub write_held-requires : goal.write_held-requires
write_held-requires g c = kept_disk _ _ _ _ (c.loop-frame.invariant.out.went.leaves Frame).0 c.requires

pub returns-in_err-write_held-clause-failed : goal.returns-in_err-write_held-clause-failed
returns-in_err-write_held-clause-failed g c =
    let state = g.D.Disk.state in
    on_err c.from_residual.result
    (part_more (state c.args.disk.now) (state c.loop-frame.disk) (state c.write_held.new.disk) c.args.image.now
    c.loop-frame.image _
    c.loop-frame.invariant.out c.in_err-write_held.ensures.failed)

pub returns-in_err-write_held-clause-cause : goal.returns-in_err-write_held-clause-cause
returns-in_err-write_held-clause-cause g c =
    let rose = Rose-later _ (g.D.Disk.state c.loop-frame.disk).counts.disk _
    (c.loop-frame.invariant.out.went.leaves Frame).0.steady.disk in
    on_err c.from_residual.result (rose c.in_err-write_held.ensures.cause)

pub loop-frame-preserved : goal.loop-frame-preserved
loop-frame-preserved g c =
    let state = g.D.Disk.state in
    let before = c.loop-frame.invariant in
    let step = c.in_ok-write_held.ensures in
    let same = (before.out.went.leaves Frame).0 in
    record {
      out = out_more (state c.args.disk.now) (state c.loop-frame.disk) (state c.write_held.new.disk) c.args.image.now
          c.loop-frame.image _
          before.out step.done;
      clean = λ frame page sector below is here.
          ⊎_elim
          (λ (last : frame ≡ c.loop-frame.frame).
          step.clean page sector
          (c.page_in-held.ensures ∙ ap (λ (l : List (Option ℕ)). get_or l c.loop-frame.frame None)
          before.out.went.frames.pages
          ∙ ap (λ (f : ℕ). get_or c.args.image.now.pages.items f None) (sym last) ∙ is)
          (ap (λ (n : ℕ). sector * n / 4096) same.grain ∙ here))
          (λ (earlier : frame ≢ c.loop-frame.frame).
          clean_still _ _ _ _ step.done.went sector (before.clean frame page sector (omega arith) is here))
          (cases_eq frame c.loop-frame.frame);
    }

-- a sector that is changed has its page in a frame
all_clean : (d e : disks.State) (i j : ImageState) (frames : ℕ) → IsWrittenOut d i e j → length i.pages.items ≡ frames
    → ((frame page sector : ℕ) → frame < frames → get_or i.pages.items frame None ≡ Some page
    → sector * i.grain / 4096 ≡ page → is_changed j sector ≡ false)
    → (sector : ℕ) → is_changed j sector ≡ false
all_clean d e i j frames out count clean sector =
    ⊎_elim
    (λ (changed : is_changed j sector ≡ true).
    let held = (changed_parts i (sector * i.grain) (out.went.fewer sector changed)).1 in
    let page : ℕ = sector * i.grain / 4096 in
    let below = held_frame i page held in
    clean (frame_of i page) page sector (omega arith) (held_in i page held) refl)
    (λ (none : is_changed j sector ≡ false). none)
    (cases_Bool (is_changed j sector))

pub returns-clause-clean : goal.returns-clause-clean
returns-clause-clean g c =
    let state = g.D.Disk.state in
    all_clean (state c.args.disk.now) (state c.loop-frame.disk) c.args.image.now c.loop-frame.image _
    c.loop-frame.invariant.out
    (sym c.frames-frame-end.ensures.count)
    (λ frame page sector below is here. c.loop-frame.invariant.clean frame page sector (omega arith) is here)
