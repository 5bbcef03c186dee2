use Rattle.std.proofs.Common.{ℕ, ◌≤◌, IsTrue, ◌∙◌, subst, arith}
use Rattle.save_bytes.specs.Spots.{Place}
use Rattle.save_disk.specs.State as disks
use Rattle.save_disk.specs.Tells.{tells}
use Rattle.page_image.specs.declared.state.ImageState.{ImageState}
use Rattle.page_image.specs.Images.{IsDiskOf, IsFrontStored, DiffersWithin}
use Rattle.page_image.specs.PutFronts.{PutsSome}
use Rattle.page_image.proofs.DiskLemmas.{disk_of-true, kept_disk}
use Rattle.page_image.proofs.FewLemmas.{few_pages, few_in_all}
use Rattle.page_image.proofs.StoredLemmas.{front_stays}
use Rattle.page_image.proofs.image.ImageSpace.put.Goals as goal

-- however far a put got, the first 512 bytes stay on the disk
put_front_stays : (d e : disks.State) (i j : ImageState) (at n : ℕ) → disks.IsSound d → disks.IsSound e → IsDiskOf d i
    → 512 ≤ at
    → PutsSome at n d i e j → IsTrue (tells d) → IsFrontStored d i → IsFrontStored e j
put_front_stays d e i j at n sound sound_now disk_of behind puts told =
    front_stays d e i j sound sound_now disk_of told
    (λ x below. puts.spots told (Place x) (λ k within here. omega arith))

pub put_all-requires-clause-disk_of : goal.put_all-requires-clause-disk_of
put_all-requires-clause-disk_of g c = disk_of-true _ _ c.requires.inside.sound

pub returns-in-Ok-clause-few : goal.returns-in-Ok-clause-few
returns-in-Ok-clause-few g c = λ told.
    let e = g.D.Disk.state c.put_all.new.disk in
    let j = c.put_all.new.image in
    let done = c.in-Ok.ensures.done in
    let disk_of = kept_disk _ e _ j done.some.hold (disk_of-true _ _ c.requires.inside.sound) in
    subst (λ (n : ℕ). DiffersWithin 512 n e j) done.some.hold.frames
    (few_pages e j (g.met.D.Disk.sound c.put_all.new.disk) disk_of (done.told ∙ told))

pub returns-in-Ok-clause-front : goal.returns-in-Ok-clause-front
returns-in-Ok-clause-front g c =
    put_front_stays _ _ _ _ c.args.at _ (g.met.D.Disk.sound c.args.self.now.disk.now)
    (g.met.D.Disk.sound c.put_all.new.disk)
    (disk_of-true _ _ c.requires.inside.sound) c.requires.behind_first c.in-Ok.ensures.done.some

pub returns-in-Err-clause-front : goal.returns-in-Err-clause-front
returns-in-Err-clause-front g c =
    put_front_stays _ _ _ _ c.args.at _ (g.met.D.Disk.sound c.args.self.now.disk.now)
    (g.met.D.Disk.sound c.put_all.new.disk)
    (disk_of-true _ _ c.requires.inside.sound) c.requires.behind_first c.in-Err.ensures.failed

pub returns-in-Ok-clause-few_in_all : goal.returns-in-Ok-clause-few_in_all
returns-in-Ok-clause-few_in_all g c = λ told stored.
    let e = g.D.Disk.state c.put_all.new.disk in
    let j = c.put_all.new.image in
    let done = c.in-Ok.ensures.done in
    let disk_of = kept_disk _ e _ j done.some.hold (disk_of-true _ _ c.requires.inside.sound) in
    subst (λ (n : ℕ). DiffersWithin 0 n e j) done.some.hold.frames
    (few_in_all e j (g.met.D.Disk.sound c.put_all.new.disk) disk_of (done.told ∙ told)
    (put_front_stays _ _ _ _ c.args.at _ (g.met.D.Disk.sound c.args.self.now.disk.now)
    (g.met.D.Disk.sound c.put_all.new.disk)
    (disk_of-true _ _ c.requires.inside.sound) c.requires.behind_first done.some told stored))
