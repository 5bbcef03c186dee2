use Rattle.std.proofs.Common.{ℕ, IsTrue, refl, ◌∙◌, ap, subst}
use Rattle.std.proofs.lemmas.Result.{on_ok_weaker, on_err_weaker}
use Rattle.save_bytes.specs.Cells.{Byte}
use Rattle.save_bytes.specs.Spots.{Place, Frame}
use Rattle.save_disk.specs.Tells.{tells}
use Rattle.page_image.specs.Images.{IsFrontStored, DiffersWithin}
use Rattle.page_image.proofs.CountLemmas.{all_written}
use Rattle.page_image.proofs.DiskLemmas.{disk_of-true, kept_disk}
use Rattle.page_image.proofs.WriteLemmas.{clean_stored, both_weaker, either_way}
use Rattle.page_image.proofs.FewLemmas.{few_pages, few_in_all}
use Rattle.page_image.proofs.StoredLemmas.{front_stays}
use Rattle.page_image.proofs.image.Image.flush.Given.{Over}
use Rattle.page_image.proofs.image.Image.flush.Goals.{After-write_out}
use Rattle.page_image.proofs.image.Image.flush.Goals as goal

pub write_out-requires : goal.write_out-requires
write_out-requires g c = disk_of-true _ _ c.requires

pub returns-clause-frame : goal.returns-clause-frame
returns-clause-frame g c =
    either_way c.write_out.result (λ out. (record { same_image = refl; same_disk = refl }, out.went.leaves Frame))
    (λ part. (record { same_image = refl; same_disk = refl }, part.went.leaves Frame)) c.write_out.ensures.done
    c.write_out.ensures.failed

pub returns-clause-spots : goal.returns-clause-spots
returns-clause-spots g c = λ spot.
    either_way c.write_out.result (λ out. (record { same_image = refl; same_disk = refl }, out.went.leaves spot))
    (λ part. (record { same_image = refl; same_disk = refl }, part.went.leaves spot)) c.write_out.ensures.done
    c.write_out.ensures.failed

pub returns-clause-cells : goal.returns-clause-cells
returns-clause-cells g c = λ x below.
    either_way c.write_out.result (λ out. ap Byte ((out.went.leaves (Place x)).1 below).0)
    (λ part. ap Byte ((part.went.leaves (Place x)).1 below).0) c.write_out.ensures.done c.write_out.ensures.failed

pub returns-clause-written : goal.returns-clause-written
returns-clause-written g c =
    both_weaker c.write_out.result
    (all_written (g.D.Disk.state c.args.self.now.disk.now) (g.D.Disk.state c.write_out.new.disk)
    c.args.self.now.image.now c.write_out.new.image)
    c.write_out.ensures.done c.write_out.ensures.clean

pub returns-clause-failed : goal.returns-clause-failed
returns-clause-failed g c = on_err_weaker c.write_out.result (λ part. part.written) c.write_out.ensures.failed

pub returns-clause-stored : goal.returns-clause-stored
returns-clause-stored g c =
    let e = g.D.Disk.state c.write_out.new.disk in
    let j = c.write_out.new.image in
    both_weaker c.write_out.result
    (λ out. clean_stored e j (kept_disk _ e _ j (out.went.leaves Frame).0 (disk_of-true _ _ c.requires)).mirrors)
    c.write_out.ensures.done c.write_out.ensures.clean

pub returns-clause-few : goal.returns-clause-few
returns-clause-few g c = λ told.
    let e = g.D.Disk.state c.write_out.new.disk in
    let j = c.write_out.new.image in
    on_ok_weaker c.write_out.result
    (λ out.
    subst (λ (n : ℕ). DiffersWithin 512 n e j) (out.went.leaves Frame).0.frames
    (few_pages e j (g.met.D.Disk.sound c.write_out.new.disk)
    (kept_disk _ e _ j (out.went.leaves Frame).0 (disk_of-true _ _ c.requires))
    (out.told ∙ told)))
    c.write_out.ensures.done

-- however it ends, the first 512 bytes stay on the disk
front : (g : Over) (c : After-write_out g) → IsTrue (tells (g.D.Disk.state c.args.self.now.disk.now))
    → IsFrontStored (g.D.Disk.state c.args.self.now.disk.now) c.args.self.now.image.now
    → IsFrontStored (g.D.Disk.state c.write_out.new.disk) c.write_out.new.image
front g c told =
    front_stays (g.D.Disk.state c.args.self.now.disk.now) (g.D.Disk.state c.write_out.new.disk)
    c.args.self.now.image.now c.write_out.new.image
    (g.met.D.Disk.sound c.args.self.now.disk.now) (g.met.D.Disk.sound c.write_out.new.disk)
    (disk_of-true _ _ c.requires) told
    (λ x below. either_way c.write_out.result (λ out. (out.went.leaves (Place x)).1)
    (λ part. (part.went.leaves (Place x)).1)
    c.write_out.ensures.done c.write_out.ensures.failed)

pub returns-clause-front : goal.returns-clause-front
returns-clause-front g c = front g (goal.at.returns-clause-front g c).After-write_out

pub returns-clause-few_in_all : goal.returns-clause-few_in_all
returns-clause-few_in_all g c = λ told stored.
    let e = g.D.Disk.state c.write_out.new.disk in
    let j = c.write_out.new.image in
    on_ok_weaker c.write_out.result
    (λ out.
    subst (λ (n : ℕ). DiffersWithin 0 n e j) (out.went.leaves Frame).0.frames
    (few_in_all e j (g.met.D.Disk.sound c.write_out.new.disk)
    (kept_disk _ e _ j (out.went.leaves Frame).0 (disk_of-true _ _ c.requires))
    (out.told ∙ told) (front g (goal.at.returns-clause-few_in_all g c).After-write_out told stored)))
    c.write_out.ensures.done

pub returns-clause-told : goal.returns-clause-told
returns-clause-told g c = on_ok_weaker c.write_out.result (λ out. out.told) c.write_out.ensures.done
