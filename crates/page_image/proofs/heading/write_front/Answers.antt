use Rattle.std.proofs.Common.{◌≡◌, Option, Some, None, MatchOption, length, inl, inr, ◌∙◌, subst}
use Rattle.std.specs.Option.{option_map}
use Rattle.save_disk.specs.Trace.{Write, Told}
use Rattle.save_disk.specs.State as disks
use Rattle.save_disk.proofs.Telling.{steady_join}
use Rattle.page_image.specs.Fronts.{HasFront, IsSector0}
use Rattle.page_image.proofs.LeaveLemmas.{quiet_leaves}
use Rattle.page_image.proofs.FrontLemmas.{leaves_front, leaves_front_failed}
use Rattle.page_image.proofs.StoredLemmas.{front_written}
use Rattle.page_image.proofs.heading.write_front.Given.{Over}
use Rattle.page_image.proofs.heading.write_front.Goals.{After-put_front, After-write, In-Ok, In-Err}
use Rattle.page_image.proofs.heading.write_front.Goals as goal

-- the bytes that are written
long : (g : Over) (c : After-put_front g) → length c.put_front.new.out ≡ c.args.image.now.grain
long g c = c.put_front.ensures.len ∙ c.copy_front.ensures.len

sector : (g : Over) (c : After-put_front g)
    → IsSector0 (g.D.Disk.state c.args.disk.now) c.args.image.now c.put_front.new.out
sector g c known k from below inside = c.put_front.ensures.behind k from
    ∙ c.in_ok-copy_front.ensures.front known k from below inside

front : (g : Over) (c : After-put_front g)
    → HasFront (g.D.Disk.state c.args.disk.now) c.args.image.now c.args.header.now c.put_front.new.out
front g c = record { long = long g c; header = c.put_front.ensures.front; rest = λ told. sector g c (inl told) }

steady : (g : Over) (c : After-write g)
    → disks.IsSteady (g.D.Disk.state c.args.disk.now) (g.D.Disk.state c.write.new.self)
steady g c = steady_join _ (g.D.Disk.state c.copy_front.new.disk) _ c.copy_front.ensures.steady c.write.ensures.steady

-- what happened behind the read, in which nothing did
happens : (g : Over) (c : In-Ok g)
    → disks.Happens (Write 0 c.put_front.new.out) (g.D.Disk.state c.args.disk.now) (g.D.Disk.state c.write.new.self)
happens g c =
    subst (λ (o : Option Told). (g.D.Disk.state c.write.new.self).told ≡ option_map
    (disks.then_event (Write 0 c.put_front.new.out)) o)
    c.copy_front.ensures.quiet c.in-Ok.ensures.written

fails : (g : Over) (c : In-Err g)
    → disks.GoesOn (disks.WriteFails 0 c.put_front.new.out) (g.D.Disk.state c.args.disk.now)
    (g.D.Disk.state c.write.new.self)
fails g c =
    let e : disks.State = g.D.Disk.state c.write.new.self in
    subst
    (λ (o : Option Told). MatchOption o (e.told ≡ None)
    (λ told. (next : Told) × (e.told ≡ Some next) × disks.WriteFails 0 c.put_front.new.out told next))
    c.copy_front.ensures.quiet c.in-Err.ensures.failed

pub returns-in_err-copy_front-clause-leaves : goal.returns-in_err-copy_front-clause-leaves
returns-in_err-copy_front-clause-leaves g c = λ spot misses told.
    let state = g.D.Disk.state in
    quiet_leaves (state c.args.disk.now) (state c.copy_front.new.disk) c.args.image.now
    (g.met.D.Disk.sound c.args.disk.now) c.requires
    c.copy_front.ensures.quiet c.copy_front.ensures.steady spot told

pub returns-in-Ok-clause-leaves : goal.returns-in-Ok-clause-leaves
returns-in-Ok-clause-leaves g c =
    let at = goal.at.returns-in-Ok-clause-leaves g c in
    leaves_front _ _ _ c.args.header.now (g.met.D.Disk.sound c.args.disk.now) c.requires (long g at.After-put_front)
    (sector g at.After-put_front)
    _ _ (steady g at.After-write) c.set_header.ensures (happens g at.In-Ok)

pub returns-in-Ok-clause-written : goal.returns-in-Ok-clause-written
returns-in-Ok-clause-written g c =
    let at = goal.at.returns-in-Ok-clause-written g c in
    (c.put_front.new.out, front g at.After-put_front, happens g at.In-Ok)

pub returns-in-Ok-clause-front : goal.returns-in-Ok-clause-front
returns-in-Ok-clause-front g c = λ told.
    let at = goal.at.returns-in-Ok-clause-front g c in
    front_written (g.D.Disk.state c.args.disk.now) (g.D.Disk.state c.write.new.self) c.args.image.now
    c.set_header.new.self
    (g.met.D.Disk.sound c.args.disk.now) (g.met.D.Disk.sound c.write.new.self) c.requires told c.args.header.now
    c.put_front.new.out
    (long g at.After-put_front) c.put_front.ensures.front c.set_header.ensures.header (happens g at.In-Ok)

pub returns-in-Err-clause-leaves : goal.returns-in-Err-clause-leaves
returns-in-Err-clause-leaves g c =
    let at = goal.at.returns-in-Err-clause-leaves g c in
    leaves_front_failed _ _ _ (g.met.D.Disk.sound c.args.disk.now) c.requires (long g at.After-put_front)
    (sector g at.After-put_front)
    _ _ (steady g at.After-write) c.mark_first.ensures (fails g at.In-Err)

pub returns-in-Err-clause-failed : goal.returns-in-Err-clause-failed
returns-in-Err-clause-failed g c =
    let at = goal.at.returns-in-Err-clause-failed g c in
    inr (c.put_front.new.out, front g at.After-put_front, fails g at.In-Err)
