use Rattle.std.proofs.Common.{◌≡◌, List, ℕ, Bool, Option, Some, None, IsTrue, refl, ap, subst}
use Rattle.save_disk.specs.declared.memory.MemDesk.{MemDesk}
use Rattle.save_disk.specs.Trace.{Told}
use Rattle.save_disk.specs.Traces.{fresh}
use Rattle.save_disk.specs.MemDesks.{memory_of, state_of}
use Rattle.save_disk.specs.Tells.{tells, image_of, image_told}
use Rattle.save_disk.proofs.Told.{fresh_tells}
use Rattle.container.specs.Signers.{Signing, signing}
use Rattle.container.specs.declared.fault.OpenFault.{OpenFault}
use Rattle.container.specs.Openings.{fault_of, IsCaused}
use Rattle.container.specs.Opens.{Opens}
use Rattle.container.proofs.OpensLemmas.{no_fault}
use Rattle.container.proofs.opens_tests.opens.Goals as goal

-- a new desk tells its trace, by its image
module _ (desk : MemDesk) (image source : List ℕ) (trace : (memory_of desk).trace ≡ fresh 512 image source) where
  is_told : (state_of desk).told ≡ Some (fresh 512 image source)
  is_told = ap (λ (told : Told). Some told) trace

  sure : IsTrue (tells (state_of desk))
  sure = fresh_tells (state_of desk) (fresh 512 image source) is_told (record { silent = refl; sure = λ sector. refl })

  shown : image_told (state_of desk) ≡ image
  shown = ap image_of is_told

-- a fault that comes where the image opens comes where none is found
free : (sign : Signing) (image : List ℕ) (fault : OpenFault) → Opens sign image
    → IsCaused (fault_of sign image) fault → IsCaused None fault
free sign image fault opens =
    subst (λ (o : Option OpenFault). IsCaused o fault) (no_fault sign image opens)

pub returns-in-Ok-open : goal.returns-in-Ok-open
returns-in-Ok-open g c =
    let trace = c.in-Ok.ensures.trace in
    let sign = signing g.G.Signer.tag_of g.G.Signer.is_demanding c.args.signer.now in
    let opened = (c.in-Ok-open.ensures.opened (sure c.in-Ok.desk _ _ trace)).opens in
    (λ is. subst (λ (i : List ℕ). Opens sign i) (shown c.in-Ok.desk _ _ trace) opened, λ opens. refl)

pub returns-then-is_of_image : goal.returns-then-is_of_image
returns-then-is_of_image g c =
    let fault = c.in-Err.fault in
    let sign = signing g.G.Signer.tag_of g.G.Signer.is_demanding c.args.signer.now in
    let same = shown c.in-Ok.desk _ _ c.in-Ok.ensures.trace in
    let told = c.in-Err.ensures.caused (sure c.in-Ok.desk _ _ c.in-Ok.ensures.trace) in
    let caused = subst (λ (i : List ℕ). IsCaused (fault_of sign i) fault) same told in (
      λ is. absurd (cc),
      λ opens. absurd (c.is_of_image.ensures c.if-is_of_image.true (free sign c.args.image.now fault opens caused)),
    )
