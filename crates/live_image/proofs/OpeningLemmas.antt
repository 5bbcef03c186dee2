-- An image that agrees with another one on its live places opens where that does.
use Rattle.std.proofs.Common.{◌≡◌, ◌↔◌, ℕ, List, Ok, inl, inr, sym, ◌∙◌, arith}
use Rattle.std.proofs.Common.{◌+◌, refl}
use Rattle.container.specs.Signers.{Signing}
use Rattle.container_header.specs.declared.header.Header.{Header}
use Rattle.container_header.specs.Conditions.{reading as header_reading}
use Rattle.container.specs.Openings.{tag_in, header_in, fault_of}
use Rattle.container.specs.Opens.{Opens}
use Rattle.container.proofs.FaultLemmas.{header_fault, fault_under}
use Rattle.container.proofs.OpensLemmas.{no_fault, opens_without_fault}
use Rattle.live_image.specs.Same.{SameLive}
use Rattle.live_image.proofs.ImageLemmas.{piece_same, front_live, raw_same, header_same, table_same, header_or_not}

module _ (image other : List ℕ) (same : SameLive image other) where
  tag_same : tag_in other ≡ tag_in image
  tag_same = piece_same 16 0 image other same.size
      (λ k h inside. same.live (0 + k) inside (front_live image (0 + k) (omega (arith, h))))

  header_in_same : header_in other ≡ header_in image
  header_in_same = raw_same image other same

  module _ (sign : Signing) where
    fault_of_same : (header : Header) → header_reading image ≡ Ok header → fault_of sign other ≡ fault_of sign image
    fault_of_same header is =
        fault_under sign other header (header_same image other same ∙ is)
        ∙ rw (tag_same, header_in_same, table_same image other same header is) refl
        ∙ sym (fault_under sign image header is)

    -- the same first fault, or none
    pub fault_same : fault_of sign other ≡ fault_of sign image
    fault_same = elim (header_or_not (header_reading image)) [
      | inl read ↦ fault_of_same read.0 read.1
      | inr unread ↦ header_fault sign other unread.0 (header_same image other same ∙ unread.1)
          ∙ sym (header_fault sign image unread.0 unread.1)
    ]

    pub opens_same : Opens sign image ↔ Opens sign other
    opens_same = (
      λ opens. opens_without_fault sign other (fault_same ∙ no_fault sign image opens),
      λ opens. opens_without_fault sign image (sym fault_same ∙ no_fault sign other opens),
    )
