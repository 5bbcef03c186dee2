use Rattle.std.proofs.Common.{◌≡◌, List, ℕ, take, IsTrue, sym, ◌∙◌, ap, arith}
use Rattle.std.proofs.lemmas.Result.{err_from_is_err_and}
use Rattle.save_disk.specs.Tells.{tells, image_told}
use Rattle.container_header.specs.Conditions.{reading}
use Rattle.container.specs.Signers.{signing}
use Rattle.container.specs.Openings.{tag_fault}
use Rattle.container.proofs.ReadLemmas.{told_size, shown_before, header_told, reading_short}
use Rattle.container.proofs.FaultLemmas.{header_fault, tag_first, tag_of_front}
use Rattle.container.proofs.front.read_header.Given.{Over}
use Rattle.container.proofs.front.read_header.Goals.{In-Ok-read_part, After-read}
use Rattle.container.proofs.front.read_header.Goals as goal

-- what was read is the image's header, or its fault
read_is : (g : Over) (c : After-read g) → IsTrue (tells (g.D.Disk.state c.args.disk.now))
    → reading (image_told (g.D.Disk.state c.args.disk.now)) ≡ c.read.result
read_is g c sure =
    let len = c.in-Ok.ensures in
    sym (header_told (g.D.Disk.state c.args.disk.now) (g.D.Disk.state c.len.new.self) c.in-Ok.len c.read_part.new.out
    _ (g.met.D.Disk.sound c.args.disk.now) len.quiet len.steady.size len.value (omega arith)
    c.in-Ok-read_part.ensures.bytes c.read.ensures.exact sure)

-- the image has the fault of its tag that its first bytes have
tag_is : (g : Over) (c : In-Ok-read_part g) → IsTrue (tells (g.D.Disk.state c.args.disk.now))
    → tag_fault (signing g.G.Signer.tag_of g.G.Signer.is_demanding c.args.signer.now) (image_told (g.D.Disk.state c.args.disk.now))
    ≡ tag_fault (signing g.G.Signer.tag_of g.G.Signer.is_demanding c.args.signer.now) c.read_part.new.out
tag_is g c sure =
    let state = g.D.Disk.state c.args.disk.now in
    let sign = signing g.G.Signer.tag_of g.G.Signer.is_demanding c.args.signer.now in
    let front = shown_before (λ (l : List ℕ). c.read_part.new.out ≡ take 512 l) state (g.D.Disk.state c.len.new.self)
    c.in-Ok.ensures.quiet c.in-Ok.ensures.steady.size c.in-Ok-read_part.ensures.bytes sure in
    sym (tag_of_front sign (image_told state)) ∙ ap (λ (l : List ℕ). tag_fault sign l) (sym front)

pub returns-then-len-lt-FRONT-clause-caused : goal.returns-then-len-lt-FRONT-clause-caused
returns-then-len-lt-FRONT-clause-caused g c = λ sure.
    let state = g.D.Disk.state c.args.disk.now in
    let long = told_size state (g.met.D.Disk.sound c.args.disk.now) sure in
    header_fault _ (image_told state) _ (reading_short (image_told state) (omega (arith, long, c.in-Ok.ensures.value)))

pub returns-in-Err-clause-caused : goal.returns-in-Err-clause-caused
returns-in-Err-clause-caused g c = λ sure.
    header_fault _ (image_told (g.D.Disk.state c.args.disk.now)) _
    (read_is g (goal.at.returns-in-Err-clause-caused g c).After-read sure ∙ c.in-Err.is)

pub returns-clause-header : goal.returns-clause-header
returns-clause-header g c = λ sure. read_is g (goal.at.returns-clause-header g c).After-read sure ∙ c.in-Ok-read.is

pub returns-clause-tag : goal.returns-clause-tag
returns-clause-tag g c = λ sure. tag_is g (goal.at.returns-clause-tag g c).In-Ok-read_part sure ∙ c.in_ok-check_tag.ensures.none

pub returns-in_err-check_tag-clause-caused : goal.returns-in_err-check_tag-clause-caused
returns-in_err-check_tag-clause-caused g c =
    let p = err_from_is_err_and c.from_residual.result c.from_residual.ensures.1 in
    rw (p.1, p.2) (λ sure.
    let at = goal.at.returns-in_err-check_tag-clause-caused g c in
    tag_first (signing g.G.Signer.tag_of g.G.Signer.is_demanding c.args.signer.now)
    (image_told (g.D.Disk.state c.args.disk.now)) c.in-Ok-read.header c.in_err-check_tag.field-0.0
    (read_is g at.After-read sure ∙ c.in-Ok-read.is) (tag_is g at.In-Ok-read_part sure ∙ c.in_err-check_tag.ensures.fault))
