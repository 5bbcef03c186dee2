use Rattle.std.proofs.Common.{arith, ◌≡◌, List, ℕ, Option, None, IsTrue, sym, ◌∙◌, ap, subst}
use Rattle.std.proofs.lemmas.Result.{err_from_is_err_and}
use Rattle.save_bytes.proofs.SpaceLemmas.{Rose-later}
use Rattle.save_disk.specs.Tells.{tells, image_told}
use Rattle.container_header.specs.Sound.{IsSoundHeader}
use Rattle.container.specs.declared.fault.OpenFault.{OpenFault}
use Rattle.container.specs.Signers.{signing}
use Rattle.container.specs.Openings.{active_table, digest_fault, table_fault, parts_fault, fault_of, IsCaused}
use Rattle.container.proofs.ReadLemmas.{shown_before}
use Rattle.container.proofs.PartLemmas.{second_of}
use Rattle.container.proofs.FaultLemmas.{caused_by, caused_none, caused_first, caused_second, none_of_both, table_next}
use Rattle.container.proofs.OpensLemmas.{opens_without_fault}
use Rattle.container.proofs.OriginStartLemmas.{untouched_origin, second_untouched}
use Rattle.container.proofs.open.Container.open.Given.{Over}
use Rattle.container.proofs.open.Container.open.Goals.{In_ok-table, In_ok-check_table}
use Rattle.container.proofs.open.Container.open.Goals as goal

-- the active table was read, and the image has the fault that the table has
record IsTableRead (g : Over) (c : In_ok-table g) : Type 0 where
  same : c.in_ok-table.table.items ≡ active_table (image_told (g.D.Disk.state c.args.disk.now)) c.in_ok-header.header
  next : fault_of (signing g.G.Signer.tag_of g.G.Signer.is_demanding c.args.signer.now)
      (image_told (g.D.Disk.state c.args.disk.now)) ≡ table_fault c.in_ok-table.table.items c.in_ok-header.header

table_read : (g : Over) (c : In_ok-table g) → IsTrue (tells (g.D.Disk.state c.args.disk.now)) → IsTableRead g c
table_read g c sure =
    let state = g.D.Disk.state c.args.disk.now in
    let header = c.in_ok-header.header in
    let table = c.in_ok-table.table.items in
    let start = c.in_ok-header.ensures in
    let same = shown_before (λ (l : List ℕ). table ≡ active_table l header) state (g.D.Disk.state c.read_header.new.disk)
    start.quiet start.steady.size c.in_ok-table.ensures.table sure in
    record {
      same = same;
      next = table_next (signing g.G.Signer.tag_of g.G.Signer.is_demanding c.args.signer.now) (image_told state) header
          table (start.header sure) (start.tag sure) same;
    }

digest_none : (g : Over) (c : In_ok-check_table g) → digest_fault c.in_ok-table.table.items c.in_ok-header.header ≡ None
digest_none g c = ap (λ (l : List ℕ). digest_fault l c.in_ok-header.header) (sym c.deref.ensures.value) ∙ c.in_ok-check_table.ensures.none

pub returns-in_err-check_table-clause-caused : goal.returns-in_err-check_table-clause-caused
returns-in_err-check_table-clause-caused g c =
    let p = err_from_is_err_and c.from_residual-in_err-check_table.result c.from_residual-in_err-check_table.ensures.1 in
    rw (p.1, p.2) (λ sure.
    let read = table_read g (goal.at.returns-in_err-check_table-clause-caused g c).In_ok-table sure in
    let fault = c.in_err-check_table.field-0.0 in
    let digest = ap (λ (l : List ℕ). digest_fault l c.in_ok-header.header) (sym c.deref.ensures.value)
    ∙ c.in_err-check_table.ensures.fault in
    subst (λ (o : Option OpenFault). IsCaused o fault) (sym read.next) (caused_first _ _ fault (caused_by _ fault digest)))

pub returns-in_err-parts-clause-caused : goal.returns-in_err-parts-clause-caused
returns-in_err-parts-clause-caused g c =
    let p = err_from_is_err_and c.from_residual-in_err-parts.result c.from_residual-in_err-parts.ensures.1 in
    rw (p.1, p.2) (λ sure.
    let at = goal.at.returns-in_err-parts-clause-caused g c in
    let fault = c.in_err-parts.field-0.0 in
    let parts = subst (λ (l : List ℕ). IsCaused (parts_fault l c.in_ok-header.header) fault) c.deref-2.ensures.value
    c.in_err-parts.ensures.caused in
    subst (λ (o : Option OpenFault). IsCaused o fault) (sym (table_read g at.In_ok-table sure).next)
    (caused_second _ _ fault (digest_none g at.In_ok-check_table) parts))

pub returns-clause-whole : goal.returns-clause-whole
returns-clause-whole g c =
    let start = c.in_ok-header.ensures in
    let read = c.in_ok-table.ensures in
    let held = c.in_ok-image.ensures in
    let parts = c.in_ok-parts.ensures.parts in
    let len = start.len ∙ sym start.steady.size ∙ sym read.steady.size ∙ sym held.steady.size ∙ held.opened.disk_of.size in
    record {
      sound = subst (λ (n : ℕ). IsSoundHeader c.in_ok-header.header n) len start.sound;
      table_len = read.len;
      count = parts.count;
      first = parts.first.part_of;
      second = second_of c.deref-2.result.now c.in_ok-header.header c.in_ok-parts.parts.second parts.second;
    }

pub returns-clause-opened : goal.returns-clause-opened
returns-clause-opened g c = λ sure.
    let at = goal.at.returns-clause-opened g c in
    let read = table_read g at.In_ok-table sure in
    let parts : parts_fault c.in_ok-table.table.items c.in_ok-header.header ≡ None =
    ap (λ (l : List ℕ). parts_fault l c.in_ok-header.header) (sym c.deref-2.ensures.value) ∙ c.in_ok-parts.ensures.none in
    record {
      opens = opens_without_fault _ _ (read.next ∙ none_of_both _ _ (digest_none g at.In_ok-check_table) parts);
      header = c.in_ok-header.ensures.header sure;
      table = read.same;
      parts = rw (← c.deref-2.ensures.value) c.in_ok-parts.ensures.parts;
    }

pub returns-clause-origin : goal.returns-clause-origin
returns-clause-origin g c = λ disk.
    let parts = c.in_ok-parts.ensures.parts in
    untouched_origin disk _ parts.first.untouched
    (second_untouched c.deref-2.result.now c.in_ok-header.header c.in_ok-parts.parts.second parts.second)

pub returns-in_err-image-clause-caused : goal.returns-in_err-image-clause-caused
returns-in_err-image-clause-caused g c =
    let p = err_from_is_err_and c.from_residual-in_err-image.result c.from_residual-in_err-image.ensures.1 in
    rw (p.1, p.2) (λ sure. caused_none _ c.in_err-image.field-0.0 c.in_err-image.ensures.fault)

pub returns-in_err-image-clause-disk : goal.returns-in_err-image-clause-disk
returns-in_err-image-clause-disk g c =
    let p = err_from_is_err_and c.from_residual-in_err-image.result c.from_residual-in_err-image.ensures.1 in
    let first = c.in_ok-header.ensures.steady.disk in
    let second = c.in_ok-table.ensures.steady.disk in
    rw (p.1, p.2) (λ is. Rose-later _ _ _ (omega (arith, first, second)) (c.in_err-image.ensures.disk is))
