use Rattle.std.proofs.Common.{◌≡◌, ◌*◌, drop, length, ap, ◌∙◌, arith, Some}
use Rattle.std.proofs.lemmas.List.{take-append-le, take_all}
use Rattle.save_bytes.proofs.SpaceLemmas.{IfDamaged-map}
use Rattle.entry_tables.specs.declared.table.EntryFault.TheVariants as fault
use Rattle.entry_tables.proofs.CauseLemmas.{passed_error}
use Rattle.entry_audit.specs.declared.table.TableFault.TheVariants.{Entries}
use Rattle.entry_audit.proofs.StayLemmas.{bad_read}
use Rattle.entry_audit.proofs.HeadLemmas.{heads_there, heads_blamed}
use Rattle.entry_audit.proofs.read.read_heads.Goals as goal

pub returns-in_err-space_copy-clause-cause : goal.returns-in_err-space_copy-clause-cause
returns-in_err-space_copy-clause-cause g c =
    let s = g.S.Space.state c.args.space.now in
    let bad = c.in_err-space_copy.field-0.0 in
    let read = c.in_err-space_copy.ensures.read in
    rw (passed_error _ (Entries (fault.Bad bad)) c.from_residual.ensures.1)
    (bad_read bad
    (λ told. IfDamaged-map (Some bad)
    (λ part level block. heads_blamed s.cells c.args.kind c.args.info _ part level block
    (c.deref_mut.ensures.len ∙ c.in-Ok.ensures.len))
    (read.damaged told))
    read.plain)

pub returns-in-Ok-heads_in-clause-heads : goal.returns-in-Ok-heads_in-clause-heads
returns-in-Ok-heads_in-clause-heads g c = λ told.
    let out = c.space_copy.new.out in
    let long : length out ≡ 4 * c.args.info.buckets =
    c.space_copy.auto.out ∙ c.deref_mut.ensures.len ∙ c.in-Ok.ensures.len in
    let same : c.deref.result.now ≡ out =
    c.deref.ensures.value
    ∙ take-append-le c.in-Ok.bytes.len out (drop (length out) c.in-Ok.bytes.items) (omega (
      arith,
      long,
      c.in-Ok.ensures.len,
    ))
    ∙ take_all c.in-Ok.bytes.len out (omega (arith, long, c.in-Ok.ensures.len)) in
    let heads = c.in-Ok-heads_in.ensures in
    heads_there (g.S.Space.state c.args.space.now).cells c.args.kind c.args.info out c.in-Ok-heads_in.heads.items long
    (c.in_ok-space_copy.ensures.bytes told) (omega (arith, heads.many, ap length same, long)) (rw same at heads.each)
