use Rattle.std.proofs.Common.{◌≡◌, ◌+◌, ◌*◌, refl}
use Rattle.entry_tables.specs.Tables.{bucket_place}
use Rattle.entry_tables.proofs.CauseLemmas.{bucket_cause}
use Rattle.entry_tables.proofs.fields.head_in.Goals as goal

pub returns-in_err-head-clause-cause : goal.returns-in_err-head-clause-cause
returns-in_err-head-clause-cause g c =
    let there : c.args.info.buckets_at + 4 * c.from.result ≡ bucket_place c.args.info c.args.bucket = rw
    c.from.ensures refl in
    bucket_cause (g.S.Space.state c.args.space.now) c.args.kind c.args.info c.args.bucket _ c.in_err-head.field-0.0
    c.requires.below c.from_residual.ensures.1 (rw there at c.in_err-head.ensures.read)
