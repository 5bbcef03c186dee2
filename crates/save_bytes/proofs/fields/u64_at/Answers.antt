use Rattle.std.proofs.Common.{◌∙◌}
use Rattle.save_bytes.proofs.FieldLemmas.{field_read}
use Rattle.save_bytes.proofs.fields.u64_at.Goals as goal

pub returns : goal.returns
returns c = c.read_u64.ensures ∙ field_read 8 c.args.bytes.now c.args.at
