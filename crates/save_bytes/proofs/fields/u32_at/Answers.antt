use Rattle.std.proofs.Common.{◌∙◌}
use Rattle.save_bytes.proofs.FieldLemmas.{field_read}
use Rattle.save_bytes.proofs.fields.u32_at.Goals as goal

pub returns : goal.returns
returns c = c.read_u32.ensures ∙ field_read 4 c.args.bytes.now c.args.at
