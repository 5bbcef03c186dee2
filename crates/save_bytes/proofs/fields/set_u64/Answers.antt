use Rattle.std.proofs.Common.{refl}
use Rattle.byteorder.specs.Endian.{little_bytes}
use Rattle.save_bytes.proofs.FieldLemmas.{field_put}
use Rattle.save_bytes.proofs.fields.set_u64.Goals as goal

pub returns : goal.returns
returns c = field_put c.args.at 8 c.args.bytes.now (little_bytes 8 c.args.n) c.write_u64.new.buf refl c.requires c.write_u64.ensures
