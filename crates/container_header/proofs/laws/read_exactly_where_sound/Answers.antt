use Rattle.container_header.proofs.HeaderRead.{reading-ok, reading-is}
use Rattle.container_header.proofs.laws.read_exactly_where_sound.Goals as goal

pub returns : goal.returns
returns c = λ image header. (reading-ok image header, reading-is image header)
