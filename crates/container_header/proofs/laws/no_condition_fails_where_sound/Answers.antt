use Rattle.container_header.proofs.Soundness.{sound_from, sound_to}
use Rattle.container_header.proofs.laws.no_condition_fails_where_sound.Goals as goal

pub returns : goal.returns
returns c = λ header image_length. (sound_from header image_length, sound_to header image_length)
