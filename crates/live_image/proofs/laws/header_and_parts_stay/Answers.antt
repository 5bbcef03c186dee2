use Rattle.live_image.proofs.laws.header_and_parts_stay.Goals as goal
use Rattle.live_image.proofs.ImageLemmas.{header_same, part_same}

pub returns-clause-header : goal.returns-clause-header
returns-clause-header c = header_same

pub returns-clause-parts : goal.returns-clause-parts
returns-clause-parts c = part_same
