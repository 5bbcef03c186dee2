use Rattle.live_image.specs.Footprint.{Front, Table}
use Rattle.live_image.proofs.footprint.a_commit_writes_where_it_may.Goals as goal

pub returns-clause-table : goal.returns-clause-table
returns-clause-table c = λ image blocks header is place begin end. Table header is begin end

pub returns-clause-front : goal.returns-clause-front
returns-clause-front c = λ image blocks place front. Front front
