use Rattle.std.proofs.Common.{length}
use Rattle.part_store.specs.PartLaws.{can_view_part-true}
use Rattle.part_store.proofs.view.PartView.new.Goals as goal

pub returns-clause-sound : goal.returns-clause-sound
returns-clause-sound g c = can_view_part-true (g.S.Space.state c.args.base.now).shape c.args.part.now (length c.args.table.now) c.requires
