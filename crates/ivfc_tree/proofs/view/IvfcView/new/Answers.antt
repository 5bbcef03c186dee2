use Rattle.std.proofs.Common.{length}
use Rattle.ivfc_tree.specs.ViewLaws.{can_view_hashes-true}
use Rattle.ivfc_tree.proofs.view.IvfcView.new.Goals as goal

pub returns-clause-sound : goal.returns-clause-sound
returns-clause-sound g c = can_view_hashes-true (g.S.Space.state c.args.base.now).shape c.args.difi.now
    (length c.args.master.now) c.args.state.now c.requires
