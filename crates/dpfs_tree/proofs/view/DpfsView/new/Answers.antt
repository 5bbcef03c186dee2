use Rattle.dpfs_tree.specs.ViewLaws.{can_view_contents-true}
use Rattle.dpfs_tree.proofs.view.DpfsView.new.Goals as goal

pub returns-clause-sound : goal.returns-clause-sound
returns-clause-sound g c = can_view_contents-true (g.S.Space.state c.args.base.now).shape c.args.part_at c.args.difi.now
    c.args.state.now c.requires
