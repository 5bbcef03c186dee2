use Rattle.part_store.proofs.tests.four_dropped.Goals as goal

pub new-view-requires : goal.new-view-requires
new-view-requires c = c.drop_changes.ensures.view _ _ c.put_at.ensures.view
