use Rattle.ivfc_tree.proofs.path.+block_state.Given as goal

abbrev pub decreases-block_state : goal.decreases-block_state
decreases-block_state g l = l.level
