use Rattle.save_mount.proofs.ExactLemmas.{no_cause}
use Rattle.save_mount.proofs.laws.a_held_tree_is_no_cause_of_refusal.Goals as goal

pub returns : goal.returns
returns c kind size split cells tree fault read cause =
    no_cause kind size split cells read.lists read.consistent fault cause
