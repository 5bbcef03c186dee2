use Rattle.std.proofs.Common.{◌*◌, ◌∙◌, arith}
use Rattle.ivfc_tree.proofs.EntryLemmas.{part_written, part_changes}
use Rattle.ivfc_tree.proofs.seal.put_first.Goals as goal

pub returns-clause-entry : goal.returns-clause-entry
returns-clause-entry c =
    part_written (32 * c.args.block) 32 c.args.master.now c.copy_from_slice.new.self (omega arith) c.requires
    ∙ c.copy_from_slice.ensures.after

pub returns-clause-others : goal.returns-clause-others
returns-clause-others c =
    part_changes (32 * c.args.block) 32 c.args.master.now c.copy_from_slice.new.self (omega arith) c.requires
