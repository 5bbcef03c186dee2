use Rattle.std.proofs.Common.{refl, sym, ap}
use Rattle.tree_model.specs.CommandReading.{target_by}
use Rattle.save_bytes.proofs.PathLemmas.{path_from-text}
use Rattle.save_bytes.proofs.PathFaultLemmas.{fault_from}
use Rattle.tree_model.proofs.command.Target.read.Goals as goal

pub returns-in-Ok : goal.returns-in-Ok
returns-in-Ok c =
    sym (ap target_by (path_from-text c.in-Ok.path c.args.word.now ((c.in-Ok.ensures.ok c.in-Ok.path).0 refl)))

pub returns-in-Err : goal.returns-in-Err
returns-in-Err c =
    sym (ap target_by (fault_from c.args.word.now c.in-Err.fault ((c.in-Err.ensures.err c.in-Err.fault).0 refl)))
