use Rattle.std.proofs.Common.{◌∙◌}
use Rattle.page_image.proofs.QuietLemmas.{quiet_reads, clean_reads}
use Rattle.page_image.proofs.tests.read_quietly.Goals as goal

pub returns-in_err-ready-clause-quiet : goal.returns-in_err-ready-clause-quiet
returns-in_err-ready-clause-quiet g c = quiet_reads g.D.Disk.state _ _ _ _ c.ready.ensures.reads

pub returns-clause-quiet : goal.returns-clause-quiet
returns-clause-quiet g c = λ clean.
    quiet_reads g.D.Disk.state _ _ _ _ c.read_one.ensures.reads
    (clean_reads g.D.Disk.state _ _ _ _ c.ready.ensures.reads clean)
    ∙ quiet_reads g.D.Disk.state _ _ _ _ c.ready.ensures.reads clean
