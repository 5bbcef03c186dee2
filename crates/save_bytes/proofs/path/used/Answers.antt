use Rattle.std.proofs.Common.{arith}
use Rattle.std.proofs.lemmas.Grind.{common_steps}
use Rattle.save_bytes.proofs.PathCodeLemmas.{used_more}
use Rattle.save_bytes.proofs.path.used.Goals as goal
use Rattle.save_bytes.proofs.path.used.Goals.{then-byte-ne0, else-byte-ne0}

pub loop-i-preserved : goal.loop-i-preserved
loop-i-preserved c =
    let more = used_more c.args.bytes.now c.loop-i.i c.loop-i-test.true in
    elim c.if-byte-ne0.branch [
      | then-byte-ne0 w ↦ grind (arith, common_steps, more)
      | else-byte-ne0 w ↦ grind
          (arith, common_steps, more)
    ]
