use Rattle.std.proofs.Common.{arith}
use Rattle.save_top.proofs.Orders.{info_of-more}
use Rattle.save_top.proofs.words.read_info.Goals as goal

pub returns-else-count-at : goal.returns-else-count-at
returns-else-count-at c = info_of-more c.args.words.now c.args.at (omega arith)
