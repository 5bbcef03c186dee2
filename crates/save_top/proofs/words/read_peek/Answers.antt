use Rattle.std.proofs.Common.{◌∙◌, arith}
use Rattle.save_top.proofs.Orders.{peek_of-none, peek_of-no_part, peek_of-no_block, peek_of-numbers}
use Rattle.save_top.proofs.words.read_peek.Goals as goal

pub returns-then-count-at-ne2 : goal.returns-then-count-at-ne2
returns-then-count-at-ne2 c = peek_of-none c.args.words.now c.args.at (λ two.
    c.if-count-at-ne2.true (omega arith))

pub returns-in_err-part : goal.returns-in_err-part
returns-in_err-part c =
    c.from_residual.ensures
    ∙ peek_of-no_part c.args.words.now c.args.at c.get.result.now c.get.result.now (omega arith) c.get.ensures
    c.in_err-part.ensures

pub returns-in_err-block : goal.returns-in_err-block
returns-in_err-block c =
    c.from_residual-in_err-block.ensures
    ∙ peek_of-no_block c.args.words.now c.args.at c.get.result.now c.get-2.result.now (omega arith) c.get.ensures
    c.get-2.ensures c.in_err-block.ensures

pub returns : goal.returns
returns c =
    peek_of-numbers c.args.words.now c.args.at c.get.result.now c.get-2.result.now (omega arith)
    c.get.ensures c.in_ok-part.part c.in_ok-block.block c.get-2.ensures c.in_ok-part.ensures c.in_ok-block.ensures
