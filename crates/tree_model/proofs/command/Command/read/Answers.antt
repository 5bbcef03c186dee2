use Rattle.std.proofs.Common.{◌+◌, arith}
use Rattle.std.proofs.lemmas.List.{take_rest}
use Rattle.tree_model.specs.Commands.{IsCommandText}
use Rattle.tree_model.proofs.CommandLemmas.{cut_nowhere, cut_once, cut_twice, none_read}
use Rattle.tree_model.proofs.command.Command.read.Goals as goal

pub returns-then-first-line : goal.returns-then-first-line
returns-then-first-line c =
    let line = c.args.line.now in
    let exact = cut_nowhere line c.word_end-first.result c.word_end-first.ensures.word c.read_bare.result
    c.if-first-line.true c.read_bare.ensures in
    record { some = exact; none = none_read (IsCommandText line) c.read_bare.result exact }

pub returns-then-second-rest : goal.returns-then-second-rest
returns-then-second-rest c =
    let line = c.args.line.now in
    let first = c.word_end-first.ensures in
    let exact = cut_once line c.word_end-first.result first.word c.read_named.result (omega arith)
    (first.space (omega arith)) _ (take_rest line (c.word_end-first.result + 1)) c.word_end-second.result
    c.word_end-second.ensures.word c.if-second-rest.true c.read_named.ensures in
    record { some = exact; none = none_read (IsCommandText line) c.read_named.result exact }

pub returns : goal.returns
returns c =
    let line = c.args.line.now in
    let first = c.word_end-first.ensures in
    let second = c.word_end-second.ensures in
    let exact = cut_twice line c.word_end-first.result first.word c.read_numbered.result (omega arith)
    (first.space (omega arith)) _ (take_rest line (c.word_end-first.result + 1)) c.word_end-second.result second.word _
    (take_rest _ (c.word_end-second.result + 1)) (omega arith) (second.space (omega arith)) c.read_numbered.ensures in
    record { some = exact; none = none_read (IsCommandText line) c.read_numbered.result exact }
