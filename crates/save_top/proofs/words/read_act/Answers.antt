use Rattle.std.proofs.Common.{◌≡◌, true, false, ◌∙◌, rules, codes}
use Rattle.std.specs.Str.{bytes_eq}
use Rattle.save_top.proofs.Orders.{act_of-info, act_of-peek, act_of-other}
use Rattle.save_top.proofs.words.read_act.Goals as goal

pub returns-then-eq : goal.returns-then-eq
returns-then-eq c =
    let command = c.get-command.result.now in
    let info : bytes_eq command (codes "info") ≡ true = search rules in
    c.read_info.ensures ∙ act_of-info c.args.words.now c.args.at command c.get-command.ensures info

pub returns-then-eq-2 : goal.returns-then-eq-2
returns-then-eq-2 c =
    let command = c.get-command.result.now in
    let info : bytes_eq command (codes "info") ≡ false = search rules in
    let peek : bytes_eq command (codes "peek") ≡ true = search rules in
    c.read_peek.ensures ∙ act_of-peek c.args.words.now c.args.at command c.get-command.ensures info peek

pub returns : goal.returns
returns c =
    let command = c.get-command.result.now in
    let info : bytes_eq command (codes "info") ≡ false = search rules in
    let peek : bytes_eq command (codes "peek") ≡ false = search rules in
    act_of-other c.args.words.now c.args.at command c.get-command.ensures info peek
