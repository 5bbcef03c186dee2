use Rattle.std.proofs.Common.{◌≡◌, ℕ, sym, ap, ◌∙◌, arith}
use Rattle.std.proofs.lemmas.Fmt.{parse-decimal, IsAscii-decimal}
use Rattle.std.proofs.lemmas.Str.{IsUtf8-from_ascii}
use Rattle.std.specs.Fmt.{decimal}
use Rattle.tree_model.proofs.NumberLemmas.{number_of-none, number_of-decimal, same_text, other_text}
use Rattle.tree_model.proofs.reading.read_number.Goals as goal

pub returns-in_default : goal.returns-in_default
returns-in_default c = number_of-none c.args.word.now (λ n small is.
    c.in_default.ensures.cases.0 (rw is (IsUtf8-from_ascii (decimal n) (IsAscii-decimal n small))))

pub returns-in_default-parse : goal.returns-in_default-parse
returns-in_default-parse c = number_of-none c.args.word.now (λ n small is.
    let read = parse-decimal 64 n c.in-Ok.text.now c.parse.result small small (c.in-Ok.ensures.cases.0 ∙ is)
    c.parse.ensures.value.0 in
    cc)

pub returns-then-ne : goal.returns-then-ne
returns-then-ne c = number_of-none c.args.word.now (λ n small is.
    let read = parse-decimal 64 n c.in-Ok.text.now c.parse.result small small (c.in-Ok.ensures.cases.0 ∙ is)
    c.parse.ensures.value.0 in
    let same : c.in-Ok-parse.number ≡ n = cc in
    other_text c.as_bytes.result.now c.args.word.now c.ne.result c.ne.ensures c.if-ne.true
    (c.as_bytes.ensures.value ∙ c.format.ensures.text ∙ ap (λ (k : ℕ). decimal k) same ∙ sym is))

pub returns : goal.returns
returns c =
    let same = same_text c.as_bytes.result.now c.args.word.now c.ne.result c.ne.ensures c.if-ne.false in
    sym (number_of-decimal c.args.word.now c.in-Ok-parse.number (omega (arith, c.in-Ok-parse.ensures.value.0))
    (sym same ∙ c.as_bytes.ensures.value ∙ c.format.ensures.text))
