use Rattle.std.proofs.Common.{arith, rules, sym, ◌∙◌, ap, length-append, drop, ◌+◌, ◌≡◌, ◌++◌, ◌∷◌, [], List, ℕ}
use Rattle.std.proofs.Common.{replicate}
use Rattle.std.proofs.lemmas.List.{take_rest, length-drop}
use Rattle.save_bytes.specs.Paths.{filled}
use Rattle.save_bytes.proofs.PathCodeLemmas.{names_deep, names_fault, names_zero, names_more, names_done}
use Rattle.save_bytes.proofs.path.read_names.Goals as goal

pub returns-then-len-eq-MOST : goal.returns-then-len-eq-MOST
returns-then-len-eq-MOST c =
    sym (names_deep c.args.text.now c.loop-at.at c.loop-at.path c.loop-at.invariant.read
    (sym c.len.ensures.len ∙ c.if-len-eq-MOST.true) c.loop-at-test.true)

pub returns-in-Err : goal.returns-in-Err
returns-in-Err c =
    sym (names_fault c.args.text.now c.loop-at.at c.loop-at.path c.loop-at.invariant.read
    (omega arith) c.loop-at-test.true c.in-Err.fault
    (rw take_rest at c.in-Err.ensures))

pub returns-then-is_empty : goal.returns-then-is_empty
returns-then-is_empty c =
    let named = rw take_rest at c.in-Ok.ensures in
    sym (names_zero c.args.text.now c.loop-at.at c.loop-at.path c.loop-at.invariant.read
    (omega arith) c.loop-at-test.true
    named.bytes (drop c.in-Ok.read.1 (drop (c.loop-at.at + 1) c.args.text.now)) named.read
    (sym named.is ∙ c.if-is_empty.ensures.0 (search rules)))

pub loop-at-preserved : goal.loop-at-preserved
loop-at-preserved c =
    let named = rw take_rest at c.in-Ok.ensures in
    let some = λ (zeros : filled named.bytes ≡ replicate 16 0).
    let test : ⊥ = search (rules, c.if-is_empty.ensures.1 (named.is ∙ zeros)) in test in
    let pushed : c.push.new.self ≡ c.loop-at.path ++ filled named.bytes ∷ [] =
    c.push.ensures ∙ ap (λ (name : List ℕ). c.loop-at.path ++ name ∷ []) named.is in
    record {
      read = rw pushed (names_more c.args.text.now c.loop-at.at c.loop-at.path c.loop-at.invariant.read
          (omega arith) c.loop-at-test.true
          named.bytes c.in-Ok.read.1 named.read some);
      inside = omega (arith, named.inside, length-drop (c.loop-at.at + 1) c.args.text.now);
      few = rw (pushed, length-append) (omega arith);
    }

pub returns : goal.returns
returns c = sym (names_done c.args.text.now c.loop-at.at c.loop-at.path c.loop-at.invariant.read c.loop-at-test.false)
