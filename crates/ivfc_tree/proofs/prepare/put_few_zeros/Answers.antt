use Rattle.std.proofs.Common.{◌≡◌, ◌+◌, ℕ, List, take, replicate, subst, arith}
use Rattle.std.proofs.lemmas.List.{take-replicate, get_or-replicate, length-replicate}
use Rattle.std.specs.Result.{result_err}
use Rattle.save_bytes.specs.Cells.{Byte, AreBytesAt}
use Rattle.save_bytes.proofs.SpaceLemmas.{IfDone-map}
use Rattle.ivfc_tree.proofs.prepare.put_few_zeros.Goals as goal

pub returns-clause-zeros : goal.returns-clause-zeros
returns-clause-zeros g c = λ told.
    let n = c.args.n in
    let cells = (g.S.Space.state c.put_bytes.new.base).cells in
    let piece = take-replicate {X = ℕ} n 512 0 c.requires.few in
    IfDone-map (result_err c.put_bytes.result)
    (λ (are : AreBytesAt cells c.args.at (take n (replicate 512 0))). λ k less.
    (let zeros : AreBytesAt cells c.args.at (replicate n 0) = subst (λ (l : List ℕ). AreBytesAt cells c.args.at l)
    piece are in
    let zero : ℕ = 0 in
    subst (λ (v : ℕ). cells (c.args.at + k) ≡ Byte v) (get_or-replicate {A = ℕ} n k zero zero less)
    (zeros k (omega (arith, less, length-replicate {A = ℕ} n zero)))))
    (c.put_bytes.ensures.bytes told)
