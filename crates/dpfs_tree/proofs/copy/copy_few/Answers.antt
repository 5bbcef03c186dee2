use Rattle.std.proofs.Common.{◌≡◌, ℕ, length, subst, arith}
use Rattle.std.specs.Result.{result_err}
use Rattle.std.proofs.lemmas.Grind.{common_steps}
use Rattle.save_bytes.specs.Writes.{IsWithin, Writes}
use Rattle.save_bytes.proofs.WriteLemmas.{writes_after}
use Rattle.dpfs_tree.proofs.copy.copy_few.Goals as goal

pub returns-clause-writes : goal.returns-clause-writes
returns-clause-writes g c =
    let space = g.S.Space in
    let len : length c.space_copy.new.out ≡ c.args.n = grind (arith, common_steps, c.space_copy.auto.out) in
    let refusal = result_err c.put_bytes.result in
    let writes = subst (λ (n : ℕ). Writes space.state space.keeps space.lands (IsWithin c.args.to n)
    c.space_copy.new.space
    c.put_bytes.new.base refusal) len c.put_bytes.ensures.writes in
    writes_after space.state space.keeps space.lands g.met.S.Space.keeps_join g.met.S.Space.keeps_hold
    (IsWithin c.args.to c.args.n)
    c.args.base.now c.space_copy.new.space c.put_bytes.new.base refusal c.in-Ok.ensures.reads writes
