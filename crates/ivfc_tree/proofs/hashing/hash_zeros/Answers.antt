use Rattle.std.proofs.Common.{◌≡◌, ◌+◌, ◌-◌, ℕ, List, replicate, arith}
use Rattle.std.proofs.lemmas.List.{take-replicate, replicate-append-replicate}
use Rattle.ivfc_tree.proofs.HashLemmas.{takes_more}
use Rattle.ivfc_tree.proofs.hashing.hash_zeros.Goals as goal

pub loop-left-preserved : goal.loop-left-preserved
loop-left-preserved c =
    let left = c.loop-left.left in
    let n = c.min-n.result in
    let zeros : ℕ → List ℕ = λ n. replicate n 0 in
    let more : c.args.count - (left - n) ≡ c.args.count - left + n = omega
    (arith, c.loop-left.invariant.within, c.min-n.ensures) in
    let piece = take-replicate {X = ℕ} n 512 0 (omega (arith, c.min-n.ensures)) in
    record {
      within = omega (arith, c.loop-left.invariant.within);
      hashed = rw (more, ← replicate-append-replicate {A = ℕ} (c.args.count - left) n 0)
          (takes_more c.args.hasher.now c.loop-left.hasher c.update.new.self
          (zeros (c.args.count - left)) (zeros n) c.loop-left.invariant.hashed (rw piece at c.update.ensures));
    }
