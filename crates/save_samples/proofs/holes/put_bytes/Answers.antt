use Rattle.std.proofs.Common.{◌≡◌, ◌+◌, None, [], ◌∷◌, ◌++◌, length, take, get_or, arith}
use Rattle.std.proofs.Common.{length-take-le}
use Rattle.std.proofs.lemmas.List.{take_more}
use Rattle.save_bytes.proofs.PutLemmas.{Puts-unspoilt}
use Rattle.save_bytes.proofs.JoinLemmas.{Puts-append, MovesOnly-append}
use Rattle.save_samples.specs.Holes.{hole_state, HoleKeeps, HoleLands}
use Rattle.save_samples.specs.HoleLaws.{HoleKeeps-join}
use Rattle.save_samples.proofs.HoleLemmas.{hole_can}
use Rattle.save_samples.proofs.holes.put_bytes.Goals as goal

pub loop-k-preserved : goal.loop-k-preserved
loop-k-preserved c =
    let s = c.args.space.now in
    let t = c.loop-k.space in
    let u = c.put_byte.new.self in
    let at = c.args.at in
    let k = c.loop-k.k in
    let bytes = c.args.bytes.now in
    let byte = get_or bytes k 0 in
    let within = c.requires.writable.inside.inside in
    let same = c.loop-k.invariant.moves.hold.0 in
    let size = same.same_size in
    let long : length (take k bytes) ≡ k = length-take-le k bytes (omega arith) in
    let more : take (k + 1) bytes ≡ take k bytes ++ byte ∷ [] = take_more bytes k 0 c.loop-k-test.true in
    let can = hole_can s t (at + k) 1 c.requires.writable.inside.sound same.same_block in
    record {
      puts = rw more (Puts-append (hole_state s) (hole_state t) (hole_state u) at (take k bytes) (byte ∷ [])
          (omega arith)
          c.loop-k.invariant.puts None (λ can. tt) (rw long c.put_byte.ensures.puts));
      moves = MovesOnly-append hole_state HoleKeeps HoleLands HoleKeeps-join s t u at k 1 None (omega arith) size
          (λ _. can) (λ _. tt)
          c.loop-k.invariant.moves c.put_byte.ensures.moves;
      unspoilt = Puts-unspoilt (hole_state t) (hole_state u) at (length bytes) (at + k)
          (byte ∷ []) None c.put_byte.ensures.puts can
          (omega arith) c.loop-k.invariant.unspoilt;
    }
