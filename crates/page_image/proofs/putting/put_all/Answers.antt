use Rattle.std.proofs.Common.{◌≡◌, ◌⊎◌, ◌+◌, ◌-◌, ◌%◌, ◌≤◌, ◌<◌, ℕ, List, length, min, take, drop, ap, inl, inr, ⊎_elim}
use Rattle.std.proofs.Common.{refl, ◌∙◌, subst, arith}
use Rattle.std.proofs.lemmas.List.{length-drop, take_all}
use Rattle.std.proofs.lemmas.Bool.{cases_lt}
use Rattle.save_bytes.specs.Spots.{Frame}
use Rattle.save_bytes.proofs.SpaceLemmas.{Rose-later}
use Rattle.page_image.specs.PutFronts.{PutsFirst}
use Rattle.page_image.proofs.DiskLemmas.{kept_disk}
use Rattle.page_image.proofs.WriteLemmas.{on_err}
use Rattle.page_image.proofs.PutLemmas.{puts_none, puts_some, puts_more}
use Rattle.page_image.proofs.putting.put_all.Goals as goal

-- where a put got to, behind the bytes of one page more
gone_on : (at len done n : ℕ) → done ≤ len → n ≡ min (len - done) (4096 - (at + done) % 4096)
    → (done + n ≡ len) ⊎ ((done + n ≡ 0) ⊎ ((at + (done + n)) % 4096 ≡ 0))
gone_on at len done n few is =
    ⊎_elim (λ (last : len - done < 4096 - (at + done) % 4096). inl (omega arith))
    (λ (full : 4096 - (at + done) % 4096 ≤ len - done). inr (inr (omega arith)))
    (cases_lt (len - done) (4096 - (at + done) % 4096))

-- where there is more to put, it begins a page or is the first
begins : (at len done : ℕ) → done < len → (done ≡ len) ⊎ ((done ≡ 0) ⊎ ((at + done) % 4096 ≡ 0)) → (done ≡ 0)
    ⊎ ((at + done) % 4096 ≡ 0)
begins at len done more (inl all) = absurd (omega arith)
begins at len done more (inr fresh) = fresh

pub loop-done-init : goal.loop-done-init
loop-done-init g c = record {
  puts = puts_none c.args.at c.args.bytes.now (g.D.Disk.state c.args.disk.now) c.args.image.now;
  few = omega arith;
  fresh = inr (inl refl);
}

pub put_first-requires-clause-disk_of : goal.put_first-requires-clause-disk_of
put_first-requires-clause-disk_of g c = kept_disk _ _ _ _ c.loop-done.invariant.puts.some.hold c.requires.disk_of

-- the rest of the bytes, as it is handed on
rest_is : (bytes : List ℕ) (done : ℕ) → take (length bytes - done) (drop done bytes) ≡ drop done bytes
rest_is bytes done = take_all (length bytes - done) (drop done bytes) (omega (arith, length-drop done bytes))

rest_long : (bytes : List ℕ) (done : ℕ) → length (take (length bytes - done) (drop done bytes)) ≡ length bytes - done
rest_long bytes done = ap length (rest_is bytes done) ∙ length-drop done bytes

pub put_first-requires-clause-inside : goal.put_first-requires-clause-inside
put_first-requires-clause-inside g c =
    let before = c.loop-done.invariant in
    let long = rest_long c.args.bytes.now c.loop-done.done in
    omega (arith, long, before.few, before.puts.some.hold.len, c.requires.inside)

pub returns-in_err-done-clause-failed : goal.returns-in_err-done-clause-failed
returns-in_err-done-clause-failed g c =
    let state = g.D.Disk.state in
    let step = c.in_err-done.ensures in
    on_err c.from_residual.result
    (puts_some c.args.at c.args.bytes.now c.loop-done.done (state c.args.disk.now) (state c.loop-done.disk)
    (state c.put_first.new.disk)
    c.args.image.now c.loop-done.image c.put_first.new.image c.loop-done.invariant.puts (step.failed Frame tt).0
    step.failed)

pub returns-in_err-done-clause-cause : goal.returns-in_err-done-clause-cause
returns-in_err-done-clause-cause g c =
    let rose = Rose-later _ (g.D.Disk.state c.loop-done.disk).counts.disk _
    c.loop-done.invariant.puts.some.hold.steady.disk in
    on_err c.from_residual.result (rose c.in_err-done.ensures.cause)

pub loop-done-smaller : goal.loop-done-smaller
loop-done-smaller g c =
    let long = rest_long c.args.bytes.now c.loop-done.done in
    omega (arith, long, c.in_ok-done.ensures.count, c.loop-done-test.true)

pub loop-done-preserved : goal.loop-done-preserved
loop-done-preserved g c =
    let state = g.D.Disk.state in
    let before = c.loop-done.invariant in
    let step = c.in_ok-done.ensures in
    let bytes = c.args.bytes.now in
    let done = c.loop-done.done in
    let n = c.in_ok-done.field-0 in
    let count : n ≡ min (length bytes - done) (4096 - (c.args.at + done) % 4096) =
    step.count ∙ ap (λ (m : ℕ). min m (4096 - (c.args.at + done) % 4096)) (rest_long bytes done) in
    let e = state c.loop-done.disk in
    let f = state c.put_first.new.disk in
    let j = c.loop-done.image in
    let k = c.put_first.new.image in
    let next : PutsFirst (c.args.at + done) (take n (drop done bytes)) n e j f k =
    subst (λ (l : List ℕ). PutsFirst (c.args.at + done) (take n l) n e j f k) (rest_is bytes done) step.done in
    record {
      puts = puts_more c.args.at bytes done (state c.args.disk.now) e f c.args.image.now j k before.puts next.some.hold
          n next (omega arith) (omega arith)
          (begins c.args.at (length bytes) done c.loop-done-test.true before.fresh) c.requires.inside;
      few = omega (arith, before.few, count);
      fresh = gone_on c.args.at (length bytes) done n before.few count;
    }

pub returns-clause-done : goal.returns-clause-done
returns-clause-done g c =
    let before = c.loop-done.invariant in
    let all : c.loop-done.done ≡ length c.args.bytes.now = omega (arith, before.few, c.loop-done-test.false) in
    subst (λ (n : ℕ). PutsFirst c.args.at c.args.bytes.now n (g.D.Disk.state c.args.disk.now) c.args.image.now
    (g.D.Disk.state c.loop-done.disk) c.loop-done.image)
    all before.puts
