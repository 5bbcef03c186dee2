use Rattle.std.proofs.Common.{◌≡◌, ◌+◌, ◌≤◌, length, Result, Ok, Err, OnOk, sym, subst, rules, arith}
use Rattle.std.specs.Result.{result_err}
use Rattle.save_bytes.specs.declared.space.Bad.{Bad}
use Rattle.save_bytes.specs.State.{CanPut}
use Rattle.save_bytes.specs.Refusals.{IfDone}
use Rattle.save_bytes.specs.Within.{ChangesWithin}
use Rattle.chain_space.specs.Laid.{Extra, extra_of, laid_shape, laid_state, CanLay, IsLaidSite}
use Rattle.chain_space.specs.LaidHeld.{extra_in, laid}
use Rattle.chain_space.proofs.LaidHeldLemmas.{base_changes}
use Rattle.chain_space.proofs.tests.put_laid_once.Goals as goal

on_ok : {A : Type 0} (P : Type 0) (result : Result A Bad) → IfDone (result_err result) P → OnOk result P
on_ok P (Ok value) h = h
on_ok P (Err bad) h = tt

pub returns : goal.returns
returns g c =
    let space = g.S.Space in
    let laws = g.met.S.Space in
    let holds = c.new-space.ensures.holds in
    let first = c.new-space.result in
    let last = c.put.new.self in
    let room : CanLay (extra_in first) (space.state first.base.now).shape =
    rw holds.base_now (subst (λ (e : Extra). CanLay e (space.state c.args.base.now).shape) (sym holds.same_extra)
    c.requires.room) in
    let hold = c.put.ensures.moves.hold in
    let shape = laws.keeps_shape first.base.now last.base.now hold.2 in
    let fits : c.args.at + length c.args.bytes.now ≤ (laid space.state first).shape.size =
    rw holds.base_now (subst (λ (e : Extra). c.args.at + length c.args.bytes.now
    ≤ (laid_shape e (space.state c.args.base.now).shape).size) (sym holds.same_extra) c.requires.inside) in
    let changes : CanPut (laid space.state first) c.args.at (length c.args.bytes.now)
    → OnOk c.put.result (ChangesWithin (space.state first.base.now)
    (IsLaidSite (extra_in first) (space.state first.base.now).shape.size c.args.at (length c.args.bytes.now))
    (space.state last.base.now).cells) = λ can. on_ok _ c.put.result
    (base_changes space.state space.keeps space.lands first last (result_err c.put.result) room shape hold.1 c.args.at
    c.args.bytes.now fits c.put.ensures.puts can) in
    let there = subst (λ (e : Extra). CanPut (laid_state e (space.state first.base.now)) c.args.at
    (length c.args.bytes.now) → OnOk c.put.result (ChangesWithin (space.state first.base.now)
    (IsLaidSite e (space.state first.base.now).shape.size c.args.at (length c.args.bytes.now))
    (space.state last.base.now).cells)) holds.same_extra changes in
    let same = rw holds.base_now at there in
    search rules
