use Rattle.std.proofs.Common.{◌≡◌, refl, sym, ap, subst, rules}
use Rattle.std.specs.Result.{result_err}
use Rattle.save_bytes.specs.State.{Shape}
use Rattle.chain_space.specs.Laid.{Extra, extra_of, CanLay}
use Rattle.chain_space.specs.LaidHeld.{extra_in}
use Rattle.chain_space.proofs.LaidHeldLemmas.{base_reads}
use Rattle.chain_space.proofs.tests.copy_laid.Goals as goal

pub returns : goal.returns
returns g c =
    let space = g.S.Space in
    let laws = g.met.S.Space in
    let holds = c.new-space.ensures.holds in
    let first = c.new-space.result in
    let last = c.space_copy.new.space in
    let room : CanLay (extra_in first) (space.state first.base.now).shape =
    rw holds.base_now (subst (λ (e : Extra). CanLay e (space.state c.args.base.now).shape)
    (sym holds.same_extra) c.requires.room) in
    let kept = c.space_copy.ensures.reads.frame.2 in
    let shape = laws.keeps_shape first.base.now last.base.now (laws.keeps_hold first.base.now last.base.now kept) in
    let reads = base_reads space.state space.keeps space.lands first last (result_err c.space_copy.result) room shape
    c.space_copy.ensures.reads in
    let same = rw holds.base_now at reads in
    search rules
