use Rattle.std.proofs.Common.{◌≡◌, ◌+◌, ◌-◌, length, take, drop, refl, sym, ◌∙◌, ap, arith, rules}
use Rattle.std.specs.Result.{result_err}
use Rattle.part_store.specs.declared.part.Part.{Part}
use Rattle.part_store.proofs.PartLemmas.{part_is_hashed}
use Rattle.part_store.proofs.UnderLemmas.{part_puts, part_moves}
use Rattle.part_store.proofs.AboveLemmas.{same_table}
use Rattle.part_store.proofs.SealLemmas.{came_after}
use Rattle.part_store.proofs.puts.put_in.Goals as goal

pub returns-clause-ready : goal.returns-clause-ready
returns-clause-ready g c =
    let part = c.args.part.now in
    let start = part.difi.place + part.difi.master.at in
    let n = start + part.difi.master.size - start in
    let size : n ≡ part.difi.master.size = omega arith in
    let holds = c.new-contents.ensures.holds in
    let ready = rw (holds.base_now, holds.same_place, holds.same_difi, holds.state_now, size) at c.put_over.ensures.ready in
    rw (part_is_hashed (g.S.Space.state c.args.base.now) part c.args.table.now c.requires.view) ready

pub returns-clause-puts : goal.returns-clause-puts
returns-clause-puts g c = λ s t over later names.
    let part = c.args.part.now in
    let start = part.difi.place + part.difi.master.at in
    let n = start + part.difi.master.size - start in
    let size : n ≡ part.difi.master.size = omega arith in
    let holds = c.new-contents.ensures.holds in
    let new = c.put_over.new.contents in
    let end : _ ≡ new.base.now = search rules in
    part_puts g.S.Space.state g.S.Space.keeps s t c.new-contents.result new (take n (drop start c.args.table.now)) c.put_over.new.master
    c.put_over.new.state n names.same_base names.same_part names.same_table (holds.base_now ∙ sym over.base_now)
    (later.base_now ∙ end) (holds.same_place ∙ ap (λ (p : Part). p.at) (sym over.part_now))
    (holds.same_difi ∙ ap (λ (p : Part). p.difi) (sym over.part_now)) (holds.state_now ∙ ap (λ (p : Part). p.dpfs) (sym over.part_now))
    (later.part_now ∙ rw over.part_now refl) (rw over.part_now size) (rw (over.part_now, over.table_now) refl)
    (later.table_now ∙ rw (over.part_now, over.table_now) refl) (rw (over.part_now, over.table_now) c.requires.view.master)
    g.S.Space.lands g.met.S.Space.keeps_hold g.met.S.Space.keeps_shape
    (rw (over.base_now, over.part_now, over.table_now) c.requires.view) c.args.at c.args.bytes.now
    (result_err c.put_over.result) (rw over.part_now c.put_over.ensures.moves.hold)
    (rw over.part_now c.put_over.ensures.puts)

pub returns-clause-moves : goal.returns-clause-moves
returns-clause-moves g c = λ s t over later names.
    let part = c.args.part.now in
    let start = part.difi.place + part.difi.master.at in
    let n = start + part.difi.master.size - start in
    let size : n ≡ part.difi.master.size = omega arith in
    let holds = c.new-contents.ensures.holds in
    let new = c.put_over.new.contents in
    let end : _ ≡ new.base.now = search rules in
    part_moves g.S.Space.state g.S.Space.keeps s t c.new-contents.result new (take n (drop start c.args.table.now)) c.put_over.new.master
    c.put_over.new.state n names.same_base names.same_part names.same_table (holds.base_now ∙ sym over.base_now)
    (later.base_now ∙ end) (holds.same_place ∙ ap (λ (p : Part). p.at) (sym over.part_now))
    (holds.same_difi ∙ ap (λ (p : Part). p.difi) (sym over.part_now)) (holds.state_now ∙ ap (λ (p : Part). p.dpfs) (sym over.part_now))
    (later.part_now ∙ rw over.part_now refl) (rw over.part_now size) (rw (over.part_now, over.table_now) refl)
    (later.table_now ∙ rw (over.part_now, over.table_now) refl) (rw (over.part_now, over.table_now) c.requires.view.master)
    g.S.Space.lands g.met.S.Space.keeps_hold g.met.S.Space.keeps_shape
    (rw (over.base_now, over.part_now, over.table_now) c.requires.view) c.args.at (length c.args.bytes.now) (result_err c.put_over.result)
    (rw over.part_now c.put_over.ensures.moves)

pub returns-clause-came : goal.returns-clause-came
returns-clause-came g c =
    let space = g.S.Space in
    let laws = g.met.S.Space in
    let part = c.args.part.now in
    let start = part.difi.place + part.difi.master.at in
    let size : start + part.difi.master.size - start ≡ part.difi.master.size = omega arith in
    let holds = c.new-contents.ensures.holds in
    let over = c.put_over in
    let hold = over.ensures.moves.hold in
    let shape = laws.keeps_shape c.new-contents.result.base.now over.new.contents.base.now hold.3.2 in
    let end : _ ≡ over.new.contents.base.now = search rules in
    came_after space.state space.keeps space.lands laws.size_fits laws.plain_bytes laws.keeps_join laws.keeps_shape c.args.base.now part
    c.args.table.now c.requires.view c.new-contents.result over.new.contents over.new.state over.new.master _ holds.base_now
    holds.same_place holds.same_difi holds.state_now size hold.3.0 hold.1 hold.0 (rw holds.base_now at shape)
    (result_err over.result) over.ensures.came _ end

pub returns-clause-table : goal.returns-clause-table
returns-clause-table g c =
    let part = c.args.part.now in
    let start = part.difi.place + part.difi.master.at in
    let size : start + part.difi.master.size - start ≡ part.difi.master.size = omega arith in
    same_table start part.difi.master.size _ c.args.table.now c.put_over.new.master c.requires.view.master size (rw size at c.put_over.ensures.master)
