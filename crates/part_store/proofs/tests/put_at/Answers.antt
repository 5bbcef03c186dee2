use Rattle.std.proofs.Common.{IsTrue, sym, subst, rules}
use Rattle.save_bytes.specs.State.{Shape}
use Rattle.part_store.specs.PartLaws.{true-can_view_part}
use Rattle.part_store.proofs.tests.put_at.Goals as goal

pub returns-clause-view : goal.returns-clause-view
returns-clause-view g c =
    let shape = c.put.ensures.puts.space.shape in
    let sound = subst (λ (shape : Shape). IsTrue shape.sound) (sym shape) c.new-view.ensures.sound in
    let there = true-can_view_part _ _ _ sound in
    search rules
