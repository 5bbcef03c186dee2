use Rattle.std.proofs.Common.{inr}
use Rattle.part_store.proofs.seal.seal_contents.Goals as goal

pub returns-in-Ok : goal.returns-in-Ok
returns-in-Ok g c =
    let copies = c.seal.ensures in
    inr (record {
      between = c.seal_hashes.new.contents;
      hashes = c.in-Ok.ensures;
      holds = copies.holds;
      marks = copies.marks;
      sealed = copies.sealed;
      spares = copies.spares;
    })
