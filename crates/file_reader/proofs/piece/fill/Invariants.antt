use Rattle.std.proofs.Common.{◌≡◌, ℕ, ◌+◌, ◌-◌, ◌≤◌, List, IsTrue, None, length, take}
use Rattle.save_bytes.specs.Reads.{Reads}
use Rattle.chain_nodes.specs.Table.{table_in}
use Rattle.file_reader.specs.Reading.{IsReadingAt, IsPieceRead}
use Rattle.file_reader.proofs.piece.fill.Given as goal

abbrev pub decreases-loop-done : goal.decreases-loop-done
decreases-loop-done g l = length l.initial.out - l.done

abbrev pub invariant-loop-done : goal.invariant-loop-done
invariant-loop-done g l = record {
  within : l.done ≤ length l.out;
  info : l.reading.info ≡ l.initial.reading.info;
  left : l.reading.left + l.done ≡ l.initial.reading.left;
  piece : IsTrue (g.S.Space.state l.initial.store).told → (start size : ℕ) (list : List ℕ) (x : ℕ)
      → IsReadingAt (table_in (g.S.Space.state l.initial.store).cells l.initial.reading.info) start size list x
      l.initial.reading
      → IsPieceRead (table_in (g.S.Space.state l.initial.store).cells l.initial.reading.info)
      (g.S.Space.state l.initial.store).cells start size list x l.done (take l.done l.out) l.reading;
  reads : Reads g.S.Space.state g.S.Space.keeps g.S.Space.lands l.initial.store l.store None;
}
