use Rattle.std.proofs.Common.{◌≡◌, ℕ, ◌+◌, ◌<◌, List, IsTrue, None}
use Rattle.save_bytes.specs.Cells.{IsByte}
use Rattle.save_bytes.specs.Reads.{Reads}
use Rattle.chain_nodes.specs.Table.{table_in}
use Rattle.file_reader.specs.Contents.{IsContentsList, contents_in}
use Rattle.file_reader.specs.Reading.{IsReadingAt}
use Rattle.file_reader.proofs.begin.begin_reading.Given as goal

abbrev pub decreases-loop-ahead : goal.decreases-loop-ahead
decreases-loop-ahead g l = l.ahead.left

abbrev pub invariant-loop-ahead : goal.invariant-loop-ahead
invariant-loop-ahead g l = record {
  info : l.ahead.info ≡ l.fn.info;
  done : ℕ;
  left : done + l.ahead.left ≡ l.size;
  piece : IsTrue (g.S.Space.state l.initial.store).told → (list : List ℕ)
      → IsContentsList (table_in (g.S.Space.state l.initial.store).cells l.fn.info) l.fn.info l.start l.size list
      → IsReadingAt (table_in (g.S.Space.state l.initial.store).cells l.fn.info) l.start l.size list done l.ahead
      × ((x : ℕ) → x < done → IsByte (contents_in l.fn.info list (g.S.Space.state l.initial.store).cells x));
  reads : Reads g.S.Space.state g.S.Space.keeps g.S.Space.lands l.initial.store l.store None;
}
