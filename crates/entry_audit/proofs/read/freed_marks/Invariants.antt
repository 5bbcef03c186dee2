use Rattle.std.proofs.Common.{◌≡◌, ℕ, ◌+◌, ◌<◌, length, None}
use Rattle.save_bytes.specs.Cells.{IsByte}
use Rattle.save_bytes.specs.Reads.{Reads}
use Rattle.entry_tables.specs.Kinds.{link_offset}
use Rattle.entry_tables.specs.Tables.{table_in, entry_place}
use Rattle.entry_audit.specs.Reading.{IsTold}
use Rattle.entry_audit.proofs.MarkLemmas.{HasMarked}
use Rattle.entry_audit.proofs.read.freed_marks.Given as goal

abbrev pub invariant-loop-freed : goal.invariant-loop-freed
invariant-loop-freed g l =
    let old = g.S.Space.state l.fn.space in
    record {
      reads : Reads g.S.Space.state g.S.Space.keeps g.S.Space.lands l.fn.space l.space None;
      many : length l.marks.items ≡ l.count;
      marked : IsTold old l.kind l.info l.count
          → HasMarked l.kind (table_in old.cells l.kind l.info)
          (λ e. (k : ℕ) → k < 4 → IsByte (old.cells (entry_place l.kind l.info e + link_offset l.kind + k)))
          l.marks.items l._freed l.from;
    }
