use Rattle.std.proofs.Common.{◌≡◌, ℕ, ◌<◌, length, get_or, None}
use Rattle.save_bytes.specs.Reads.{Reads}
use Rattle.entry_tables.specs.Tables.{table_in}
use Rattle.entry_audit.specs.Reading.{IsTold, AreMarked, IsCopiedOf}
use Rattle.entry_audit.proofs.read.read_entries.Given as goal

abbrev pub invariant-loop-entry : goal.invariant-loop-entry
invariant-loop-entry g l =
    let old = g.S.Space.state l.fn.space in
    record {
      reads : Reads g.S.Space.state g.S.Space.keeps g.S.Space.lands l.fn.space l.space None;
      many : length l.entries.items ≡ l.entry;
      each : IsTold old l.kind l.info l.count → AreMarked l.kind (table_in old.cells l.kind l.info) l.marks
          → (e : ℕ) → e < length l.entries.items
          → IsCopiedOf l.kind l.info old.cells e (get_or l.entries.items e None);
    }
