use Rattle.std.proofs.Common.{◌≡◌, ℕ, ◌<◌, length, slice_index}
use Rattle.entry_tables.specs.declared.table.EntryKind.TheVariants.{Dir}
use Rattle.entry_tables.specs.Tables.{Tables}
use Rattle.entry_audit.specs.Read.{IsReadTable}
use Rattle.entry_audit.specs.Listed.{IsChildHead}
use Rattle.entry_audit.proofs.listed.child_heads.Given as goal

abbrev pub invariant-loop-read : goal.invariant-loop-read
invariant-loop-read l = record {
  len : length l.heads.items ≡ l.read-index;
  made : (t : Tables) → IsReadTable Dir t l.dirs → (d : ℕ) → d < l.read-index
      → IsChildHead t l.kind d (slice_index l.heads.items d);
}
