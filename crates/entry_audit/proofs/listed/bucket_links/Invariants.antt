use Rattle.std.proofs.Common.{◌≡◌, ℕ, ◌<◌, length}
use Rattle.entry_tables.specs.Tables.{Tables}
use Rattle.entry_audit.specs.Owned.{link_at}
use Rattle.entry_audit.specs.Read.{IsReadTable}
use Rattle.entry_audit.specs.Listed.{IsBucketLink}
use Rattle.entry_audit.proofs.listed.bucket_links.Given as goal

abbrev pub invariant-loop-entry : goal.invariant-loop-entry
invariant-loop-entry l = record {
  len : length l.links.items ≡ l.entry;
  made : (t : Tables) → IsReadTable l.kind t l.table → (e : ℕ) → e < l.entry
      → IsBucketLink l.kind (t.table l.kind) e (link_at l.links.items e);
}
