use Rattle.std.proofs.Common.{◌≡◌, ℕ, ◌*◌, ◌<◌, length, slice_index}
use Rattle.save_bytes.specs.Fields.{number_at}
use Rattle.entry_audit.proofs.read.heads_in.Given as goal

abbrev pub invariant-loop-bucket : goal.invariant-loop-bucket
invariant-loop-bucket l = record {
  many : length l.heads.items ≡ l.bucket;
  each : (bucket : ℕ) → bucket < l.bucket → slice_index l.heads.items bucket ≡ number_at 4 l.bytes (4 * bucket);
}
