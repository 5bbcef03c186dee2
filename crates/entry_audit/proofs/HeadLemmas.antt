-- The heads of a table's buckets.
use Rattle.std.proofs.Common.{◌≡◌, ℕ, ◌+◌, ◌*◌, ◌/◌, ◌<◌, ◌≤◌, List, length, refl, ◌∙◌, arith}
use Rattle.std.specs.Prelude.{slice_index}
use Rattle.save_bytes.specs.Fields.{number_at}
use Rattle.save_bytes.specs.Cells.{Cell, AreBytesAt}
use Rattle.save_bytes.specs.Answers.{IsFirstFault}
use Rattle.entry_tables.specs.declared.table.EntryKind.{EntryKind}
use Rattle.entry_tables.specs.declared.table.TableInfo.{TableInfo}
use Rattle.entry_tables.specs.Tables.{table_in, bucket_place}
use Rattle.entry_tables.specs.Layout.{OfBucket, InBucket}
use Rattle.entry_tables.proofs.ByteLemmas.{field_is}
use Rattle.entry_tables.proofs.EntryLemmas.{head_there}
use Rattle.entry_audit.specs.Reading.{AreHeads, BlamesCell}

module _ (cells : ℕ → Cell) (kind : EntryKind) (info : TableInfo) where
  pub heads_there : (bytes heads : List ℕ) → length bytes ≡ 4 * info.buckets → AreBytesAt cells info.buckets_at bytes
      → length heads ≡ info.buckets
      → ((bucket : ℕ) → bucket < length bytes / 4 → slice_index heads bucket ≡ number_at 4 bytes (4 * bucket))
      → AreHeads (table_in cells kind info) heads
  heads_there bytes heads long are many each = record {
    many = many;
    each = λ bucket below.
        each bucket (omega (arith, below, long))
        ∙ field_is 4 cells info.buckets_at (4 * bucket) (bucket_place info bucket) bytes are
        (omega (arith, below, long)) refl
        ∙ head_there cells kind info bucket below;
  }

  -- a fault in their bytes is one of a bucket
  pub heads_blamed : (n part level block : ℕ) → n ≡ 4 * info.buckets
      → IsFirstFault cells info.buckets_at n part level block → BlamesCell kind info cells part level block
  heads_blamed n part level block long first =
      let bucket = first.k / 4 in
      let below : bucket < info.buckets = omega (arith, first.within, long) in
      let from : 4 * bucket ≤ first.k = omega arith in
      let before : first.k < 4 * bucket + 4 = omega arith in
      record {
        place = info.buckets_at + first.k;
        of_table = InBucket bucket below (record { from = omega (arith, from); before = omega (arith, before) });
        needed = λ list. OfBucket bucket below (record { from = omega (arith, from); before = omega (arith, before) });
        blames = first.fault;
      }
