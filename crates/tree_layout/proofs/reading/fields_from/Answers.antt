use Rattle.std.proofs.Common.{◌≡◌, ℕ, ◌+◌, ◌≤◌, ◌∙◌, ap, refl, arith, length, List, rules}
use Rattle.save_bytes.specs.Fields.{number_at}
use Rattle.save_bytes.specs.CellNumbers.{number_in}
use Rattle.entry_tables.proofs.ByteLemmas.{field_is}
use Rattle.tree_layout.proofs.reading.fields_from.Goals as goal

pub returns : goal.returns
returns c = λ cells at are. (
    let bytes : List ℕ = c.args.bytes.now in
    let long : length bytes ≡ 0x68 = c.told-bytes in
    let buckets = c.buckets_field-buckets.ensures in
    let table = c.table_field-table.ensures in
    let at_1 : c.u64_at.result ≡ number_in 8 cells (at + c.buckets_field-buckets.result) =
    c.u64_at.ensures ∙ field_is 8 cells at c.buckets_field-buckets.result _ bytes are
    (omega (arith, long, buckets.fits)) refl in
    let at_2 : c.u32_at.result ≡ number_in 4 cells (at + c.buckets_field-buckets.result + 8) =
    c.u32_at.ensures ∙ field_is 4 cells at (c.buckets_field-buckets.result + 8) _ bytes are
    (omega (arith, long, buckets.fits)) (omega arith) in
    let at_3 : c.u64_at-2.result ≡ number_in 8 cells (at + c.table_field-table.result) =
    c.u64_at-2.ensures ∙ field_is 8 cells at c.table_field-table.result _ bytes are
    (omega (arith, long, table.fits)) refl in
    let at_4 : c.u32_at-2.result ≡ number_in 4 cells (at + c.table_field-table.result) =
    c.u32_at-2.ensures ∙ field_is 4 cells at c.table_field-table.result _ bytes are
    (omega (arith, long, table.fits)) refl in
    let at_5 : c.u32_at-3.result ≡ number_in 4 cells (at + c.table_field-table.result + 4) =
    c.u32_at-3.ensures ∙ field_is 4 cells at (c.table_field-table.result + 4) _ bytes are
    (omega (arith, long, table.fits)) (omega arith) in
    rw (at_1, at_2, at_3, at_4, at_5, buckets.is, table.is) refl
    )
