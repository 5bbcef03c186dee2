use Rattle.std.proofs.Common.{◌≡◌, ℕ, ◌+◌, ◌≤◌, ◌∙◌, ap, refl, arith, length, List, rules}
use Rattle.save_bytes.specs.Fields.{number_at}
use Rattle.save_bytes.specs.CellNumbers.{number_in}
use Rattle.entry_tables.proofs.ByteLemmas.{field_is}
use Rattle.tree_rules.specs.Information.{information_at}
use Rattle.tree_layout.proofs.reading.information_from.Goals as goal

pub returns : goal.returns
unfolding information_at
returns c = λ cells are. (
    let bytes : List ℕ = c.args.bytes.now in
    let at : ℕ = c.args.at in
    let long : length bytes ≡ 0x68 = c.told-bytes in
    let block : c.u32_at.result ≡ number_in 4 cells (at + 4) =
    c.u32_at.ensures ∙ field_is 4 cells at 4 _ bytes are (omega (arith, long)) refl in
    let chain_at : c.u64_at.result ≡ number_in 8 cells (at + 0x28) =
    c.u64_at.ensures ∙ field_is 8 cells at 0x28 _ bytes are (omega (arith, long)) refl in
    let count : c.u32_at-2.result ≡ number_in 4 cells (at + 0x30) =
    c.u32_at-2.ensures ∙ field_is 4 cells at 0x30 _ bytes are (omega (arith, long)) refl in
    let region_at : c.u64_at-2.result ≡ number_in 8 cells (at + 0x38) =
    c.u64_at-2.ensures ∙ field_is 8 cells at 0x38 _ bytes are (omega (arith, long)) refl in
    rw (
      block,
      c.fields_from.ensures cells at are,
      c.fields_from-2.ensures cells at are,
      chain_at,
      count,
      region_at,
    ) refl
    )
