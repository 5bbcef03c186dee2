use Rattle.std.proofs.Common.{◌<◌, ◌+◌, ◌-◌, ◌*◌, ◌≡◌, ℕ, take, drop, sym, ◌∙◌, ap, arith}
use Rattle.save_bytes.specs.CellNumbers.{bytes_in}
use Rattle.save_bytes.proofs.CellLemmas.{bytes_in-is}
use Rattle.difi.specs.declared.places.LevelPlace.{LevelPlace}
use Rattle.ivfc_tree.proofs.HashLemmas.{hash_entry-first, hash_entry-below}
use Rattle.ivfc_tree.proofs.LevelLemmas.{entry_there}
use Rattle.ivfc_tree.proofs.hashing.entry_of.Goals as goal

pub returns-then-level-eq1-clause-entry : goal.returns-then-level-eq1-clause-entry
returns-then-level-eq1-clause-entry g c = λ told.
    let width : 32 * c.args.block + 32 - 32 * c.args.block ≡ 32 = omega arith in
    hash_entry-first (g.S.Space.state c.args.base.now).cells c.args.master.now c.args.difi.now c.args.level c.args.block
    c.if-level-eq1.true
    c.copy_from_slice.new.self (c.copy_from_slice.ensures.after
    ∙ ap (λ (n : ℕ). take n (drop (32 * c.args.block) c.args.master.now)) width)

pub returns-in_ok-space_copy-clause-entry : goal.returns-in_ok-space_copy-clause-entry
returns-in_ok-space_copy-clause-entry g c = λ told.
    let base = g.S.Space.state c.args.base.now in
    let cells = base.cells in
    let from = c.level_of.result.at + 32 * c.args.block in
    let below : 1 < c.args.level = omega (arith, c.if-level-eq1.false, c.requires.there.in_tree.0) in
    let inside = entry_there base.shape c.args.difi.now _ c.args.level c.args.block c.requires.tree below
    c.requires.there in
    sym (hash_entry-below cells c.args.master.now c.args.difi.now c.args.level c.args.block below inside
    ∙ ap (λ (level : LevelPlace). bytes_in cells (level.at + 32 * c.args.block) 32) (sym c.level_of.ensures)
    ∙ ap (λ (n : ℕ). bytes_in cells from n) (sym c.space_copy.auto.out)
    ∙ bytes_in-is cells from c.space_copy.new.out (c.in_ok-space_copy.ensures.bytes told))
