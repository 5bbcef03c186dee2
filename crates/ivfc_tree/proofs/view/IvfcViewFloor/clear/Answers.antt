use Rattle.std.proofs.Common.{ℕ, None, Some, ◌+◌, ◌*◌, ◌<◌, ◌≤◌, ◌/◌, ◌-◌, min, replicate, subst, arith}
use Rattle.std.proofs.lemmas.List.{length-replicate}
use Rattle.std.proofs.Math.Nat.{div-mul-le_self}
use Rattle.std.specs.Result.{result_err}
use Rattle.difi.specs.declared.descriptor.Difi.{Difi}
use Rattle.difi.specs.Places.{block_size}
use Rattle.save_bytes.specs.Cells.{IsClearable}
use Rattle.save_bytes.specs.State.{Shape}
use Rattle.save_bytes.specs.Puts.{Puts}
use Rattle.save_bytes.specs.Spots.{MovesOnly}
use Rattle.save_bytes.proofs.JoinLemmas.{MovesOnly-after}
use Rattle.ivfc_tree.specs.Held.{shown, HashKeeps, hash_lands}
use Rattle.ivfc_tree.specs.KeepLaws.{HashKeeps-join, HashKeeps-hold, shown_tree}
use Rattle.ivfc_tree.proofs.CameLemmas.{came_read, came_then}
use Rattle.ivfc_tree.proofs.PutViewLemmas.{inside_after, clearable_after, Puts-behind}
use Rattle.ivfc_tree.proofs.view.IvfcViewFloor.clear.Goals as goal

-- where the block of a place begins, and how long it is
abbrev start_of : Difi → ℕ → ℕ
start_of difi at = at / block_size difi.ivfc4 * block_size difi.ivfc4

abbrev len_of : Difi → ℕ → ℕ
len_of difi at = min (block_size difi.ivfc4) (difi.ivfc4.size - start_of difi at)

block_within : (difi : Difi) (at : ℕ) → at < difi.ivfc4.size → start_of difi at + len_of difi at ≤ difi.ivfc4.size
block_within difi at inside = omega (arith, inside, div-mul-le_self at (block_size difi.ivfc4))

pub clear_block-requires : goal.clear_block-requires
clear_block-requires g c =
    let states = shown g.S.Space.state in
    inside_after (states c.args.self.now) (states c.clear_ready.new.self) c.args.at 1
    c.in-Ok.ensures.reads.stays.space.shape c.requires

pub returns-in-Ok-clause-puts : goal.returns-in-Ok-clause-puts
returns-in-Ok-clause-puts g c =
    let states = shown g.S.Space.state in
    let ready = c.in-Ok.ensures in
    let did = c.clear_block.ensures in
    let difi = c.args.self.now.difi.now in
    let Cleared : Shape → Type 0 = λ shape. IsClearable ((states c.clear_ready.new.self).cells c.args.at)
    → Puts (states c.clear_ready.new.self) (shape.block_start c.args.at) (replicate (shape.block_len c.args.at) 0)
    (states c.clear_block.new.self) (result_err c.clear_block.result) in
    let puts = subst Cleared ready.reads.stays.space.shape did.puts in
    Puts-behind (states c.args.self.now) (states c.clear_ready.new.self) (states c.clear_block.new.self)
    (start_of difi c.args.at) (replicate (len_of difi c.args.at) 0) (result_err c.clear_block.result)
    (rw length-replicate (block_within difi c.args.at (omega (arith, c.requires.inside))))
    ready.reads.stays did.space
    (λ can. puts (clearable_after (states c.args.self.now) (states c.clear_ready.new.self) c.args.at
    (omega (arith, c.requires.inside)) ready.ready ready.reads.stays can.told))

pub returns-in-Ok-clause-moves : goal.returns-in-Ok-clause-moves
returns-in-Ok-clause-moves g c =
    let space = g.S.Space in
    let difi = c.args.self.now.difi.now in
    let Moved : Shape → Type 0 = λ shape. MovesOnly (HashKeeps space.keeps) (hash_lands space.lands)
    (shown space.state c.clear_ready.new.self) c.clear_ready.new.self (shape.block_start c.args.at)
    (shape.block_len c.args.at)
    c.clear_block.new.self (result_err c.clear_block.result) in
    MovesOnly-after (shown space.state) (HashKeeps space.keeps) (hash_lands space.lands)
    (HashKeeps-join space.keeps g.met.S.Space.keeps_join) c.args.self.now c.clear_ready.new.self
    c.clear_block.new.self (start_of difi c.args.at) (len_of difi c.args.at) (result_err c.clear_block.result)
    (HashKeeps-hold space.keeps g.met.S.Space.keeps_hold c.args.self.now c.clear_ready.new.self)
    (block_within difi c.args.at (omega (arith, c.requires.inside))) c.in-Ok.ensures.reads
    (subst Moved c.in-Ok.ensures.reads.stays.space.shape c.clear_block.ensures.moves)

pub returns-in-Ok-clause-came : goal.returns-in-Ok-clause-came
returns-in-Ok-clause-came g c told =
    let space = g.S.Space in
    let states = shown space.state in
    let view = c.args.self.now in
    let ready = c.in-Ok.ensures in
    let read = came_read space.state space.keeps space.lands view c.clear_ready.new.self
    (shown_tree space.state g.met.S.Space.size_fits view c.requires.sound) g.met.S.Space.keeps_cells None ready.reads in
    let cleared = c.clear_block.ensures.came (clearable_after (states view) (states c.clear_ready.new.self) c.args.at
    (omega (arith, c.requires.inside)) ready.ready ready.reads.stays told) in
    came_then space.state view c.clear_ready.new.self c.clear_block.new.self (result_err c.clear_block.result)
    ready.reads.stays.space.told read cleared told

pub returns-in-Err-clause-came : goal.returns-in-Err-clause-came
returns-in-Err-clause-came g c =
    let space = g.S.Space in
    let view = c.args.self.now in
    came_read space.state space.keeps space.lands view c.clear_ready.new.self
    (shown_tree space.state g.met.S.Space.size_fits view c.requires.sound) g.met.S.Space.keeps_cells (Some c.in-Err.bad)
    c.in-Err.ensures.reads
