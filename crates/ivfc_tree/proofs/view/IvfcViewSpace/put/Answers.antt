use Rattle.std.proofs.Common.{length, None, Some}
use Rattle.std.specs.Result.{result_err}
use Rattle.save_bytes.proofs.JoinLemmas.{MovesOnly-after}
use Rattle.ivfc_tree.specs.Held.{shown, HashKeeps, hash_lands}
use Rattle.ivfc_tree.specs.KeepLaws.{HashKeeps-join, HashKeeps-hold, shown_tree}
use Rattle.ivfc_tree.proofs.CameLemmas.{came_read, came_then}
use Rattle.ivfc_tree.proofs.PutViewLemmas.{inside_after, unspoilt_after, Puts-behind}
use Rattle.ivfc_tree.proofs.view.IvfcViewSpace.put.Goals as goal

pub put_ready-requires : goal.put_ready-requires
put_ready-requires g c =
    let states = shown g.S.Space.state in
    inside_after (states c.args.self.now) (states c.ready.new.self) c.args.at (length c.args.bytes.now)
    c.in-Ok.ensures.reads.stays.space.shape c.requires.inside

pub returns-in-Ok-clause-puts : goal.returns-in-Ok-clause-puts
returns-in-Ok-clause-puts g c =
    let states = shown g.S.Space.state in
    let ready = c.in-Ok.ensures in
    let did = c.put_ready.ensures in
    Puts-behind (states c.args.self.now) (states c.ready.new.self) (states c.put_ready.new.self) c.args.at
    c.args.bytes.now
    (result_err c.put_ready.result) c.requires.inside.inside ready.reads.stays did.space
    (λ can. did.puts (unspoilt_after (states c.args.self.now) (states c.ready.new.self) c.args.at
    (length c.args.bytes.now)
    c.requires.inside.inside ready.ready ready.reads.stays can.told))

pub returns-in-Ok-clause-moves : goal.returns-in-Ok-clause-moves
returns-in-Ok-clause-moves g c =
    let space = g.S.Space in
    MovesOnly-after (shown space.state) (HashKeeps space.keeps) (hash_lands space.lands)
    (HashKeeps-join space.keeps g.met.S.Space.keeps_join) c.args.self.now c.ready.new.self c.put_ready.new.self
    c.args.at
    (length c.args.bytes.now) (result_err c.put_ready.result)
    (HashKeeps-hold space.keeps g.met.S.Space.keeps_hold c.args.self.now c.ready.new.self)
    c.requires.inside.inside c.in-Ok.ensures.reads c.put_ready.ensures.moves

pub returns-in-Ok-clause-came : goal.returns-in-Ok-clause-came
returns-in-Ok-clause-came g c told =
    let space = g.S.Space in
    let states = shown space.state in
    let view = c.args.self.now in
    let ready = c.in-Ok.ensures in
    let read = came_read space.state space.keeps space.lands view c.ready.new.self
    (shown_tree space.state g.met.S.Space.size_fits view c.requires.inside.sound) g.met.S.Space.keeps_cells None
    ready.reads in
    let put = c.put_ready.ensures.came (unspoilt_after (states view) (states c.ready.new.self) c.args.at
    (length c.args.bytes.now) c.requires.inside.inside ready.ready ready.reads.stays told) in
    came_then space.state view c.ready.new.self c.put_ready.new.self (result_err c.put_ready.result)
    ready.reads.stays.space.told read
    put told

pub returns-in-Err-clause-came : goal.returns-in-Err-clause-came
returns-in-Err-clause-came g c =
    let space = g.S.Space in
    let view = c.args.self.now in
    came_read space.state space.keeps space.lands view c.ready.new.self
    (shown_tree space.state g.met.S.Space.size_fits view c.requires.inside.sound) g.met.S.Space.keeps_cells
    (Some c.in-Err.bad)
    c.in-Err.ensures.reads
