use Rattle.std.proofs.Common.{length, refl}
use Rattle.std.specs.Result.{result_err}
use Rattle.save_bytes.proofs.JoinLemmas.{IsReady-told}
use Rattle.dpfs_tree.specs.ViewLaws.{shown_tree, shown_made}
use Rattle.dpfs_tree.proofs.PieceLemmas.{bytes_ready}
use Rattle.dpfs_tree.specs.Picks.{bytes_of}
use Rattle.dpfs_tree.specs.Puts.{WritesIn}
use Rattle.dpfs_tree.proofs.SpareLemmas.{put_spares, writes_spare}
use Rattle.dpfs_tree.proofs.ViewLemmas.{view_puts, view_moves}
use Rattle.dpfs_tree.proofs.view.DpfsViewSpace.put.Goals as goal

pub put_in-requires-clause-tree : goal.put_in-requires-clause-tree
put_in-requires-clause-tree g c = shown_tree g.S.Space.state g.met.S.Space.size_fits c.args.self.now
    c.requires.inside.sound

pub put_in-requires-clause-made : goal.put_in-requires-clause-made
put_in-requires-clause-made g c = shown_made g.S.Space.state g.met.S.Space.size_fits c.args.self.now
    c.requires.inside.sound

pub returns-clause-ready : goal.returns-clause-ready
returns-clause-ready g c = λ can.
    let plain = (shown_tree g.S.Space.state g.met.S.Space.size_fits c.args.self.now c.requires.inside.sound).plain in
    IsReady-told _ c.args.at (length c.args.bytes.now) (result_err c.put_in.result)
    (bytes_ready _ c.args.at (length c.args.bytes.now) (λ told x.
    g.met.S.Space.plain_bytes c.args.self.now.base.now plain told _))
    c.put_in.ensures.writes.plain

pub returns-clause-puts : goal.returns-clause-puts
returns-clause-puts g c =
    let view = c.args.self.now in
    let marks = c.put_in.ensures.marks in
    let tree = shown_tree g.S.Space.state g.met.S.Space.size_fits view c.requires.inside.sound in
    view_puts g.S.Space.state g.S.Space.keeps g.S.Space.lands view
    (record view {
      base = record view.base { now = c.put_in.new.base };
      state =
          record view.state { now = c.put_in.new.state };
    })
    (record {
      same_base = refl;
      same_place = refl;
      same_difi = refl;
      same_state = refl;
      marks = marks.marks;
      selector =
          marks.selector;
    })
    tree c.args.at c.args.bytes.now (result_err c.put_in.result) c.put_in.ensures
    (λ told x. g.met.S.Space.plain_bytes view.base.now tree.plain told x)

pub returns-clause-moves : goal.returns-clause-moves
returns-clause-moves g c =
    let marks = c.put_in.ensures.marks in
    view_moves g.S.Space.state g.S.Space.keeps g.S.Space.lands c.args.self.now _
    (record {
      same_base = refl;
      same_place = refl;
      same_difi = refl;
      same_state = refl;
      marks = marks.marks;
      selector =
          marks.selector;
    })
    (shown_tree g.S.Space.state g.met.S.Space.size_fits c.args.self.now c.requires.inside.sound) c.args.at
    c.args.bytes.now
    (result_err c.put_in.result) c.put_in.ensures

pub returns-clause-spares : goal.returns-clause-spares
returns-clause-spares g c =
    let view = c.args.self.now in
    let base = g.S.Space.state view.base.now in
    let selector = view.state.now.selector in
    let n = length c.args.bytes.now in
    writes_spare g.S.Space.state g.S.Space.keeps g.S.Space.lands view.part_at view.difi.now selector
    (WritesIn (bytes_of base.cells) view.part_at view.difi.now selector c.args.at n) view.base.now c.put_in.new.base
    (result_err c.put_in.result)
    (put_spares base.shape view.part_at view.difi.now selector
    (shown_tree g.S.Space.state g.met.S.Space.size_fits view c.requires.inside.sound) (bytes_of base.cells) c.args.at n)
    c.put_in.ensures.writes
