use Rattle.std.proofs.Common.{length, refl}
use Rattle.std.specs.Result.{result_err}
use Rattle.ivfc_tree.specs.Held.{SameHold}
use Rattle.ivfc_tree.specs.KeepLaws.{shown_can, shown_tree}
use Rattle.ivfc_tree.proofs.PutViewLemmas.{no_spoilt, put_space_alone, put_moves, put_puts}
use Rattle.ivfc_tree.proofs.CameLemmas.{came_put}
use Rattle.ivfc_tree.proofs.view.IvfcView.put_ready.Goals as goal

pub put_in-requires-clause-tree : goal.put_in-requires-clause-tree
put_in-requires-clause-tree g c =
    let space = g.S.Space in
    shown_tree space.state g.met.S.Space.size_fits c.args.self.now c.requires.sound

pub put_in-requires-clause-made : goal.put_in-requires-clause-made
put_in-requires-clause-made g c =
    let space = g.S.Space in
    (shown_can space.state g.met.S.Space.size_fits c.args.self.now c.requires.sound).made

pub returns : goal.returns
returns g c =
    let space = g.S.Space in
    let view = c.args.self.now in
    let refusal = result_err c.put_in.result in
    let tree = shown_tree space.state g.met.S.Space.size_fits view c.requires.sound in
    let did = c.put_in.ensures in
    let bytes = c.args.bytes.now in
    let hold : SameHold view (record view {
      base = record view.base { now = c.put_in.new.base };
      state = record view.state { now = c.put_in.new.state };
    }) = record {
      same_base = refl;
      same_part = refl;
      same_difi = refl;
      same_master = refl;
      master_len = refl;
      same_state = refl;
      marks = did.marks.many;
    } in
    record {
      plain = did.writes.plain;
      space = put_space_alone space.state space.keeps space.lands view _ refusal hold refl c.args.at (length bytes)
          did.marks did.writes;
      puts = λ unspoilt. put_puts space.state space.keeps space.lands view _ refusal hold refl c.args.at
          (length bytes) did.marks did.writes
          bytes refl
          (λ told. did.puts told (no_spoilt (space.state view.base.now) view.part view.master.now view.difi.now
          view.state.now
          c.args.at (length bytes) unspoilt));
      came = λ unspoilt. came_put space.state space.keeps space.lands view _ hold refl refusal did.writes.plain
          c.args.at bytes
          (λ told. did.puts told (no_spoilt (space.state view.base.now) view.part view.master.now view.difi.now
          view.state.now
          c.args.at (length bytes) unspoilt));
      master = refl;
      moves = put_moves space.state space.keeps space.lands view _ refusal hold refl c.args.at (length bytes)
          did.marks did.writes tree;
    }
