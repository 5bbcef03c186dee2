use Rattle.std.proofs.Common.{◌*◌, ◌/◌, ◌-◌, ◌≤◌, min, replicate, refl, arith}
use Rattle.std.proofs.lemmas.Bool.{and_parts}
use Rattle.std.proofs.lemmas.List.{length-replicate}
use Rattle.std.proofs.lemmas.Nat.{pow_pos}
use Rattle.std.proofs.Math.Nat.{div-mul-le_self}
use Rattle.std.specs.Result.{result_err}
use Rattle.difi.specs.Places.{block_size}
use Rattle.ivfc_tree.specs.Held.{SameHold}
use Rattle.ivfc_tree.specs.KnownLaws.{true-remembers}
use Rattle.ivfc_tree.specs.ViewLaws.{block_of_there}
use Rattle.ivfc_tree.specs.KeepLaws.{shown_can, shown_tree}
use Rattle.ivfc_tree.specs.Readies.{PathSites, RangeSites}
use Rattle.save_bytes.proofs.WriteLemmas.{Writes-wider}
use Rattle.ivfc_tree.proofs.PutViewLemmas.{clear_path, marks_in_range, sites_in_range, put_space_alone, put_moves}
use Rattle.ivfc_tree.proofs.PutViewLemmas.{put_puts}
use Rattle.ivfc_tree.proofs.CameLemmas.{came_put}
use Rattle.ivfc_tree.proofs.view.IvfcView.clear_block.Goals as goal

pub block_size-requires : goal.block_size-requires
block_size-requires g c =
    let space = g.S.Space in
    (shown_can space.state g.met.S.Space.size_fits c.args.self.now c.requires.sound).block_sizes.ivfc4.1

pub clear_in-requires-clause-tree : goal.clear_in-requires-clause-tree
clear_in-requires-clause-tree g c =
    let space = g.S.Space in
    shown_tree space.state g.met.S.Space.size_fits c.args.self.now c.requires.sound

pub clear_in-requires-clause-made : goal.clear_in-requires-clause-made
clear_in-requires-clause-made g c =
    let space = g.S.Space in
    (shown_can space.state g.met.S.Space.size_fits c.args.self.now c.requires.sound).made

pub clear_in-requires-clause-there : goal.clear_in-requires-clause-there
clear_in-requires-clause-there g c = rw c.block_size.ensures
    (block_of_there c.args.self.now.difi.now c.args.at (omega (arith, c.requires.inside)))

pub returns : goal.returns
returns g c =
    let space = g.S.Space in
    let view = c.args.self.now in
    let cells = (space.state view.base.now).cells in
    let difi = view.difi.now in
    let size = block_size difi.ivfc4 in
    let block = c.args.at / size in
    let n = min size (difi.ivfc4.size - block * size) in
    let refusal = result_err c.clear_in.result in
    let tree = shown_tree space.state g.met.S.Space.size_fits view c.requires.sound in
    let there = block_of_there difi c.args.at (omega (arith, c.requires.inside)) in
    let some : 1 ≤ n = omega (arith, pow_pos difi.ivfc4.log, div-mul-le_self c.args.at size, c.requires.inside) in
    let did = rw c.block_size.ensures at c.clear_in.ensures in
    let marks = marks_in_range difi block n some view.state.now c.clear_in.new.state did.marks in
    let writes = Writes-wider space.state space.keeps space.lands (PathSites difi block)
    (RangeSites difi (block * size) n)
    view.base.now c.clear_in.new.base refusal (λ told x below site. sites_in_range difi block n some x site)
    did.writes in
    let hold : SameHold view (record view {
      base = record view.base { now = c.clear_in.new.base };
      state = record view.state { now = c.clear_in.new.state };
    }) = record {
      same_base = refl;
      same_part = refl;
      same_difi = refl;
      same_master = refl;
      master_len = refl;
      same_state = refl;
      marks = did.marks.many;
    } in
    record {
      plain = did.writes.plain;
      space = put_space_alone space.state space.keeps space.lands view _ refusal hold refl (block * size) n marks
          writes;
      puts = λ clearable. put_puts space.state space.keeps space.lands view _ refusal hold refl (block * size) n
          marks writes
          (replicate n 0) (length-replicate n 0)
          (λ told. did.clears told (clear_path cells view.master.now difi view.state.now block view.part _
          (true-remembers cells view.master.now difi view.state.now (and_parts _ _ told).1).closed there clearable));
      came = λ clearable. came_put space.state space.keeps space.lands view _ hold refl refusal did.writes.plain
          (block * size) (replicate n 0)
          (λ told. did.clears told (clear_path cells view.master.now difi view.state.now block view.part _
          (true-remembers cells view.master.now difi view.state.now (and_parts _ _ told).1).closed there clearable));
      master = refl;
      moves = put_moves space.state space.keeps space.lands view _ refusal hold refl (block * size) n marks writes tree;
    }
