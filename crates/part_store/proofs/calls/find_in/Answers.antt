use Rattle.std.proofs.Common.{◌≡◌, IsTrue, length, ◌∙◌, ap, arith}
use Rattle.std.specs.Borrow.{Bor}
use Rattle.std.specs.Result.{result_err}
use Rattle.save_bytes.specs.State.{Shape}
use Rattle.save_bytes.proofs.CallLemmas.{Reads-join}
use Rattle.difi.specs.declared.descriptor.Difi.{Difi}
use Rattle.dpfs_tree.specs.Held.{shown_contents, ContentsKeep, contents_land}
use Rattle.dpfs_tree.specs.ViewLaws.{view_size_fits, ContentsKeep-join}
use Rattle.save_bytes.proofs.SpaceLemmas.{Stays-join}
use Rattle.ivfc_tree.specs.View.{HasTree}
use Rattle.ivfc_tree.specs.ViewLaws.{tree_of}
use Rattle.ivfc_tree.proofs.ViewLemmas.{view_stays}
use Rattle.part_store.proofs.PartLemmas.{four_small, found_run}
use Rattle.part_store.proofs.calls.find_in.Given.{Over}
use Rattle.part_store.proofs.calls.find_in.Goals.{In-Ok}
use Rattle.part_store.proofs.calls.find_in.Goals as goal

-- the hash tree in the contents
tree_here : (g : Over) (c : In-Ok g)
    → HasTree (shown_contents g.S.Space.state c.args.contents.now).shape c.args.difi.now
    (length c.args.master.now)
tree_here g c =
    let first = c.args.contents.now in
    let base = g.S.Space.state first.base.now in
    let view = c.requires.view in
    tree_of (shown_contents g.S.Space.state first).shape c.args.difi.now (length c.args.master.now) c.args.state.now
    (view_size_fits base first.part_at first.difi.now first.state.now
    (g.met.S.Space.size_fits first.base.now) view.sound) view

pub place_in_contents-requires : goal.place_in_contents-requires
place_in_contents-requires g c =
    four_small (shown_contents g.S.Space.state c.args.contents.now).shape c.args.difi.now
    (length c.args.master.now) c.args.at
    (tree_here g (goal.at.place_in_contents-requires g c).In-Ok) (omega (arith, c.requires.inside))

pub returns-clause-found : goal.returns-clause-found
returns-clause-found g c =
    let space = g.S.Space in
    let states = space.state in
    let first = c.args.contents.now in
    let mid = c.verify_in.new.contents in
    let last = c.locate.new.self in
    let difi = c.args.difi.now in
    let master = c.args.master.now in
    let before = c.in-Ok.ensures in
    let stays = before.left.reads.stays in
    let tree = tree_here g (goal.at.returns-clause-found g c).In-Ok in
    let same : mid.difi.now ≡ difi =
    ap (λ (difi : Bor Difi). difi.now) before.left.reads.frame.0.same_difi ∙ c.requires.of in
    let plain : IsTrue (states mid.base.now).shape.plain =
    ap (λ (shape : Shape). shape.plain) stays.space.shape ∙ c.requires.view.plain in
    found_run (shown_contents states first) (states mid.base.now) (states last.base.now) mid.part_at difi mid.state.now c.args.number master
    c.args.state.now c.args.at c.args.most c.in-Ok.most tree before.verified (rw same at stays) (g.met.S.Space.plain_bytes mid.base.now plain)
    c.locate.result (rw (c.place_in_contents.ensures, same) at c.locate.ensures.located) c.locate.ensures.base.stays

pub returns-clause-left : goal.returns-clause-left
returns-clause-left g c =
    let space = g.S.Space in
    let states = space.state in
    let first = c.args.contents.now in
    let mid = c.verify_in.new.contents in
    let last = c.locate.new.self in
    let difi = c.args.difi.now in
    let before = c.in-Ok.ensures.left in
    let later : HasTree (shown_contents states mid).shape difi (length c.verify_in.new.master) =
    rw (before.reads.stays.space.shape, before.same_master) (tree_here g (goal.at.returns-clause-left g c).In-Ok) in
    let refusal = result_err c.locate.result in
    record {
      stays = Stays-join _ _ _ refusal before.stays
          (view_stays (shown_contents states mid) (shown_contents states last) c.args.number c.verify_in.new.master difi
          c.verify_in.new.state refusal later c.locate.ensures.reads.stays);
      reads = Reads-join (shown_contents states) (ContentsKeep space.keeps) (contents_land states space.lands)
          (ContentsKeep-join space.keeps g.met.S.Space.keeps_join) first mid last refusal before.reads
          c.locate.ensures.reads;
      same_master = before.same_master;
      puts = before.puts;
    }
