use Rattle.std.proofs.Common.{◌+◌, ◌/◌, IsTrue, length, ap, refl, arith}
use Rattle.save_bytes.specs.Refusals.{UnlessDisk}
use Rattle.difi.specs.Places.{block_size}
use Rattle.ivfc_tree.specs.Known.{is_told}
use Rattle.ivfc_tree.specs.Held.{LooksUp}
use Rattle.std.specs.Result.{result_err}
use Rattle.difi.specs.declared.places.LevelPlace.{LevelPlace}
use Rattle.save_bytes.proofs.CallLemmas.{Reads-join}
use Rattle.ivfc_tree.specs.KeepLaws.{shown_tree}
use Rattle.ivfc_tree.specs.ViewLaws.{place_inside}
use Rattle.ivfc_tree.proofs.ViewLemmas.{run_inside, view_piece, hashed_read, Learns-refused, told_behind}
use Rattle.ivfc_tree.proofs.view.IvfcView.lend.Goals as goal

pub overflow_add-place : goal.overflow_add-place
overflow_add-place g c =
    let space = g.S.Space in
    let view = c.args.self.now in
    let tree = shown_tree space.state g.met.S.Space.size_fits view c.requires.inside.sound in
    let there = place_inside (space.state view.base.now).shape view.difi.now (length view.master.now) c.args.at tree
    (omega (arith, c.requires.inside.inside)) in
    rw c.level_of.ensures (omega (arith, tree.levels.small, there))

pub piece-requires-clause-inside : goal.piece-requires-clause-inside
piece-requires-clause-inside g c =
    let space = g.S.Space in
    let view = c.args.self.now in
    let first = c.in-Ok.ensures in
    let tree = shown_tree space.state g.met.S.Space.size_fits view c.requires.inside.sound in
    run_inside (space.state view.base.now) view.part view.master.now view.difi.now view.state.now c.args.at
    (space.state c.verify.new.self.base.now) c.args.most c.in-Ok.most _ tree first.verified first.base.stays
    (ap (λ (level : LevelPlace). level.at + c.args.at) c.level_of.ensures)

pub returns : goal.returns
returns g c =
    let space = g.S.Space in
    let view = c.args.self.now in
    let mid = c.verify.new.self in
    let last = c.piece.follows.lender-at-none in
    let refusal = result_err c.piece.result in
    let tree = shown_tree space.state g.met.S.Space.size_fits view c.requires.inside.sound in
    let first = c.in-Ok.ensures in
    let hold = first.looks.hold in
    let block = c.args.at / block_size view.difi.now.ivfc4 in
    let base = Reads-join space.state space.keeps space.lands g.met.S.Space.keeps_join view.base.now mid.base.now
    last refusal
    first.base
    c.piece.follows.holds-at-none in
    let looks : LooksUp 4 block view (record mid { base = record mid.base { now = last } }) refusal = record {
      hold = record {
        same_base = hold.same_base;
        same_part = hold.same_part;
        same_difi = hold.same_difi;
        same_master = hold.same_master;
        master_len = hold.master_len;
        same_state = hold.same_state;
        marks = hold.marks;
      };
      master_now = first.looks.master_now;
      learns = Learns-refused view.difi.now 4 block view.state.now mid.state.now refusal first.looks.learns;
    } in
    let told : IsTrue (is_told (space.state view.base.now) view.master.now view.difi.now view.state.now)
    → UnlessDisk refusal (IsTrue (is_told (space.state last) view.master.now view.difi.now mid.state.now)) = λ told.
    told_behind space.state space.keeps space.lands 4 block view mid _ first.looks (space.state last) refusal tree
    first.base.stays.space.shape
    (first.reads.stays.space.told told) c.piece.follows.holds-at-none.stays in (
      (
        refl,
        λ _. tt,
        (
          hashed_read space.state space.keeps space.lands 4 block view _ refusal looks tree told base,
          base,
          looks,
        ),
      ),
      record {
        piece = view_piece (space.state view.base.now) view.part view.master.now view.difi.now view.state.now
            c.args.at (space.state mid.base.now) c.args.most c.in-Ok.most _ tree first.verified first.base.stays
            (ap (λ (level : LevelPlace). level.at + c.args.at) c.level_of.ensures) c.piece.result c.piece.ensures.piece;
        after = tt;
      },
    )
