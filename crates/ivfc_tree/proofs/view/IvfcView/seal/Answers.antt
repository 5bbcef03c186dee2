use Rattle.std.proofs.Common.{length, refl, ap}
use Rattle.std.specs.Result.{result_err}
use Rattle.ivfc_tree.specs.declared.marks.Marks.{Marks}
use Rattle.ivfc_tree.specs.Marks.{level_marks}
use Rattle.ivfc_tree.specs.KeepLaws.{shown_tree}
use Rattle.ivfc_tree.proofs.SealViewLemmas.{seals_view}
use Rattle.ivfc_tree.proofs.view.IvfcView.seal.Goals as goal

pub seal_in-requires : goal.seal_in-requires
seal_in-requires g c = shown_tree g.S.Space.state g.met.S.Space.size_fits c.args.self.now c.requires

pub returns : goal.returns
returns g c =
    let space = g.S.Space in
    let sealed = c.seal_in.ensures in
    seals_view space.state space.keeps space.lands c.args.self.now _ (result_err c.seal_in.result)
    (shown_tree space.state g.met.S.Space.size_fits c.args.self.now c.requires)
    (record {
      same_base = refl;
      same_part = refl;
      same_difi = refl;
      same_master = refl;
      master_len = sealed.seals.master_hash.same_len;
      same_state = refl;
      marks = λ level. ap (λ (marks : Marks). length (level_marks marks level)) sealed.counts.marks;
    })
    sealed.counts sealed.seals
