use Rattle.std.specs.Result.{result_err}
use Rattle.save_bytes.proofs.CallLemmas.{Reads-join}
use Rattle.ivfc_tree.specs.Held.{shown, HashKeeps, hash_lands}
use Rattle.ivfc_tree.specs.KeepLaws.{HashKeeps-join}
use Rattle.ivfc_tree.proofs.tests.good_after_status.Goals as goal

pub returns-in-Ok : goal.returns-in-Ok
returns-in-Ok g c =
    let space = g.S.Space in
    let keeps_join = HashKeeps-join space.keeps g.met.S.Space.keeps_join in
    Reads-join (shown space.state) (HashKeeps space.keeps) (hash_lands space.lands) keeps_join c.args.view.now
    c.status.new.self c.verify.new.self
    (result_err c.verify.result) c.in-Ok.ensures.reads c.verify.ensures.reads
