use Rattle.std.proofs.Common.{false, refl}
use Rattle.ivfc_tree.proofs.PathLemmas.{state_is}
use Rattle.ivfc_tree.proofs.laws.paths_come_to.Goals as goal

pub returns : goal.returns
returns c = λ cells master difi. state_is cells master difi (λ level block. false) (λ level block. refl)
