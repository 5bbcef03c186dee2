use Rattle.std.proofs.lemmas.List.{map-append}
use Rattle.save_bytes.proofs.PathCodeLemmas.{IsPath-front}
use Rattle.save_bytes.proofs.path.Path.pop.Goals as goal

pub invariant_of-self : goal.invariant_of-self
invariant_of-self c = IsPath-front _ _ (rw (c.pop.ensures.items, map-append) at c.self.invariant)
