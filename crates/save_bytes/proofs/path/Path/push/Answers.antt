use Rattle.std.proofs.Common.{ap, arith, length}
use Rattle.std.proofs.lemmas.List.{map-append}
use Rattle.save_bytes.proofs.PathCodeLemmas.{IsPath-push}
use Rattle.save_bytes.proofs.path.Path.push.Goals as goal

pub invariant_of-self : goal.invariant_of-self
invariant_of-self c = rw (c.push.ensures.items, map-append)
    (IsPath-push _ c.args.name.0 c.self.invariant (omega (arith, ap length c.self.view_is, c.requires.room))
    (record { long = c.bytes_of.ensures.long; bytes = c.bytes_of.ensures.bytes; some = c.requires.some }))
