use Rattle.std.proofs.Common.{◌∙◌, ap}
use Rattle.difi.specs.declared.descriptor.Difi.{Difi}
use Rattle.container.specs.Levels.{hash_level}
use Rattle.container.proofs.open.Container.level.Goals as goal

pub returns : goal.returns
returns c = let part = c.difi.ensures in (part.0, part.1, c.hash_level.ensures ∙ ap (λ (difi : Difi). hash_level difi c.args.level) part.2)
