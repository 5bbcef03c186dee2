use Rattle.std.proofs.Common.{refl}
use Rattle.entry_additions.proofs.AddLemmas.{never_broken}
use Rattle.name_buckets.proofs.HeldLemmas.{entries_change}
use Rattle.name_buckets.proofs.view.Entries.add.Goals as goal

pub returns-clause-never_broken : goal.returns-clause-never_broken
returns-clause-never_broken g c =
    never_broken (g.S.Space.state c.args.self.now.space.now) c.args.self.now.dirs c.args.self.now.files c.args.kind
    c.args.parent c.args.name.now.0 c.add_in.result c.add_in.ensures.cause

pub returns-clause-changes : goal.returns-clause-changes
returns-clause-changes g c = entries_change _ _ _ _ _ c.requires _ _ _ refl refl refl c.add_in.ensures.changes
