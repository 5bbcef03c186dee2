use Rattle.std.proofs.Common.{refl}
use Rattle.entry_additions.proofs.AddLemmas.{never_broken}
use Rattle.name_buckets.proofs.HeldLemmas.{entries_read}
use Rattle.name_buckets.proofs.view.Entries.ready_add.Goals as goal

pub returns-clause-never_broken : goal.returns-clause-never_broken
returns-clause-never_broken g c =
    never_broken (g.S.Space.state c.args.self.now.space.now) c.args.self.now.dirs c.args.self.now.files c.args.kind
    c.args.parent c.args.name.now.0 c.ready_add_in.result c.ready_add_in.ensures.cause

pub returns-clause-reads : goal.returns-clause-reads
returns-clause-reads g c = entries_read _ _ _ _ _ c.requires _ refl refl refl c.ready_add_in.ensures.reads
