use Rattle.std.proofs.lemmas.Option.{IfSome_then}
use Rattle.entry_audit.proofs.OwnedLemmas.{IfNone_then}
use Rattle.entry_audit.proofs.ListedLemmas.{children_listed, children_broken}
use Rattle.entry_audit.proofs.listed.child_fault.Goals as goal

pub returns-clause-none : goal.returns-clause-none
returns-clause-none c = λ t dirs table.
    IfNone_then c.in_ok-found.found
    (rw (c.deref.ensures.value, c.deref-2.ensures.value) at c.in_ok-found.ensures.none)
    (children_listed (c.in_ok-links.ensures t table) c.in_ok-heads.heads.items (c.in_ok-heads.ensures.heads t dirs))

pub returns-clause-fault : goal.returns-clause-fault
returns-clause-fault c = λ t dirs table parents.
    IfSome_then c.in_ok-found.found
    (rw (c.deref.ensures.value, c.deref-2.ensures.value) at c.in_ok-found.ensures.fault)
    (λ d broken. children_broken (c.in_ok-links.ensures t table) c.in_ok-heads.heads.items
    (c.in_ok-heads.ensures.heads t dirs) parents c.args.dirs.now dirs d broken.0 broken.1)
