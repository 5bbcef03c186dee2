use Rattle.std.proofs.lemmas.Option.{IfSome_then}
use Rattle.entry_audit.proofs.OwnedLemmas.{IfNone_then}
use Rattle.entry_audit.proofs.ListedLemmas.{buckets_listed, bucket_broken}
use Rattle.entry_audit.proofs.listed.bucket_fault.Goals as goal

pub returns-clause-none : goal.returns-clause-none
returns-clause-none c = λ t is.
    IfNone_then c.in_ok-found.found
    (rw (c.deref.ensures.value, c.deref-2.ensures.value) at c.in_ok-found.ensures.none)
    (buckets_listed (c.in_ok-links.ensures t is) c.args.table.now.heads.items is.buckets is.heads)

pub returns-clause-fault : goal.returns-clause-fault
returns-clause-fault c = λ t is.
    IfSome_then c.in_ok-found.found
    (rw (c.deref.ensures.value, c.deref-2.ensures.value) at c.in_ok-found.ensures.fault)
    (λ b broken. bucket_broken (c.in_ok-links.ensures t is) c.args.table.now.heads.items is.buckets is.heads b broken.0
    broken.1)
