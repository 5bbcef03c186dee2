use Rattle.std.proofs.Common.{sym, ◌∙◌, ap, subst}
use Rattle.entry_tables.specs.Tables.{Table, HasEntry}
use Rattle.name_buckets.specs.Held.{place_of}
use Rattle.entry_tables.proofs.EntryLemmas.{used_entry}
use Rattle.name_buckets.proofs.HeldLemmas.{still_tells, same_table}
use Rattle.name_buckets.proofs.tests.found_name.Goals as goal

pub returns-in-Ok : goal.returns-in-Ok
returns-in-Ok g c = λ tells known orderly.
    let space = g.S.Space in
    let old = c.args.entries.now in
    let mid = c.find.new.self in
    let kind = c.args.kind in
    let e = c.in-Ok-Some.entry in
    let read = c.in-Ok-Some.ensures.reads in
    let found = rw c.in-Ok-Some.field-0-is at c.in-Ok-Some.ensures.found tells (orderly.buckets kind) in
    let same = same_table space.state space.keeps space.lands old mid c.requires read kind tells known in
    let has = used_entry (space.state old.space.now) kind (place_of old kind) tells known e found.entry.used in
    let still = subst (λ (t : Table). HasEntry t e) (sym same) has in
    c.in-Ok.ensures.name (still_tells space.state space.keeps space.lands old mid c.requires read kind tells) still
    ∙ ap (λ (t : Table). t.name e) same ∙ found.name_is
