-- Where all rules hold none fails.
use Rattle.std.proofs.Common.{ℕ, List, refl}
use Rattle.std.proofs.lemmas.List.Elements.{All-contains}
use Rattle.entry_tables.specs.declared.table.EntryKind.{EntryKind}
use Rattle.entry_tables.specs.Tables.{Table, Tables}
use Rattle.entry_tables.specs.Rules.{CanBeFreed, IsFreedList, IsOrderly}
use Rattle.entry_tables.specs.Fails.{NamesWrongly, IsMislisted, Lacked, Twice, Strange, RuleFailsAt}
use Rattle.entry_tables.specs.Fails.{OfFreed, OfPlace, OfDirectory, OfListed, OfNames, OfBucket}
use Rattle.entry_tables.proofs.LinkLemmas.{linked_front, reached, never_again}

-- the number that an entry of the freed list names is in the list
freed_rightly : (kind : EntryKind) (t : Table) (list : List ℕ) (e : ℕ) → IsFreedList kind t list
    → ¬ NamesWrongly kind t e
freed_rightly kind t list e is wrong =
    let there = reached t.link (t.link 0) wrong.front (t.link e) list wrong.begins.leads wrong.named is.leads in
    never_again t.link (t.link 0) wrong.front (t.link e) list wrong.begins.leads wrong.named is.leads
    (wrong.wrong (All-contains (CanBeFreed kind t) list (t.link e) is.inside there))

listed_rightly : (t : Tables) (kind : EntryKind) (e : ℕ) → IsOrderly t → ¬ IsMislisted t kind e
listed_rightly t kind e orderly (Lacked entry parent lacks) =
    let list = orderly.listed kind ((t.table kind).parent e) parent in
    let within = list.1.all e (record { entry = entry; parent = refl }) in
    let front = linked_front (t.table kind).sibling (t.first kind ((t.table kind).parent e)) list.0 e list.1.leads
    within in
    lacks front.0 front.1
listed_rightly t kind e orderly (Twice dir used child front listed again) =
    let list = orderly.listed kind dir used in
    never_again (t.table kind).sibling (t.first kind dir) front e list.0 listed.1 listed.0 list.1.leads again
listed_rightly t kind e orderly (Strange dir used entry other front listed) =
    let list = orderly.listed kind dir used in
    other (list.1.children e (reached (t.table kind).sibling (t.first kind dir) front e list.0 listed.1 listed.0
    list.1.leads))

pub nowhere_fails : (t : Tables) (table entry : ℕ) → IsOrderly t → ¬ RuleFailsAt t table entry
nowhere_fails t table entry orderly (OfFreed kind is wrong) =
    let list = orderly.freed kind in
    freed_rightly kind (t.table kind) list.0 entry list.1 wrong
nowhere_fails t table entry orderly (OfPlace kind is misplaced) = misplaced.wrong
    (orderly.placed kind entry misplaced.entry)
nowhere_fails t table entry orderly (OfDirectory is broken) =
    let list = orderly.listed broken.kind entry broken.used in
    broken.none list.0 list.1
nowhere_fails t table entry orderly (OfListed kind is mislisted) = listed_rightly t kind entry orderly mislisted
nowhere_fails t table entry orderly (OfNames kind is shares) =
    shares.apart (orderly.names_apart kind shares.other entry shares.other_entry shares.entry shares.same_parent
    shares.same_name)
nowhere_fails t table entry orderly (OfBucket kind is broken) =
    let list = orderly.buckets kind entry broken.below in
    broken.none list.0 list.1
