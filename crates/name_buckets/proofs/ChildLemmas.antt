-- The list of a directory, entry by entry.
use Rattle.std.proofs.Common.{◌≡◌, ℕ, sym, ◌∙◌, ap, add-one}
use Rattle.entry_tables.specs.declared.table.EntryKind.{EntryKind}
use Rattle.entry_tables.specs.Tables.{Tables}
use Rattle.entry_tables.proofs.LinkLemmas.{linked_first, linked_next}
use Rattle.name_buckets.specs.Replies.{IsFirstChild, IsNextChild}

pub first_child : (t : Tables) (kind : EntryKind) (dir e : ℕ) → e ≡ t.first kind dir → IsFirstChild t kind dir e
first_child t kind dir e is list of_dir = is ∙ linked_first (t.table kind).sibling (t.first kind dir) list of_dir.leads

pub next_child : (t : Tables) (kind : EntryKind) (entry e : ℕ) → e ≡ (t.table kind).sibling entry → IsNextChild t kind entry e
next_child t kind entry e is dir list k of_dir h there =
    is ∙ ap (t.table kind).sibling (sym there) ∙ rw add-one (linked_next (t.table kind).sibling (t.first kind dir) list k of_dir.leads h)
