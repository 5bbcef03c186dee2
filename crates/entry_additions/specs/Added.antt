-- What adding an entry makes of tables: it heads its bucket's list and its directory's.
use Rattle.std.specs.Prelude.{◌≡◌, ◌≢◌, ℕ, ◌+◌, ◌<◌, ◌==◌, if◌then◌else◌, List, [], ◌∷◌, length, replicate}
use Rattle.entry_tables.specs.declared.table.EntryKind.{EntryKind}
use Rattle.entry_tables.specs.declared.table.EntryKind.TheVariants.{Dir, File}
use Rattle.entry_tables.specs.declared.word.Edit.{Edit}
use Rattle.entry_tables.specs.declared.word.Word.TheVariants.{Head, Link, First, Count}
use Rattle.entry_tables.specs.Hash.{bucket_number}
use Rattle.entry_tables.specs.Tables.{Table, Tables}
use Rattle.entry_tables.specs.Used.{used_entries, named_entries, dir_path}
use Rattle.entry_tables.specs.Words.{with_at, at_kind}
use Rattle.entry_additions.specs.declared.entry.NewEntry.{NewEntry}

-- the entry that is taken: the first freed one, or where there is none the next number
abbrev pub taken_entry : Table → ℕ
taken_entry t = if t.link 0 == 0 then t.count else t.link 0

-- how many entries were ever used then, and which is the first freed one
abbrev pub count_after : Table → ℕ
count_after t = if t.link 0 == 0 then t.count + 1 else t.count

abbrev pub freed_after : Table → ℕ
freed_after t = if t.link 0 == 0 then 0 else t.link (t.link 0)

-- there is an entry to take
abbrev pub HasRoom : Table → Type 0
HasRoom t = t.link 0 ≡ 0 → t.count < t.most

-- a new directory has no entries
abbrev pub firsts_new : EntryKind → ℕ → (EntryKind → ℕ → ℕ) → EntryKind → ℕ → ℕ
firsts_new Dir e first child = with_at e 0 (first child)
firsts_new File e first child = first child

-- and a new file has a field as given
abbrev pub field_new : EntryKind → ℕ → ℕ → (ℕ → ℕ) → ℕ → ℕ
field_new Dir e value f = f
field_new File e value f = with_at e value f

-- the bucket of a new entry
abbrev pub bucket_for : Table → NewEntry → ℕ
bucket_for t new = bucket_number new.parent new.name.0 t.buckets

-- a table in which an entry is written anew, with these words
abbrev pub table_put : Table → ℕ → NewEntry → ℕ → ℕ → Table
table_put t e new sibling link = record t {
  parent = with_at e new.parent t.parent;
  name = with_at e new.name.0 t.name;
  sibling = with_at e sibling t.sibling;
  link = with_at e link t.link;
}

-- both tables, with an entry of a kind so written
abbrev pub tables_put : Tables → EntryKind → ℕ → NewEntry → ℕ → ℕ → Tables
tables_put t kind e new sibling link = record t {
  table = at_kind kind (table_put (t.table kind) e new sibling link) t.table;
  first = firsts_new kind e t.first;
  start = field_new kind e new.fields.start t.start;
  wide = field_new kind e new.fields.wide t.wide;
}

-- a table with one entry more: it names the entries that its two lists began with, and these begin with it
abbrev pub table_added : Table → ℕ → ℕ → ℕ → ℕ → NewEntry → Table
table_added t e count freed sibling new = record t {
  count = count;
  head = with_at (bucket_for t new) e t.head;
  parent = with_at e new.parent t.parent;
  name = with_at e new.name.0 t.name;
  sibling = with_at e sibling t.sibling;
  link = with_at 0 freed (with_at e (t.head (bucket_for t new)) t.link);
}

-- both tables, with one entry more of a kind, so many ever used, and this first freed one
abbrev pub tables_added : Tables → EntryKind → ℕ → ℕ → ℕ → NewEntry → Tables
tables_added t kind e count freed new = record t {
  table = at_kind kind (table_added (t.table kind) e count freed (t.first kind new.parent) new) t.table;
  first = at_kind kind (with_at new.parent e (firsts_new kind e t.first kind)) (firsts_new kind e t.first);
  start = field_new kind e new.fields.start t.start;
  wide = field_new kind e new.fields.wide t.wide;
}

-- and with the entry that there is to take
abbrev pub tables_with_new : Tables → EntryKind → NewEntry → Tables
tables_with_new t kind new =
    tables_added t kind (taken_entry (t.table kind)) (count_after (t.table kind)) (freed_after (t.table kind)) new

-- An entry can be added: its parent is a used directory that reaches the root by fewer than 64 parents, its name is not
-- empty, and no entry there has it.
pub record CanAdd (t : Tables) (kind : EntryKind) (parent : ℕ) (name : List ℕ) : Type 0 where
  pub directory : used_entries (t.table Dir) parent
  pub steps : (names : List (List ℕ)) × dir_path (t.table Dir) parent names × (length names < 64)
  pub named : name ≢ replicate 16 0
  pub free : (e : ℕ) → named_entries kind (t.table kind) e → (t.table kind).parent e ≡ parent
      → (t.table kind).name e ≢ name

-- the word by which an entry is taken from its table, and the words by which its two lists begin with it
abbrev pub taken_edit : EntryKind → Table → Edit
taken_edit kind t = if t.link 0 == 0 then record { word = Count kind; value = t.count + 1 }
    else record { word = Link kind 0; value = t.link (t.link 0) }

abbrev pub addition_edits : Tables → EntryKind → ℕ → List ℕ → List Edit
addition_edits t kind parent name =
    record { word = Head kind (bucket_number parent name (t.table kind).buckets); value = taken_entry (t.table kind) }
    ∷ record { word = First kind parent; value = taken_entry (t.table kind) }
    ∷ taken_edit kind (t.table kind) ∷ []
