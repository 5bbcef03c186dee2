-- The words of tables and buckets that calls change, and tables in which one of them is another.
use Rattle.std.specs.Prelude.{ℕ, ◌+◌, ◌*◌, ◌<◌, ◌≤◌, ◌==◌, if◌then◌else◌, List, [], ◌∷◌, ⊤}
use Rattle.entry_tables.specs.declared.table.EntryKind.{EntryKind}
use Rattle.entry_tables.specs.declared.table.EntryKind.TheVariants.{Dir, File}
use Rattle.entry_tables.specs.declared.table.TableInfo.{TableInfo}
use Rattle.entry_tables.specs.declared.word.Edit.{Edit}
use Rattle.entry_tables.specs.declared.word.Word.{Word}
use Rattle.entry_tables.specs.declared.word.Word.TheVariants.{Head, Link, Sibling, First, Count}
use Rattle.entry_tables.specs.Kinds.{entry_size, link_offset, child_offset}
use Rattle.entry_tables.specs.Tables.{HasEntry, Tables, entry_place, bucket_place, info_of}

-- a function with another value at one number
abbrev pub with_at : {A : Type 0} → ℕ → A → (ℕ → A) → ℕ → A
with_at e value f x = if x == e then value else f x

-- and one with another value at one kind
abbrev pub at_kind : {A : Type 0} → EntryKind → A → (EntryKind → A) → EntryKind → A
at_kind Dir value f Dir = value
at_kind Dir value f File = f File
at_kind File value f Dir = f Dir
at_kind File value f File = value

-- tables have the bucket or the entry of a word
abbrev pub HasWord : Tables → Word → Type 0
HasWord t (Head kind bucket) = bucket < (t.table kind).buckets
HasWord t (Link kind e) = e < (t.table kind).most
HasWord t (Sibling kind e) = HasEntry (t.table kind) e
HasWord t (First kind dir) = HasEntry (t.table Dir) dir
HasWord t (Count kind) = ⊤

-- the number of a word
abbrev pub word_of : Tables → Word → ℕ
word_of t (Head kind bucket) = (t.table kind).head bucket
word_of t (Link kind e) = (t.table kind).link e
word_of t (Sibling kind e) = (t.table kind).sibling e
word_of t (First kind dir) = t.first kind dir
word_of t (Count kind) = (t.table kind).count

-- the tables with another number at a word
abbrev pub tables_with : Tables → Word → ℕ → Tables
tables_with t (Head kind bucket) value =
    record t {
      table = at_kind kind (record (t.table kind) {
        head = with_at bucket value
            (t.table kind).head;
      }) t.table;
    }
tables_with t (Link kind e) value =
    record t { table = at_kind kind (record (t.table kind) { link = with_at e value (t.table kind).link }) t.table }
tables_with t (Sibling kind e) value =
    record t {
      table = at_kind kind (record (t.table kind) {
        sibling = with_at e value
            (t.table kind).sibling;
      }) t.table;
    }
tables_with t (First kind dir) value = record t { first = at_kind kind (with_at dir value (t.first kind)) t.first }
tables_with t (Count kind) value = record t { table = at_kind kind (record (t.table kind) { count = value }) t.table }

-- the tables with other numbers at some words, one after another
abbrev pub tables_after : Tables → List Edit → Tables
tables_after t [] = t
tables_after t (edit ∷ edits) = tables_after (tables_with t edit.word edit.value) edits

-- the tables with other fields of a file's entry
abbrev pub with_fields : Tables → ℕ → ℕ → ℕ → Tables
with_fields t e start wide = record t { start = with_at e start t.start; wide = with_at e wide t.wide }

-- where a word stands
abbrev pub word_place : TableInfo → TableInfo → Word → ℕ
word_place dirs files (Head kind bucket) = bucket_place (info_of dirs files kind) bucket
word_place dirs files (Link kind e) = entry_place kind (info_of dirs files kind) e + link_offset kind
word_place dirs files (Sibling kind e) = entry_place kind (info_of dirs files kind) e + 0x14
word_place dirs files (First kind dir) = entry_place Dir dirs dir + child_offset kind
word_place dirs files (Count kind) = (info_of dirs files kind).table_at

-- the bucket or the entry of a word lies in a space of so many places
abbrev pub WordFits : ℕ → TableInfo → TableInfo → Word → Type 0
WordFits size dirs files (Head kind bucket) = bucket < (info_of dirs files kind).buckets
WordFits size dirs files (Link kind e) = entry_place kind (info_of dirs files kind) e + entry_size kind ≤ size
WordFits size dirs files (Sibling kind e) = entry_place kind (info_of dirs files kind) e + entry_size kind ≤ size
WordFits size dirs files (First kind dir) = entry_place Dir dirs dir + entry_size Dir ≤ size
WordFits size dirs files (Count kind) = ⊤

-- the buckets and entry 0 lie in a space of so many places
pub record HoldsEntryZero (size : ℕ) (kind : EntryKind) (info : TableInfo) : Type 0 where
  pub buckets : info.buckets_at + 4 * info.buckets ≤ size
  pub zero : info.table_at + entry_size kind ≤ size
