-- What a removal makes of tables: the entry leaves two lists, and heads that of the freed ones.
use Rattle.std.specs.Prelude.{◌≡◌, ℕ, List, [], ◌∷◌}
use Rattle.entry_tables.specs.declared.table.EntryKind.{EntryKind}
use Rattle.entry_tables.specs.declared.table.EntryKind.TheVariants.{Dir}
use Rattle.entry_tables.specs.declared.word.Edit.{Edit}
use Rattle.entry_tables.specs.declared.word.Word.{Word}
use Rattle.entry_tables.specs.declared.word.Word.TheVariants.{Head, Link, Sibling, First}
use Rattle.entry_tables.specs.Tables.{Table, Tables}
use Rattle.entry_tables.specs.Links.{LeadsTo, last_of}
use Rattle.entry_tables.specs.Used.{named_entries, children_of}
use Rattle.entry_tables.specs.Rules.{bucket_of}
use Rattle.entry_tables.specs.Words.{with_at, at_kind}

-- where a list begins, once the entry behind these is taken out of it
abbrev pub cut_from : (ℕ → ℕ) → ℕ → List ℕ → ℕ → ℕ
cut_from next from [] e = next e
cut_from next from (x ∷ xs) e = from

-- heads of lists, of which one is now where its list begins
abbrev pub cut_head : (ℕ → ℕ) → ℕ → (ℕ → ℕ) → List ℕ → ℕ → ℕ → ℕ
cut_head heads at next [] e = with_at at (next e) heads
cut_head heads at next (x ∷ xs) e = heads

-- and its links: the last of these names what the entry named
abbrev pub cut_next : (ℕ → ℕ) → List ℕ → ℕ → ℕ → ℕ
cut_next next [] e = next
cut_next next (x ∷ xs) e = with_at (last_of x xs) (next e) next

-- a table without an entry, before which its bucket's list has xs and its directory's us
abbrev pub table_without : Table → ℕ → List ℕ → List ℕ → Table
table_without t e xs us = record t {
  head = cut_head t.head (bucket_of t e) t.link xs e;
  sibling = cut_next t.sibling us e;
  link = with_at 0 e (with_at e (t.link 0) (cut_next t.link xs e));
}

-- both tables without an entry of a kind
abbrev pub tables_without : Tables → EntryKind → ℕ → List ℕ → List ℕ → Tables
tables_without t kind e xs us = record t {
  table = at_kind kind (table_without (t.table kind) e xs us) t.table;
  first = at_kind kind (cut_head (t.first kind) ((t.table kind).parent e) (t.table kind).sibling us e) t.first;
}

-- an entry can be removed: a used one other than the root, and of a directory none that has entries
pub record CanRemove (t : Tables) (kind : EntryKind) (e : ℕ) : Type 0 where
  pub named : named_entries kind (t.table kind) e
  pub childless : kind ≡ Dir → (child : EntryKind) (f : ℕ) → ¬ children_of t child e f

-- before an entry its bucket's list has xs, and its directory's us
pub record IsListedBehind (t : Tables) (kind : EntryKind) (e : ℕ) (xs us : List ℕ) : Type 0 where
  pub in_bucket : LeadsTo (t.table kind).link ((t.table kind).head (bucket_of (t.table kind) e)) xs e
  pub in_directory : LeadsTo (t.table kind).sibling (t.first kind ((t.table kind).parent e)) us e

-- the words that a removal changes: the one that names the entry in its bucket's list, the one in its directory's,
-- its own
-- last word, and that of entry 0
abbrev pub bucket_word : EntryKind → ℕ → List ℕ → Word
bucket_word kind bucket [] = Head kind bucket
bucket_word kind bucket (x ∷ xs) = Link kind (last_of x xs)

abbrev pub sibling_word : EntryKind → ℕ → List ℕ → Word
sibling_word kind dir [] = First kind dir
sibling_word kind dir (x ∷ xs) = Sibling kind (last_of x xs)

abbrev pub removal_edits : Tables → EntryKind → ℕ → List ℕ → List ℕ → List Edit
removal_edits t kind e xs us =
    record { word = bucket_word kind (bucket_of (t.table kind) e) xs; value = (t.table kind).link e }
    ∷ record { word = sibling_word kind ((t.table kind).parent e) us; value = (t.table kind).sibling e }
    ∷ record { word = Link kind e; value = (t.table kind).link 0 }
    ∷ record { word = Link kind 0; value = e }
    ∷ []
