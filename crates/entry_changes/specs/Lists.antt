-- The lists of a bucket and of a directory, as words that name entries.
use Rattle.std.specs.Prelude.{◌≡◌, ℕ, ◌+◌, ◌<◌, List, [], ◌∷◌, Contains, Option, Some, None}
use Rattle.save_bytes.specs.Cells.{Cell, IsByte}
use Rattle.entry_tables.specs.declared.table.EntryKind.{EntryKind}
use Rattle.entry_tables.specs.declared.table.TableInfo.{TableInfo}
use Rattle.entry_tables.specs.declared.table.EntryKind.TheVariants.{Dir}
use Rattle.entry_tables.specs.declared.word.Word.{Word}
use Rattle.entry_tables.specs.declared.word.Word.TheVariants.{Head, Link, Sibling, First}
use Rattle.entry_tables.specs.Kinds.{bucket_table, table_number}
use Rattle.entry_tables.specs.Tables.{HasEntry, Tables, tables_in}
use Rattle.entry_tables.specs.Links.{LeadsTo, last_of}
use Rattle.entry_tables.specs.Words.{word_place}
use Rattle.entry_changes.specs.declared.list.EntryList.{EntryList}
use Rattle.entry_changes.specs.declared.list.EntryList.TheVariants.{Bucket, Children}

-- of which kind its entries are
abbrev pub list_kind : EntryList → EntryKind
list_kind (Bucket kind bucket) = kind
list_kind (Children kind dir) = kind

-- where it begins, and which entry names which
abbrev pub list_from : Tables → EntryList → ℕ
list_from t (Bucket kind bucket) = (t.table kind).head bucket
list_from t (Children kind dir) = t.first kind dir

abbrev pub list_next : Tables → EntryList → ℕ → ℕ
list_next t (Bucket kind bucket) = (t.table kind).link
list_next t (Children kind dir) = (t.table kind).sibling

-- the word that names its first entry, and the one by which an entry names the next
abbrev pub first_word : EntryList → Word
first_word (Bucket kind bucket) = Head kind bucket
first_word (Children kind dir) = First kind dir

abbrev pub entry_word : EntryList → ℕ → Word
entry_word (Bucket kind bucket) e = Link kind e
entry_word (Children kind dir) e = Sibling kind e

-- the word behind these entries of it
abbrev pub word_behind : EntryList → List ℕ → Word
word_behind list [] = first_word list
word_behind list (x ∷ xs) = entry_word list (last_of x xs)

-- the tables have the bucket, or the directory
abbrev pub HasList : Tables → EntryList → Type 0
HasList t (Bucket kind bucket) = bucket < (t.table kind).buckets
HasList t (Children kind dir) = HasEntry (t.table Dir) dir

-- the numbers that name it in a refusal
abbrev pub list_table : EntryList → ℕ
list_table (Bucket kind bucket) = bucket_table kind
list_table (Children kind dir) = table_number Dir

abbrev pub list_number : EntryList → ℕ
list_number (Bucket kind bucket) = bucket
list_number (Children kind dir) = dir

-- the entry behind these entries of the list
abbrev pub IsBehind : Tables → EntryList → List ℕ → ℕ → Type 0
IsBehind t list xs e = LeadsTo (list_next t list) (list_from t list) xs e

-- the word that names an entry in the list, or none where the list ends without it
abbrev pub IsWordBefore : Tables → EntryList → ℕ → Option Word → Type 0
IsWordBefore t list e (Some word) = (xs : List ℕ) × (word ≡ word_behind list xs) × IsBehind t list xs e
IsWordBefore t list e None = (xs : List ℕ) × IsBehind t list xs 0 × (¬ Contains xs e)

-- no list of entries of the table begins there and ends
abbrev pub HasNoEnd : Tables → EntryList → Type 0
HasNoEnd t list = (whole : List ℕ) → IsBehind t list whole 0
    → ((x : ℕ) → Contains whole x → x < (t.table (list_kind list)).count) → ⊥

-- a word of the list behind entries of the table, none of them the one that is sought
pub record IsOnTheWay (t : Tables) (list : EntryList) (e : ℕ) (xs : List ℕ) (word : Word) : Type 0 where
  pub is : word ≡ word_behind list xs
  pub leads : (end : ℕ) × IsBehind t list xs end
  pub inside : (x : ℕ) → Contains xs x → x < (t.table (list_kind list)).count
  pub apart : ¬ Contains xs e

-- the four cells of a word are bytes
abbrev pub AreBytesOf : (ℕ → Cell) → TableInfo → TableInfo → Word → Type 0
AreBytesOf cells dirs files word = (k : ℕ) → k < 4 → IsByte (cells (word_place dirs files word + k))

-- the words of a list on the way to an entry, or to the list's end, are bytes
abbrev pub HasWayBytes : (ℕ → Cell) → TableInfo → TableInfo → EntryList → ℕ → Type 0
HasWayBytes cells dirs files list e = (xs : List ℕ) (word : Word)
    → IsOnTheWay (tables_in cells dirs files) list e xs word → AreBytesOf cells dirs files word
