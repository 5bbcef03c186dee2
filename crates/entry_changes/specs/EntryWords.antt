-- What an entry's lists need of it.
use Rattle.std.specs.Prelude.{◌≡◌, ℕ}
use Rattle.entry_tables.specs.Tables.{Table}
use Rattle.entry_tables.specs.Rules.{bucket_of}
use Rattle.entry_changes.specs.declared.words.EntryWords.{EntryWords}

-- the words of an entry, and its bucket
pub record AreWordsOf (t : Table) (e : ℕ) (words : EntryWords) : Type 0 where
  pub parent : words.parent ≡ t.parent e
  pub bucket : words.bucket ≡ bucket_of t e
  pub sibling : words.sibling ≡ t.sibling e
  pub link : words.link ≡ t.link e
