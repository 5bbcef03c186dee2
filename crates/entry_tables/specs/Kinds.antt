-- The numbers of the two kinds of entries.
use Rattle.std.specs.Prelude.{ℕ, ◌≡◌}
use Rattle.entry_tables.specs.declared.table.EntryKind.{EntryKind}
use Rattle.entry_tables.specs.declared.table.EntryKind.TheVariants.{Dir, File}

-- how many bytes an entry has
abbrev pub entry_size : EntryKind → ℕ
entry_size Dir = 0x28
entry_size File = 0x30

-- where an entry's last word stands in it
abbrev pub link_offset : EntryKind → ℕ
link_offset Dir = 0x24
link_offset File = 0x2C

-- where a directory's entry has its first entry of a kind
abbrev pub child_offset : EntryKind → ℕ
child_offset Dir = 0x18
child_offset File = 0x1C

-- the numbers that name a table, and its buckets, in a refusal
abbrev pub table_number : EntryKind → ℕ
table_number Dir = 2
table_number File = 3

abbrev pub bucket_table : EntryKind → ℕ
bucket_table Dir = 4
bucket_table File = 5

-- the least number of an entry that can be freed
abbrev pub least_freed : EntryKind → ℕ
least_freed Dir = 2
least_freed File = 1

-- directory 1 is the root
abbrev pub IsRoot : EntryKind → ℕ → Type 0
IsRoot Dir e = e ≡ 1
IsRoot File e = ⊥
