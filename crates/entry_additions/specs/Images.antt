-- The bytes of a new entry.
use Rattle.std.specs.Prelude.{ℕ, List, ◌++◌, replicate}
use Rattle.byteorder.specs.Endian.{little_bytes}
use Rattle.entry_tables.specs.declared.table.EntryKind.{EntryKind}
use Rattle.entry_tables.specs.declared.table.EntryKind.TheVariants.{Dir, File}
use Rattle.entry_additions.specs.declared.entry.NewEntry.{NewEntry}

-- its parent, its name, the next sibling, zeros for what a new entry has none of, a file's fields, and its last word
abbrev pub written_entry : EntryKind → NewEntry → ℕ → ℕ → List ℕ
written_entry Dir new sibling link =
    little_bytes 4 new.parent ++ new.name.0 ++ little_bytes 4 sibling ++ replicate 12 0 ++ little_bytes 4 link
written_entry File new sibling link =
    little_bytes 4 new.parent ++ new.name.0 ++ little_bytes 4 sibling ++ replicate 4 0
    ++ little_bytes 4 new.fields.start ++ little_bytes 8 new.fields.wide ++ replicate 4 0 ++ little_bytes 4 link
