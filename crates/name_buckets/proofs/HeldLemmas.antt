-- What reading calls leave of entries.
use Rattle.std.proofs.Common.{◌≡◌, ℕ, Option, None, sym, subst}
use Rattle.save_bytes.specs.declared.space.Bad.{Bad}
use Rattle.save_bytes.specs.State.{Shape, State}
use Rattle.save_bytes.specs.Spots.{Spot}
use Rattle.save_bytes.specs.Reads.{Reads}
use Rattle.entry_tables.specs.declared.table.EntryKind.{EntryKind}
use Rattle.name_buckets.specs.declared.view.Entries.{Entries}
use Rattle.entry_tables.specs.Layout.{HasCounts, HasEntryTables}
use Rattle.name_buckets.specs.Held.{tables_of, place_of, HoldsTables, TellsTableOf, ReadsEntries, ChangesEntries}
use Rattle.entry_tables.specs.Changes.{ChangesAt}
use Rattle.entry_tables.proofs.StayLemmas.{table_stays, tells_later}

module _ {S : Type 0} (states : S → State) (keeps : Spot → S → S → Type 0) (lands : S → ℕ → Spot → Type 0) (old new : Entries S)
    (tables : HoldsTables states old) where
  -- a call on the space that only reads, of the entries that hold it
  pub entries_read : (refusal : Option Bad) → new.space.ghost_name ≡ old.space.ghost_name → new.dirs ≡ old.dirs
      → new.files ≡ old.files → Reads states keeps lands old.space.now new.space.now refusal
      → ReadsEntries states keeps lands old new refusal
  entries_read refusal same_space same_dirs same_files reads = record {
    reads = reads;
    same = record { same_space = same_space; same_dirs = same_dirs; same_files = same_files };
    laid_out = rw (same_dirs, same_files)
        (subst (λ (shape : Shape). HasEntryTables shape old.dirs old.files) (sym reads.stays.space.shape) tables);
  }

  -- and one that writes at some places
  pub entries_change : (P : Type 0) (sites : ℕ → Type 0) (refusal : Option Bad) → new.space.ghost_name ≡ old.space.ghost_name
      → new.dirs ≡ old.dirs → new.files ≡ old.files
      → ChangesAt states keeps lands P sites old.space.now new.space.now refusal
      → ChangesEntries states keeps lands P sites old new refusal
  entries_change P sites refusal same_space same_dirs same_files changes = record {
    changes = changes;
    same = record { same_space = same_space; same_dirs = same_dirs; same_files = same_files };
    laid_out = rw (same_dirs, same_files)
        (subst (λ (shape : Shape). HasEntryTables shape old.dirs old.files) (sym changes.space.shape) tables);
  }

  -- for callers: what a call that only reads leaves of a table
  module _ (read : ReadsEntries states keeps lands old new None) (kind : EntryKind) (tells : TellsTableOf states old kind) where
    pub still_tells : TellsTableOf states new kind
    still_tells = rw (read.same.same_dirs, read.same.same_files)
        (tells_later (states old.space.now) (states new.space.now) read.reads.stays kind (place_of old kind) (tables kind) tells)

    pub same_table : HasCounts (states old.space.now).cells (place_of old kind)
        → (tables_of states new).table kind ≡ (tables_of states old).table kind
    same_table known = rw (read.same.same_dirs, read.same.same_files)
        (table_stays (states old.space.now) (states new.space.now) read.reads.stays kind (place_of old kind)
        (tables kind) tells known)
