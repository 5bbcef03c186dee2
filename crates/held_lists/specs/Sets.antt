-- Sets of allocation entries, one bit for each.
use Rattle.std.specs.Prelude.{◌≡◌, ℕ, ◌+◌, ◌/◌, ◌%◌, ◌<◌, ◌≤◌, ◌==◌, Bool, true, false, length, slice_index}
use Rattle.std.specs.Int.{bit_at}
use Rattle.held_lists.specs.declared.set.EntrySet.{EntrySet}

-- an entry is in the set
unfoldable pub has_entry : EntrySet → ℕ → Bool
has_entry set entry = bit_at (slice_index set.words.items (entry / 64)) (entry % 64) == 1

-- the set has a bit for this entry
abbrev pub HasRoomFor : EntrySet → ℕ → Type 0
HasRoomFor set entry = entry / 64 < length set.words.items

-- one of the entries of a run
pub record IsInRun (first len entry : ℕ) : Type 0 where
  pub from : first ≤ entry
  pub before : entry < first + len

-- a run's entries are taken into a set, in which none of them was
pub record TakesRun (old new : EntrySet) (first len : ℕ) : Type 0 where
  pub fresh : (entry : ℕ) → IsInRun first len entry → has_entry old entry ≡ false
  pub taken : (entry : ℕ) → IsInRun first len entry → has_entry new entry ≡ true
  pub others : (entry : ℕ) → ¬ IsInRun first len entry → has_entry new entry ≡ has_entry old entry
