-- The copies that are chosen, which the last committed image stands on.
use Rattle.std.specs.Prelude.{◌≡◌, ◌⊎◌, ℕ, ◌/◌, ◌^◌, ◌<◌, IsTrue, Option}
use Rattle.save_bytes.specs.declared.space.Bad.{Bad}
use Rattle.save_bytes.specs.State.{State}
use Rattle.save_bytes.specs.Refusals.{UnlessDisk}
use Rattle.difi.specs.declared.descriptor.Difi.{Difi}
use Rattle.dpfs_tree.specs.Picks.{bytes_of, bit_of, copy_place, pick1, pick2}

-- where byte x of the chosen level 2 lies: level 1 has a bit for each of its blocks
abbrev pub place2 : (ℕ → ℕ) → ℕ → Difi → ℕ → ℕ → ℕ
place2 bytes part_at difi selector x =
    copy_place part_at difi.dpfs2 (bit_of (pick1 bytes part_at difi selector) (x / 2 ^ difi.dpfs2.log)) x

-- and byte x of the chosen level 3: level 2 has a bit for each of its blocks
abbrev pub place3 : (ℕ → ℕ) → ℕ → Difi → ℕ → ℕ → ℕ
place3 bytes part_at difi selector x =
    copy_place part_at difi.dpfs3 (bit_of (pick2 bytes part_at difi selector) (x / 2 ^ difi.dpfs3.log)) x

-- a place of a copy that is chosen
abbrev pub IsChosenPlace : (ℕ → ℕ) → ℕ → Difi → ℕ → ℕ → Type 0
IsChosenPlace bytes part_at difi selector place =
    ((x : ℕ) × (x < difi.dpfs1.size) × (place ≡ copy_place part_at difi.dpfs1 selector x))
    ⊎ (((x : ℕ) × (x < difi.dpfs2.size) × (place ≡ place2 bytes part_at difi selector x))
    ⊎ ((x : ℕ) × (x < difi.dpfs3.size) × (place ≡ place3 bytes part_at difi selector x)))

-- a call that leaves each byte of the chosen copies of its base
abbrev pub Spares : {A : Type 0} → (A → State) → ℕ → Difi → ℕ → A → A → Option Bad → Type 0
Spares states part_at difi selector old new refusal =
    IsTrue (states old).told → UnlessDisk refusal ((place : ℕ) → place < (states old).shape.size
    → IsChosenPlace (bytes_of (states old).cells) part_at difi selector place
    → (states new).cells place ≡ (states old).cells place)
