-- What a window has of a file.
use Rattle.std.specs.Prelude.{ℕ, ◌+◌, ◌-◌, ◌<◌, ◌≤◌, ◌≡◌, List, slice_index}
use Rattle.save_disk.specs.declared.window.Window.{Window}

-- each byte that the window has is the file's
abbrev pub IsOf : List ℕ → Window → Type 0
IsOf file window = (x : ℕ) → window.at ≤ x → x < window.at + window.held
    → slice_index window.bytes (x - window.at) ≡ slice_index file x

-- the window has each of the n bytes from a place on
pub record Has (at n : ℕ) (window : Window) : Type 0 where
  pub begins : window.at ≤ at
  pub ends : at + n ≤ window.at + window.held

-- two files that are one but for the n bytes from a place on
pub record SameBeside (at n : ℕ) (file other : List ℕ) : Type 0 where
  pub before : (x : ℕ) → x < at → slice_index other x ≡ slice_index file x
  pub behind : (x : ℕ) → at + n ≤ x → slice_index other x ≡ slice_index file x
