-- How sectors of an image are read.
use Rattle.std.specs.Prelude.{ℕ, ◌+◌, ◌*◌, ◌<◌, List, slice_index}
use Rattle.save_disk.specs.State as disks
use Rattle.page_image.specs.Frames.{IsByteRead}

-- the first n bytes are those of the disk's image from a sector on, where their reads are told
abbrev pub AreSectorsRead : disks.State → ℕ → ℕ → List ℕ → ℕ → Type 0
AreSectorsRead disk grain first bytes n = (k : ℕ) → k < n
    → IsByteRead disk grain (first * grain + k) (slice_index bytes k)
