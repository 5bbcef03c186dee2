-- Small traces over an image, and what a stop leaves of it.
use Rattle.std.specs.Prelude.{◌≡◌, ◌≢◌, ℕ, ◌+◌, ◌*◌, ◌<◌, ◌≤◌, false, List, [], ◌∷◌, slice_index, IfSome, Ok}
use Rattle.save_bytes.specs.Cells.{Cell}
use Rattle.save_disk.specs.Trace.{Write, Sync, image_after}
use Rattle.save_disk.specs.Stops.{CrashMayLeave}
use Rattle.save_disk.specs.Keeps.{HoldsAll, EachStop}
use Rattle.container.specs.Signers.{Signing}
use Rattle.container_header.specs.declared.header.Header.{Header}
use Rattle.container_header.specs.Conditions.{reading as header_reading}
use Rattle.container_header.specs.Sound.{active_at}
use Rattle.container.specs.declared.open.Container.{Container}
use Rattle.container.specs.Opens.{Opens}
use Rattle.container.specs.Containers.{IsOpenOf}
use Rattle.container.specs.ImageCells.{AreImageCells}
use Rattle.live_image.specs.Live.{live_places}
use Rattle.live_image.specs.Same.{SameLive}

-- a sector is written that has the live bytes, then come a sync, the first sector with another header, and a sync:
-- where the image opens at the start and at the end, each image that a stop may leave opens
abbrev pub OpensAtEachStop : ℕ → Type 0
OpensAtEachStop grain =
    (sign : Signing) (image : List ℕ) (sector : ℕ) (bytes first : List ℕ) → Opens sign image
    → HoldsAll (live_places image) grain image sector bytes
    → Opens sign (image_after grain image (Write sector bytes ∷ Write 0 first ∷ []))
    → EachStop (Opens sign) grain image [] (Write sector bytes ∷ Sync ∷ Write 0 first ∷ Sync ∷ [])

-- a sector is written, and the disk stops; what it left is written again, and the disk stops again
abbrev pub IsLiveAfterTwoStops : ℕ → Type 0
IsLiveAfterTwoStops grain =
    (image left last : List ℕ) (sector other : ℕ) (bytes more : List ℕ)
    → HoldsAll (live_places image) grain image sector bytes
    → CrashMayLeave grain image (Write sector bytes ∷ []) left → HoldsAll (live_places left) grain left other more
    → CrashMayLeave grain left (Write other more ∷ []) last → SameLive image last

-- a sector is written, and a stop leaves an image that has the same cells, where no level four is external
abbrev pub HasCellsAtEachStop : ℕ → Type 0
HasCellsAtEachStop grain =
    (sign : Signing) (image : List ℕ) (container : Container) (sector : ℕ) (bytes : List ℕ) (cells : ℕ → Cell)
    → IsOpenOf sign image container → container.parts.first.difi.external ≡ false
    → IfSome container.parts.second (λ part. part.difi.external ≡ false)
    → HoldsAll (live_places image) grain image sector bytes → AreImageCells image container.header container.parts cells
    → EachStop (λ left. IsOpenOf sign left container × AreImageCells left container.header container.parts cells)
    grain image [] (Write sector bytes ∷ [])

-- a write that changes a byte of the active table does not have the live bytes
abbrev pub LosesATableByte : ℕ → Type 0
LosesATableByte grain =
    (image : List ℕ) (header : Header) (sector offset : ℕ) (bytes : List ℕ) → header_reading image ≡ Ok header
    → active_at header ≤ sector * grain + offset → sector * grain + offset < active_at header + header.table_size
    → offset < grain
    → slice_index bytes offset ≢ slice_index image (sector * grain + offset)
    → HoldsAll (live_places image) grain image sector bytes → ⊥
