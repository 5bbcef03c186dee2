-- How an image lies in memory.
use Rattle.std.specs.Prelude.{◌≡◌, ℕ, ◌+◌, ◌*◌, ◌/◌, ◌<◌, ◌≤◌, min, IsTrue}
use Rattle.save_disk.specs.Grains.{is_grain}

-- As many frames of 4,096 bytes as the image has pages, and at most 16. For each page there is the number of a frame,
-- for each frame eight marks and a use.
pub record IsImageLaidOut (len grain pages frames size marks uses : ℕ) : Type 0 where
  pub known : IsTrue (is_grain grain)
  pub least : 512 ≤ len
  pub most : len ≤ 67108864
  pub page_count : pages ≡ (len + 4095) / 4096
  pub frame_count : frames ≡ min pages 16
  pub whole : size ≡ frames * 4096
  pub eight : marks ≡ frames * 8
  pub one : uses ≡ frames

-- the sectors from that of a place on, up to this one, are those that have one of the n places
pub record IsEndOf (end at n grain : ℕ) : Type 0 where
  pub ordered : at / grain ≤ end
  pub met : (k : ℕ) → k < n → (at + k) / grain < end
  pub tight : (sector : ℕ) → at / grain ≤ sector → sector < end → (k : ℕ) × (k < n) × ((at + k) / grain ≡ sector)
