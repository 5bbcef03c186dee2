-- What a contract sees of a view through the double-copy tree.
use Rattle.std.specs.Prelude.{◌≡◌, ℕ, ◌+◌, ◌-◌, ◌*◌, ◌^◌, ◌<◌, ◌≤◌, min, Bool, true}
use Rattle.std.specs.Prelude.{false, ◌&&◌, not, ◌==◌, nat_lt, nat_le, IsTrue, IsFalse, length, Result, IfOk, is_ok}
use Rattle.std.specs.Result.{result_err}
use Rattle.save_bytes.specs.declared.space.Bad.{Bad}
use Rattle.save_bytes.specs.State.{State, Shape}
use Rattle.save_bytes.specs.Refusals.{NeverDamaged}
use Rattle.difi.specs.declared.descriptor.Difi.{Difi}
use Rattle.difi.specs.Places.{blocks_of, bitmap_size, copies_of}
use Rattle.difi.specs.Conditions.{level_tests, verdict, external_extent}
use Rattle.save_bytes.specs.Extents.{AreApart}
use Rattle.difi.specs.Sound.{IsBetween, HasSoundLevels}
use Rattle.dpfs_tree.specs.declared.state.DpfsState.{DpfsState}
use Rattle.dpfs_tree.specs.Picks.{bytes_of}
use Rattle.difi.specs.Contents.{view_size}
use Rattle.dpfs_tree.specs.Marks.{place_of, run_of, IsMadeForContents}

-- a partition lies in a base, behind its first place for writing, and the levels are sound for its length
pub record HasPartition (base : Shape) (part_at : ℕ) (difi : Difi) : Type 0 where
  pub first : base.first ≤ part_at
  pub part_len : ℕ
  pub inside : part_at + part_len ≤ base.size
  pub levels : HasSoundLevels difi part_len

-- what a view needs of its base, its descriptor and its state: the base never answers that a cell is damaged, and
-- has neither twins nor fixed places
pub record CanViewContents (base : Shape) (part_at : ℕ) (difi : Difi) (state : DpfsState) : Type 0 where
  pub sound : IsTrue base.sound
  pub plain : IsTrue base.plain
  pub single : IsFalse base.doubled
  pub partition : HasPartition base part_at difi
  pub made : IsMadeForContents difi state

-- the same as a test, with all of the base from the place on as the partition
unfoldable pub can_view_contents : Shape → ℕ → Difi → DpfsState → Bool
can_view_contents base part_at difi state =
    base.sound && (base.plain && (not base.doubled && (nat_le base.first part_at && (nat_le part_at base.size
    && (nat_lt difi.selector 2 && (is_ok (verdict (level_tests difi (base.size - part_at)))
    && ((length state.touched.items == blocks_of difi.dpfs3) && nat_lt state.selector 2)))))))

-- what follows for the place of each level, and that their copies lie apart, where the base's size is a number of 64
-- bits
pub record HasContents (base : Shape) (part_at : ℕ) (difi : Difi) (selector : ℕ) : Type 0 where
  pub sound : IsTrue base.sound
  pub plain : IsTrue base.plain
  pub single : IsFalse base.doubled
  pub first : base.first ≤ part_at
  pub small : base.size < 2 ^ 64
  pub one_of_two : selector < 2
  pub log2 : IsBetween 7 16 difi.dpfs2.log
  pub log3 : IsBetween 7 16 difi.dpfs3.log
  pub level1 : part_at + difi.dpfs1.at + 2 * difi.dpfs1.size ≤ base.size
  pub level2 : part_at + difi.dpfs2.at + 2 * difi.dpfs2.size ≤ base.size
  pub level3 : part_at + difi.dpfs3.at + 2 * difi.dpfs3.size ≤ base.size
  pub bits1 : bitmap_size difi.dpfs2 ≤ difi.dpfs1.size
  pub bits2 : bitmap_size difi.dpfs3 ≤ difi.dpfs2.size
  pub apart12 : AreApart (copies_of difi.dpfs1) (copies_of difi.dpfs2)
  pub apart13 : AreApart (copies_of difi.dpfs1) (copies_of difi.dpfs3)
  pub apart23 : AreApart (copies_of difi.dpfs2) (copies_of difi.dpfs3)
  pub external : difi.external ≡ true → part_at + difi.external_at + difi.ivfc4.size ≤ base.size
  pub external_apart : difi.external ≡ true → AreApart (external_extent difi) (copies_of difi.dpfs1)
      × AreApart (external_extent difi) (copies_of difi.dpfs2) × AreApart (external_extent difi) (copies_of difi.dpfs3)
  pub view_fits : view_size difi ≤ base.size

-- The bytes of a view are those of its base at their places. It has neither twins nor fixed places, and each place may
-- be
-- written.
abbrev pub contents_state : State → ℕ → Difi → DpfsState → State
contents_state base part_at difi state = record {
  shape = record {
    size = view_size difi;
    sound = can_view_contents base.shape part_at difi state;
    plain = base.shape.plain;
    first = 0;
    doubled = false;
    block_start = λ x. x;
    block_len = λ x. 1;
  };
  told = base.told;
  cells = λ x. base.cells (place_of (bytes_of base.cells) part_at difi state x);
  bottom = λ x. x;
  is_fixed = λ x. false;
  faults = base.faults;
}

-- Where the bytes from `at` on lie in the base, and how many lie there in one piece: as many as are asked for, up to
-- the
-- end of the block or of external level four.
pub record IsLocated (base : State) (part_at : ℕ) (difi : Difi) (state : DpfsState) (at most : ℕ)
    (result : Result (ℕ × ℕ) Bad) : Type 0 where
  pub some : IfOk result (λ run. 1 ≤ run.1)
  pub bounded : IfOk result (λ run. run.1 ≤ most)
  pub longest : IfOk result (λ run. run.1 ≡ min most (run_of difi at))
  pub inside : IfOk result (λ run. at + run.1 ≤ view_size difi)
  pub in_base : IfOk result (λ run. run.0 + run.1 ≤ base.shape.size)
  pub places : IsTrue base.told
      → IfOk result (λ run. (k : ℕ) → k < run.1 → place_of (bytes_of base.cells) part_at difi state (at + k) ≡ run.0
      + k)
  pub plain : NeverDamaged (result_err result)
