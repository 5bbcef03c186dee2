-- What a part takes of its partition: nothing else of the image counts for its cells.
use Rattle.std.proofs.Common.{◌≡◌, ℕ, ◌+◌, ◌-◌, ◌*◌, ◌/◌, ◌^◌, ◌<◌, ◌≤◌, Bool, true, false, IsTrue, List, length, Option}
use Rattle.std.proofs.Common.{refl, subst, arith, ⊎_elim}
use Rattle.std.proofs.lemmas.Bool.{cases_lt, lt-ltb, le-ltb}
use Rattle.save_bytes.specs.declared.space.Bad.{Bad}
use Rattle.save_bytes.specs.declared.extent.Extent.{Extent}
use Rattle.save_bytes.specs.Extents.{overlap, AreApart}
use Rattle.save_bytes.specs.Writes.{IsWithin}
use Rattle.save_bytes.specs.State.{Shape, State}
use Rattle.save_bytes.specs.Refusals.{Rose, OnDisk, UnlessDisk}
use Rattle.save_bytes.specs.Stays.{SameCells, Stays}
use Rattle.save_bytes.specs.Spots.{Spot, Place, Mark, LandsAsBefore}
use Rattle.save_bytes.proofs.SpaceLemmas.{UnlessDisk-map, UnlessDisk-always}
use Rattle.save_bytes.proofs.ExtentLemmas.{overlap-apart}
use Rattle.difi.specs.declared.descriptor.Difi.{Difi}
use Rattle.difi.specs.Contents.{view_size}
use Rattle.difi.specs.Sound.{HasSoundLevels}
use Rattle.dpfs_tree.specs.Picks.{bytes_of, bit_of, pick1, pick2}
use Rattle.dpfs_tree.specs.Marks.{is_marked, copy_read, place_by}
use Rattle.dpfs_tree.specs.Spares.{IsChosenPlace}
use Rattle.dpfs_tree.specs.View.{HasContents}
use Rattle.dpfs_tree.specs.Held.{IsBeside, ContentsLand}
use Rattle.dpfs_tree.specs.SameLaws.{SameUpper, bit_of-lt, copy_read-lt, in_copy, behind_level3, place_by-upper, lands_by-upper}
use Rattle.ivfc_tree.specs.Levels.{IsLevel, level_of}
use Rattle.ivfc_tree.specs.Held.{HashLands, IsOnPath}
use Rattle.ivfc_tree.specs.KeepLaws.{HashLands-before}
use Rattle.ivfc_tree.specs.ViewLaws.{view_cells as hashed_same}
use Rattle.ivfc_tree.proofs.ViewLemmas.{view_stays as hashed_stay}
use Rattle.page_image.specs.Spots.{ImageLands}
use Rattle.part_store.specs.declared.part.Part.{Part}
use Rattle.part_store.specs.Parts.{CanViewPart, contents_of, master_of, part_state}
use Rattle.part_store.specs.PartLaws.{contents_there, hashes_there}
use Rattle.part_store.specs.Spots.{PartLands}
use Rattle.part_store.specs.SpotLaws.{SamePart-same}
use Rattle.part_store.proofs.PartLemmas.{part_stays}
use Rattle.container.specs.Stores.{external_end, taken_of}

external_inside : (difi : Difi) (external : Bool) (n : ℕ) → difi.external ≡ external
    → (external ≡ true → difi.external_at + difi.ivfc4.size ≤ n) → external_end difi ≤ n
external_inside difi true n is inside = rw is (inside refl)
external_inside difi false n is inside = rw is (omega arith)

external_there : (difi : Difi) → difi.external ≡ true → external_end difi ≡ difi.external_at + difi.ivfc4.size
external_there difi is = rw is refl

-- a part takes no more than a partition for which its levels are sound
pub taken_inside : (part : Part) (n : ℕ) → HasSoundLevels part.difi n → (taken_of part).size ≤ n
taken_inside part n levels =
    let external = external_inside part.difi part.difi.external n refl (λ is. (levels.external_level is).inside) in
    let copies = levels.copies in
    omega (arith, copies.level1.inside, copies.level2.inside, copies.level3.inside, external)

-- what lies in partitions that lie apart does so too
pub taken_apart : (one other : Part) (here there : Extent) → one.at ≡ here.at → other.at ≡ there.at
    → (taken_of one).size ≤ here.size → (taken_of other).size ≤ there.size → AreApart here there
    → overlap (taken_of one) (taken_of other) ≡ false
taken_apart one other here there one_at other_at one_inside other_inside apart =
    overlap-apart (taken_of one) (taken_of other)
    (λ x a b c d. apart x (omega (arith, a, one_at)) (omega (arith, b, one_at, one_inside))
    (omega (arith, c, other_at)) (omega (arith, d, other_at, other_inside)))

module _ (base : Shape) (part : Part) (selector : ℕ) (tree : HasContents base part.at part.difi selector) where
  -- what a part takes lies in the base
  pub taken_fits : part.at + (taken_of part).size ≤ base.size
  taken_fits =
      let external = external_inside part.difi part.difi.external (base.size - part.at) refl
      (λ is. omega (arith, tree.external is)) in
      omega (arith, tree.level1, tree.level2, tree.level3, external)

  -- a place in both copies of a level
  in_level : (at size copy x : ℕ) → at + 2 * size ≤ (taken_of part).size → copy < 2 → x < size
      → IsWithin part.at (taken_of part).size (part.at + at + copy * size + x)
  in_level at size copy x inside one below =
      let there = in_copy (part.at + at) size copy (x + 1) (part.at + (taken_of part).size) one (omega (arith, below))
      (omega (arith, inside)) in
      (omega arith, omega (arith, there))

  -- each byte of the contents lies in what the part takes
  pub placed : (marked : ℕ → Bool) (bytes : ℕ → ℕ) (x : ℕ) → x < view_size part.difi
      → IsWithin part.at (taken_of part).size (place_by bytes part.at part.difi selector marked x)
  unfolding place_by
  placed marked bytes x inside =
      let difi = part.difi in
      ⊎_elim
      (λ (below : x < difi.dpfs3.size).
      let block = x / 2 ^ difi.dpfs3.log in
      let bits = pick2 bytes part.at difi selector in
      rw (lt-ltb x difi.dpfs3.size below)
      (in_level difi.dpfs3.at difi.dpfs3.size (copy_read (marked block) (bit_of bits block)) x (omega arith)
      (copy_read-lt (marked block) (bit_of bits block) (bit_of-lt bits block)) below))
      (λ (behind : difi.dpfs3.size ≤ x).
      let external = behind_level3 difi x behind inside in
      let end = external_there difi external.0 in
      rw (le-ltb x difi.dpfs3.size behind) (omega arith, omega (arith, inside, behind, external.1, end)))
      (cases_lt x difi.dpfs3.size)

  -- and each byte of a copy that is chosen
  pub chosen_within : (bytes : ℕ → ℕ) (y : ℕ) → IsChosenPlace bytes part.at part.difi selector y
      → IsWithin part.at (taken_of part).size y
  chosen_within bytes y =
      let difi = part.difi in
      let first = bit_of (pick1 bytes part.at difi selector) in
      let second = bit_of (pick2 bytes part.at difi selector) in
      ⊎_elim
      (λ (x, h, is). rw is (in_level difi.dpfs1.at difi.dpfs1.size selector x (omega arith) tree.one_of_two h))
      (⊎_elim
      (λ (x, h, is).
      (let bit = first (x / 2 ^ difi.dpfs2.log) in
      rw is (in_level difi.dpfs2.at difi.dpfs2.size bit x (omega arith) (bit_of-lt _ _) h)))
      (λ (x, h, is).
      (let bit = second (x / 2 ^ difi.dpfs3.log) in
      rw is (in_level difi.dpfs3.at difi.dpfs3.size bit x (omega arith) (bit_of-lt _ _) h))))

  -- so do the chosen bytes of levels 1 and 2
  pub upper_kept : (old new : ℕ → ℕ) → ((y : ℕ) → IsWithin part.at (taken_of part).size y → new y ≡ old y)
      → SameUpper part.at part.difi selector old new
  upper_kept old new same =
      let difi = part.difi in
      record {
        level1 = λ x below. same _ (in_level difi.dpfs1.at difi.dpfs1.size selector x (omega arith) tree.one_of_two below);
        level2 = λ x below.
            (let bits = pick1 old part.at difi selector in
            let block = x / 2 ^ difi.dpfs2.log in
            same _ (in_level difi.dpfs2.at difi.dpfs2.size (bit_of bits block) x (omega arith) (bit_of-lt bits block) below));
      }

  -- and each byte of the image that a put into the part touches
  pub lands_within : (bytes : ℕ → ℕ) (grain x y : ℕ)
      → HashLands (ContentsLand bytes part.at part.difi selector (ImageLands grain)) part.difi x (Place y)
      → IsWithin part.at (taken_of part).size y
  lands_within bytes grain x y =
      ⊎_elim
      (λ (path : (level z : ℕ) × IsLevel level × IsOnPath part.difi x level z
      × ContentsLand bytes part.at part.difi selector (ImageLands grain) ((level_of part.difi level).at + z) (Place y)).
      ⊎_elim
      (λ (found : (w : ℕ) × (w < view_size part.difi) × IsBeside part.difi ((level_of part.difi path.0).at + path.1) w
      × (place_by bytes part.at part.difi selector (λ block. true) w ≡ y)).
      subst (λ (z : ℕ). IsWithin part.at (taken_of part).size z) found.3 (placed (λ block. true) bytes found.0 found.1))
      (λ (none : ⊥). absurd none)
      path.4)
      (λ (none : ⊥). absurd none)

-- the bytes that the part takes are as before
abbrev pub IsLeft : State → State → Part → Type 0
IsLeft base new part = (y : ℕ) → IsWithin part.at (taken_of part).size y → new.cells y ≡ base.cells y

module _ (base new : State) (part : Part) (table : List ℕ) (small : base.shape.size < 2 ^ 64)
    (view : CanViewPart base.shape part (length table)) where
  pub tree_there : HasContents base.shape part.at part.difi part.dpfs.selector
  tree_there = contents_there base part (length table) small view

  upper_left : IsLeft base new part → SameUpper part.at part.difi part.dpfs.selector (bytes_of base.cells) (bytes_of new.cells)
  upper_left same =
      upper_kept base.shape part part.dpfs.selector tree_there (bytes_of base.cells) (bytes_of new.cells)
      (λ y there. rw (same y there) refl)

  -- so its contents stay
  pub contents_left : IsLeft base new part → SameCells (contents_of base part) (contents_of new part)
  contents_left same x inside =
      let marked = is_marked part.dpfs.touched.items in
      let there = place_by-upper base.shape part.at part.difi part.dpfs.selector tree_there (bytes_of base.cells)
      (bytes_of new.cells) (upper_left same) marked x in
      rw there (same _ (placed base.shape part part.dpfs.selector tree_there marked (bytes_of base.cells) x inside))

  -- and its cells
  pub left_cells : IsLeft base new part → SameCells (part_state base part table) (part_state new part table)
  left_cells same =
      hashed_same (contents_of base part) (contents_of new part) part.number (master_of table part.difi) part.difi
      part.ivfc part.ivfc (hashes_there base part table small view) (λ level block. refl) (contents_left same)

  -- and are told as they were
  pub left_stays : (refusal : Option Bad) → new.shape ≡ base.shape → base.faults ≤ new.faults
      → OnDisk refusal (Rose base.faults new.faults) → (IsTrue base.told → UnlessDisk refusal (IsTrue new.told))
      → (IsTrue base.told → UnlessDisk refusal (IsLeft base new part))
      → Stays (part_state base part table) (part_state new part table) refusal
  left_stays refusal shape faults cause told same =
      let contents : Stays (contents_of base part) (contents_of new part) refusal = record {
        space = record {
          shape = rw shape refl;
          faults = faults;
          cause = cause;
          told = told;
          twins = λ is. UnlessDisk-always refusal (record { bottom = λ x h. refl; is_fixed = λ x h. refl });
        };
        cells = λ is. UnlessDisk-map refusal contents_left (same is);
      } in
      part_stays base new part part table refusal shape (SamePart-same part)
      (hashed_stay (contents_of base part) (contents_of new part) part.number (master_of table part.difi) part.difi
      part.ivfc refusal (hashes_there base part table small view) contents)

  -- and a put lands where it would have landed
  pub left_lands : IsLeft base new part → (lands later : ℕ → Spot → Type 0) → LandsAsBefore base.shape.size lands later
      → LandsAsBefore part.difi.ivfc4.size (PartLands (bytes_of base.cells) lands part)
      (PartLands (bytes_of new.cells) later part)
  left_lands same lands later as_before =
      let below = HashLands-before (contents_of base part).shape part.difi (hashes_there base part table small view).levels
      (ContentsLand (bytes_of base.cells) part.at part.difi part.dpfs.selector lands)
      (ContentsLand (bytes_of new.cells) part.at part.difi part.dpfs.selector later)
      (lands_by-upper base.shape part.at part.difi part.dpfs.selector tree_there (bytes_of base.cells)
      (bytes_of new.cells) (upper_left same) lands later as_before) in
      by_spot below
    where
      by_spot : LandsAsBefore part.difi.ivfc4.size
          (HashLands (ContentsLand (bytes_of base.cells) part.at part.difi part.dpfs.selector lands) part.difi)
          (HashLands (ContentsLand (bytes_of new.cells) part.at part.difi part.dpfs.selector later) part.difi)
          → LandsAsBefore part.difi.ivfc4.size (PartLands (bytes_of base.cells) lands part)
          (PartLands (bytes_of new.cells) later part)
      by_spot below x inside (Mark number level block) (own, there) = (own, below x inside (Mark number level block) there)
      by_spot below x inside spot there = below x inside spot there
