-- The laws of a store: those of a space and of a floor, by those of its parts.
use Rattle.std.specs.Prelude.{nat_lt}
use Rattle.std.specs.Bool.{MatchBool}
use Rattle.std.proofs.Common.{◌≡◌, ℕ, ◌-◌, ◌^◌, ◌<◌, ◌+◌, ◌≤◌, Bool, true, false, IsTrue, List, length, Option}
use Rattle.std.proofs.Common.{Some, None, refl, sym, ◌∙◌, ap, subst, arith, ⊎_elim}
use Rattle.std.proofs.lemmas.Bool.{cases_lt, lt-ltb, le-ltb, ltb-true, and_parts, and_from}
use Rattle.save_bytes.specs.declared.space.Bad.{Bad}
use Rattle.save_bytes.specs.Stays.{SameCells, SameTwins, Stays}
use Rattle.save_bytes.specs.Cells.{Byte}
use Rattle.save_bytes.specs.State.{State, HasNoTwins}
use Rattle.save_bytes.specs.Blocks.{IsGround, HasBlocks, HasAlikeBlocks}
use Rattle.save_bytes.specs.Spots.{Spot, Place, Mark, Frame, Hold, LandsAsBefore}
use Rattle.save_bytes.proofs.SpaceLemmas.{UnlessDisk-always, UnlessDisk-both}
use Rattle.dpfs_tree.specs.Picks.{bytes_of}
use Rattle.difi.specs.declared.descriptor.Difi.{Difi}
use Rattle.part_store.specs.declared.part.Part.{Part}
use Rattle.save_disk.specs.State as disks
use Rattle.page_image.specs.Images.{image_state}
use Rattle.page_image.specs.Spots.{ImageLands}
use Rattle.page_image.specs.Laws.{image_size_fits, Leaves-same, Leaves-join, SameImage-shape}
use Rattle.ivfc_tree.specs.FloorLaws.{view_blocks, view_alike}
use Rattle.part_store.specs.Parts.{CanViewPart, master_of, contents_of, part_state}
use Rattle.part_store.specs.ViewLaws.{kept_cells}
use Rattle.part_store.specs.Spots.{SamePart, PartSpot}
use Rattle.part_store.specs.PartLaws.{true-can_view_part, contents_there, hashes_there}
use Rattle.part_store.proofs.PartLemmas.{told_below as part_told, part_from_base, place_there}
use Rattle.part_store.specs.Spots.{KeepsMarks, PartLands}
use Rattle.part_store.specs.Calls.{ReadsPart}
use Rattle.part_store.specs.SpotLaws.{KeepsMarks-same, KeepsMarks-part, KeepsMarks-join, PartLands-before, PartLands-same, SamePart-same}
use Rattle.part_store.specs.SpotLaws.{SamePart-join, PartSpot-join}
use Rattle.part_store.specs.SpotLaws.{PartSpot-same, can_view_part-same}
use Rattle.container.specs.declared.open.Container.{Container}
use Rattle.container.specs.declared.store.Store.{Store}
use Rattle.container.specs.StoreHeld.{shown, SameContainer, SameStore, ContainerSpot, StoreKeeps, store_lands}
use Rattle.container.specs.Parts.{SameSecond}
use Rattle.container.specs.declared.parts.Parts.{Parts}
use Rattle.container.specs.Stores.{joined, are_two, state_of, store_state, ReadsParts, PartsLand}

-- two spaces stay where each does
joined_stay : (distinct still : Bool) (one other next after : State) (refusal : Option Bad) → still ≡ distinct
    → Stays one next refusal → Stays other after refusal
    → Stays (joined distinct one other) (joined still next after) refusal
joined_stay distinct still one other next after refusal same h k = record {
  space = record {
    shape = rw (same, h.space.shape, k.space.shape) refl;
    faults = h.space.faults;
    cause = h.space.cause;
    told = λ told. UnlessDisk-both refusal _ _ _
        (λ (here : IsTrue next.told) (there : IsTrue after.told). and_from _ _ here there)
        (h.space.told (and_parts _ _ told).0) (k.space.told (and_parts _ _ told).1);
    twins = λ told. UnlessDisk-always refusal (record { bottom = λ x h. refl; is_fixed = λ x h. refl });
  };
  cells = λ told. UnlessDisk-both refusal _ _ _
      (λ (in_one : SameCells one next) (in_other : SameCells other after). λ x below.
      ⊎_elim
      (λ (lower : x < one.shape.size).
      rw (h.space.shape, lt-ltb x one.shape.size lower) (in_one x lower))
      (λ (behind : one.shape.size ≤ x).
      rw (h.space.shape, le-ltb x one.shape.size behind) (in_other (x - one.shape.size) (omega (arith, behind, below))))
      (cases_lt x one.shape.size))
      (h.cells (and_parts _ _ told).0) (k.cells (and_parts _ _ told).1);
}

pub second_same : (P : Part → Part → Type 0) → ((part : Part) → P part part) → (second : Option Part)
    → SameSecond P second second
second_same P same None = tt
second_same P same (Some part) = same part

-- where a test decides between two facts
at_either : (b : Bool) (P Q R T : Type 0) → (P → R) → (Q → T) → MatchBool b P Q → MatchBool b R T
at_either true P Q R T one other h = one h
at_either false P Q R T one other h = other h

module _ (base : State) (first : Part) (table : List ℕ) where
  -- in a sound store each part can be viewed
  pub first_view : (second : Option Part) → IsTrue (state_of base first second table).shape.sound → CanViewPart base.shape first (length table)
  first_view None sound = true-can_view_part base.shape first (length table) sound
  first_view (Some part) sound = true-can_view_part base.shape first (length table) (and_parts _ _ (and_parts _ _ sound).1).0

  pub second_view : (second : Option Part) (part : Part) → second ≡ Some part → IsTrue (state_of base first second table).shape.sound
      → CanViewPart base.shape part (length table)
  second_view second part is sound =
      let both = rw is at sound in
      true-can_view_part base.shape part (length table) (and_parts _ _ (and_parts _ _ (and_parts _ _ both).1).1).0

  pub sound_base : (second : Option Part) → IsTrue (state_of base first second table).shape.sound → IsTrue base.shape.sound
  sound_base second sound = (first_view second sound).contents.sound

  -- a store is told only where its image is
  pub told_below : (second : Option Part) → IsTrue (state_of base first second table).told → IsTrue base.told
  told_below None told = part_told base first table told
  told_below (Some part) told = part_told base first table (and_parts _ _ told).0

-- a part's level four is no longer than its base
pub four_fits : (base : State) (part : Part) (table : List ℕ) → base.shape.size < 2 ^ 64
    → CanViewPart base.shape part (length table) → part.difi.ivfc4.size ≤ base.shape.size
four_fits base part table small view =
    ⊎_elim
    (λ (none : part.difi.ivfc4.size < 1). omega (arith, none))
    (λ (some : 1 ≤ part.difi.ivfc4.size).
    let last = place_there base part table (part.difi.ivfc4.size - 1) small view (omega (arith, some)) in
    let fits = (contents_there base part (length table) small view).view_fits in
    omega (arith, some, last, fits))
    (cases_lt part.difi.ivfc4.size 1)

-- a sound store has a length of 64 bits
pub store_fits : (base : State) (first : Part) (second : Option Part) (table : List ℕ)
    → (IsTrue base.shape.sound → base.shape.size < 2 ^ 64) → IsTrue (state_of base first second table).shape.sound
    → (state_of base first second table).shape.size < 2 ^ 64
store_fits base first None table fits sound =
    let view = first_view base first table None sound in
    let small = fits view.contents.sound in
    omega (arith, four_fits base first table small view, small)
store_fits base first (Some part) table fits sound =
    ltb-true _ _ (and_parts (part_state base part table).shape.sound _
    (and_parts (part_state base first table).shape.sound _ (and_parts (are_two first part) _ sound).1).1).1

module _ (base new : State) (table : List ℕ) (small : base.shape.size < 2 ^ 64) where
  in_part : (part : Part) → CanViewPart base.shape part (length table) → SameCells base new → (lands later : ℕ → Spot → Type 0)
      → LandsAsBefore base.shape.size lands later
      → LandsAsBefore part.difi.ivfc4.size (PartLands (bytes_of base.cells) lands part) (PartLands (bytes_of new.cells) later part)
  in_part part view same lands later as_before =
      PartLands-before base new part (contents_there base part (length table) small view) (hashes_there base part table small view).levels
      same lands later as_before

  -- a put into the store lands where it would have landed, where the image's cells are the same
  pub store_lands_before : SameCells base new → (lands later : ℕ → Spot → Type 0) → LandsAsBefore base.shape.size lands later
      → (first : Part) (second : Option Part) → IsTrue (state_of base first second table).shape.sound
      → LandsAsBefore (state_of base first second table).shape.size (PartsLand (bytes_of base.cells) lands first second)
      (PartsLand (bytes_of new.cells) later first second)
  store_lands_before same lands later as_before first None sound x below spot =
      let view = first_view base first table None sound in
      rw (lt-ltb x first.difi.ivfc4.size below) (in_part first view same lands later as_before x below spot)
  store_lands_before same lands later as_before first (Some second) sound x below spot =
      ⊎_elim
      (λ (lower : x < first.difi.ivfc4.size).
      let view = first_view base first table (Some second) sound in
      rw (lt-ltb x first.difi.ivfc4.size lower) (in_part first view same lands later as_before x lower spot))
      (λ (behind : first.difi.ivfc4.size ≤ x).
      let view = second_view base first table (Some second) second refl sound in
      let inside : x - first.difi.ivfc4.size < second.difi.ivfc4.size = omega (arith, behind, below) in
      rw (le-ltb x first.difi.ivfc4.size behind) (in_part second view same lands later as_before (x - first.difi.ivfc4.size) inside spot))
      (cases_lt x first.difi.ivfc4.size)

module _ (base new : State) (table : List ℕ) (refusal : Option Bad) (small : base.shape.size < 2 ^ 64) (stays : Stays base new refusal) where
  from_base : (part : Part) → CanViewPart base.shape part (length table)
      → Stays (part_state base part table) (part_state new part table) refusal
  from_base part view = part_from_base base new part table refusal small view stays

  -- what stays in the image stays in the store
  pub store_stays : (first : Part) (second : Option Part) → IsTrue (state_of base first second table).shape.sound
      → Stays (state_of base first second table) (state_of new first second table) refusal
  store_stays first None sound = from_base first (first_view base first table None sound)
  store_stays first (Some second) sound =
      joined_stay (are_two first second) (are_two first second) _ _ _ _ refusal refl
      (from_base first (first_view base first table (Some second) sound))
      (from_base second (second_view base first table (Some second) second refl sound))

-- a call that reads one of its parts reads the store
module _ {S : Type 0} (states : S → State) (keeps : Spot → S → S → Type 0) (lands : S → ℕ → Spot → Type 0)
    (fits : (s : S) → IsTrue (states s).shape.sound → (states s).shape.size < 2 ^ 64)
    (base new : S) (table later : List ℕ) (refusal : Option Bad) where
  first_stays : (first next : Part) (second : Option Part)
      → IsTrue (state_of (states base) first second table).shape.sound
      → ReadsPart states keeps lands base new first next table later refusal
      → Stays (state_of (states base) first second table) (state_of (states new) next second later) refusal
  first_stays first next None sound left = left.stays
  first_stays first next (Some second) sound left =
      let view = second_view (states base) first table (Some second) second refl sound in
      let kept = left.kept in
      joined_stay (are_two first second) (are_two next second)
      (part_state (states base) first table)
      (part_state (states base) second table) (part_state (states new) next later)
      (part_state (states new) second later) refusal
      (rw (kept.number, kept.place, kept.descriptor) refl) left.stays
      (rw left.same_table
      (part_from_base (states base) (states new) second table refusal
      (fits base view.contents.sound) view left.reads.stays))

  pub first_left : (parts : Parts) (next : Part) → IsTrue (store_state (states base) parts table).shape.sound
      → ReadsPart states keeps lands base new parts.first next table later refusal
      → ReadsParts states keeps lands base new parts (record parts { first = next }) table later refusal
  first_left parts next sound left = record {
    stays = first_stays parts.first next parts.second sound left;
    reads = left.reads;
    kept = record { first = left.kept; second = second_same KeepsMarks KeepsMarks-same parts.second };
    same_table = left.same_table;
  }

  pub second_left : (parts : Parts) (part next : Part) → parts.second ≡ Some part
      → IsTrue (store_state (states base) parts table).shape.sound
      → ReadsPart states keeps lands base new part next table later refusal
      → ReadsParts states keeps lands base new parts (record parts { second = Some next }) table later refusal
  second_left parts part next is sound left =
      let first = parts.first in
      let view = first_view (states base) first table parts.second sound in
      let kept = left.kept in
      record {
        stays = rw is
            (joined_stay (are_two first part) (are_two first next)
            (part_state (states base) first table)
            (part_state (states base) part table) (part_state (states new) first later)
            (part_state (states new) next later) refusal
            (rw (kept.number, kept.place, kept.descriptor) refl)
            (rw left.same_table
            (part_from_base (states base) (states new) first table refusal
            (fits base view.contents.sound) view left.reads.stays))
            left.stays);
        reads = left.reads;
        kept = record { first = KeepsMarks-same first; second = rw is kept };
        same_table = left.same_table;
      }

same_size : (old new : Part) → KeepsMarks old new → new.difi.ivfc4.size ≡ old.difi.ivfc4.size
same_size old new kept = ap (λ (difi : Difi). difi.ivfc4.size) kept.descriptor

-- a put into the store lands where it would have landed, where the parts keep their marks
pub parts_land : (bytes : ℕ → ℕ) (lands : ℕ → Spot → Type 0) (first next : Part) (second after : Option Part)
    → KeepsMarks first next
    → SameSecond KeepsMarks second after → (x : ℕ) (spot : Spot) → PartsLand bytes lands next after x spot
    → PartsLand bytes lands first second x spot
parts_land bytes lands first next None None one other x spot there =
    at_either (nat_lt x first.difi.ivfc4.size) _ _ _ _
    (PartLands-same bytes lands first next (KeepsMarks-part first next one) x spot)
    (λ (none : ⊥). none)
    (subst (λ (n : ℕ). MatchBool (nat_lt x n) (PartLands bytes lands next x spot) ⊥) (same_size first next one) there)
parts_land bytes lands first next (Some second) (Some after) one other x spot there =
    let size = same_size first next one in
    at_either (nat_lt x first.difi.ivfc4.size) _ _ _ _
    (PartLands-same bytes lands first next (KeepsMarks-part first next one) x spot)
    (PartLands-same bytes lands second after (KeepsMarks-part second after other) (x - first.difi.ivfc4.size) spot)
    (subst (λ (n : ℕ). MatchBool (nat_lt x n) (PartLands bytes lands next x spot)
    (PartLands bytes lands after (x - n) spot)) size there)
parts_land bytes lands first next None (Some after) one other x spot there = absurd other
parts_land bytes lands first next (Some second) None one other x spot there = absurd other

-- what a part's cells hang on of itself
pub part_shape : (base new : State) (part next : Part) (table later : List ℕ) → new.shape ≡ base.shape → SamePart part next
    → later ≡ table → (part_state new next later).shape ≡ (part_state base part table).shape
part_shape base new part next table later shape same kept =
    let sound = can_view_part-same base.shape new.shape part next (length table) shape same in
    rw (kept, sound, same.descriptor) refl

pub same_two : (one other next after : Part) → SamePart one next → SamePart other after → are_two next after ≡ are_two one other
same_two one other next after h k = rw (h.number, h.place, h.descriptor, k.number, k.place, k.descriptor) refl

pub joined_shape : (distinct still : Bool) (one other next after : State) → still ≡ distinct → next.shape ≡ one.shape
    → after.shape ≡ other.shape → (joined still next after).shape ≡ (joined distinct one other).shape
joined_shape distinct still one other next after same here there = rw (same, here, there) refl

-- the blocks of a part
part_blocks : (base : State) (part : Part) (table : List ℕ) → HasBlocks (part_state base part table).shape
part_blocks base part table =
    let below = view_blocks (contents_of base part) part.number (master_of table part.difi) part.difi part.ivfc in
    record {
      starts = below.starts;
      ends = below.ends;
      inside = below.inside;
      same_start = below.same_start;
      same_len = below.same_len;
    }

-- the blocks of one space and then of another
joined_blocks : (one other : State) (distinct : Bool) → HasBlocks one.shape → HasBlocks other.shape
    → HasBlocks (joined distinct one other).shape
joined_blocks one other distinct h k =
    let size = one.shape.size in
    record {
      starts = λ x below.
          ⊎_elim (λ (lower : x < size). rw (lt-ltb x size lower) (h.starts x lower))
          (λ (behind : size ≤ x). rw (le-ltb x size behind)
          (omega (arith, k.starts (x - size) (omega (arith, below, behind)), behind)))
          (cases_lt x size);
      ends = λ x below.
          ⊎_elim (λ (lower : x < size). rw (lt-ltb x size lower) (h.ends x lower))
          (λ (behind : size ≤ x). rw (le-ltb x size behind)
          (omega (arith, k.ends (x - size) (omega (arith, below, behind)), behind)))
          (cases_lt x size);
      inside = λ x below.
          ⊎_elim (λ (lower : x < size). rw (lt-ltb x size lower) (omega (arith, h.inside x lower)))
          (λ (behind : size ≤ x). rw (le-ltb x size behind)
          (omega (arith, k.inside (x - size) (omega (arith, below, behind)))))
          (cases_lt x size);
      same_start = λ x y below from to.
          ⊎_elim
          (λ (lower : x < size).
          let first = rw (lt-ltb x size lower) at from in
          let last = rw (lt-ltb x size lower) at to in
          let still : y < size = omega (arith, last, h.inside x lower) in
          rw (lt-ltb x size lower, lt-ltb y size still) (h.same_start x y lower first last))
          (λ (behind : size ≤ x).
          let first = rw (le-ltb x size behind) at from in
          let last = rw (le-ltb x size behind) at to in
          let past : size ≤ y = omega (arith, first) in
          rw (le-ltb x size behind, le-ltb y size past)
          (ap (λ (n : ℕ). size + n) (k.same_start (x - size) (y - size) (omega (arith, below, behind))
          (omega (arith, first)) (omega (arith, last, past)))))
          (cases_lt x size);
      same_len = λ x y below from to.
          ⊎_elim
          (λ (lower : x < size).
          let first = rw (lt-ltb x size lower) at from in
          let last = rw (lt-ltb x size lower) at to in
          let still : y < size = omega (arith, last, h.inside x lower) in
          rw (lt-ltb x size lower, lt-ltb y size still) (h.same_len x y lower first last))
          (λ (behind : size ≤ x).
          let first = rw (le-ltb x size behind) at from in
          let last = rw (le-ltb x size behind) at to in
          let past : size ≤ y = omega (arith, first) in
          rw (le-ltb x size behind, le-ltb y size past)
          (k.same_len (x - size) (y - size) (omega (arith, below, behind))
          (omega (arith, first)) (omega (arith, last, past))))
          (cases_lt x size);
    }

joined_alike : (one other : State) (distinct : Bool) → HasBlocks one.shape → HasAlikeBlocks one → HasAlikeBlocks other
    → HasAlikeBlocks (joined distinct one other)
joined_alike one other distinct blocks h k x y in_x in_y same =
    let size = one.shape.size in
    ⊎_elim
    (λ (lower : x < size).
    ⊎_elim
    (λ (still : y < size).
    let met = rw (lt-ltb x size lower, lt-ltb y size still) at same in
    rw (lt-ltb x size lower, lt-ltb y size still) (h x y lower still met))
    (λ (past : size ≤ y).
    let met = rw (lt-ltb x size lower, le-ltb y size past) at same in
    absurd (omega (arith, met, blocks.starts x lower, lower)))
    (cases_lt y size))
    (λ (behind : size ≤ x).
    ⊎_elim
    (λ (still : y < size).
    let met = rw (le-ltb x size behind, lt-ltb y size still) at same in
    absurd (omega (arith, met, blocks.starts y still, still)))
    (λ (past : size ≤ y).
    let met = rw (le-ltb x size behind, le-ltb y size past) at same in
    rw (le-ltb x size behind, le-ltb y size past)
    (k (x - size) (y - size) (omega (arith, in_x, behind)) (omega (arith, in_y, past)) (omega (arith, met))))
    (cases_lt y size))
    (cases_lt x size)

part_alike : (base : State) (part : Part) (table : List ℕ) → HasAlikeBlocks (part_state base part table)
part_alike base part table =
    view_alike (contents_of base part) part.number (master_of table part.difi) part.difi part.ivfc

-- the laws of a space and a floor, of a store over an image
module _ {D : Type 0} (states : D → disks.State) where
  -- the same fields, whatever second part there is
  record IsSimple (s : State) : Type 0 where
    plain : s.shape.plain ≡ false
    first : s.shape.first ≡ 0
    single : s.shape.doubled ≡ false
    bottom : (x : ℕ) → s.bottom x ≡ x
    free : (x : ℕ) → s.is_fixed x ≡ false

  simple : (base : State) (first : Part) (second : Option Part) (table : List ℕ) → IsSimple (state_of base first second table)
  simple base first None table =
      record { plain = refl; first = refl; single = refl; bottom = λ x. refl; free = λ x. refl }
  simple base first (Some second) table =
      record { plain = refl; first = refl; single = refl; bottom = λ x. refl; free = λ x. refl }

  abbrev base_of : Store D → State
  base_of s = image_state (states s.disk.now) s.container.now.image

  plain_of : (s : Store D) → IsSimple (shown states s)
  plain_of s =
      let parts = s.container.now.parts in
      simple (base_of s) parts.first parts.second s.container.now.table.items

  pub shown_fits : (s : Store D) → IsTrue (shown states s).shape.sound → (shown states s).shape.size < 2 ^ 64
  shown_fits s sound =
      let container = s.container.now in
      store_fits (base_of s) container.parts.first container.parts.second container.table.items
      (λ base. image_size_fits (states s.disk.now) container.image) sound

  pub shown_plain : (s : Store D) → IsTrue (shown states s).shape.plain → ⊥
  shown_plain s plain = let no = (plain_of s).plain in absurd (cc)

  pub shown_alone : (s : Store D) → HasNoTwins (shown states s)
  shown_alone s =
      let bottom = (plain_of s).bottom in
      record { apart = λ x y same. sym (bottom x) ∙ same ∙ bottom y; free = (plain_of s).free }

  pub shown_ground : (s : Store D) → IsGround (shown states s)
  shown_ground s = record { first = (plain_of s).first; single = (plain_of s).single; bottom = (plain_of s).bottom }

  SameContainer-same : (c : Container) → SameContainer c c
  SameContainer-same c =
      record { header = refl; first = SamePart-same c.parts.first; second = second_same SamePart SamePart-same c.parts.second; table = refl }

  ContainerSpot-same : (spot : Spot) (c : Container) → ContainerSpot spot c c
  ContainerSpot-same (Mark part level block) c = (
    PartSpot-same (Mark part level block) c.parts.first,
    second_same (PartSpot (Mark part level block))
        (PartSpot-same (Mark part level block)) c.parts.second,
  )
  ContainerSpot-same Frame c = record {
    header = refl;
    parts = record { first = KeepsMarks-same c.parts.first; second = second_same KeepsMarks KeepsMarks-same c.parts.second };
    table = refl;
  }
  ContainerSpot-same spot c = tt

  pub StoreKeeps-same : (spot : Spot) (s : Store D) → StoreKeeps states spot s s
  StoreKeeps-same spot s = (
    record { same_container = refl; same_disk = refl; container = SameContainer-same s.container.now },
    ContainerSpot-same spot s.container.now,
    Leaves-same spot (states s.disk.now) s.container.now.image,
  )

  -- the shape
  same_shape : (base new : State) (first next : Part) (second after : Option Part) (table : List ℕ) → new.shape ≡ base.shape
      → SamePart first next → SameSecond SamePart second after
      → (state_of new next after table).shape ≡ (state_of base first second table).shape
  same_shape base new first next None None table shape same other = part_shape base new first next table table shape same refl
  same_shape base new first next (Some second) (Some after) table shape same other =
      joined_shape (are_two first second) (are_two next after) (part_state base first table)
      (part_state base second table) (part_state new next table) (part_state new after table)
      (same_two first second next after same other) (part_shape base new first next table table shape same refl)
      (part_shape base new second after table table shape other refl)
  same_shape base new first next None (Some after) table shape same other = absurd other
  same_shape base new first next (Some second) None table shape same other = absurd other

  pub StoreKeeps-shape : (s t : Store D) → StoreKeeps states Hold s t → (shown states t).shape ≡ (shown states s).shape
  StoreKeeps-shape s t h =
      let old = s.container.now in
      let new = t.container.now in
      let same = h.0.container in
      rw same.table
      (same_shape (base_of s) (base_of t) old.parts.first new.parts.first old.parts.second new.parts.second old.table.items
      (SameImage-shape (states s.disk.now) (states t.disk.now) old.image new.image h.2.0) same.first same.second)

  -- the cells of parts that keep their marks, over an image with the same
  parts_cells : (base new : State) (table : List ℕ) → base.shape.size < 2 ^ 64 → SameCells base new
      → (first next : Part) (second after : Option Part) → KeepsMarks first next → SameSecond KeepsMarks second after
      → IsTrue (state_of base first second table).shape.sound
      → SameCells (state_of base first second table) (state_of new next after table)
  parts_cells base new table small same first next None None one other sound x below =
      let view = first_view base first table None sound in
      kept_cells base new first next table one (contents_there base first (length table) small view)
      (hashes_there base first table small view) same x below
  parts_cells base new table small same first next (Some second) (Some after) one other sound x below =
      let here = first_view base first table (Some second) sound in
      let there = second_view base first table (Some second) second refl sound in
      let size : next.difi.ivfc4.size ≡ first.difi.ivfc4.size = same_size first next one in
      ⊎_elim
      (λ (lower : x < first.difi.ivfc4.size).
      rw (lt-ltb x first.difi.ivfc4.size lower, lt-ltb x next.difi.ivfc4.size (omega (arith, lower, size)))
      (kept_cells base new first next table one (contents_there base first (length table) small here)
      (hashes_there base first table small here) same x lower))
      (λ (behind : first.difi.ivfc4.size ≤ x).
      let rest : x - next.difi.ivfc4.size ≡ x - first.difi.ivfc4.size = omega (arith, size) in
      rw (le-ltb x first.difi.ivfc4.size behind, le-ltb x next.difi.ivfc4.size (omega (arith, behind, size)))
      (ap (part_state new after table).cells rest
      ∙ kept_cells base new second after table other (contents_there base second (length table) small there)
      (hashes_there base second table small there) same (x - first.difi.ivfc4.size) (omega (arith, below, behind))))
      (cases_lt x first.difi.ivfc4.size)
  parts_cells base new table small same first next None (Some after) one other sound x below = absurd other
  parts_cells base new table small same first next (Some second) None one other sound x below = absurd other

  -- where each spot is left alone, the image's cells are the same
  all_bytes : (s t : Store D) → ((spot : Spot) → StoreKeeps states spot s t) → SameCells (base_of s) (base_of t)
  all_bytes s t kept x below = ap Byte ((kept (Place x)).2.1 below).0

  pub StoreKeeps-cells : (s t : Store D) → IsTrue (shown states s).shape.sound
      → ((spot : Spot) → StoreKeeps states spot s t)
      → SameCells (shown states s) (shown states t) × SameTwins (shown states s) (shown states t)
  StoreKeeps-cells s t sound kept =
      let old = s.container.now in
      let new = t.container.now in
      let frame = (kept Frame).1 in (
        rw frame.table
            (parts_cells (base_of s) (base_of t) old.table.items (image_size_fits (states s.disk.now) old.image)
            (all_bytes s t kept) old.parts.first new.parts.first old.parts.second new.parts.second frame.parts.first
            frame.parts.second sound),
        record {
          bottom = λ x below. (plain_of t).bottom x ∙ sym ((plain_of s).bottom x);
          is_fixed = λ x below. (plain_of t).free x ∙ sym ((plain_of s).free x);
        },
      )

  pub StoreKeeps-lands : (s t : Store D) → IsTrue (shown states s).shape.sound
      → ((spot : Spot) → StoreKeeps states spot s t)
      → LandsAsBefore (shown states s).shape.size (store_lands states s) (store_lands states t)
  StoreKeeps-lands s t sound kept x below spot there =
      let old = s.container.now in
      let new = t.container.now in
      let frame = kept Frame in
      let cells = all_bytes s t kept in
      store_lands_before (base_of s) (base_of t) old.table.items (image_size_fits (states s.disk.now) old.image)
      cells (ImageLands old.image.grain) (ImageLands new.image.grain)
      (λ x below spot. subst (λ (grain : ℕ). ImageLands grain x spot) frame.2.0.grain) old.parts.first old.parts.second
      sound x below spot
      (parts_land (bytes_of (base_of t).cells) (ImageLands new.image.grain) old.parts.first new.parts.first
      old.parts.second new.parts.second frame.1.parts.first frame.1.parts.second x spot there)

  -- the blocks of both parts follow each other
  both_blocks : (base : State) (first : Part) (second : Option Part) (table : List ℕ)
      → HasBlocks (state_of base first second table).shape
  both_blocks base first None table = part_blocks base first table
  both_blocks base first (Some second) table =
      joined_blocks (part_state base first table) (part_state base second table) (are_two first second)
      (part_blocks base first table) (part_blocks base second table)

  both_alike : (base : State) (first : Part) (second : Option Part) (table : List ℕ)
      → HasAlikeBlocks (state_of base first second table)
  both_alike base first None table = part_alike base first table
  both_alike base first (Some second) table =
      joined_alike (part_state base first table) (part_state base second table) (are_two first second)
      (part_blocks base first table) (part_alike base first table) (part_alike base second table)

  pub shown_blocks : (s : Store D) → HasBlocks (shown states s).shape
  shown_blocks s =
      let container = s.container.now in
      both_blocks (base_of s) container.parts.first container.parts.second container.table.items

  pub shown_alike : (s : Store D) → HasAlikeBlocks (shown states s)
  shown_alike s =
      let container = s.container.now in
      both_alike (base_of s) container.parts.first container.parts.second container.table.items

SameSecond-join : (P : Part → Part → Type 0) → ((a b c : Part) → P a b → P b c → P a c) → (x y z : Option Part)
    → SameSecond P x y → SameSecond P y z → SameSecond P x z
SameSecond-join P join None None None h k = tt
SameSecond-join P join (Some a) (Some b) (Some c) h k = join a b c h k
SameSecond-join P join None None (Some c) h k = k
SameSecond-join P join None (Some b) z h k = absurd h
SameSecond-join P join (Some a) None z h k = absurd h
SameSecond-join P join (Some a) (Some b) None h k = k

-- one call on a container behind another
pub SameContainer-join : (a b c : Container) → SameContainer a b → SameContainer b c → SameContainer a c
SameContainer-join a b c h k = record {
  header = k.header ∙ h.header;
  first = SamePart-join a.parts.first b.parts.first c.parts.first h.first k.first;
  second = SameSecond-join SamePart SamePart-join a.parts.second b.parts.second c.parts.second h.second k.second;
  table = k.table ∙ h.table;
}

pub ContainerSpot-join : (spot : Spot) (a b c : Container) → SameContainer a b → ContainerSpot spot a b
    → ContainerSpot spot b c → ContainerSpot spot a c
ContainerSpot-join (Mark part level block) a b c same h k = (
  PartSpot-join (Mark part level block) a.parts.first b.parts.first c.parts.first same.first h.0 k.0,
  second_join (Mark part level block) a.parts.second b.parts.second c.parts.second same.second h.1 k.1,
) where
  second_join : (spot : Spot) (x y z : Option Part) → SameSecond SamePart x y → SameSecond (PartSpot spot) x y
      → SameSecond (PartSpot spot) y z → SameSecond (PartSpot spot) x z
  second_join spot None None None same h k = tt
  second_join spot (Some a) (Some b) (Some c) same h k = PartSpot-join spot a b c same h k
  second_join spot None None (Some c) same h k = k
  second_join spot None (Some b) z same h k = absurd h
  second_join spot (Some a) None z same h k = absurd h
  second_join spot (Some a) (Some b) None same h k = k
ContainerSpot-join Frame a b c same h k = record {
  header = k.header ∙ h.header;
  parts = record {
    first = KeepsMarks-join a.parts.first b.parts.first c.parts.first h.parts.first k.parts.first;
    second = SameSecond-join KeepsMarks KeepsMarks-join a.parts.second b.parts.second c.parts.second h.parts.second
        k.parts.second;
  };
  table = k.table ∙ h.table;
}
ContainerSpot-join spot a b c same h k = tt

-- one call on a store behind another
module _ {D : Type 0} (states : D → disks.State) where
  SameStore-join : (s t u : Store D) → SameStore s t → SameStore t u → SameStore s u
  SameStore-join s t u h k = record {
    same_container = k.same_container ∙ h.same_container;
    same_disk = k.same_disk ∙ h.same_disk;
    container = SameContainer-join s.container.now t.container.now u.container.now h.container k.container;
  }

  pub StoreKeeps-join : (spot : Spot) (s t u : Store D) → StoreKeeps states spot s t → StoreKeeps states spot t u → StoreKeeps states spot s u
  StoreKeeps-join spot s t u h k = (
    SameStore-join s t u h.0 k.0,
    ContainerSpot-join spot s.container.now t.container.now u.container.now h.0.container h.1 k.1,
    Leaves-join (states s.disk.now) (states t.disk.now) (states u.disk.now) s.container.now.image t.container.now.image u.container.now.image spot h.2 k.2,
  )
