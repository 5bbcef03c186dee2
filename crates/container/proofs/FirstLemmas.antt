-- A call on part 0, seen as a call on all parts.
use Rattle.std.proofs.Common.{◌≡◌, ℕ, ◌+◌, ◌-◌, ◌<◌, ◌≤◌, true, IsTrue, List, length, Option, Some, None, IfSome, refl, sym, ap, subst, arith, ⊎_elim}
use Rattle.std.proofs.lemmas.Bool.{cases_lt, lt-ltb, le-ltb, and_parts, and_from}
use Rattle.save_bytes.specs.declared.space.Bad.{Bad}
use Rattle.save_bytes.specs.declared.space.Bad.TheVariants.{Disk, Damaged}
use Rattle.save_bytes.specs.Cells.{Cell}
use Rattle.save_bytes.specs.State.{State, CanPut}
use Rattle.save_bytes.specs.Refusals.{UnlessDisk, IfDamaged}
use Rattle.save_bytes.specs.Stays.{SameSpace}
use Rattle.save_bytes.specs.Puts.{Puts}
use Rattle.save_bytes.specs.Reads.{Reads}
use Rattle.save_bytes.specs.Spots.{Spot, Sector, Mark, Frame, Hold, LandsAsBefore, MovesOnly}
use Rattle.save_bytes.proofs.SpaceLemmas.{UnlessDisk-map, UnlessDisk-both, UnlessDisk-always, SameSpace-where}
use Rattle.save_disk.specs.State as disks
use Rattle.dpfs_tree.specs.Picks.{bytes_of}
use Rattle.difi.specs.declared.descriptor.Difi.{Difi}
use Rattle.page_image.specs.declared.image.Image.{Image}
use Rattle.page_image.specs.Spots.{Leaves}
use Rattle.page_image.specs.Laws.{image_size_fits, SameImage-shape}
use Rattle.part_store.specs.declared.part.Part.{Part}
use Rattle.part_store.specs.Parts.{CanViewPart, master_of, part_state}
use Rattle.part_store.specs.Ends.{PartCameFrom, KeepsPartOrigins}
use Rattle.part_store.specs.Spots.{SamePart, KeepsMarks, PartSpot, PartLands}
use Rattle.part_store.specs.SpotLaws.{SamePart-same, KeepsMarks-same, PartSpot-same}
use Rattle.part_store.proofs.PartLemmas.{told_below as part_told}
use Rattle.container.specs.declared.open.Container.{Container}
use Rattle.container.specs.Parts.{SameSecond}
use Rattle.container.specs.Stores.{are_two, state_of, PartsLand}
use Rattle.container.specs.StoreHeld.{ContainerSpot}
use Rattle.container.specs.Overs.{Over, Opened, opened_state, OpenedKeeps, opened_lands}
use Rattle.container.specs.StoreLaws.{first_view, second_view, second_same}
use Rattle.container.specs.Origins.{HasCome, HaveCome, KeepsStoreOrigins}
use Rattle.container.proofs.OriginLemmas.{can_put, came_kept}
use Rattle.container.proofs.TakenLemmas.{IsLeft, left_cells}
use Rattle.container.proofs.EmbedLemmas.{StayOutside, puts_whole, can_in_part, stays_whole}
use Rattle.container.proofs.StandsLemmas.{taken_from_two, first_stands, first_outside}
use Rattle.container.proofs.LiftLemmas.{store_space, image_lands, ImageOverKeeps, image_over_lands, image_over, image_of}
use Rattle.container.proofs.LiftLemmas.{other_left, all_left, other_stays, other_lands, own_lands, spot_left}

-- a store is told where each part is
pub first_told : (base : State) (first : Part) (second : Option Part) (table : List ℕ)
    → IsTrue (state_of base first second table).told → IsTrue (part_state base first table).told
first_told base first None table told = told
first_told base first (Some part) table told = (and_parts _ _ told).0

pub second_told : (base : State) (first : Part) (second : Option Part) (table : List ℕ) (part : Part) → second ≡ Some part
    → IsTrue (state_of base first second table).told → IsTrue (part_state base part table).told
second_told base first second table part is told = (and_parts _ _ (rw is at told)).1

pub both_told : (base : State) (first : Part) (second : Option Part) (table : List ℕ) (refusal : Option Bad)
    → UnlessDisk refusal (IsTrue (part_state base first table).told)
    → ((part : Part) → second ≡ Some part → UnlessDisk refusal (IsTrue (part_state base part table).told))
    → UnlessDisk refusal (IsTrue (state_of base first second table).told)
both_told base first None table refusal one other = one
both_told base first (Some part) table refusal one other =
    UnlessDisk-both refusal _ _ _
    (λ (here : IsTrue (part_state base first table).told) (there : IsTrue (part_state base part table).told).
    and_from _ _ here there)
    one (other part refl)

pub two_there : (base : State) (first : Part) (second : Option Part) (table : List ℕ) (part : Part) → second ≡ Some part
    → IsTrue (state_of base first second table).shape.sound → are_two first part ≡ true
two_there base first second table part is sound = (and_parts _ _ (rw is at sound)).0

-- a place of part 0 is one of the store
lands_first : (bytes : ℕ → ℕ) (lands : ℕ → Spot → Type 0) (first : Part) (second : Option Part) (x : ℕ) (spot : Spot)
    → x < first.difi.ivfc4.size → PartLands bytes lands first x spot → PartsLand bytes lands first second x spot
lands_first bytes lands first None x spot below there = rw (lt-ltb x first.difi.ivfc4.size below) there
lands_first bytes lands first (Some part) x spot below there = rw (lt-ltb x first.difi.ivfc4.size below) there

-- a put lands where it would have landed, where that is so of each part
pub lands_in_both : (base new : State) (table : List ℕ) (bytes later : ℕ → ℕ) (lands then_lands : ℕ → Spot → Type 0)
    (first next : Part) (second after : Option Part) → next.difi.ivfc4.size ≡ first.difi.ivfc4.size
    → LandsAsBefore first.difi.ivfc4.size (PartLands bytes lands first) (PartLands later then_lands next)
    → SameSecond (λ old new. (new.difi.ivfc4.size ≡ old.difi.ivfc4.size)
    × LandsAsBefore old.difi.ivfc4.size (PartLands bytes lands old) (PartLands later then_lands new)) second after
    → LandsAsBefore (state_of base first second table).shape.size (PartsLand bytes lands first second)
    (PartsLand later then_lands next after)
lands_in_both base new table bytes later lands then_lands first next None None size one other x below spot there =
    lands_first bytes lands first None x spot below
    (one x below spot (rw (lt-ltb x next.difi.ivfc4.size (omega (arith, below, size))) at there))
lands_in_both base new table bytes later lands then_lands first next (Some second) (Some after) size one other x below spot there =
    ⊎_elim
    (λ (lower : x < first.difi.ivfc4.size).
    lands_first bytes lands first (Some second) x spot lower
    (one x lower spot (rw (lt-ltb x next.difi.ivfc4.size (omega (arith, lower, size))) at there)))
    (λ (behind : first.difi.ivfc4.size ≤ x).
    let rest : x - next.difi.ivfc4.size ≡ x - first.difi.ivfc4.size = omega (arith, size) in
    let back : PartLands later then_lands after (x - next.difi.ivfc4.size) spot =
    rw (le-ltb x next.difi.ivfc4.size (omega (arith, behind, size))) at there in
    rw (le-ltb x first.difi.ivfc4.size behind)
    (other.1 (x - first.difi.ivfc4.size) (omega (arith, below, behind)) spot
    (subst (λ (y : ℕ). PartLands later then_lands after y spot) rest back)))
    (cases_lt x first.difi.ivfc4.size)
lands_in_both base new table bytes later lands then_lands first next None (Some after) size one other x below spot there = absurd other
lands_in_both base new table bytes later lands then_lands first next (Some second) None size one other x below spot there = absurd other

module _ {D : Type 0} (states : D → disks.State) (c d : Container) (view next : Image D) (header : d.header ≡ c.header)
    (second : d.parts.second ≡ c.parts.second) (refusal : Option Bad) where
  abbrev v : Over (Image D)
  v = record { base = view; part = c.parts.first; table = c.table.items }

  abbrev w : Over (Image D)
  w = record { base = next; part = d.parts.first; table = d.table.items }

  abbrev old : Opened D
  old = record { container = record c { image = view.image.now }; disk = view.disk.now }

  abbrev new : Opened D
  new = record { container = record d { image = next.image.now }; disk = next.disk.now }

  module _ (sound : IsTrue (opened_state states old).shape.sound) (hold : ImageOverKeeps states Hold v w) where
    can_view : CanViewPart (image_of states view).shape c.parts.first (length c.table.items)
    can_view = first_view (image_of states view) c.parts.first c.table.items c.parts.second sound

    size : d.parts.first.difi.ivfc4.size ≡ c.parts.first.difi.ivfc4.size
    size = ap (λ (difi : Difi). difi.ivfc4.size) hold.0.descriptor

    same_second : SameSecond SamePart c.parts.second d.parts.second
    same_second = rw second (second_same SamePart SamePart-same c.parts.second)

    space : SameSpace ⊥ (image_over states v) (image_over states w) refusal
        → SameSpace ⊥ (opened_state states old) (opened_state states new) refusal
    space below =
        store_space (image_of states view) (image_of states next) c.table.items d.table.items refusal
        (SameImage-shape (states view.disk.now) (states next.disk.now) view.image.now next.image.now hold.3.1.0)
        hold.1 below.faults below.cause c.parts.first d.parts.first c.parts.second d.parts.second hold.0 same_second

    -- what the call keeps of the part and the image it keeps of all
    container_kept : (spot : Spot) → PartSpot spot c.parts.first d.parts.first
        → ContainerSpot spot old.container new.container
    container_kept (Mark number level block) own =
        (own, rw second (second_same (PartSpot (Mark number level block)) (PartSpot-same (Mark number level block)) c.parts.second))
    container_kept Frame own = record {
      header = header;
      parts = record { first = own; second = rw second (second_same KeepsMarks KeepsMarks-same c.parts.second) };
      table = hold.1;
    }
    container_kept spot own = tt

    kept : (spot : Spot) → PartSpot spot c.parts.first d.parts.first
        → Leaves spot (states view.disk.now) view.image.now (states next.disk.now) next.image.now
        → OpenedKeeps states spot old new
    kept spot own leaves = (
      record { header = header; first = hold.0; second = same_second; table = hold.1 },
      container_kept spot own,
      leaves,
    )

    kept_over : (spot : Spot) → ImageOverKeeps states spot v w → OpenedKeeps states spot old new
    kept_over spot own = kept spot own.2 own.3.1

    -- where the bytes that the other part takes are left alone
    abbrev IsOtherLeft : Type 0
    IsOtherLeft = (part : Part) → c.parts.second ≡ Some part → IsLeft (image_of states view) (image_of states next) part

    other_view : (part : Part) → c.parts.second ≡ Some part
        → CanViewPart (image_of states view).shape part (length c.table.items)
    other_view part is = second_view (image_of states view) c.parts.first c.table.items c.parts.second part is sound

    stay : IsOtherLeft → StayOutside (opened_state states old) (image_over states v) (opened_state states new) 0
    stay left =
        rw (hold.1, second)
        (first_outside (image_of states view) (image_of states next) c.table.items c.parts.first d.parts.first
        c.parts.second size hold.0.number
        (λ part is. (
          two_there (image_of states view) c.parts.first c.parts.second c.table.items part is sound,
          left_cells (image_of states view) (image_of states next) part c.table.items
              (image_size_fits (states view.disk.now) view.image.now) (other_view part is) (left part is),
        )))

    told_after : IsTrue (opened_state states old).told → SameSpace ⊥ (image_over states v) (image_over states w) refusal
        → UnlessDisk refusal (IsTrue (image_over states w).told) → IsOtherLeft
        → UnlessDisk refusal (IsTrue (opened_state states new).told)
    told_after told below still left =
        both_told (image_of states next) d.parts.first d.parts.second d.table.items refusal still
        (λ part is.
        (let there = subst (λ (o : Option Part). o ≡ Some part) second is in
        (other_stays states v w can_view part (other_view part there) refusal hold below.faults below.cause
        (UnlessDisk-map refusal (part_told (image_of states next) d.parts.first d.table.items) still) (left part there)).space.told
        (second_told (image_of states view) c.parts.first c.parts.second c.table.items part there told)))

    reach : IsOtherLeft
        → LandsAsBefore c.parts.first.difi.ivfc4.size (image_over_lands states v) (image_over_lands states w)
        → LandsAsBefore (opened_state states old).shape.size (opened_lands states old) (opened_lands states new)
    reach left before =
        lands_in_both (image_of states view) (image_of states next) c.table.items
        (bytes_of (image_of states view).cells) (bytes_of (image_of states next).cells) (image_lands states view)
        (image_lands states next) c.parts.first d.parts.first c.parts.second d.parts.second size
        (own_lands states v w can_view hold.0 before)
        (rw second (each c.parts.second refl))
      where
        each : (o : Option Part) → c.parts.second ≡ o → SameSecond (λ one other. (other.difi.ivfc4.size ≡ one.difi.ivfc4.size)
            × LandsAsBefore one.difi.ivfc4.size (PartLands (bytes_of (image_of states view).cells) (image_lands states view) one)
            (PartLands (bytes_of (image_of states next).cells) (image_lands states next) other)) o o
        each None is = tt
        each (Some part) is = (refl, other_lands states v w can_view part (other_view part is) hold (left part is))

    -- a call that puts into part 0
    module _ (at n : ℕ) (fits : at + n ≤ c.parts.first.difi.ivfc4.size)
        (moves : MovesOnly (ImageOverKeeps states) (image_over_lands states) (image_over states v) v at n w refusal) where
      part_can : CanPut (opened_state states old) at n → CanPut (image_over states v) at n
      part_can can =
          let zero : at ≡ 0 + at = omega arith in
          can_in_part (opened_state states old) (image_over states v) 0 at n
          (first_stands (image_of states view) c.parts.first c.table.items c.parts.second) fits
          (first_told (image_of states view) c.parts.first c.parts.second c.table.items can.told)
          (subst (λ (x : ℕ). CanPut (opened_state states old) x n) zero can)

      left_by_put : CanPut (opened_state states old) at n → IsOtherLeft
      left_by_put can part is =
          other_left states v w can_view part (other_view part is)
          (taken_from_two c.parts.first part
          (two_there (image_of states view) c.parts.first c.parts.second c.table.items part is sound))
          at n refusal moves (part_can can)

      pub first_moves : MovesOnly (OpenedKeeps states) (opened_lands states) (opened_state states old) old at n new refusal
      first_moves = record {
        hold = kept_over Hold moves.hold;
        spots = λ can spot misses.
            (let own = spot_left states v w can_view spot at n hold (moves.spots (part_can can) spot)
            (λ k less there. misses k less
            (lands_first (bytes_of (image_of states view).cells) (image_lands states view) c.parts.first c.parts.second
            (at + k) spot (omega (arith, less, fits)) there)) in
            kept spot own.0 own.1);
        damaged = λ can. all_kept refusal (moves.damaged (part_can can));
        reach = λ can. UnlessDisk-map refusal (reach (left_by_put can)) (moves.reach (part_can can));
      }
        where
          all_kept : (other : Option Bad) → IfDamaged other (λ part level block. (spot : Spot) → ImageOverKeeps states spot v w)
              → IfDamaged other (λ part level block. (spot : Spot) → OpenedKeeps states spot old new)
          all_kept None all = tt
          all_kept (Some Disk) all = tt
          all_kept (Some (Damaged part level block)) all = λ spot. kept_over spot (all spot)

      -- and leaves both parts come from where they came from
      pub first_came : KeepsPartOrigins (image_of states view) c.parts.first c.table.items (image_of states next)
          d.parts.first d.table.items refusal
          → KeepsStoreOrigins (states view.disk.now) old.container (states next.disk.now) new.container refusal
      first_came came told was was_table h =
          UnlessDisk-map refusal
          (λ (first : PartCameFrom (was 0) (master_of was_table c.parts.first.difi) (image_of states next) d.parts.first
          d.table.items).
          (let moved : HasCome (was 0) was_table (states next.disk.now) new.container d.parts.first =
          subst (λ (difi : Difi). PartCameFrom (was 0) (master_of was_table difi) (image_of states next) d.parts.first
          d.table.items) (sym hold.0.descriptor) first in
          let can = can_put (image_of states view) c.parts.first c.parts.second c.table.items at n told in
          let rest : HaveCome was was_table (states next.disk.now) new.container =
          record { first = moved; second = rw second (other_came (was 1) was_table can c.parts.second refl h.second) } in
          rest))
          (came (first_told (image_of states view) c.parts.first c.parts.second c.table.items told) (was 0)
          (master_of was_table c.parts.first.difi) h.first)
        where
          other_came : (was : ℕ → Cell) (was_table : List ℕ) → CanPut (opened_state states old) at n → (o : Option Part)
              → c.parts.second ≡ o → IfSome o (HasCome was was_table (states view.disk.now) old.container)
              → IfSome o (HasCome was was_table (states next.disk.now) new.container)
          other_came was was_table can None is other = tt
          other_came was was_table can (Some part) is other =
              rw hold.1
              (came_kept (image_of states view) (image_of states next) part part c.table.items
              (image_size_fits (states view.disk.now) view.image.now) (other_view part is) (left_by_put can part is)
              (KeepsMarks-same part) was (master_of was_table part.difi) other)

    pub first_puts : (at : ℕ) (bytes : List ℕ) → at + length bytes ≤ c.parts.first.difi.ivfc4.size
        → MovesOnly (ImageOverKeeps states) (image_over_lands states) (image_over states v) v at (length bytes) w refusal
        → Puts (image_over states v) at bytes (image_over states w) refusal
        → Puts (opened_state states old) at bytes (opened_state states new) refusal
    first_puts at bytes fits moves puts =
        let zero : 0 + at ≡ at = omega arith in
        let below = SameSpace-where (image_over states v) (image_over states w) refusal (λ (none : ⊥). absurd none) puts.space in
        let can : CanPut (opened_state states old) (0 + at) (length bytes) → CanPut (image_over states v) at (length bytes) =
        λ is. part_can at (length bytes) fits moves (rw zero at is) in
        let left : CanPut (opened_state states old) (0 + at) (length bytes) → IsOtherLeft =
        λ is. left_by_put at (length bytes) fits moves (rw zero at is) in
        subst (λ (x : ℕ). Puts (opened_state states old) x bytes (opened_state states new) refusal) zero
        (puts_whole (opened_state states old) (opened_state states new) (image_over states v) (image_over states w) 0 at bytes
        (first_stands (image_of states view) c.parts.first c.table.items c.parts.second)
        (first_stands (image_of states next) d.parts.first d.table.items d.parts.second) size fits refusal (space below)
        (λ is. (can is).told)
        (λ is. told_after is.told below (puts.space.told (can is)) (left is))
        (λ is. UnlessDisk-always refusal (stay (left is))) puts)

    -- a call that reads part 0
    pub first_reads : Reads (image_over states) (ImageOverKeeps states) (image_over_lands states) v w refusal
        → Reads (opened_state states) (OpenedKeeps states) (opened_lands states) old new refusal
    first_reads reads =
        let below = SameSpace-where (image_over states v) (image_over states w) refusal (λ (none : ⊥). absurd none) reads.stays.space in
        let part_is : IsTrue (opened_state states old).told → IsTrue (image_over states v).told =
        first_told (image_of states view) c.parts.first c.parts.second c.table.items in
        let left : IsTrue (opened_state states old).told → IsOtherLeft =
        λ told part is. all_left states v w can_view part (other_view part is) (reads.spots (part_is told)) in
        let stands = first_stands (image_of states view) c.parts.first c.table.items c.parts.second in
        let still = first_stands (image_of states next) d.parts.first d.table.items d.parts.second in
        record {
          stays = stays_whole (opened_state states old) (opened_state states new) (image_over states v) (image_over states w) 0
              stands still size refusal (space below) part_is
              (λ told. told_after told below (reads.stays.space.told (part_is told)) (left told))
              (λ told. stay (left told)) reads.stays;
          frame = kept_over Frame reads.frame;
          sectors = λ number. kept_over (Sector number) (reads.sectors number);
          spots = λ told spot. kept_over spot (reads.spots (part_is told) spot);
          reach = λ told. UnlessDisk-map refusal (reach (left told)) (reads.reach (part_is told));
        }
