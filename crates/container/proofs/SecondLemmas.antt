-- A call on part 1, seen as a call on all parts.
use Rattle.std.proofs.Common.{◌≡◌, ℕ, ◌+◌, ◌-◌, ◌≤◌, true, IsTrue, List, length, Option, Some, None, refl, sym, ◌∙◌, ap, subst, arith}
use Rattle.std.proofs.lemmas.Bool.{le-ltb}
use Rattle.save_bytes.specs.declared.space.Bad.{Bad}
use Rattle.save_bytes.specs.declared.space.Bad.TheVariants.{Disk, Damaged}
use Rattle.save_bytes.specs.Cells.{Cell}
use Rattle.save_bytes.specs.State.{CanPut}
use Rattle.save_bytes.specs.Refusals.{UnlessDisk, IfDamaged}
use Rattle.save_bytes.specs.Stays.{SameSpace}
use Rattle.save_bytes.specs.Puts.{Puts}
use Rattle.save_bytes.specs.Reads.{Reads}
use Rattle.save_bytes.specs.Spots.{Spot, Sector, Mark, Frame, Hold, LandsAsBefore, MovesOnly}
use Rattle.save_bytes.proofs.SpaceLemmas.{UnlessDisk-map, UnlessDisk-always, SameSpace-where}
use Rattle.save_disk.specs.State as disks
use Rattle.dpfs_tree.specs.Picks.{bytes_of}
use Rattle.difi.specs.declared.descriptor.Difi.{Difi}
use Rattle.page_image.specs.declared.image.Image.{Image}
use Rattle.page_image.specs.Spots.{Leaves}
use Rattle.page_image.specs.Laws.{image_size_fits, SameImage-shape}
use Rattle.part_store.specs.declared.part.Part.{Part}
use Rattle.part_store.specs.Parts.{CanViewPart, master_of, part_state}
use Rattle.part_store.specs.Ends.{PartCameFrom, KeepsPartOrigins}
use Rattle.part_store.specs.Spots.{SamePart, PartSpot, PartLands}
use Rattle.part_store.specs.SpotLaws.{SamePart-same, KeepsMarks-same, PartSpot-same}
use Rattle.part_store.proofs.PartLemmas.{told_below as part_told}
use Rattle.container.specs.declared.open.Container.{Container}
use Rattle.container.specs.Parts.{SameSecond}
use Rattle.container.specs.Stores.{are_two, PartsLand}
use Rattle.container.specs.StoreHeld.{ContainerSpot}
use Rattle.container.specs.Overs.{Over, Opened, opened_state, OpenedKeeps, opened_lands}
use Rattle.container.specs.StoreLaws.{first_view, second_view}
use Rattle.container.specs.Origins.{HasCome, HaveCome, KeepsStoreOrigins}
use Rattle.container.proofs.OriginLemmas.{can_put, came_kept}
use Rattle.container.proofs.TakenLemmas.{IsLeft, left_cells}
use Rattle.container.proofs.EmbedLemmas.{StandsIn, StayOutside, puts_whole, can_in_part, stays_whole}
use Rattle.container.proofs.StandsLemmas.{apart_from_first, second_stands, second_outside}
use Rattle.container.proofs.FirstLemmas.{first_told, second_told, both_told, two_there, lands_in_both}
use Rattle.container.proofs.LiftLemmas.{store_space, image_lands, ImageOverKeeps, image_over_lands, image_over, image_of}
use Rattle.container.proofs.LiftLemmas.{other_left, all_left, other_stays, other_lands, own_lands, spot_left}

-- a place of part 1 is one of the store
lands_second : (bytes : ℕ → ℕ) (lands : ℕ → Spot → Type 0) (first second : Part) (x : ℕ) (spot : Spot)
    → PartLands bytes lands second x spot
    → PartsLand bytes lands first (Some second) (first.difi.ivfc4.size + x) spot
lands_second bytes lands first second x spot there =
    let size = first.difi.ivfc4.size in
    let place : size + x - size ≡ x = omega arith in
    rw (le-ltb (size + x) size (omega arith), place) there

module _ {D : Type 0} (states : D → disks.State) (c d : Container) (view next : Image D) (part after : Part)
    (header : d.header ≡ c.header) (first : d.parts.first ≡ c.parts.first) (is : c.parts.second ≡ Some part)
    (still : d.parts.second ≡ Some after) (refusal : Option Bad) where
  abbrev v : Over (Image D)
  v = record { base = view; part = part; table = c.table.items }

  abbrev w : Over (Image D)
  w = record { base = next; part = after; table = d.table.items }

  abbrev old : Opened D
  old = record { container = record c { image = view.image.now }; disk = view.disk.now }

  abbrev new : Opened D
  new = record { container = record d { image = next.image.now }; disk = next.disk.now }

  abbrev o : ℕ
  o = c.parts.first.difi.ivfc4.size

  module _ (sound : IsTrue (opened_state states old).shape.sound) (hold : ImageOverKeeps states Hold v w) where
    can_view : CanViewPart (image_of states view).shape part (length c.table.items)
    can_view = second_view (image_of states view) c.parts.first c.table.items c.parts.second part is sound

    other_view : CanViewPart (image_of states view).shape c.parts.first (length c.table.items)
    other_view = first_view (image_of states view) c.parts.first c.table.items c.parts.second sound

    two : are_two c.parts.first part ≡ true
    two = two_there (image_of states view) c.parts.first c.parts.second c.table.items part is sound

    size : after.difi.ivfc4.size ≡ part.difi.ivfc4.size
    size = ap (λ (difi : Difi). difi.ivfc4.size) hold.0.descriptor

    same_first : SamePart c.parts.first d.parts.first
    same_first = rw first (SamePart-same c.parts.first)

    same_second : SameSecond SamePart c.parts.second d.parts.second
    same_second = rw (is, still) hold.0

    space : SameSpace ⊥ (image_over states v) (image_over states w) refusal
        → SameSpace ⊥ (opened_state states old) (opened_state states new) refusal
    space below =
        store_space (image_of states view) (image_of states next) c.table.items d.table.items refusal
        (SameImage-shape (states view.disk.now) (states next.disk.now) view.image.now next.image.now hold.3.1.0)
        hold.1 below.faults below.cause c.parts.first d.parts.first c.parts.second d.parts.second same_first same_second

    -- what the call keeps of the part and the image it keeps of all
    container_kept : (spot : Spot) → PartSpot spot part after → ContainerSpot spot old.container new.container
    container_kept (Mark number level block) own =
        (rw first (PartSpot-same (Mark number level block) c.parts.first), rw (is, still) own)
    container_kept Frame own = record {
      header = header;
      parts = record { first = rw first (KeepsMarks-same c.parts.first); second = rw (is, still) own };
      table = hold.1;
    }
    container_kept spot own = tt

    kept : (spot : Spot) → PartSpot spot part after
        → Leaves spot (states view.disk.now) view.image.now (states next.disk.now) next.image.now
        → OpenedKeeps states spot old new
    kept spot own leaves = (
      record { header = header; first = same_first; second = same_second; table = hold.1 },
      container_kept spot own,
      leaves,
    )

    kept_over : (spot : Spot) → ImageOverKeeps states spot v w → OpenedKeeps states spot old new
    kept_over spot own = kept spot own.2 own.3.1

    -- where the bytes that part 0 takes are left alone
    abbrev IsOtherLeft : Type 0
    IsOtherLeft = IsLeft (image_of states view) (image_of states next) c.parts.first

    stands : StandsIn (image_over states v) (opened_state states old) o
    stands = rw is (second_stands (image_of states view) c.parts.first c.table.items part)

    stands_still : StandsIn (image_over states w) (opened_state states new) o
    stands_still = rw (still, first) (second_stands (image_of states next) c.parts.first d.table.items after)

    stay : IsOtherLeft → StayOutside (opened_state states old) (image_over states v) (opened_state states new) o
    stay left =
        rw (is, still, first, hold.1)
        (second_outside (image_of states view) (image_of states next) c.table.items c.parts.first part after size
        hold.0.number two
        (left_cells (image_of states view) (image_of states next) c.parts.first c.table.items
        (image_size_fits (states view.disk.now) view.image.now) other_view left))

    told_of : IsTrue (opened_state states old).told → IsTrue (image_over states v).told
    told_of = second_told (image_of states view) c.parts.first c.parts.second c.table.items part is

    told_after : IsTrue (opened_state states old).told → SameSpace ⊥ (image_over states v) (image_over states w) refusal
        → UnlessDisk refusal (IsTrue (image_over states w).told) → IsOtherLeft
        → UnlessDisk refusal (IsTrue (opened_state states new).told)
    told_after told below later left =
        both_told (image_of states next) d.parts.first d.parts.second d.table.items refusal
        (rw first
        ((other_stays states v w can_view c.parts.first other_view refusal hold below.faults below.cause
        (UnlessDisk-map refusal (part_told (image_of states next) after d.table.items) later) left).space.told
        (first_told (image_of states view) c.parts.first c.parts.second c.table.items told)))
        (λ other there. is_after other there)
      where
        is_after : (other : Part) → d.parts.second ≡ Some other
            → UnlessDisk refusal (IsTrue (part_state (image_of states next) other d.table.items).told)
        is_after other there =
            let same : Some after ≡ Some other = sym still ∙ there in
            let one : after ≡ other = cc in
            subst (λ (p : Part). UnlessDisk refusal (IsTrue (part_state (image_of states next) p d.table.items).told)) one later

    reach : IsOtherLeft
        → LandsAsBefore part.difi.ivfc4.size (image_over_lands states v) (image_over_lands states w)
        → LandsAsBefore (opened_state states old).shape.size (opened_lands states old) (opened_lands states new)
    reach left before =
        lands_in_both (image_of states view) (image_of states next) c.table.items
        (bytes_of (image_of states view).cells) (bytes_of (image_of states next).cells) (image_lands states view)
        (image_lands states next) c.parts.first d.parts.first c.parts.second d.parts.second
        (rw first refl)
        (rw first (other_lands states v w can_view c.parts.first other_view hold left))
        (rw (is, still) (size, own_lands states v w can_view hold.0 before))

    -- a call that puts into part 1
    module _ (at n : ℕ) (fits : at + n ≤ part.difi.ivfc4.size)
        (moves : MovesOnly (ImageOverKeeps states) (image_over_lands states) (image_over states v) v at n w refusal) where
      part_can : CanPut (opened_state states old) (o + at) n → CanPut (image_over states v) at n
      part_can can = can_in_part (opened_state states old) (image_over states v) o at n stands fits (told_of can.told) can

      left_by_put : CanPut (opened_state states old) (o + at) n → IsOtherLeft
      left_by_put can =
          other_left states v w can_view c.parts.first other_view (apart_from_first c.parts.first part two) at n refusal moves
          (part_can can)

      pub second_moves : MovesOnly (OpenedKeeps states) (opened_lands states) (opened_state states old) old (o + at) n new refusal
      second_moves = record {
        hold = kept_over Hold moves.hold;
        spots = λ can spot misses.
            (let own = spot_left states v w can_view spot at n hold (moves.spots (part_can can) spot)
            (λ k less there. misses k less (landing k spot there)) in
            kept spot own.0 own.1);
        damaged = λ can. all_kept refusal (moves.damaged (part_can can));
        reach = λ can. UnlessDisk-map refusal (reach (left_by_put can)) (moves.reach (part_can can));
      }
        where
          landing : (k : ℕ) (spot : Spot)
              → PartLands (bytes_of (image_of states view).cells) (image_lands states view) part (at + k) spot
              → opened_lands states old (o + at + k) spot
          landing k spot there =
              let place : o + at + k ≡ o + (at + k) = omega arith in
              rw (place, is) (lands_second (bytes_of (image_of states view).cells) (image_lands states view) c.parts.first part (at + k) spot there)

          all_kept : (other : Option Bad) → IfDamaged other (λ part level block. (spot : Spot) → ImageOverKeeps states spot v w)
              → IfDamaged other (λ part level block. (spot : Spot) → OpenedKeeps states spot old new)
          all_kept None all = tt
          all_kept (Some Disk) all = tt
          all_kept (Some (Damaged part level block)) all = λ spot. kept_over spot (all spot)

      -- and leaves both parts come from where they came from
      pub second_came : KeepsPartOrigins (image_of states view) part c.table.items (image_of states next) after
          d.table.items refusal
          → KeepsStoreOrigins (states view.disk.now) old.container (states next.disk.now) new.container refusal
      second_came came told was was_table h =
          let own : HasCome (was 1) was_table (states view.disk.now) old.container part = rw is at h.second in
          UnlessDisk-map refusal
          (λ (second : PartCameFrom (was 1) (master_of was_table part.difi) (image_of states next) after d.table.items).
          (let moved : HasCome (was 1) was_table (states next.disk.now) new.container after =
          subst (λ (difi : Difi). PartCameFrom (was 1) (master_of was_table difi) (image_of states next) after
          d.table.items) (sym hold.0.descriptor) second in
          let can = can_put (image_of states view) c.parts.first c.parts.second c.table.items (o + at) n told in
          let rest : HaveCome was was_table (states next.disk.now) new.container =
          record { first = rw first (other_came (was 0) was_table can h.first); second = rw still moved } in
          rest))
          (came (told_of told) (was 1) (master_of was_table part.difi) own)
        where
          other_came : (was : ℕ → Cell) (was_table : List ℕ) → CanPut (opened_state states old) (o + at) n
              → HasCome was was_table (states view.disk.now) old.container c.parts.first
              → HasCome was was_table (states next.disk.now) new.container c.parts.first
          other_came was was_table can other =
              rw hold.1
              (came_kept (image_of states view) (image_of states next) c.parts.first c.parts.first c.table.items
              (image_size_fits (states view.disk.now) view.image.now) other_view (left_by_put can)
              (KeepsMarks-same c.parts.first) was (master_of was_table c.parts.first.difi) other)

    pub second_puts : (at : ℕ) (bytes : List ℕ) → at + length bytes ≤ part.difi.ivfc4.size
        → MovesOnly (ImageOverKeeps states) (image_over_lands states) (image_over states v) v at (length bytes) w refusal
        → Puts (image_over states v) at bytes (image_over states w) refusal
        → Puts (opened_state states old) (o + at) bytes (opened_state states new) refusal
    second_puts at bytes fits moves puts =
        let below = SameSpace-where (image_over states v) (image_over states w) refusal (λ (none : ⊥). absurd none) puts.space in
        let can = part_can at (length bytes) fits moves in
        let left = left_by_put at (length bytes) fits moves in
        puts_whole (opened_state states old) (opened_state states new) (image_over states v) (image_over states w) o at bytes
        stands stands_still size fits refusal (space below)
        (λ can_put. (can can_put).told)
        (λ can_put. told_after can_put.told below (puts.space.told (can can_put)) (left can_put))
        (λ can_put. UnlessDisk-always refusal (stay (left can_put))) puts

    -- a call that reads part 1
    pub second_reads : Reads (image_over states) (ImageOverKeeps states) (image_over_lands states) v w refusal
        → Reads (opened_state states) (OpenedKeeps states) (opened_lands states) old new refusal
    second_reads reads =
        let below = SameSpace-where (image_over states v) (image_over states w) refusal (λ (none : ⊥). absurd none) reads.stays.space in
        let left : IsTrue (opened_state states old).told → IsOtherLeft =
        λ told. all_left states v w can_view c.parts.first other_view (reads.spots (told_of told)) in
        record {
          stays = stays_whole (opened_state states old) (opened_state states new) (image_over states v) (image_over states w) o
              stands stands_still size refusal (space below) told_of
              (λ told. told_after told below (reads.stays.space.told (told_of told)) (left told))
              (λ told. stay (left told)) reads.stays;
          frame = kept_over Frame reads.frame;
          sectors = λ number. kept_over (Sector number) (reads.sectors number);
          spots = λ told spot. kept_over spot (reads.spots (told_of told) spot);
          reach = λ told. UnlessDisk-map refusal (reach (left told)) (reads.reach (told_of told));
        }
