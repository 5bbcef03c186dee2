-- What a call on a view of a part leaves of its base, its part and its table.
use Rattle.std.proofs.Common.{◌≡◌, ℕ, Option, Some, None, refl, subst}
use Rattle.save_bytes.specs.declared.space.Bad.{Bad}
use Rattle.save_bytes.specs.declared.space.Bad.TheVariants.{Disk, Damaged}
use Rattle.save_bytes.specs.State.{State}
use Rattle.save_bytes.specs.Refusals.{IfDamaged}
use Rattle.save_bytes.specs.Spots.{Spot, Sector, Mark, Frame, Hold, MovesOnly}
use Rattle.save_bytes.specs.Reads.{Reads}
use Rattle.part_store.specs.declared.view.PartView.{PartView}
use Rattle.part_store.specs.Spots.{PartSpot}
use Rattle.part_store.specs.Held.{shown as shown_part, PartOwn, PartKeeps, part_lands, IsOver}
use Rattle.save_disk.specs.State as disks
use Rattle.page_image.specs.Laws.{Leaves-join}
use Rattle.container.specs.declared.store.Store.{Store}
use Rattle.container.specs.StoreHeld.{shown, StoreKeeps, store_lands}
use Rattle.container.specs.StoreLaws.{SameContainer-join, ContainerSpot-join}
use Rattle.container.specs.Overs.{Over, over_state, OverKeeps, over_lands, Opened, opened_state, OpenedKeeps, opened_lands}

module _ {S : Type 0} (states : S → State) (keeps : Spot → S → S → Type 0) (lands : S → ℕ → Spot → Type 0) where
  abbrev over : PartView S → Over S
  over view = record { base = view.base.now; part = view.part.now; table = view.table.now }

  own_spot : (spot : Spot) (s t : PartView S) → PartOwn spot s t → PartSpot spot s.part.now t.part.now
  own_spot (Mark number level block) s t own = own
  own_spot Frame s t own = own.0
  own_spot spot s t own = tt

  module _ (s t : PartView S) (refusal : Option Bad) where
    kept : (spot : Spot) → t.table.now ≡ s.table.now → PartKeeps keeps spot s t → OverKeeps keeps spot (over s) (over t)
    kept spot table own = (own.0.part, table, own_spot spot s t own.1, own.2)

    all_kept : (other : Option Bad) → t.table.now ≡ s.table.now
        → IfDamaged other (λ part level block. (spot : Spot) → PartKeeps keeps spot s t)
        → IfDamaged other (λ part level block. (spot : Spot) → OverKeeps keeps spot (over s) (over t))
    all_kept None table all = tt
    all_kept (Some Disk) table all = tt
    all_kept (Some (Damaged part level block)) table all = λ spot. kept spot table (all spot)

    moved : (at n : ℕ) → t.table.now ≡ s.table.now
        → MovesOnly (PartKeeps keeps) (part_lands states lands) (shown_part states s) s at n t refusal
        → MovesOnly (OverKeeps keeps) (over_lands states lands) (shown_part states s) (over s) at n (over t) refusal
    moved at n table moves = record {
      hold = kept Hold table moves.hold;
      spots = λ can spot misses. kept spot table (moves.spots can spot misses);
      damaged = λ can. all_kept refusal table (moves.damaged can);
      reach = moves.reach;
    }

    read : Reads (shown_part states) (PartKeeps keeps) (part_lands states lands) s t refusal
        → Reads (over_state states) (OverKeeps keeps) (over_lands states lands) (over s) (over t) refusal
    read reads =
        let table = reads.frame.1.1 in
        record {
          stays = reads.stays;
          frame = kept Frame table reads.frame;
          sectors = λ number. kept (Sector number) table (reads.sectors number);
          spots = λ told spot. kept spot table (reads.spots told spot);
          reach = reads.reach;
        }

    is_over : (view : PartView S) (a : Over S) → IsOver view a.base a.part a.table → over view ≡ a
    is_over view a is = rw (is.base_now, is.part_now, is.table_now) refl

    -- the same of a base, a part and a table that the views hold
    pub over_moves : (a b : Over S) → IsOver s a.base a.part a.table → IsOver t b.base b.part b.table → (at n : ℕ)
        → t.table.now ≡ s.table.now
        → MovesOnly (PartKeeps keeps) (part_lands states lands) (shown_part states s) s at n t refusal
        → MovesOnly (OverKeeps keeps) (over_lands states lands) (over_state states a) a at n b refusal
    over_moves a b first last at n table moves =
        subst (λ (x : Over S). MovesOnly (OverKeeps keeps) (over_lands states lands) (over_state states x) x at n b refusal)
        (is_over s a first)
        (subst (λ (x : Over S). MovesOnly (OverKeeps keeps) (over_lands states lands) (shown_part states s) (over s) at n x refusal)
        (is_over t b last) (moved at n table moves))

    pub over_reads : (a b : Over S) → IsOver s a.base a.part a.table → IsOver t b.base b.part b.table
        → Reads (shown_part states) (PartKeeps keeps) (part_lands states lands) s t refusal
        → Reads (over_state states) (OverKeeps keeps) (over_lands states lands) a b refusal
    over_reads a b first last reads =
        subst (λ (x : Over S). Reads (over_state states) (OverKeeps keeps) (over_lands states lands) x b refusal)
        (is_over s a first)
        (subst (λ (x : Over S). Reads (over_state states) (OverKeeps keeps) (over_lands states lands) (over s) x refusal)
        (is_over t b last) (read reads))

-- one call on a container behind another
pub OpenedKeeps-join : {D : Type 0} (states : D → disks.State) (spot : Spot) (a b c : Opened D)
    → OpenedKeeps states spot a b → OpenedKeeps states spot b c → OpenedKeeps states spot a c
OpenedKeeps-join states spot a b c h k = (
  SameContainer-join a.container b.container c.container h.0 k.0,
  ContainerSpot-join spot a.container b.container c.container h.0 h.1 k.1,
  Leaves-join (states a.disk) (states b.disk) (states c.disk) a.container.image b.container.image c.container.image spot h.2 k.2,
)

-- a call on a container over its disk is one on the store that holds them
module _ {D : Type 0} (states : D → disks.State) (s t : Store D) (refusal : Option Bad)
    (same_container : t.container.ghost_name ≡ s.container.ghost_name)
    (same_disk : t.disk.ghost_name ≡ s.disk.ghost_name) where
  abbrev opened : Store D → Opened D
  opened store = record { container = store.container.now; disk = store.disk.now }

  in_store : (spot : Spot) → OpenedKeeps states spot (opened s) (opened t) → StoreKeeps states spot s t
  in_store spot kept =
      (record { same_container = same_container; same_disk = same_disk; container = kept.0 }, kept.1, kept.2)

  all_in_store : (other : Option Bad)
      → IfDamaged other (λ part level block. (spot : Spot) → OpenedKeeps states spot (opened s) (opened t))
      → IfDamaged other (λ part level block. (spot : Spot) → StoreKeeps states spot s t)
  all_in_store None all = tt
  all_in_store (Some Disk) all = tt
  all_in_store (Some (Damaged part level block)) all = λ spot. in_store spot (all spot)

  pub store_reads_by : Reads (opened_state states) (OpenedKeeps states) (opened_lands states) (opened s) (opened t) refusal
      → Reads (shown states) (StoreKeeps states) (store_lands states) s t refusal
  store_reads_by reads = record {
    stays = reads.stays;
    frame = in_store Frame reads.frame;
    sectors = λ number. in_store (Sector number) (reads.sectors number);
    spots = λ told spot. in_store spot (reads.spots told spot);
    reach = reads.reach;
  }

  pub store_moves_by : (at n : ℕ)
      → MovesOnly (OpenedKeeps states) (opened_lands states) (shown states s) (opened s) at n (opened t) refusal
      → MovesOnly (StoreKeeps states) (store_lands states) (shown states s) s at n t refusal
  store_moves_by at n moves = record {
    hold = in_store Hold moves.hold;
    spots = λ can spot misses. in_store spot (moves.spots can spot misses);
    damaged = λ can. all_in_store refusal (moves.damaged can);
    reach = moves.reach;
  }
