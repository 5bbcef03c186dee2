-- What a call on a view through the hash tree leaves of all that is below it.
use Rattle.std.proofs.Common.{◌≡◌, ℕ, ◌+◌, ◌≤◌, IsTrue, List, length, take, drop, Option, refl, ◌∙◌, ap, subst, arith, rules}
use Rattle.save_bytes.specs.declared.space.Bad.{Bad}
use Rattle.save_bytes.specs.State.{State, CanPut}
use Rattle.save_bytes.specs.Spots.{Spot, Sector, Mark, Frame, Hold, LandsAsBefore, MovesOnly}
use Rattle.save_bytes.specs.Reads.{Reads}
use Rattle.save_bytes.specs.Puts.{Puts}
use Rattle.save_bytes.proofs.SpaceLemmas.{UnlessDisk-map, IfDamaged-map}
use Rattle.dpfs_tree.specs.declared.state.DpfsState.{DpfsState}
use Rattle.dpfs_tree.specs.declared.view.DpfsView.{DpfsView}
use Rattle.dpfs_tree.specs.Marks.{is_marked as is_touched}
use Rattle.dpfs_tree.specs.Held.{shown_contents, SameContents, SameState, ContentsKeep, contents_land}
use Rattle.ivfc_tree.specs.declared.state.IvfcState.{IvfcState}
use Rattle.ivfc_tree.specs.Marks.{AsManyMarks}
use Rattle.part_store.specs.declared.view.PartView.{PartView}
use Rattle.part_store.specs.Held.{shown as shown_part, SamePartView, PartOwn, PartKeeps, part_lands}
use Rattle.part_store.specs.Parts.{CanViewPart}
use Rattle.part_store.specs.PartLaws.{can_view_part-true, true-can_view_part}
use Rattle.part_store.specs.SpotLaws.{can_view_part-same}
use Rattle.part_store.proofs.AboveLemmas.{same_table as table_back}
use Rattle.part_store.proofs.PartLemmas.{part_is_hashed}
use borrow.Rule.Slice.PartMut.{put_mid}
use Rattle.std.proofs.lemmas.List.{places, same_lists}
use Rattle.ivfc_tree.specs.declared.view.IvfcView.{IvfcView}
use Rattle.ivfc_tree.specs.Held.{shown, SameOwn, HashKeeps, hash_lands}
use Rattle.ivfc_tree.specs.PutViews.{KeepsOrigins}
use Rattle.part_store.specs.Under.{Under, under_state, UnderOwn, UnderKeeps, under_lands, KeepsUnderOrigins}

-- what is below a view
abbrev pub under_of : {S : Type 0} → IvfcView S → Under S
under_of view = record { contents = view.base.now; master = view.master.now; ivfc = view.state.now }

module _ {S : Type 0} (states : S → State) (keeps : Spot → S → S → Type 0) (lands : S → ℕ → Spot → Type 0)
    (old new : IvfcView S) (refusal : Option Bad) where
  own : (spot : Spot) → SameOwn spot old new → UnderOwn spot (under_of old) (under_of new)
  own (Mark part level block) h = h
  own Frame h = h
  own spot h = tt

  down : (spot : Spot) → HashKeeps keeps spot old new → UnderKeeps keeps spot (under_of old) (under_of new)
  down spot h = (h.0.master_len, h.0.marks, own spot h.1, h.2)

  pub reads_down : Reads (shown states) (HashKeeps keeps) (hash_lands lands) old new refusal
      → Reads (under_state states old.part old.difi.now) (UnderKeeps keeps) (under_lands lands old.difi.now) (under_of old)
      (under_of new) refusal
  reads_down reads =
      let hold = reads.frame.0 in
      record {
        stays = rw (hold.same_part, hold.same_difi) at reads.stays;
        frame = down Frame reads.frame;
        sectors = λ number. down (Sector number) (reads.sectors number);
        spots = λ told spot. down spot (reads.spots told spot);
        reach = rw hold.same_difi at reads.reach;
      }

  pub moves_down : (at n : ℕ) → MovesOnly (HashKeeps keeps) (hash_lands lands) (shown states old) old at n new refusal
      → MovesOnly (UnderKeeps keeps) (under_lands lands old.difi.now) (shown states old) (under_of old) at n (under_of new) refusal
  moves_down at n moves = record {
    hold = down Hold moves.hold;
    spots = λ can spot misses. down spot (moves.spots can spot misses);
    damaged = λ can. IfDamaged-map refusal (λ part level block kept spot. down spot (kept spot)) (moves.damaged can);
    reach = rw moves.hold.0.same_difi at moves.reach;
  }

-- where a view's tree came from is where that of what is below it came from
pub came_down : {S : Type 0} (states : S → State) (old new : IvfcView S) (refusal : Option Bad) → new.difi ≡ old.difi
    → KeepsOrigins states old new refusal
    → KeepsUnderOrigins states old.part old.difi.now (under_of old) (under_of new) refusal
came_down states old new refusal same came told was was_master here = rw same at came told was was_master here

-- the master hash of a table to which one was written back
pub master_back : (start n m : ℕ) (table part : List ℕ) → start + n ≤ length table → m ≡ n → length part ≡ n
    → take n (drop start (put_mid start m table part)) ≡ part
master_back start n m table part inside is long =
    rw is (same_lists _ _ (search (rules, places)) (λ k d h. grind (arith, places)))

-- What a call over a part's contents leaves of a view of the part.
module _ {S : Type 0} (states : S → State) (keeps : Spot → S → S → Type 0)
    (s t : PartView S) (old new : DpfsView S) (master later : List ℕ) (ivfc : IvfcState) (n : ℕ)
    (same_base : t.base.ghost_name ≡ s.base.ghost_name) (same_part : t.part.ghost_name ≡ s.part.ghost_name)
    (same_table : t.table.ghost_name ≡ s.table.ghost_name)
    (base_now : old.base.now ≡ s.base.now) (base_new : t.base.now ≡ new.base.now)
    (place : old.part_at ≡ s.part.now.at) (difi : old.difi.now ≡ s.part.now.difi) (dpfs : old.state.now ≡ s.part.now.dpfs)
    (part_new : t.part.now ≡ record s.part.now { dpfs = new.state.now; ivfc = ivfc })
    (size : n ≡ s.part.now.difi.master.size)
    (master_now : master ≡ take n (drop (s.part.now.difi.place + s.part.now.difi.master.at) s.table.now))
    (table_new : t.table.now ≡ put_mid (s.part.now.difi.place + s.part.now.difi.master.at) n s.table.now later)
    (inside : s.part.now.difi.place + s.part.now.difi.master.at + s.part.now.difi.master.size ≤ length s.table.now) where
  abbrev pub before : Under (DpfsView S)
  before = record { contents = old; master = master; ivfc = s.part.now.ivfc }

  abbrev pub after : Under (DpfsView S)
  after = record { contents = new; master = later; ivfc = ivfc }

  module _ (same : SameContents old new) (len : length later ≡ length master) (many : AsManyMarks s.part.now.ivfc ivfc) where
    hold : SamePartView s t
    hold = record {
      same_base = same_base;
      same_part = same_part;
      part = rw part_new (record {
        number = refl;
        place = refl;
        descriptor = refl;
        selector = same.selector ∙ ap (λ (d : DpfsState). d.selector) dpfs;
        copies = same.marks ∙ ap (λ (d : DpfsState). length d.touched.items) dpfs;
        hashes = many;
      });
      same_table = same_table;
      table_len = rw table_new (grind (arith, places));
    }

    part_own : (spot : Spot) → UnderOwn spot before after → SameState spot old.state.now new.state.now → PartOwn spot s t
    part_own (Mark number level block) h state = rw part_new (λ is. (λ here. state here ∙ ap (λ (d : DpfsState). is_touched d.touched.items block) dpfs, h))
    part_own Frame h state = (
      rw part_new (record {
        number = refl;
        place = refl;
        descriptor = refl;
        copies = state ∙ dpfs;
        hashes = record { many = many; marks = h.0 };
      }),
      rw table_new
          (table_back (s.part.now.difi.place + s.part.now.difi.master.at) s.part.now.difi.master.size n s.table.now later inside size
          (rw size at (h.1 ∙ master_now))),
    )
    part_own spot h state = tt

  up : (spot : Spot) → UnderKeeps (ContentsKeep keeps) spot before after → PartKeeps keeps spot s t
  up spot h =
      let contents = h.3 in
      (hold contents.0 h.0 h.1, part_own contents.0 h.0 h.1 spot h.2 contents.1, rw base_new (rw base_now at contents.2))

  -- the view as it was and as it is now, where it lies soundly
  state_before : CanViewPart (states s.base.now).shape s.part.now (length s.table.now)
      → shown_part states s ≡ under_state (shown_contents states) s.part.now.number s.part.now.difi before
  state_before can =
      rw (base_now, place, difi, dpfs, master_now, size) (part_is_hashed (states s.base.now) s.part.now s.table.now can)

  state_after : SameContents old new → length later ≡ length master → CanViewPart (states t.base.now).shape t.part.now (length t.table.now)
      → shown_part states t ≡ under_state (shown_contents states) s.part.now.number s.part.now.difi after
  state_after same len can =
      let long : length later ≡ s.part.now.difi.master.size = grind (arith, places) in
      let back = master_back (s.part.now.difi.place + s.part.now.difi.master.at) s.part.now.difi.master.size n s.table.now later inside size
      long in
      part_is_hashed (states t.base.now) t.part.now t.table.now can
      ∙ rw (base_new, part_new, table_new, same.same_place, same.same_difi, place, difi, back) refl

  module _ (lands : S → ℕ → Spot → Type 0) (keeps_hold : (s t : S) → keeps Frame s t → keeps Hold s t)
      (keeps_shape : (s t : S) → keeps Hold s t → (states t).shape ≡ (states s).shape)
      (can : CanViewPart (states s.base.now).shape s.part.now (length s.table.now)) where
    -- it lies soundly still
    later_can : PartKeeps keeps Hold s t → CanViewPart (states t.base.now).shape t.part.now (length t.table.now)
    later_can h =
        true-can_view_part (states t.base.now).shape t.part.now (length t.table.now)
        (rw h.0.table_len
        (can_view_part-same (states s.base.now).shape (states t.base.now).shape s.part.now t.part.now (length s.table.now)
        (keeps_shape s.base.now t.base.now h.2) h.0.part
        ∙ can_view_part-true (states s.base.now).shape s.part.now (length s.table.now) can))

    states_after : UnderKeeps (ContentsKeep keeps) Hold before after
        → shown_part states t ≡ under_state (shown_contents states) s.part.now.number s.part.now.difi after
    states_after h = state_after h.3.0 h.0 (later_can (up Hold h))

    told_down : IsTrue (shown_part states s).told
        → IsTrue (under_state (shown_contents states) s.part.now.number s.part.now.difi before).told
    told_down told = subst (λ (x : State). IsTrue x.told) (state_before can) told

    lands_in : (x : ℕ) (spot : Spot) → under_lands (contents_land states lands) s.part.now.difi before x spot
        → part_lands states lands s x spot
    lands_in x spot h = rw (base_now, place, difi, dpfs) at h

    lands_out : SameContents old new → (x : ℕ) (spot : Spot) → part_lands states lands t x spot
        → under_lands (contents_land states lands) s.part.now.difi after x spot
    lands_out same x spot h = rw (same.same_place, same.same_difi, place, difi) (rw (base_new, part_new) at h)

    reach_up : SameContents old new → LandsAsBefore s.part.now.difi.ivfc4.size
        (under_lands (contents_land states lands) s.part.now.difi before)
        (under_lands (contents_land states lands) s.part.now.difi after)
        → LandsAsBefore s.part.now.difi.ivfc4.size (part_lands states lands s) (part_lands states lands t)
    reach_up same as_before x below spot there = lands_in x spot (as_before x below spot (lands_out same x spot there))

    pub part_reads : (refusal : Option Bad)
        → Reads (under_state (shown_contents states) s.part.now.number s.part.now.difi) (UnderKeeps (ContentsKeep keeps))
        (under_lands (contents_land states lands) s.part.now.difi) before after refusal
        → Reads (shown_part states) (PartKeeps keeps) (part_lands states lands) s t refusal
    part_reads refusal reads =
        let same = reads.frame.3.0 in
        let was = state_before can in
        let frame = up Frame reads.frame in
        let now = state_after same reads.frame.0 (later_can (frame.0, tt, keeps_hold s.base.now t.base.now frame.2)) in
        record {
          stays = rw (was, now) reads.stays;
          frame = up Frame reads.frame;
          sectors = λ number. up (Sector number) (reads.sectors number);
          spots = λ told spot. up spot (reads.spots (told_down told) spot);
          reach = λ told. UnlessDisk-map refusal (reach_up same) (reads.reach (told_down told));
        }

    pub part_puts : (at : ℕ) (bytes : List ℕ) (refusal : Option Bad) → UnderKeeps (ContentsKeep keeps) Hold before after
        → Puts (under_state (shown_contents states) s.part.now.number s.part.now.difi before) at bytes
        (under_state (shown_contents states) s.part.now.number s.part.now.difi after) refusal
        → Puts (shown_part states s) at bytes (shown_part states t) refusal
    part_puts at bytes refusal hold puts = rw (state_before can, states_after hold) puts

    pub part_moves : (at n : ℕ) (refusal : Option Bad)
        → MovesOnly (UnderKeeps (ContentsKeep keeps)) (under_lands (contents_land states lands) s.part.now.difi)
        (under_state (shown_contents states) s.part.now.number s.part.now.difi before) before at n after refusal
        → MovesOnly (PartKeeps keeps) (part_lands states lands) (shown_part states s) s at n t refusal
    part_moves at m refusal moves =
        let down : CanPut (shown_part states s) at m
        → CanPut (under_state (shown_contents states) s.part.now.number s.part.now.difi before) at m =
        λ can_put. subst (λ (x : State). CanPut x at m) (state_before can) can_put in
        record {
          hold = up Hold moves.hold;
          spots = λ can_put spot misses. up spot
              (moves.spots (down can_put) spot (λ k below h. misses k below (lands_in (at + k) spot h)));
          damaged = λ can_put. IfDamaged-map refusal (λ part level block kept spot. up spot (kept spot)) (moves.damaged (down can_put));
          reach = λ can_put. UnlessDisk-map refusal (reach_up moves.hold.3.0) (moves.reach (down can_put));
        }
