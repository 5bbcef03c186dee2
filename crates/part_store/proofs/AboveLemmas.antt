-- What a call on a view of the contents leaves of their base and of the partition.
use Rattle.std.proofs.Common.{◌≡◌, ℕ, ◌+◌, ◌^◌, ◌<◌, ◌≤◌, IsTrue, IsFalse, List, length, take, drop, Option, None}
use Rattle.std.proofs.Common.{refl, ◌∙◌, ap, subst}
use Rattle.std.proofs.Common.{arith, rules}
use Rattle.std.proofs.lemmas.List.{places, same_lists}
use borrow.Rule.Slice.PartMut.{put_mid}
use Rattle.save_bytes.specs.declared.space.Bad.{Bad}
use Rattle.save_bytes.specs.State.{State}
use Rattle.save_bytes.specs.Stays.{SameCells, SameTwins, Stays}
use Rattle.save_bytes.specs.Spots.{Spot, Mark, Frame, Hold, LandsAsBefore}
use Rattle.save_bytes.specs.Reads.{Reads}
use Rattle.save_bytes.proofs.SpaceLemmas.{UnlessDisk-map, UnlessDisk-both, Stays-join}
use Rattle.save_bytes.proofs.CallLemmas.{Reads-join}
use Rattle.dpfs_tree.specs.declared.view.DpfsView.{DpfsView}
use Rattle.dpfs_tree.specs.Held.{shown_contents, ContentsKeep, contents_land}
use Rattle.ivfc_tree.specs.declared.state.IvfcState.{IvfcState}
use Rattle.part_store.specs.declared.part.Part.{Part}
use Rattle.part_store.specs.Parts.{part_state, hashed_of, CanViewPart}
use Rattle.part_store.specs.Spots.{KeepsMarks}
use Rattle.part_store.specs.SpotLaws.{KeepsMarks-part, KeepsMarks-spot}
use Rattle.part_store.specs.declared.view.PartView.{PartView}
use Rattle.part_store.specs.Held.{shown, SamePartView, PartOwn, PartKeeps, part_lands}
use Rattle.part_store.specs.ViewLaws.{shown_contents_there, shown_hashes, kept_lands}
use Rattle.part_store.specs.Calls.{ReadsHashed, ReadsPart}
use Rattle.part_store.proofs.PartLemmas.{told_below, part_stays, part_from_base, kept_view}

-- a table whose master hash is as before
pub same_table : (start n m : ℕ) (table part : List ℕ) → start + n ≤ length table → m ≡ n
    → part ≡ take n (drop start table)
    → put_mid start m table part ≡ table
same_table start n m table part inside is same =
    rw (is, same) (same_lists _ _ (search (rules, places)) (λ k d h. grind (arith, places)))

-- with the laws of the base
module _ {S : Type 0} (states : S → State) (keeps : Spot → S → S → Type 0) (lands : S → ℕ → Spot → Type 0)
    (keeps_hold : (s t : S) → keeps Frame s t → keeps Hold s t)
    (keeps_shape : (s t : S) → keeps Hold s t → (states t).shape ≡ (states s).shape)
    (keeps_cells : (s t : S) → IsTrue (states s).shape.sound → IsFalse (states s).shape.doubled → IsTrue (states s).told
    → IsTrue (states t).told → ((spot : Spot) → keeps spot s t)
    → SameCells (states s) (states t) × SameTwins (states s) (states t))
    (keeps_lands : (s t : S) → IsTrue (states s).shape.sound → IsFalse (states s).shape.doubled → IsTrue (states s).told
    → IsTrue (states t).told → ((spot : Spot) → keeps spot s t)
    → LandsAsBefore (states s).shape.size (lands s) (lands t)) where
  reads_below : (old new : DpfsView S) (refusal : Option Bad) → IsTrue (states old.base.now).shape.sound
      → IsFalse (states old.base.now).shape.doubled
      → Reads (shown_contents states) (ContentsKeep keeps) (contents_land states lands) old new refusal
      → Reads states keeps lands old.base.now new.base.now refusal
  reads_below old new refusal sound single reads =
      let one = old.base.now in
      let two = new.base.now in
      let kept : IsTrue (states one).told → (spot : Spot)
      → keeps spot one two = λ told spot. (reads.spots told spot).2 in
      let space = reads.stays.space in
      record {
        stays = record {
          space = record {
            shape = keeps_shape one two (keeps_hold one two reads.frame.2);
            faults = space.faults;
            cause = space.cause;
            told = space.told;
            twins = λ told. UnlessDisk-map refusal
                (λ still. (keeps_cells one two sound single told still (kept told)).1) (space.told told);
          };
          cells = λ told. UnlessDisk-map refusal
              (λ still. (keeps_cells one two sound single told still (kept told)).0) (space.told told);
        };
        frame = reads.frame.2;
        sectors = λ number. (reads.sectors number).2;
        spots = kept;
        reach = λ told. UnlessDisk-map refusal (λ still. keeps_lands one two sound single told still (kept told))
            (space.told told);
      }

  -- under the hash tree of a part, whose master hash is written back to the table
  module _ (base : S) (part : Part) (table : List ℕ) (can : CanViewPart (states base).shape part (length table))
      (old new : DpfsView S) (ivfc : IvfcState) (master : List ℕ) (n : ℕ) (refusal : Option Bad)
      (base_now : old.base.now ≡ base) (place : old.part_at ≡ part.at) (difi : old.difi.now ≡ part.difi)
      (dpfs : old.state.now ≡ part.dpfs) (size : n ≡ part.difi.master.size) where
    pub reads_part : ReadsHashed (shown_contents states) (ContentsKeep keeps)
        (contents_land states lands) part.number part.difi old new
        (take n (drop (part.difi.place + part.difi.master.at) table)) master part.ivfc ivfc refusal
        → ReadsPart states keeps lands base new.base.now part (record part { dpfs = new.state.now; ivfc = ivfc }) table
        (put_mid (part.difi.place + part.difi.master.at) n table master) refusal
    reads_part left =
        let frame = left.reads.frame in
        let contents = can.contents in
        let later : Part = record part { dpfs = new.state.now; ivfc = ivfc } in
        let kept : KeepsMarks part later =
        record { number = refl; place = refl; descriptor = refl; copies = frame.1 ∙ dpfs; hashes = left.puts } in
        let reads : Reads states keeps lands base new.base.now refusal =
        subst (λ (s : S). Reads states keeps lands s new.base.now refusal) base_now
        (reads_below old new refusal (rw base_now contents.sound) (rw base_now contents.single) left.reads) in
        let same = same_table
        (part.difi.place + part.difi.master.at) part.difi.master.size n table master can.master size
        (rw size at left.same_master) in
        let hashed : Stays (hashed_of (states base) part table) (hashed_of (states new.base.now) later table) refusal =
        rw (left.same_master, size, frame.0.same_place, frame.0.same_difi, place, difi, base_now, dpfs) at left.stays in
        record {
          stays = rw same (part_stays (states base)
              (states new.base.now) part later table refusal reads.stays.space.shape
              (KeepsMarks-part part later kept) hashed);
          reads = reads;
          kept = kept;
          same_table = same;
        }

-- a call that reads the base behind one that read the partition
pub reads_then_base : {S : Type 0} (states : S → State) (keeps : Spot → S → S → Type 0) (lands : S → ℕ → Spot → Type 0)
    (keeps_join : (spot : Spot) (s t u : S) → keeps spot s t → keeps spot t u → keeps spot s u)
    (fits : (s : S) → IsTrue (states s).shape.sound → (states s).shape.size < 2 ^ 64)
    (base mid last : S) (part next : Part) (table later : List ℕ) (refusal : Option Bad)
    → CanViewPart (states base).shape part (length table)
    → ReadsPart states keeps lands base mid part next table later None → Reads states keeps lands mid last refusal
    → ReadsPart states keeps lands base last part next table later refusal
reads_then_base states keeps lands keeps_join fits base mid last part next table later refusal can left reads =
    let view : CanViewPart (states mid).shape next (length later) =
    kept_view (states base).shape
    (states mid).shape part next table later left.reads.stays.space.shape left.kept left.same_table can in
    record {
      stays = Stays-join (part_state (states base) part table) (part_state (states mid) next later)
          (part_state (states last) next later)
          refusal left.stays
          (part_from_base (states mid) (states last) next later refusal
          (fits mid view.contents.sound) view reads.stays);
      reads = Reads-join states keeps lands keeps_join base mid last refusal left.reads reads;
      kept = left.kept;
      same_table = left.same_table;
    }

-- a call that reads a part over its base reads the view, and the other way round
module _ {S : Type 0} (states : S → State) (keeps : Spot → S → S → Type 0) (lands : S → ℕ → Spot → Type 0)
    (s t : PartView S)
    (refusal : Option Bad) where
  module _ (fits : (s : S) → IsTrue (states s).shape.sound → (states s).shape.size < 2 ^ 64)
      (same_base : t.base.ghost_name ≡ s.base.ghost_name) (same_part : t.part.ghost_name ≡ s.part.ghost_name)
      (same_table : t.table.ghost_name ≡ s.table.ghost_name)
      (left : ReadsPart states keeps lands s.base.now t.base.now s.part.now t.part.now s.table.now t.table.now
      refusal) where
    hold : SamePartView s t
    hold = record {
      same_base = same_base;
      same_part = same_part;
      part = KeepsMarks-part s.part.now t.part.now left.kept;
      same_table = same_table;
      table_len = ap length left.same_table;
    }

    own : (spot : Spot) → PartOwn spot s t
    own (Mark number level block) = KeepsMarks-spot (Mark number level block) s.part.now t.part.now left.kept
    own Frame = (left.kept, left.same_table)
    own spot = tt

    pub part_read : IsTrue (shown states s).shape.sound
        → Reads (shown states) (PartKeeps keeps) (part_lands states lands) s t refusal
    part_read sound =
        let reads = left.reads in
        let contents = shown_contents_there states fits s sound in
        let levels = (shown_hashes states fits s sound).levels in
        let below = told_below (states s.base.now) s.part.now s.table.now in
        record {
          stays = left.stays;
          frame = (hold, own Frame, reads.frame);
          sectors = λ number. (hold, tt, reads.sectors number);
          spots = λ told spot. (hold, own spot, reads.spots (below told) spot);
          reach = λ told. UnlessDisk-both refusal _ _ _
              (λ (same : SameCells (states s.base.now) (states t.base.now)).
              kept_lands (states s.base.now) (states t.base.now) s.part.now t.part.now (KeepsMarks-part s.part.now t.part.now left.kept) contents levels same
              (lands s.base.now)
              (lands t.base.now))
              (reads.stays.cells (below told)) (reads.reach (below told));
        }

  pub part_left : Reads (shown states) (PartKeeps keeps) (part_lands states lands) s t refusal
      → Reads states keeps lands s.base.now t.base.now refusal
      → ReadsPart states keeps lands s.base.now t.base.now s.part.now t.part.now s.table.now t.table.now refusal
  part_left view reads =
      record { stays = view.stays; reads = reads; kept = view.frame.1.0; same_table = view.frame.1.1 }
