-- A part behind a seal.
use Rattle.std.proofs.Common.{◌≡◌, ℕ, suc, ◌+◌, ◌-◌, ◌/◌, ◌^◌, ◌<◌, ◌≤◌, Bool, false, IsTrue, List, length, take, drop}
use Rattle.std.proofs.Common.{Option, Some, None, Result, Ok, Err, IfOk, refl, sym, ◌∙◌, ap, subst, inl, inr, ⊎_elim}
use Rattle.std.proofs.Common.{arith}
use Rattle.std.specs.Borrow.{Bor}
use Rattle.std.specs.Result.{result_err}
use Rattle.std.proofs.lemmas.Bool.{and_parts, cases_lt}
use Rattle.std.proofs.lemmas.List.{places}
use borrow.Rule.Slice.PartMut.{put_mid}
use Rattle.save_bytes.specs.declared.space.Bad.{Bad}
use Rattle.save_bytes.specs.Cells.{Cell, Byte, IsByte}
use Rattle.save_bytes.specs.CellNumbers.{value_of}
use Rattle.save_bytes.specs.State.{Shape, State}
use Rattle.save_bytes.specs.Refusals.{UnlessDisk}
use Rattle.save_bytes.specs.Stays.{SameCells, Stays}
use Rattle.save_bytes.specs.Spots.{Spot, Hold}
use Rattle.save_bytes.specs.Writes.{Writes}
use Rattle.save_bytes.proofs.SpaceLemmas.{UnlessDisk-map, UnlessDisk-always, Stays-join}
use Rattle.save_bytes.proofs.CallLemmas.{IfOk-map}
use Rattle.difi.specs.declared.descriptor.Difi.{Difi}
use Rattle.difi.specs.Places.{block_size}
use Rattle.difi.specs.Contents.{view_size}
use Rattle.dpfs_tree.specs.declared.state.DpfsState.{DpfsState}
use Rattle.dpfs_tree.specs.declared.view.DpfsView.{DpfsView}
use Rattle.dpfs_tree.specs.Picks.{bytes_of, chosen}
use Rattle.dpfs_tree.specs.View.{contents_state}
use Rattle.dpfs_tree.specs.Held.{shown_contents, SameContents, ContentsKeep, contents_land}
use Rattle.dpfs_tree.specs.Seals.{IsSealed}
use Rattle.ivfc_tree.specs.declared.state.IvfcState.{IvfcState}
use Rattle.ivfc_tree.specs.declared.view.IvfcView.{IvfcView}
use Rattle.ivfc_tree.specs.Marks.{is_marked, AsManyMarks}
use Rattle.ivfc_tree.specs.KnownLaws.{true-remembers}
use Rattle.ivfc_tree.specs.Seals.{HashSites, MasterSites, DiffersAt, CountsOn, HasNoZeroDigest, AreHashed}
use Rattle.ivfc_tree.specs.Origins.{CameFrom}
use Rattle.ivfc_tree.specs.SealViews.{SealsView}
use Rattle.ivfc_tree.specs.View.{HasTree, view_state as hashed_state}
use Rattle.ivfc_tree.specs.ViewLaws.{block_of_there, place_inside, own-same, block-same, state-same}
use Rattle.ivfc_tree.proofs.EntryLemmas.{entry_stays, DiffersAt-same}
use Rattle.ivfc_tree.proofs.SealLemmas.{states_settle}
use Rattle.ivfc_tree.proofs.ViewLemmas.{view_stays as hashed_stay}
use Rattle.part_store.specs.declared.part.Part.{Part}
use Rattle.part_store.specs.Parts.{master_of, contents_of, part_state, CanViewPart}
use Rattle.part_store.specs.PartLaws.{hashes_there, can_view_part-true, true-can_view_part}
use Rattle.part_store.specs.Spots.{SamePart}
use Rattle.part_store.specs.SpotLaws.{can_view_part-same}
use Rattle.part_store.specs.Under.{Under, under_state, KeepsUnderOrigins}
use Rattle.part_store.specs.Ends.{chosen_cells, plain_cell, HoldsSealed, KeepsPartOrigins}
use Rattle.part_store.specs.Seals.{SealsUnder, RefusesHashes, SealsBoth, SealsContents, Touched, touched_state}
use Rattle.part_store.specs.Seals.{TouchedKeeps, IsSealedEntry}
use Rattle.part_store.specs.Seals.{touched_lands, SealsTrees}
use Rattle.part_store.proofs.PartLemmas.{byte_value, part_is_hashed}
use Rattle.part_store.proofs.EndLemmas.{cell_same}
use Rattle.part_store.proofs.UnderLemmas.{under_of, master_back}

-- a seal of a view through the hash tree is one of what is below it
pub seals_down : {S : Type 0} (states : S → State) (keeps : Spot → S → S → Type 0) (lands : S → ℕ → Spot → Type 0)
    (old new : IvfcView S) (refusal : Option Bad) → SealsView states keeps lands old new refusal
    → SealsUnder states keeps lands old.part old.difi.now (under_of old) (under_of new) refusal
seals_down states keeps lands old new refusal seals = record {
  counts = seals.counts;
  stays = rw (seals.hold.same_part, seals.hold.same_difi) at seals.stays;
  tree = seals.tree;
  came = λ told was was_master came. rw seals.counts.marks (seals.came told was was_master came);
}

-- over a tree whose cells are the same
module _ (base : Shape) (difi : Difi) (master : List ℕ) (tree : HasTree base difi (length master)) (cells new : ℕ
    → Cell)
    (same : (x : ℕ) → x < base.size → new x ≡ cells x) (marked : ℕ → ℕ → Bool) where
  -- marked blocks are hashed, or have no zero digest, as they were
  zero_back : HasNoZeroDigest new difi marked → HasNoZeroDigest cells difi marked
  zero_back none level block here zero =
      none level block here (rw (block-same base difi tree.levels new cells same level block here.there.in_tree) zero)

  hashed_on : AreHashed cells master difi marked → AreHashed new master difi marked
  hashed_on hashed level block here =
      let entry = entry_stays base difi (length master) tree cells new master master (λ x. ⊥) (λ x. ⊥)
      (λ x inside off. same x inside)
      (DiffersAt-same (λ x. ⊥) master) level block here.there (λ x entry no. no) (λ x entry no. no) in
      let bytes = block-same base difi tree.levels new cells same level block here.there.in_tree in
      let was = hashed level block here in
      record { written = rw entry was.written; digest = rw (entry, bytes) was.digest }

  -- and the tree came from where it came from
  came_on : (was : ℕ → Cell) (was_master : List ℕ) → CameFrom difi marked was was_master cells master
      → CameFrom difi marked was was_master new master
  came_on was was_master came = record {
    kept = λ level block there none good.
        own-same base difi tree.levels new cells same master (suc level) block there.in_tree
        ∙ came.kept level block there none good;
    zeroed = λ level block there none above.
        ⊎_elim (λ good. inl good)
        (λ blank. inr (own-same base difi tree.levels new cells same master (suc (suc level)) block there.in_tree
        ∙ blank))
        (came.zeroed level block there none above);
  }

-- what is held sealed is read plainly as the part tells it
pub plain_sealed : (base : State) (part : Part) (table : List ℕ) (selector : ℕ) → HoldsSealed base part table selector
    → (x : ℕ) → x < part.difi.ivfc4.size
    → plain_cell base part selector table x ≡ (part_state base part table).cells x
plain_sealed base part table selector holds x inside =
    let difi = part.difi in
    let contents = contents_of base part in
    let master = master_of table difi in
    let tree = hashes_there base part table holds.lies.small holds.lies.view in
    let marked = is_marked part.ivfc in
    let none : ℕ → ℕ → Bool = λ level block. false in
    let there = block_of_there difi x inside in
    let block = x / block_size difi.ivfc4 in
    let same : (y : ℕ) → y < view_size difi → chosen_cells base part selector y ≡ contents.cells y =
    λ y below. ap Byte (holds.chosen_bytes y below) ∙ byte_value (contents.cells y) (holds.lies.bytes _) in
    let closed = (true-remembers contents.cells master difi part.ivfc (and_parts _ _ holds.told).1).closed in
    let state = state-same contents.shape difi master tree (chosen_cells base part selector) contents.cells same none
    none
    (λ level block. refl) 4 block there
    ∙ states_settle contents.shape difi (length master) tree marked closed contents.cells master none
    (λ level block. refl)
    holds.hashed 4 block there in
    cell_same _ _ part.number part.number _ _ state refl
    (ap value_of (same _ (place_inside contents.shape difi (length master) x tree inside)))

-- a table to which a master hash was written back, of which some bytes changed
table_back : (start n m : ℕ) (table part : List ℕ) → start + n ≤ length table → m ≡ n → length part ≡ n
    → (sites : ℕ → Type 0) → DiffersAt sites (take n (drop start table)) part
    → DiffersAt (λ x. (k : ℕ) × (x ≡ start + k) × sites k) table (put_mid start m table part)
table_back start n m table part inside is long sites changes = record {
  same_len = grind (arith, places);
  others = λ x off. ⊎_elim
      (λ (front : x < start). grind (arith, places))
      (λ (from : start ≤ x). ⊎_elim
      (λ (within : x < start + n).
      let k : ℕ = x - start in
      let place : x ≡ start + k = omega (arith, from) in
      let same = changes.others k (λ site. off (k, place, site)) in
      grind (arith, places))
      (λ (behind : start + n ≤ x). grind (arith, places))
      (cases_lt x (start + n)))
      (cases_lt x start);
}

-- what may have changed of a view of the contents
abbrev pub touched_of : {S : Type 0} → DpfsView S → Touched S
touched_of view = record { base = view.base.now; dpfs = view.state.now }

-- writes through a view of a part's contents
module _ {S : Type 0} (states : S → State) (keeps : Spot → S → S → Type 0) (lands : S → ℕ → Spot → Type 0) (part : Part)
    (old new : DpfsView S) (place : old.part_at ≡ part.at) (difi : old.difi.now ≡ part.difi) where
  down : (spot : Spot) → ContentsKeep keeps spot old new → TouchedKeeps keeps spot (touched_of old) (touched_of new)
  down spot h = (h.0.marks, h.0.selector, h.1, h.2)

  pub writes_down : (sites : ℕ → Type 0) (refusal : Option Bad)
      → Writes (shown_contents states) (ContentsKeep keeps) (contents_land states lands) sites old new refusal
      → Writes (touched_state states part) (TouchedKeeps keeps) (touched_lands states lands part) sites (touched_of old)
      (touched_of new) refusal
  writes_down sites refusal w =
      let hold = w.hold.0 in
      record {
        space = rw (hold.same_place, hold.same_difi, place, difi) at w.space;
        plain = w.plain;
        others = rw (hold.same_place, hold.same_difi, place, difi) at w.others;
        hold = down Hold w.hold;
        spots = λ told spot misses. down spot (w.spots told spot (λ x below site there. misses x (rw difi at below) site
            (rw (place, difi) at there)));
        reach = rw (hold.same_place, hold.same_difi, place, difi) at w.reach;
      }

-- facts of a call that was done
if_done : (P : Type 0) (result : Result ℕ Bad) → UnlessDisk (result_err result) P → IfOk result (λ selector. P)
if_done P (Ok selector) h = h
if_done P (Err bad) h = tt

if_both : (P Q : ℕ → Type 0) (result : Result ℕ Bad) → IfOk result P → IfOk result Q → IfOk result
    (λ selector. P selector × Q selector)
if_both P Q (Ok selector) h k = (h, k)
if_both P Q (Err bad) h k = tt

-- the view of the contents stays where copies are sealed
stays_sealed : {A : Type 0} (states : A → State) (keeps : Spot → A → A → Type 0) (lands : A → ℕ → Spot → Type 0)
    (part_at : ℕ)
    (difi : Difi) (state : DpfsState) (old new : A) (result : Result ℕ Bad)
    → IsSealed states keeps lands part_at difi state old new result
    → Stays (contents_state (states old) part_at difi state) (contents_state (states new) part_at difi state)
    (result_err result)
stays_sealed states keeps lands part_at difi state old new result sealed =
    let space = sealed.writes.space in
    record {
      space = record {
        shape = ap (λ (shape : Shape). (contents_state (record (states old) { shape = shape }) part_at difi
            state).shape) space.shape;
        faults = space.faults;
        cause = space.cause;
        told = space.told;
        twins = λ told. UnlessDisk-always (result_err result) (record { bottom = λ x h. refl; is_fixed = λ x h. refl });
      };
      cells = sealed.shown;
    }

-- a part over a base, whose hash tree was sealed over a view of its contents, with the master hash in its table
module _ {S : Type 0} (states : S → State) (keeps : Spot → S → S → Type 0) (lands : S → ℕ → Spot → Type 0)
    (fits : (s : S) → IsTrue (states s).shape.sound → (states s).shape.size < 2 ^ 64)
    (plain_bytes : (s : S) → IsTrue (states s).shape.plain → IsTrue (states s).told → (x : ℕ) → IsByte
    ((states s).cells x))
    (keeps_join : (spot : Spot) (s t u : S) → keeps spot s t → keeps spot t u → keeps spot s u)
    (keeps_shape : (s t : S) → keeps Hold s t → (states t).shape ≡ (states s).shape)
    (base : S) (part : Part) (table : List ℕ) (can : CanViewPart (states base).shape part (length table))
    (old new : DpfsView S) (ivfc : IvfcState) (later : List ℕ) (n : ℕ)
    (base_now : old.base.now ≡ base) (place : old.part_at ≡ part.at) (difi : old.difi.now ≡ part.difi)
    (dpfs : old.state.now ≡ part.dpfs) (size : n ≡ part.difi.master.size) where
  abbrev start : ℕ
  start = part.difi.place + part.difi.master.at

  abbrev before : Under (DpfsView S)
  before = record { contents = old; master = take n (drop start table); ivfc = part.ivfc }

  abbrev after : Under (DpfsView S)
  after = record { contents = new; master = later; ivfc = ivfc }

  abbrev part_new : Part
  part_new = record part { dpfs = new.state.now; ivfc = ivfc }

  abbrev table_new : List ℕ
  table_new = put_mid start n table later

  contents_before : shown_contents states old ≡ contents_of (states base) part
  contents_before = rw (base_now, place, difi, dpfs) refl

  master_before : before.master ≡ master_of table part.difi
  master_before = rw size refl

  state_before : part_state (states base) part table ≡ under_state (shown_contents states) part.number part.difi before
  state_before =
      part_is_hashed (states base) part table can
      ∙ ap (λ (s : State). hashed_state s part.number (master_of table part.difi) part.difi part.ivfc)
      (sym contents_before)
      ∙ ap (λ (master : List ℕ). hashed_state (shown_contents states old) part.number master part.difi part.ivfc)
      (sym master_before)

  -- of what was sealed the table has the master hash
  module _ (same : SameContents old new) (many : AsManyMarks part.ivfc ivfc) (len : length later ≡ length before.master)
      (shape : (states new.base.now).shape ≡ (states base).shape) where
    contents_after : shown_contents states new ≡ contents_of (states new.base.now) part_new
    contents_after = rw (same.same_place, same.same_difi, place, difi) refl

    long : length later ≡ part.difi.master.size
    long = grind (arith, places)

    master_after : master_of table_new part.difi ≡ later
    master_after = rw size (master_back start part.difi.master.size part.difi.master.size table later can.master refl
        long)

    table_len : length table_new ≡ length table
    table_len = grind (arith, places)

    part_same : SamePart part part_new
    part_same = record {
      number = refl;
      place = refl;
      descriptor = refl;
      selector = same.selector ∙ ap (λ (d : DpfsState). d.selector) dpfs;
      copies = same.marks ∙ ap (λ (d : DpfsState). length d.touched.items) dpfs;
      hashes = many;
    }

    can_after : CanViewPart (states new.base.now).shape part_new (length table_new)
    can_after =
        true-can_view_part (states new.base.now).shape part_new (length table_new)
        (rw table_len (can_view_part-same (states base).shape (states new.base.now).shape part part_new
        (length table) shape part_same
        ∙ can_view_part-true (states base).shape part (length table) can))

    state_after : part_state (states new.base.now) part_new table_new ≡ under_state
        (shown_contents states) part.number part.difi after
    state_after =
        part_is_hashed (states new.base.now) part_new table_new can_after
        ∙ ap (λ (s : State). hashed_state s part.number (master_of table_new part.difi) part.difi ivfc)
        (sym contents_after)
        ∙ ap (λ (master : List ℕ). hashed_state (shown_contents states new) part.number master part.difi ivfc)
        master_after

    told_before : IsTrue (part_state (states base) part table).told
        → IsTrue (under_state (shown_contents states) part.number part.difi before).told
    told_before told = subst (λ (s : State). IsTrue s.told) state_before told

    -- where the tree came from, seen below
    pub came_after : (refusal : Option Bad)
        → KeepsUnderOrigins (shown_contents states) part.number part.difi before after refusal → (last : S)
        → last ≡ new.base.now
        → KeepsPartOrigins (states base) part table (states last) part_new table_new refusal
    came_after refusal below last ends told was was_master came =
        UnlessDisk-map refusal
        (λ h. rw (ends, master_after, ← contents_after) h)
        (below (told_before told) was was_master (rw (contents_before, master_before) came))

  -- no mark of a hash tree changes where it is sealed
  as_many : CountsOn part.ivfc ivfc → AsManyMarks part.ivfc ivfc
  as_many counts level = rw counts.marks refl

  -- the hashes could not be sealed
  seals_refused : (result : Result ℕ Bad) → RefusesHashes states keeps lands part.number part.difi before after result
      → SealsTrees states keeps lands base part table new.base.now part_new table_new result
  seals_refused result h =
      let hashes = h.hashes in
      let same = hashes.tree.writes.hold.0 in
      let len = hashes.tree.master_hash.same_len in
      let shape = keeps_shape old.base.now new.base.now hashes.tree.writes.hold.2 ∙ ap (λ (s : S).
      (states s).shape) base_now in
      let sites = HashSites part.difi (is_marked part.ivfc) in
      let writes : Writes (touched_state states part) (TouchedKeeps keeps) (touched_lands states lands part) sites
      (touched_of old)
      (touched_of new) (Some h.bad) = writes_down states keeps lands part old new place difi sites
      (Some h.bad) hashes.tree.writes in
      rw h.refused (record {
        selector = tt;
        plain = hashes.tree.writes.plain;
        stays = rw (state_before, state_after same (as_many hashes.counts) len shape) hashes.stays;
        same = part_same same (as_many hashes.counts) len shape;
        counts = hashes.counts;
        hold = rw base_now at hashes.tree.writes.hold.2;
        writes = inl (record {
          bad = h.bad;
          refused = refl;
          hashes = rw (base_now, dpfs) at writes;
        });
        held = λ told. tt;
        came = came_after same (as_many hashes.counts) len shape (Some h.bad) hashes.came new.base.now refl;
      })

  -- they were, and then the copies
  module _ (result : Result ℕ Bad) (h : SealsBoth states keeps lands part.number part.difi before after result) where
    first : SameContents old h.between
    first = h.hashes.tree.writes.hold.0

    both_same : SameContents old new
    both_same = record {
      same_base = h.holds.same_base ∙ first.same_base;
      same_place = h.holds.same_place ∙ first.same_place;
      same_difi = h.holds.same_difi ∙ first.same_difi;
      same_state = h.holds.same_state ∙ first.same_state;
      marks = h.holds.marks ∙ first.marks;
      selector = h.holds.selector ∙ first.selector;
    }

    both_shape : (states new.base.now).shape ≡ (states base).shape
    both_shape = h.sealed.writes.space.shape ∙ keeps_shape old.base.now h.between.base.now h.hashes.tree.writes.hold.2
        ∙ ap (λ (s : S). (states s).shape) base_now

    both_len : length later ≡ length before.master
    both_len = h.hashes.tree.master_hash.same_len

    mid_place : h.between.part_at ≡ part.at
    mid_place = first.same_place ∙ place

    mid_difi : h.between.difi.now ≡ part.difi
    mid_difi = ap (λ (d : Bor Difi). d.now) first.same_difi ∙ difi

    mid_selector : h.between.state.now.selector ≡ part.dpfs.selector
    mid_selector = first.selector ∙ ap (λ (d : DpfsState). d.selector) dpfs

    mid_tree : HasTree (shown_contents states h.between).shape part.difi (length later)
    mid_tree =
        let shape : (shown_contents states h.between).shape ≡ (contents_of (states base) part).shape =
        h.hashes.tree.writes.space.shape ∙ ap (λ (s : State). s.shape) contents_before in
        let len : length later ≡ length (master_of table part.difi) = both_len ∙ ap length master_before in
        subst (λ (n : ℕ). HasTree (shown_contents states h.between).shape part.difi n) (sym len)
        (subst (λ (s : Shape). HasTree s part.difi (length (master_of table part.difi))) (sym shape)
        (hashes_there (states base) part table (fits base can.contents.sound) can))

    contents_stay : Stays (shown_contents states h.between) (shown_contents states new) (result_err result)
    contents_stay =
        rw (h.holds.same_place, h.holds.same_difi, h.marks)
        (stays_sealed states keeps lands h.between.part_at h.between.difi.now h.between.state.now h.between.base.now
        new.base.now
        result h.sealed)

    both_stay : Stays (under_state (shown_contents states) part.number part.difi before)
        (under_state (shown_contents states) part.number part.difi after) (result_err result)
    both_stay =
        Stays-join _ _ _ (result_err result) h.hashes.stays
        (hashed_stay (shown_contents states h.between) (shown_contents states new) part.number later part.difi ivfc
        (result_err result) mid_tree contents_stay)

    mid_told : IsTrue (under_state (shown_contents states) part.number part.difi before).told
        → IsTrue (shown_contents states h.between).told
    mid_told told = (and_parts _ _ (h.hashes.stays.space.told told)).0

    both_came : KeepsUnderOrigins (shown_contents states) part.number part.difi before after (result_err result)
    both_came told was was_master came =
        UnlessDisk-map (result_err result)
        (λ (same : SameCells (shown_contents states h.between) (shown_contents states new)).
        came_on (shown_contents states h.between).shape part.difi later mid_tree (shown_contents states h.between).cells
        (shown_contents states new).cells same (is_marked ivfc) was was_master (h.hashes.came told was was_master came))
        (contents_stay.cells (mid_told told))

    -- what is held then of the base and the table
    held_after : (selector : ℕ) → IsTrue (under_state (shown_contents states) part.number part.difi before).told
        → IsTrue (under_state (shown_contents states) part.number part.difi after).told
        → ((x : ℕ) → x < view_size h.between.difi.now → chosen (bytes_of
        (states new.base.now).cells) h.between.part_at h.between.difi.now selector x
        ≡ value_of ((shown_contents states h.between).cells x))
        → SameCells (shown_contents states h.between) (shown_contents states new)
        → HasNoZeroDigest (contents_of (states new.base.now) part_new).cells part.difi (is_marked part.ivfc)
        → HoldsSealed (states new.base.now) part_new table_new selector
    held_after selector told told_after chosen_bytes same none =
        let can_new = can_after both_same (as_many h.hashes.counts) both_len both_shape in
        let behind = contents_after both_same (as_many h.hashes.counts) both_len both_shape in
        let mid = shown_contents states h.between in
        let marked = is_marked part.ivfc in
        let no_zero : HasNoZeroDigest (shown_contents states new).cells part.difi marked = rw behind none in
        let hashed = hashed_on mid.shape part.difi later mid_tree mid.cells
        (shown_contents states new).cells same marked
        (h.hashes.tree.hashed (and_parts _ _ told).0
        (zero_back mid.shape part.difi later mid_tree mid.cells (shown_contents states new).cells same marked
        no_zero)) in
        record {
          lies = record {
            view = can_new;
            small = fits new.base.now can_new.contents.sound;
            bytes = plain_bytes new.base.now can_new.contents.plain (and_parts _ _ told_after).0;
          };
          told = subst (λ (s : State). IsTrue s.told) (sym (state_after both_same
              (as_many h.hashes.counts) both_len both_shape)) told_after;
          chosen_bytes = λ x below. (
              let bytes = bytes_of (states new.base.now).cells in
              let place : chosen bytes part.at part.difi selector x ≡ chosen bytes h.between.part_at
              h.between.difi.now selector x =
              rw (mid_place, mid_difi) refl in
              place ∙ chosen_bytes x (rw mid_difi below) ∙ ap value_of (sym (same x (rw mid_difi below)))
              ∙ ap (λ (s : State). value_of (s.cells x)) behind);
          hashed = rw (
            h.hashes.counts.marks,
            master_after both_same (as_many h.hashes.counts) both_len both_shape,
            ←
                behind,
          ) hashed;
        }

    both_held : IsTrue (part_state (states base) part table).told → IfOk result (λ selector.
        HasNoZeroDigest (contents_of (states new.base.now) part_new).cells part.difi (is_marked part.ivfc)
        → HoldsSealed (states new.base.now) part_new table_new selector)
    both_held told =
        let below = subst (λ (s : State). IsTrue s.told) state_before told in
        IfOk-map result (λ selector facts. held_after selector below facts.1.0 facts.0 facts.1.1)
        (if_both _ _ result (h.sealed.chosen_bytes (mid_told below))
        (if_both _ _ result (if_done _ result (both_stay.space.told below)) (if_done _ result (contents_stay.cells
        (mid_told below)))))

    seals_copies : SealsTrees states keeps lands base part table new.base.now part_new table_new result
    seals_copies =
        let sites = HashSites part.difi (is_marked part.ivfc) in
        let writes : Writes (touched_state states part) (TouchedKeeps keeps) (touched_lands states lands part) sites
        (touched_of old)
        (touched_of h.between) None = writes_down states keeps lands part old h.between place difi sites None
        h.hashes.tree.writes in
        record {
          selector = rw mid_selector at h.sealed.selector;
          plain = h.sealed.writes.plain;
          stays = rw (state_before, state_after both_same (as_many h.hashes.counts) both_len both_shape) both_stay;
          same = part_same both_same (as_many h.hashes.counts) both_len both_shape;
          counts = h.hashes.counts;
          hold = keeps_join Hold base h.between.base.now new.base.now (rw base_now at h.hashes.tree.writes.hold.2)
              h.sealed.writes.hold;
          writes = inr (record {
            between = h.between.base.now;
            hashes = rw (base_now, dpfs, ← h.marks) at writes;
            sealed = rw (mid_place, mid_difi, ← h.marks) at h.sealed;
            spares = rw (mid_place, mid_difi, mid_selector) at h.spares;
          });
          held = both_held;
          came = came_after both_same (as_many h.hashes.counts) both_len both_shape
              (result_err result) both_came new.base.now refl;
        }

  pub seals_trees : (result : Result ℕ Bad) → SealsContents states keeps lands part.number part.difi before after result
      → (last : S) → last ≡ new.base.now → SealsTrees states keeps lands base part table last part_new table_new result
  seals_trees result seals last ends =
      rw ends (⊎_elim (λ (refused : RefusesHashes states keeps lands part.number part.difi before after result).
      seals_refused result refused)
      (λ (both : SealsBoth states keeps lands part.number part.difi before after result). seals_copies result both)
      seals)

  -- the table changed in the entries of marked blocks alone
  changes_entries : CountsOn part.ivfc ivfc → DiffersAt (MasterSites part.difi
      (is_marked part.ivfc) 1) before.master later
      → DiffersAt (IsSealedEntry part) table table_new
  changes_entries counts changes =
      let same = changes.same_len in
      table_back start n n table later (rw size can.master) refl (grind (arith, places)) (MasterSites part.difi
      (is_marked part.ivfc) 1) changes

  pub seals_master : (result : Result ℕ Bad) → SealsContents states keeps lands part.number part.difi before after
      result
      → DiffersAt (IsSealedEntry part) table table_new
  seals_master result seals =
      ⊎_elim (λ (refused : RefusesHashes states keeps lands part.number part.difi before after result).
      changes_entries refused.hashes.counts refused.hashes.tree.master_hash)
      (λ (both : SealsBoth states keeps lands part.number part.difi before after result).
      changes_entries both.hashes.counts both.hashes.tree.master_hash) seals
