-- A table whose selector is patched behind a seal.
use Rattle.std.proofs.Common.{◌≡◌, ◌≢◌, ℕ, ◌+◌, ◌<◌, ◌≤◌, IsTrue, List, length, set, slice_index, Result, Ok, Err}
use Rattle.std.proofs.Common.{refl, sym, ◌∙◌, ap, subst, arith}
use Rattle.std.proofs.lemmas.List.{places, same_lists, length-set, get_or-set_same, get_or-set_other}
use Rattle.save_bytes.specs.declared.space.Bad.{Bad}
use Rattle.save_bytes.specs.State.{Shape, State}
use Rattle.save_bytes.specs.Spots.{Spot}
use Rattle.save_bytes.proofs.CallLemmas.{IfOk-map}
use Rattle.difi.specs.declared.descriptor.Difi.{Difi}
use Rattle.difi.specs.Places.{blocks_of}
use Rattle.difi.proofs.SoundLemmas.{is_read}
use Rattle.difi.proofs.KeptLemmas.{keeps_parts, reading-kept}
use Rattle.ivfc_tree.specs.Marks.{is_marked}
use Rattle.ivfc_tree.specs.Seals.{DiffersAt, HasNoZeroDigest}
use Rattle.ivfc_tree.specs.Levels.{level_of}
use Rattle.part_store.specs.declared.part.Part.{Part}
use Rattle.part_store.specs.Parts.{master_of, contents_of, part_state, CanViewPart}
use Rattle.part_store.specs.Ends.{plain_cell, HoldsSealed}
use Rattle.part_store.specs.Seals.{SealsTrees, SealsTable, IsSealedEntry, IsSealedPart, selector_place}
use Rattle.part_store.proofs.SealLemmas.{plain_sealed}

-- what is held of a table is held of one as long with the same master hash
held_again : (base : State) (part : Part) (table next : List ℕ) (selector : ℕ) → length next ≡ length table
    → master_of next part.difi ≡ master_of table part.difi → part_state base part next ≡ part_state base part table
    → HoldsSealed base part table selector → HoldsSealed base part next selector
held_again base part table next selector len master state holds = record {
  lies = rw len holds.lies;
  told = subst (λ (s : State). IsTrue s.told) (sym state) holds.told;
  chosen_bytes = holds.chosen_bytes;
  hashed = rw master holds.hashed;
}

-- so what a seal of the trees leaves is left with such a table
pub trees_again : {A : Type 0} (states : A → State) (keeps : Spot → A → A → Type 0) (lands : A → ℕ → Spot → Type 0)
    (base : A) (part : Part) (table : List ℕ) (base_new : A) (part_new : Part) (mid next : List ℕ)
    (result : Result ℕ Bad)
    → length next ≡ length mid → master_of next part.difi ≡ master_of mid part.difi
    → SealsTrees states keeps lands base part table base_new part_new mid result
    → SealsTrees states keeps lands base part table base_new part_new next result
trees_again states keeps lands base part table base_new part_new mid next result len same_master trees =
    let master : master_of next part_new.difi ≡ master_of mid part_new.difi = rw trees.same.descriptor same_master in
    let state : part_state (states base_new) part_new next ≡ part_state (states base_new) part_new mid = rw
    (len, master) refl in
    record {
      selector = trees.selector;
      plain = trees.plain;
      stays = rw state trees.stays;
      same = trees.same;
      counts = trees.counts;
      hold = trees.hold;
      writes = trees.writes;
      held = λ told. IfOk-map result
          (λ selector holds none. held_again (states base_new) part_new mid next selector len master state
          (holds none)) (trees.held told);
      came = λ told was was_master came. rw master (trees.came told was was_master came);
    }

module _ (base : Shape) (part : Part) (table : List ℕ) (can : CanViewPart base part (length table)) where
  -- the selector lies off the master hash
  off_master : (x : ℕ) → x ≡ selector_place part.difi → part.difi.place + part.difi.master.at ≤ x
      → x < part.difi.place + part.difi.master.at + part.difi.master.size → ⊥
  off_master x is from below = can.apart 0x39 (omega arith) (omega arith) (omega (arith, is, from)) (omega
      (arith, is, below))

  pub master_patched : (mid : List ℕ) (selector : ℕ) → length mid ≡ length table
      → master_of (set mid (selector_place part.difi) selector) part.difi ≡ master_of mid part.difi
  master_patched mid selector len =
      same_lists _ _ (let same = length-set mid (selector_place part.difi) selector in grind (arith, places, same))
      (λ k d h. (let off = off_master (part.difi.place + part.difi.master.at + k) in
      let other : part.difi.place + part.difi.master.at + k ≢ selector_place part.difi =
      λ is. off is (omega arith) (grind (arith, places)) in
      grind (
        arith,
        places,
        get_or-set_other mid (selector_place part.difi)
            (part.difi.place + part.difi.master.at + k) selector d other,
      )))

  -- and the entries of marked blocks lie in it
  entry_inside : (x : ℕ) → IsSealedEntry part x → (part.difi.place + part.difi.master.at ≤ x)
      × (x < part.difi.place + part.difi.master.at + part.difi.master.size)
  unfolding level_of
  entry_inside x (k, is, (block, (here, (one, within)))) =
      let entries = can.contents.partition.levels.hash_levels.entries1 in
      let below : block < blocks_of part.difi.ivfc1 = here.there.in_level in
      (omega (arith, is), omega (arith, is, within.1, below, entries))

  module _ (mid : List ℕ) (changes : DiffersAt (IsSealedEntry part) table mid) where
    -- a table whose selector is patched
    pub seals_done : (selector : ℕ) → selector < 2
        → SealsTable part table (set mid (selector_place part.difi) selector) (Ok selector)
    seals_done selector chosen =
        let difi = part.difi in
        let place = selector_place difi in
        let new = set mid place selector in
        let len : length new ≡ length table = length-set mid place selector ∙ changes.same_len in
        let inside : place < length mid = omega (arith, can.difi, changes.same_len) in
        let is_set : slice_index new place ≡ selector = get_or-set_same mid place selector 0 inside in
        let others : (x : ℕ) → x ≢ place → ¬ IsSealedEntry part x → slice_index new x ≡ slice_index table x =
        λ x other off. get_or-set_other mid place x selector 0 other ∙ changes.others x off in
        record {
          same_len = len;
          others = others;
          selector = is_set;
          refused = tt;
          descriptor = λ size part_len h. (
              let kept = keeps_parts table new size part_len difi (is_read table difi.place size part_len difi
              h).sound len
              (λ x other out. others x other (λ site. (let within = entry_inside x site in out within.0 within.1))) in
              reading-kept table new size part_len difi kept (rw is_set chosen) h
              ∙ ap (λ s. Ok (record difi { selector = s })) is_set);
        }

    -- and one where the seal was refused
    pub seals_refused : (bad : Bad) → SealsTable part table mid (Err bad)
    seals_refused bad = record {
      same_len = changes.same_len;
      others = λ x other off. changes.others x off;
      selector = tt;
      refused = changes.others (selector_place part.difi)
          (λ site. (let within = entry_inside (selector_place part.difi) site in off_master _ refl within.0 within.1));
      descriptor = λ size part_len h. tt;
    }

-- a part that was sealed, over a table whose selector was patched
module _ {A : Type 0} (states : A → State) (keeps : Spot → A → A → Type 0) (lands : A → ℕ → Spot → Type 0)
    (base : A) (part : Part) (table : List ℕ) (can : CanViewPart (states base).shape part (length table))
    (base_new : A) (part_new : Part)
    (mid next : List ℕ) (selector : ℕ) (changes : DiffersAt (IsSealedEntry part) table mid)
    (trees : SealsTrees states keeps lands base part table base_new part_new mid (Ok selector))
    (byte : next ≡ set mid (selector_place part_new.difi) selector) where
  patched : next ≡ set mid (selector_place part.difi) selector
  patched = byte ∙ ap (λ (d : Difi). set mid (selector_place d) selector) trees.same.descriptor

  trees_patched : SealsTrees states keeps lands base part table base_new part_new next (Ok selector)
  trees_patched =
      trees_again states keeps lands base part table base_new part_new mid next (Ok selector)
      (ap length patched ∙ length-set mid (selector_place part.difi) selector)
      (ap (λ (t : List ℕ). master_of t part.difi) patched ∙ master_patched
      (states base).shape part table can mid selector changes.same_len)
      trees

  table_patched : selector < 2 → SealsTable part table next (Ok selector)
  table_patched chosen = rw patched (seals_done (states base).shape part table can mid changes selector chosen)

  -- the base and the table alone give the cells that the part had
  cells_patched : IsTrue (part_state (states base) part table).told
      → HasNoZeroDigest (contents_of (states base_new) part_new).cells part.difi (is_marked part.ivfc) → (x : ℕ)
      → x < part.difi.ivfc4.size
      → plain_cell (states base_new) part selector next x ≡ (part_state (states base) part table).cells x
  cells_patched told none x inside =
      let same = trees.same in
      let again : plain_cell (states base_new) part selector next x ≡ plain_cell
      (states base_new) part_new selector next x =
      rw (same.number, same.place, same.descriptor) refl in
      again ∙ plain_sealed (states base_new) part_new next selector (trees_patched.held told none) x
      (rw same.descriptor inside)
      ∙ trees_patched.stays.cells told x inside

  pub sealed_patched : selector < 2 → IsSealedPart states keeps lands base part table base_new part_new next
      (Ok selector)
  sealed_patched chosen = record {
    trees = trees_patched;
    descriptor = table_patched chosen;
    cells = cells_patched;
  }
