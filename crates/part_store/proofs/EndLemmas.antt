-- What a part tells once a transaction has ended.
use Rattle.std.proofs.Common.{◌≡◌, ℕ, zero, suc, ◌+◌, ◌/◌, ◌<◌, Bool, true, false, IsTrue, List, length, refl, sym}
use Rattle.std.proofs.Common.{◌∙◌, ap, subst}
use Rattle.std.proofs.lemmas.Bool.{and_parts, and_from}
use Rattle.save_bytes.specs.Cells.{Cell, Byte, IsByte}
use Rattle.save_bytes.specs.CellNumbers.{value_of}
use Rattle.save_bytes.specs.State.{State}
use Rattle.difi.specs.declared.places.LevelPlace.{LevelPlace}
use Rattle.difi.specs.declared.descriptor.Difi.{Difi}
use Rattle.difi.specs.Places.{block_size}
use Rattle.difi.specs.Contents.{view_size}
use Rattle.dpfs_tree.specs.Picks.{bytes_of, pick1, pick2, pick3, chosen}
use Rattle.dpfs_tree.specs.Marks.{place_of}
use Rattle.ivfc_tree.specs.declared.path.BlockState.{BlockState}
use Rattle.ivfc_tree.specs.declared.state.IvfcState.{IvfcState}
use Rattle.ivfc_tree.specs.Levels.{level_of, HasBlock, padded_block, hash_entry, parent_of}
use Rattle.ivfc_tree.specs.Marks.{mark_at, is_marked, HasNoMarks}
use Rattle.ivfc_tree.specs.Paths.{own_state, marked_state, block_state, cell_in}
use Rattle.ivfc_tree.specs.Known.{Agrees, Remembers, remembers as remembers_test}
use Rattle.ivfc_tree.specs.KnownLaws.{true-remembers, remembers-true}
use Rattle.ivfc_tree.specs.Settles.{SettlesHashed, RemembersOrigin}
use Rattle.ivfc_tree.specs.ViewLaws.{block_of_there, place_inside, state-same}
use Rattle.ivfc_tree.proofs.PathLemmas.{state_is}
use Rattle.ivfc_tree.proofs.LearnLemmas.{remembers_later}
use Rattle.part_store.specs.declared.part.Part.{Part}
use Rattle.part_store.specs.Parts.{master_of, contents_of, part_state}
use Rattle.part_store.specs.PartLaws.{hashes_there, can_view_part-true, true-can_view_part}
use Rattle.part_store.specs.Spots.{SamePart}
use Rattle.part_store.specs.SpotLaws.{can_view_part-same}
use Rattle.part_store.specs.Ends.{chosen_cells, plain_cell, LiesInBytes, HasNoChanges, TellsSettled, HoldsOrigin}
use Rattle.part_store.specs.Ends.{TellsOrigin}
use Rattle.part_store.proofs.PartLemmas.{byte_value}

-- the bytes of the contents are those that the selector chooses
abbrev pub ShowsChosen : State → Part → ℕ → Type 0
ShowsChosen base part selector = (x : ℕ) → bytes_of base.cells (place_of
    (bytes_of base.cells) part.at part.difi part.dpfs x)
    ≡ chosen (bytes_of base.cells) part.at part.difi selector x

pub contents_chosen : (base : State) (part : Part) (selector : ℕ) → ((x : ℕ) → IsByte (base.cells x))
    → ShowsChosen base part selector → (x : ℕ) → (contents_of base part).cells x ≡ chosen_cells base part selector x
contents_chosen base part selector bytes shows x =
    sym (byte_value (base.cells (place_of (bytes_of base.cells) part.at part.difi part.dpfs x)) (bytes _)) ∙ ap Byte
    (shows x)

-- so the cells are those that the base and the table alone give
pub plain_cells : (base : State) (part : Part) (table : List ℕ) (selector : ℕ) → LiesInBytes base part (length table)
    → HasNoMarks part.ivfc → ShowsChosen base part selector → (x : ℕ) → x < part.difi.ivfc4.size
    → (part_state base part table).cells x ≡ plain_cell base part selector table x
plain_cells base part table selector lies none shows x inside =
    let tree = hashes_there base part table lies.small lies.view in
    let same = contents_chosen base part selector lies.bytes shows in
    rw (
      state-same (contents_of base part).shape part.difi (master_of table part.difi) tree (contents_of base part).cells
          (chosen_cells base part selector) (λ y below. same y) (is_marked part.ivfc) (λ level block. false) none 4
          (x / block_size part.difi.ivfc4) (block_of_there part.difi x inside),
      same ((level_of part.difi 4).at + x),
    ) refl

-- a part in neither of whose trees a block is marked
pub no_changes : (part : Part) (selector : ℕ) → part.dpfs.selector ≡ selector
    → ((bytes : ℕ → ℕ) (part_at x : ℕ) (difi : Difi)
    → bytes (place_of bytes part_at difi part.dpfs x) ≡ chosen bytes part_at difi selector x)
    → HasNoMarks part.ivfc → HasNoChanges part
no_changes part selector selects contents none =
    let chosen_bytes : (bytes : ℕ → ℕ) (x : ℕ) → bytes (place_of bytes part.at part.difi part.dpfs x)
    ≡ chosen bytes part.at part.difi part.dpfs.selector x = λ bytes x. contents bytes part.at x part.difi
    ∙ ap (λ (s : ℕ). chosen bytes part.at part.difi s x) (sym selects) in
    record {
      chosen = chosen_bytes;
      paths = λ cells master. state_is cells master part.difi (is_marked part.ivfc) none;
      cells = λ base table lies. plain_cells base part table part.dpfs.selector lies none (chosen_bytes
          (bytes_of base.cells));
    }

-- a descriptor with another selector has the same trees
module _ (difi : Difi) (selector : ℕ) where
  abbrev turned : Difi
  turned = record difi { selector = selector }

  level_turned : (level : ℕ) → level_of turned level ≡ level_of difi level
  unfolding level_of
  level_turned level = refl

  own_turned : (cells : ℕ → Cell) (master : List ℕ) (level block : ℕ)
      → own_state cells master turned level block ≡ own_state cells master difi level block
  unfolding hash_entry padded_block level_of
  own_turned cells master level block = refl

  parent_turned : (upper block : ℕ) → parent_of turned upper block ≡ parent_of difi upper block
  unfolding level_of
  parent_turned upper block = refl

  state_turned : (cells : ℕ → Cell) (master : List ℕ) (marked : ℕ → ℕ → Bool) (level block : ℕ)
      → marked_state cells master turned marked level block ≡ marked_state cells master difi marked level block
  unfolding marked_state
  state_turned cells master marked zero block = refl
  state_turned cells master marked (suc level) block =
      rw (
        own_turned cells master (suc level) block,
        parent_turned level block,
        state_turned cells master marked level
            (parent_of difi level block),
      ) refl

  there_turned : (level block : ℕ) → HasBlock turned level block → HasBlock difi level block
  there_turned level block there = record {
    in_tree = there.in_tree;
    in_level = rw
        (level_turned level) at there.in_level;
  }

  remembers_turned : (cells : ℕ → Cell) (master : List ℕ) (state : IvfcState) → Remembers cells master difi state
      → Remembers cells master turned state
  remembers_turned cells master state h = record {
    closed = λ upper block some there is.
        rw (parent_turned upper block) (h.closed upper block some (there_turned (suc upper) block there) is);
    agrees = λ level block there.
        subst (λ (found : BlockState). Agrees (mark_at state level block) level block found)
        (sym (state_turned cells master (is_marked state) level block)) (h.agrees level block
        (there_turned level block there));
  }

  chosen_turned : (bytes : ℕ → ℕ) (part_at at x : ℕ) → chosen bytes part_at turned at x ≡ chosen bytes part_at difi at x
  unfolding chosen pick3 pick2 pick1
  chosen_turned bytes part_at at x = refl

-- so has one that is the same but for it
module _ (difi other : Difi) (selector : ℕ) (is : other ≡ record difi { selector = selector }) where
  level_again : (level : ℕ) → level_of other level ≡ level_of difi level
  level_again level = rw is (level_turned difi selector level)

  state_again : (cells : ℕ → Cell) (table : List ℕ) (marked : ℕ → ℕ → Bool) (x : ℕ)
      → marked_state cells (master_of table other) other marked 4 (x / block_size other.ivfc4)
      ≡ marked_state cells (master_of table difi) difi marked 4 (x / block_size difi.ivfc4)
  state_again cells table marked x =
      rw is (state_turned difi selector cells (master_of table difi) marked 4 (x / block_size difi.ivfc4))

  remembers_again : (cells : ℕ → Cell) (master : List ℕ) (state : IvfcState) → Remembers cells master difi state
      → Remembers cells master other state
  remembers_again cells master state h = rw is (remembers_turned difi selector cells master state h)

  chosen_again : (bytes : ℕ → ℕ) (part_at at x : ℕ) → chosen bytes part_at other at x ≡ chosen bytes part_at difi at x
  chosen_again bytes part_at at x = rw is (chosen_turned difi selector bytes part_at at x)

  master_again : (table : List ℕ) → master_of table other ≡ master_of table difi
  master_again table = rw is refl

pub cell_same : (found next : BlockState) (number later value another : ℕ) → found ≡ next → number ≡ later
    → value ≡ another
    → cell_in found number value ≡ cell_in next later another
cell_same found next number later value another state part byte = rw (state, part, byte) refl

-- where the sealed form is held, the part that takes its selector tells what it told
pub tells_settled : (old new : Part) (selector : ℕ) → new.number ≡ old.number → new.at ≡ old.at
    → new.difi ≡ record old.difi { selector = selector } → ((base : State) → ShowsChosen base new selector)
    → SettlesHashed old.ivfc new.ivfc → TellsSettled selector old new
tells_settled old new selector number place descriptor shows settles base table holds =
    let difi = old.difi in
    let contents = contents_of base old in
    let now = contents_of base new in
    let master = master_of table difi in
    let lies = holds.lies in
    let tree = hashes_there base old table lies.small lies.view in
    let both = and_parts _ _ holds.told in
    let ended = settles contents.shape contents.cells master difi tree
    (true-remembers contents.cells master difi old.ivfc both.1) holds.hashed in
    let same : (x : ℕ) → x < view_size difi → now.cells x ≡ contents.cells x = λ x below.
    contents_chosen base new selector lies.bytes (shows base) x
    ∙ ap Byte (rw place (chosen_again difi new.difi selector descriptor (bytes_of base.cells) old.at selector x)
    ∙ holds.chosen_bytes x below)
    ∙ byte_value (contents.cells x) (lies.bytes _) in
    let remembers : Remembers now.cells master difi new.ivfc =
    remembers_later contents master difi tree (record contents { cells = now.cells }) new.ivfc same ended.remembers in
    let known : remembers_test now.cells (master_of table new.difi) new.difi new.ivfc ≡ true =
    rw (master_again difi new.difi selector descriptor table)
    (remembers-true now.cells master new.difi new.ivfc (remembers_again difi new.difi selector descriptor now.cells
    master new.ivfc remembers)) in
    record {
      told = and_from _ _ both.0 known;
      cells = λ x inside. (
          let block = x / block_size difi.ivfc4 in
          let there = block_of_there difi x inside in
          let marked = is_marked new.ivfc in
          let state : marked_state now.cells (master_of table new.difi) new.difi marked 4
          (x / block_size new.difi.ivfc4)
          ≡ block_state contents.cells master difi old.ivfc 4 block =
          state_again difi new.difi selector descriptor now.cells table marked x
          ∙ state-same contents.shape difi master tree now.cells contents.cells same marked marked
          (λ level block. refl) 4 block there
          ∙ ended.blocks 4 block there in
          let value : value_of (now.cells ((level_of new.difi 4).at + x)) ≡ value_of (contents.cells
          ((level_of difi 4).at + x)) =
          ap (λ (level : LevelPlace). value_of (now.cells (level.at + x)))
          (level_again difi new.difi selector descriptor 4)
          ∙ ap value_of (same _ (place_inside contents.shape difi (length master) x tree inside)) in
          cell_same _ _ new.number old.number _ _ state number value);
    }

-- where the origin is held, the part whose changes are dropped tells it
module _ (old new : Part) (kept : SamePart old new) (shows : (base : State)
    → ShowsChosen base new old.dpfs.selector) where
  told_origin : RemembersOrigin old.ivfc new.ivfc → (was : ℕ → Cell) (base : State) (table was_table : List ℕ)
      → HoldsOrigin was base old table was_table → IsTrue (part_state base new was_table).told
  told_origin origin was base table was_table holds =
      let difi = old.difi in
      let contents = contents_of base old in
      let now = contents_of base new in
      let lies = holds.lies in
      let tree = hashes_there base old was_table lies.small (rw holds.same_len lies.view) in
      let both = and_parts _ _ holds.told in
      let same : (x : ℕ) → now.cells x ≡ chosen_cells base old old.dpfs.selector x = λ x.
      contents_chosen base new old.dpfs.selector lies.bytes (shows base) x ∙ rw (kept.place, kept.descriptor) refl in
      let remembers = origin contents.shape was contents.cells now.cells (master_of was_table difi)
      (master_of table difi) difi
      tree (true-remembers contents.cells (master_of table difi) difi old.ivfc both.1) holds.came
      (λ x inside off. same x ∙ holds.back x inside off) in
      let known : remembers_test now.cells (master_of was_table new.difi) new.difi new.ivfc ≡ true =
      subst (λ (d : Difi). remembers_test now.cells (master_of was_table d) d new.ivfc ≡ true) (sym kept.descriptor)
      (remembers-true now.cells (master_of was_table difi) difi new.ivfc remembers) in
      and_from _ _ both.0 known

  lies_still : (base : State) (n : ℕ) → LiesInBytes base old n → LiesInBytes base new n
  lies_still base n lies = record {
    view = true-can_view_part base.shape new n
        (can_view_part-same base.shape base.shape old new n refl kept ∙ can_view_part-true base.shape old n lies.view);
    small = lies.small;
    bytes = lies.bytes;
  }

  pub tells_origin : RemembersOrigin old.ivfc new.ivfc → HasNoMarks new.ivfc → TellsOrigin old new
  tells_origin origin none = record {
    told = told_origin origin;
    cells = λ base was was_table lies chosen x inside. (
        let difi = old.difi in
        let selector = old.dpfs.selector in
        let master = master_of was_table difi in
        let tree = hashes_there base old was_table lies.small lies.view in
        let there = block_of_there difi x inside in
        let none_marked : ℕ → ℕ → Bool = λ level block. false in
        let state = state-same (contents_of base old).shape difi master tree (chosen_cells base old selector)
        (chosen_cells was old selector) chosen none_marked none_marked (λ level block. refl) 4
        (x / block_size difi.ivfc4) there in
        let value = chosen _ (place_inside (contents_of base old).shape difi (length master) x tree inside) in
        plain_cells base new was_table selector (lies_still base (length was_table) lies) none (shows base) x
        (rw kept.descriptor inside)
        ∙ rw (kept.number, kept.place, kept.descriptor) refl
        ∙ cell_same _ _ old.number old.number _ _ state refl (ap value_of value));
  }
