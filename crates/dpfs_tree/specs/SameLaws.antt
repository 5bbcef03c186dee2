-- The cells of a view are the same where those of its base are.
use Rattle.std.proofs.Common.{◌≡◌, ℕ, ◌+◌, ◌*◌, ◌/◌, ◌^◌, ◌<◌, ◌≤◌, Bool, true, false, inl, inr, add-zero, refl, arith}
use Rattle.std.proofs.Common.{⊎_elim}
use Rattle.std.specs.Int.{div_ceil}
use Rattle.std.proofs.lemmas.Bool.{cases_lt, lt-ltb, le-ltb}
use Rattle.std.proofs.lemmas.Nat.{mod_below, row_fits}
use Rattle.save_bytes.specs.State.{State, Shape}
use Rattle.save_bytes.specs.Stays.{SameCells}
use Rattle.save_bytes.specs.Spots.{Spot, LandsAsBefore}
use Rattle.difi.specs.declared.descriptor.Difi.{Difi}
use Rattle.difi.specs.Places.{blocks_of}
use Rattle.difi.specs.Contents.{view_size}
use Rattle.difi.proofs.PlaceLemmas.{block_below}
use Rattle.dpfs_tree.specs.declared.state.DpfsState.{DpfsState}
use Rattle.dpfs_tree.specs.Picks.{bytes_of, word_of_bits, bit_of, copy_place, pick1, pick2}
use Rattle.dpfs_tree.specs.Spares.{place2}
use Rattle.dpfs_tree.specs.Marks.{is_marked, copy_read, place_by, other_place}
use Rattle.dpfs_tree.specs.View.{contents_state, HasContents}
use Rattle.dpfs_tree.specs.Held.{IsBeside, MarksSpot, ContentsLand}

-- two lists with the same bytes in a word have the same bit there
pub bit_of-same : (one other : ℕ → ℕ) (k : ℕ) → ((i : ℕ) → i < 4 → one (4 * (k / 32) + i) ≡ other (4 * (k / 32) + i))
    → bit_of one k ≡ bit_of other k
unfolding bit_of word_of_bits
bit_of-same one other k same =
    let first : one (4 * (k / 32)) ≡ other (4 * (k / 32)) = simp add-zero at (same 0 (omega arith)) in
    rw (first, same 1 (omega arith), same 2 (omega arith), same 3 (omega arith)) refl

-- the word of a block's bit lies in the bits of all blocks
pub word_inside : (k blocks : ℕ) → k < blocks → 4 * (k / 32) + 4 ≤ 4 * div_ceil blocks 32
word_inside k blocks h = omega arith

-- behind level 3 there is external level four alone
external_there : (difi : Difi) (external : Bool) → difi.external ≡ external → (at : ℕ) → difi.dpfs3.size ≤ at
    → at < view_size difi → (difi.external ≡ true) × (view_size difi ≡ difi.dpfs3.size + difi.ivfc4.size)
external_there difi true is at behind inside = (is, rw is refl)
external_there difi false is at behind inside = absurd (let none = rw is at inside in omega (arith, none, behind))

pub behind_level3 : (difi : Difi) (at : ℕ) → difi.dpfs3.size ≤ at → at < view_size difi
    → (difi.external ≡ true) × (view_size difi ≡ difi.dpfs3.size + difi.ivfc4.size)
behind_level3 difi at behind inside = external_there difi difi.external refl at behind inside

-- a place of a copy lies in the base
pub in_copy : (start size copy x base : ℕ) → copy < 2 → x ≤ size → start + 2 * size ≤ base
    → start + copy * size + x ≤ base
in_copy start size copy x base h inside fits = omega (arith, row_fits copy size 2 size h (omega arith))

pub bit_of-lt : (bytes : ℕ → ℕ) (k : ℕ) → bit_of bytes k < 2
unfolding bit_of
bit_of-lt bytes k = mod_below _ 2 (omega arith)

pub copy_read-lt : (marked : Bool) (bit : ℕ) → bit < 2 → copy_read marked bit < 2
copy_read-lt true bit h = omega arith
copy_read-lt false bit h = h

-- the chosen bytes of levels 1 and 2 stand where they stood
pub record SameUpper (part_at : ℕ) (difi : Difi) (selector : ℕ) (old new : ℕ → ℕ) : Type 0 where
  pub level1 : (x : ℕ) → x < difi.dpfs1.size
      → new (copy_place part_at difi.dpfs1 selector x) ≡ old (copy_place part_at difi.dpfs1 selector x)
  pub level2 : (x : ℕ) → x < difi.dpfs2.size
      → new (place2 old part_at difi selector x) ≡ old (place2 old part_at difi selector x)

module _ (base : Shape) (part_at : ℕ) (difi : Difi) (selector : ℕ) (tree : HasContents base part_at difi selector) where
  -- bases with the same chosen bytes in levels 1 and 2
  module _ (old new : ℕ → ℕ) (upper : SameUpper part_at difi selector old new) where
    pick1-same : (x : ℕ) → x < difi.dpfs1.size → pick1 new part_at difi selector x ≡ pick1 old part_at difi selector x
    unfolding pick1
    pick1-same x h = upper.level1 x h

    pub bit1-same : (block : ℕ) → block < blocks_of difi.dpfs2
        → bit_of (pick1 new part_at difi selector) block ≡ bit_of (pick1 old part_at difi selector) block
    bit1-same block h =
        bit_of-same _ _ block
        (λ i small. pick1-same (4 * (block / 32) + i)
        (omega (arith, word_inside block (blocks_of difi.dpfs2) h, tree.bits1, small)))

    pick2-same : (x : ℕ) → x < difi.dpfs2.size → pick2 new part_at difi selector x ≡ pick2 old part_at difi selector x
    unfolding pick2
    pick2-same x h =
        let block = x / 2 ^ difi.dpfs2.log in
        rw (bit1-same block (block_below x difi.dpfs2.size difi.dpfs2.log h)) (upper.level2 x h)

    pub bit2-same : (block : ℕ) → block < blocks_of difi.dpfs3
        → bit_of (pick2 new part_at difi selector) block ≡ bit_of (pick2 old part_at difi selector) block
    bit2-same block h =
        bit_of-same _ _ block
        (λ i small. pick2-same (4 * (block / 32) + i)
        (omega (arith, word_inside block (blocks_of difi.dpfs3) h, tree.bits2, small)))

    -- choose the same places
    pub place_by-upper : (marked : ℕ → Bool) (x : ℕ) → place_by new part_at difi selector marked x
        ≡ place_by old part_at difi selector marked x
    unfolding place_by
    place_by-upper marked x =
        ⊎_elim
        (λ (below : x < difi.dpfs3.size).
        let bit = bit2-same (x / 2 ^ difi.dpfs3.log) (block_below x difi.dpfs3.size difi.dpfs3.log below) in
        rw (lt-ltb x difi.dpfs3.size below, bit) refl)
        (λ (behind : difi.dpfs3.size ≤ x). rw (le-ltb x difi.dpfs3.size behind) refl)
        (cases_lt x difi.dpfs3.size)

  -- so do bases with the same bytes
  pub upper_same : (old new : ℕ → ℕ) → ((x : ℕ) → x < base.size → new x ≡ old x)
      → SameUpper part_at difi selector old new
  upper_same old new same = record {
    level1 = λ x h.
        (let there = in_copy (part_at + difi.dpfs1.at) difi.dpfs1.size selector (x + 1) base.size tree.one_of_two
        (omega (arith, h)) tree.level1 in
        same _ (omega (arith, there)));
    level2 = λ x h.
        (let bits = pick1 old part_at difi selector in
        let block = x / 2 ^ difi.dpfs2.log in
        let start : ℕ = part_at + difi.dpfs2.at in
        let there = in_copy start difi.dpfs2.size (bit_of bits block) (x + 1) base.size (bit_of-lt bits block)
        (omega (arith, h)) tree.level2 in
        same _ (omega (arith, there)));
  }

  pub place_by-same : (old new : ℕ → ℕ) → ((x : ℕ) → x < base.size → new x ≡ old x) → (marked : ℕ → Bool) (x : ℕ)
      → place_by new part_at difi selector marked x ≡ place_by old part_at difi selector marked x
  place_by-same old new same = place_by-upper old new (upper_same old new same)

  -- and that place lies in the base
  pub place_by-inside : (marked : ℕ → Bool) (bytes : ℕ → ℕ) (x : ℕ) → x < view_size difi
      → place_by bytes part_at difi selector marked x < base.size
  unfolding place_by
  place_by-inside marked bytes x inside =
      ⊎_elim
      (λ (below : x < difi.dpfs3.size).
      let block = x / 2 ^ difi.dpfs3.log in
      let bit = bit_of (pick2 bytes part_at difi selector) block in
      let one = copy_read-lt (marked block) bit (bit_of-lt (pick2 bytes part_at difi selector) block) in
      let start : ℕ = part_at + difi.dpfs3.at in
      let there = in_copy start difi.dpfs3.size (copy_read (marked block) bit) (x + 1) base.size one
      (omega (arith, below)) tree.level3 in
      rw (lt-ltb x difi.dpfs3.size below) (omega (arith, there)))
      (λ (behind : difi.dpfs3.size ≤ x).
      let external = behind_level3 difi x behind inside in
      rw (le-ltb x difi.dpfs3.size behind) (omega (arith, inside, external.1, tree.external external.0)))
      (cases_lt x difi.dpfs3.size)

  -- a put into the view touches no spot that it would not have touched, where that is so of the base
  pub lands_by-upper : (old new : ℕ → ℕ) → SameUpper part_at difi selector old new → (lands later : ℕ → Spot → Type 0)
      → LandsAsBefore base.size lands later
      → LandsAsBefore (view_size difi) (ContentsLand old part_at difi selector lands)
      (ContentsLand new part_at difi selector later)
  lands_by-upper old new upper lands later as_before x below spot =
      ⊎_elim
      (λ (found : (y : ℕ) × (y < view_size difi) × IsBeside difi x y
      × later (other_place new part_at difi selector y) spot).
      let there : other_place new part_at difi selector found.0 ≡ other_place old part_at difi selector found.0 =
      place_by-upper old new upper (λ block. true) found.0 in
      let lands_new : later (other_place old part_at difi selector found.0) spot = rw there at found.3 in
      inl (found.0, found.1, found.2, as_before _ (place_by-inside (λ block. true) old found.0 found.1) spot lands_new))
      (λ (mark : MarksSpot difi x spot). inr mark)

  pub lands_as_before : (old new : ℕ → ℕ) → ((x : ℕ) → x < base.size → new x ≡ old x)
      → (lands later : ℕ → Spot → Type 0)
      → LandsAsBefore base.size lands later
      → LandsAsBefore (view_size difi) (ContentsLand old part_at difi selector lands)
      (ContentsLand new part_at difi selector later)
  lands_as_before old new same = lands_by-upper old new (upper_same old new same)

-- the same cells where the base's are the same
pub view_cells : (base new : State) (part_at : ℕ) (difi : Difi) (state : DpfsState)
    → HasContents base.shape part_at difi state.selector → SameCells base new
    → SameCells (contents_state base part_at difi state) (contents_state new part_at difi state)
view_cells base new part_at difi state tree same = λ x inside.
    (let marked = is_marked state.touched.items in
    let there = place_by-same base.shape part_at difi state.selector tree (bytes_of base.cells) (bytes_of new.cells)
    (λ y h. rw (same y h) refl) marked x in
    rw there (same _ (place_by-inside base.shape part_at difi state.selector tree marked (bytes_of base.cells) x
    inside)))
