-- What is left by sealing all blocks of level 2, and level 1.
use Rattle.std.proofs.Common.{◌≡◌, ℕ, ◌+◌, ◌-◌, ◌*◌, ◌/◌, ◌^◌, ◌<◌, ◌≤◌, Bool}
use Rattle.std.proofs.Common.{true, false, IsTrue, Option, refl, sym, ◌∙◌, ap, subst, arith, inl, inr, ⊎_elim}
use Rattle.std.specs.Int.{div_ceil}
use Rattle.std.proofs.lemmas.Bool.{cases_lt, cases_Bool}
use Rattle.std.proofs.lemmas.Nat.{pow_pos}
use Rattle.save_bytes.specs.declared.space.Bad.{Bad}
use Rattle.save_bytes.specs.Cells.{Cell}
use Rattle.save_bytes.specs.CellNumbers.{value_of}
use Rattle.save_bytes.specs.State.{Shape, State}
use Rattle.save_bytes.specs.Refusals.{UnlessDisk}
use Rattle.save_bytes.specs.Stays.{SameCells}
use Rattle.save_bytes.specs.Spots.{Spot}
use Rattle.save_bytes.specs.Writes.{Writes}
use Rattle.save_bytes.proofs.SpaceLemmas.{UnlessDisk-map}
use Rattle.difi.specs.declared.descriptor.Difi.{Difi}
use Rattle.difi.specs.Places.{blocks_of}
use Rattle.difi.specs.Contents.{view_size}
use Rattle.difi.proofs.PlaceLemmas.{block_below}
use Rattle.dpfs_tree.specs.declared.state.DpfsState.{DpfsState}
use Rattle.dpfs_tree.specs.Picks.{bytes_of, bit_of, copy_place, pick1, pick2, chosen}
use Rattle.dpfs_tree.specs.Spares.{place2}
use Rattle.dpfs_tree.specs.Marks.{is_marked, copy_read, place_by, place_of}
use Rattle.dpfs_tree.specs.View.{HasContents, contents_state}
use Rattle.dpfs_tree.specs.Turns.{AreTurned}
use Rattle.dpfs_tree.specs.Seals.{bits_in, has_mark, HasMark, SealsBlock, SealsLevel1, SealsLevel2, SealWrites}
use Rattle.dpfs_tree.specs.Seals.{IsBlockSealed, AreBlocksSealed, IsLevel1Sealed}
use Rattle.dpfs_tree.specs.SameLaws.{SameUpper, bit_of-same, bit_of-lt, in_copy, word_inside, bit1-same, bit2-same}
use Rattle.dpfs_tree.specs.SameLaws.{place_by-upper, place_by-inside}
use Rattle.dpfs_tree.proofs.PickLemmas.{word_in_block}
use Rattle.dpfs_tree.proofs.BitLemmas.{bit_of-pick1, bit_of-pick2}
use Rattle.dpfs_tree.proofs.BlockLemmas.{levels_apart, one_copy, off_level}
use Rattle.dpfs_tree.proofs.MarkLemmas.{some_marked-not, some_marked-found}
use Rattle.dpfs_tree.proofs.SealLemmas.{turned_bit, sealed_chosen}
use Rattle.dpfs_tree.proofs.Level2Lemmas.{word_block, of_bits, bit_block_below, sealed_before}

module _ (base : Shape) (part_at : ℕ) (difi : Difi) (state : DpfsState)
    (tree : HasContents base part_at difi state.selector) where
  -- the bits of the other copy of level 1
  pub level1_sealed : (old new : ℕ → Cell) (from to words : ℕ)
      → from ≡ part_at + difi.dpfs1.at + state.selector * difi.dpfs1.size
      → to ≡ part_at + difi.dpfs1.at + (1 - state.selector) * difi.dpfs1.size
      → words ≡ div_ceil (blocks_of difi.dpfs2) 32
      → AreTurned (has_mark (bits_in difi) state) old from to 0 words new → IsLevel1Sealed part_at difi state old new
  level1_sealed old new from to words from_is to_is words_is turned block less =
      let start : from + 4 * 0 ≡ from = omega arith in
      let end : to + 4 * 0 ≡ to = omega arith in
      let moved : AreTurned (has_mark (bits_in difi) state) old (from + 4 * 0) (to + 4 * 0) 0 words new =
      rw (start, end) turned in
      let bit = turned_bit (has_mark (bits_in difi) state) old new from to 0 words block moved (omega arith)
      (omega (arith, words_is, less)) in
      sym (bit_of-pick1 (bytes_of new) part_at difi (1 - state.selector) to block to_is) ∙ bit
      ∙ ap (copy_read (has_mark (bits_in difi) state block))
      (bit_of-pick1 (bytes_of old) part_at difi state.selector from block from_is)

  -- a seal writes no byte of a chosen copy of levels 1 and 2
  module _ (bytes : ℕ → ℕ) where
    pub chosen1_off : (x : ℕ) → x < difi.dpfs1.size
        → ¬ SealWrites bytes part_at difi state (copy_place part_at difi.dpfs1 state.selector x)
    chosen1_off x inside site =
        ⊎_elim
        (λ (one : SealsLevel1 part_at difi state.selector (copy_place part_at difi.dpfs1 state.selector x)).
        let same = one_copy part_at difi.dpfs1 state.selector x (1 - state.selector) one.0 inside one.1 one.2 in
        absurd (omega (arith, same.0, tree.one_of_two)))
        (λ (two : SealsLevel2 bytes part_at difi state (copy_place part_at difi.dpfs1 state.selector x)).
        levels_apart part_at difi.dpfs1 difi.dpfs2 tree.apart12 state.selector x
        (1 - bit_of (pick1 bytes part_at difi state.selector) two.0) two.1.0 tree.one_of_two inside (omega arith)
        two.1.1 two.1.4)
        site

    pub chosen2_off : (x : ℕ) → x < difi.dpfs2.size
        → ¬ SealWrites bytes part_at difi state (place2 bytes part_at difi state.selector x)
    chosen2_off x inside site =
        let bits = pick1 bytes part_at difi state.selector in
        let copy = bit_of bits (x / 2 ^ difi.dpfs2.log) in
        ⊎_elim
        (λ (one : SealsLevel1 part_at difi state.selector (place2 bytes part_at difi state.selector x)).
        levels_apart part_at difi.dpfs1 difi.dpfs2 tree.apart12 (1 - state.selector) one.0 copy x (omega arith) one.1
        (bit_of-lt bits (x / 2 ^ difi.dpfs2.log)) inside (sym one.2))
        (λ (two : SealsLevel2 bytes part_at difi state (place2 bytes part_at difi state.selector x)).
        let same = one_copy part_at difi.dpfs2 copy x (1 - bit_of bits two.0) two.1.0 inside two.1.1 two.1.4 in
        let block : x / 2 ^ difi.dpfs2.log ≡ two.0 = ap (λ (n : ℕ). n / 2 ^ difi.dpfs2.log) same.1 ∙ two.1.2 in
        let bit : copy ≡ bit_of bits two.0 = ap (bit_of bits) block in
        absurd (omega (arith, same.0, bit, bit_of-lt bits (x / 2 ^ difi.dpfs2.log))))
        site

  -- nor one of level 3, or of external level four
  pub view_off : (bytes : ℕ → ℕ) (marks : ℕ → Bool) (x : ℕ) → x < view_size difi
      → ¬ SealWrites bytes part_at difi state (place_by bytes part_at difi state.selector marks x)
  view_off bytes marks x inside site =
      let place = place_by bytes part_at difi state.selector marks x in
      ⊎_elim
      (λ (one : SealsLevel1 part_at difi state.selector place).
      off_level base part_at difi state.selector tree difi.dpfs1 tree.apart13
      (λ external. (tree.external_apart external).0) bytes marks
      x inside (1 - state.selector) one.0 (omega arith) one.1 (sym one.2))
      (λ (two : SealsLevel2 bytes part_at difi state place).
      off_level base part_at difi state.selector tree difi.dpfs2 tree.apart23
      (λ external. (tree.external_apart external).1) bytes marks
      x inside (1 - bit_of (pick1 bytes part_at difi state.selector) two.0) two.1.0 (omega arith) two.1.1 (sym two.1.4))
      site

  -- a byte of the word of a bit lies in each copy of level 2, and a copy in the base
  word_below : (k i : ℕ) → k < blocks_of difi.dpfs3 → i < 4 → 4 * (k / 32) + i < difi.dpfs2.size
  word_below k i less small = omega (arith, word_inside k (blocks_of difi.dpfs3) less, tree.bits2, small)

  level2_below : (copy x : ℕ) → copy < 2 → x < difi.dpfs2.size → copy_place part_at difi.dpfs2 copy x < base.size
  level2_below copy x one inside =
      omega (
        arith,
        in_copy (part_at + difi.dpfs2.at) difi.dpfs2.size copy (x + 1) base.size one (omega (arith, inside))
            tree.level2,
      )

  -- so these bytes stand where they stood
  pub upper_sealed : (old new : ℕ → Cell)
      → ((x : ℕ) → x < base.size → ¬ SealWrites (bytes_of old) part_at difi state x → new x ≡ old x)
      → SameUpper part_at difi state.selector (bytes_of old) (bytes_of new)
  upper_sealed old new stays = record {
    level1 = λ x h.
        (let there = in_copy (part_at + difi.dpfs1.at) difi.dpfs1.size state.selector (x + 1) base.size tree.one_of_two
        (omega (arith, h)) tree.level1 in
        rw (stays (copy_place part_at difi.dpfs1 state.selector x) (omega (arith, there))
        (chosen1_off (bytes_of old) x h)) refl);
    level2 = λ x h.
        (let bits = pick1 (bytes_of old) part_at difi state.selector in
        let copy = bit_of bits (x / 2 ^ difi.dpfs2.log) in
        let there = level2_below copy x (bit_of-lt bits (x / 2 ^ difi.dpfs2.log)) h in
        rw (stays (copy_place part_at difi.dpfs2 copy x) there (chosen2_off (bytes_of old) x h)) refl);
  }

  -- the places of a block, by what the base was before other blocks were sealed
  pub block_site : (old now : ℕ → Cell) (n : ℕ)
      → ((x : ℕ) → x < base.size → ¬ SealsLevel2 (bytes_of old) part_at difi state x → now x ≡ old x) → (place : ℕ)
      → SealsBlock (bytes_of now) part_at difi state n place → SealsLevel2 (bytes_of old) part_at difi state place
  block_site old now n stays place (x, inside, here, marked, is) =
      let upper = upper_sealed old now (λ y y_in off. stays y y_in (λ site. off (inr site))) in
      let below : n < blocks_of difi.dpfs2 = subst (λ (b : ℕ). b < blocks_of difi.dpfs2) here
      (block_below x difi.dpfs2.size difi.dpfs2.log inside) in
      let bit = bit1-same base part_at difi state.selector tree (bytes_of old) (bytes_of now) upper n below in
      (n, (x, inside, here, marked, is ∙ ap (λ (c : ℕ). copy_place part_at difi.dpfs2 (1 - c) x) bit))

  -- the place of a byte of the word of a bit, in its block
  word_place : (k i : ℕ) → i < 4 → (4 * (k / 32) + i) / 2 ^ difi.dpfs2.log ≡ k / bits_in difi
  word_place k i less = word_in_block (k / 32) i difi.dpfs2.log tree.log2.0 less
      ∙ word_block k difi.dpfs2.log (omega (arith, tree.log2.0))

  -- one block more was sealed
  pub sealed_more : (old now new : ℕ → Cell) (n : ℕ)
      → ((x : ℕ) → x < base.size → ¬ SealsLevel2 (bytes_of old) part_at difi state x → now x ≡ old x)
      → ((x : ℕ) → x < base.size → ¬ SealsBlock (bytes_of now) part_at difi state n x → new x ≡ now x)
      → AreBlocksSealed part_at difi state old n now
      → (HasMark difi state n → IsBlockSealed part_at difi state now n new)
      → AreBlocksSealed part_at difi state old (n + 1) new
  sealed_more old now new n stays then_stays before step k less below marked =
      let block = k / bits_in difi in
      ⊎_elim
      (λ (front : block < n).
      let copy = bit_of (pick1 (bytes_of old) part_at difi state.selector) block in
      bit_of-same _ _ k
      (λ i small.
      (let x : ℕ = 4 * (k / 32) + i in
      let inside = word_below k i less small in
      let same = then_stays (copy_place part_at difi.dpfs2 (1 - copy) x)
      (level2_below (1 - copy) x (omega arith) inside)
      (λ (y, y_in, of_n, its, is).
      (let at_y = (one_copy part_at difi.dpfs2 (1 - copy) x _ y inside y_in is).1 in
      let of_block = word_place k i small in
      let here : block ≡ n = sym of_block ∙ ap (λ (m : ℕ). m / 2 ^ difi.dpfs2.log) at_y ∙ of_n in
      omega (arith, here, front))) in
      ap value_of same))
      ∙ before k less front marked)
      (λ (last : n ≤ block).
      let here : block ≡ n = omega (arith, last, below) in
      let upper = upper_sealed old now (λ x inside off. stays x inside (λ site. off (inr site))) in
      sealed_before base part_at difi state tree old now new n upper
      (step (subst (λ (b : ℕ). HasMark difi state b) here marked)) k less here)
      (cases_lt block n)

  -- level 2 was sealed, and then level 1
  module _ (old mid new : ℕ → Cell)
      (stays : (x : ℕ) → x < base.size → ¬ SealsLevel2 (bytes_of old) part_at difi state x → mid x ≡ old x)
      (then_stays : (x : ℕ) → x < base.size → ¬ SealsLevel1 part_at difi state.selector x → new x ≡ mid x)
      (blocks : AreBlocksSealed part_at difi state old (blocks_of difi.dpfs2) mid)
      (level1 : IsLevel1Sealed part_at difi state mid new) where
    abbrev bits1 : ℕ → ℕ
    bits1 = bit_of (pick1 (bytes_of old) part_at difi state.selector)

    both_stay : (x : ℕ) → x < base.size → ¬ SealWrites (bytes_of old) part_at difi state x → new x ≡ old x
    both_stay x inside off = then_stays x inside (λ site. off (inl site)) ∙ stays x inside (λ site. off (inr site))

    upper_mid : SameUpper part_at difi state.selector (bytes_of old) (bytes_of mid)
    upper_mid = upper_sealed old mid (λ x inside off. stays x inside (λ site. off (inr site)))

    upper_new : SameUpper part_at difi state.selector (bytes_of old) (bytes_of new)
    upper_new = upper_sealed old new both_stay

    -- the copy of a block of level 2 that is chosen then
    block_copy : (block : ℕ) → block < blocks_of difi.dpfs2
        → bit_of (pick1 (bytes_of new) part_at difi (1 - state.selector)) block
        ≡ copy_read (has_mark (bits_in difi) state block) (bits1 block)
    block_copy block less =
        level1 block less
        ∙ ap (copy_read (has_mark (bits_in difi) state block))
        (bit1-same base part_at difi state.selector tree (bytes_of old) (bytes_of mid) upper_mid block less)

    abbrev IsTurnedBit : ℕ → Type 0
    IsTurnedBit k = bit_of (pick2 (bytes_of new) part_at difi (1 - state.selector)) k
        ≡ copy_read (is_marked state.touched.items k) (bit_of (pick2 (bytes_of old) part_at difi state.selector) k)

    -- a bit is read in the copy of its block
    read_bit : (k selector copy : ℕ) → copy ≡ bit_of (pick1 (bytes_of new) part_at difi selector) (k / bits_in difi)
        → bit_of (λ x. bytes_of new (copy_place part_at difi.dpfs2 copy x)) k
        ≡ bit_of (pick2 (bytes_of new) part_at difi selector) k
    read_bit k selector copy is =
        bit_of-pick2 (bytes_of new) part_at difi selector (part_at + difi.dpfs2.at + copy * difi.dpfs2.size) copy k
        tree.log2.0 refl
        (is ∙ ap (bit_of (pick1 (bytes_of new) part_at difi selector))
        (sym (word_block k difi.dpfs2.log (omega (arith, tree.log2.0)))))

    marked_bit : (k : ℕ) → k < blocks_of difi.dpfs3 → has_mark (bits_in difi) state (k / bits_in difi) ≡ true
        → IsTurnedBit k
    marked_bit k less marked =
        let block = k / bits_in difi in
        let below = bit_block_below base part_at difi state tree k less in
        let copy : 1 - bits1 block ≡ bit_of (pick1 (bytes_of new) part_at difi (1 - state.selector)) block =
        sym (block_copy block below ∙ ap (λ (m : Bool). copy_read m (bits1 block)) marked) in
        sym (read_bit k (1 - state.selector) (1 - bits1 block) copy)
        ∙ bit_of-same _ _ k
        (λ i small.
        (let x : ℕ = 4 * (k / 32) + i in
        let inside = word_below k i less small in
        let same = then_stays (copy_place part_at difi.dpfs2 (1 - bits1 block) x)
        (level2_below (1 - bits1 block) x (omega arith) inside)
        (λ (y, y_in, is). levels_apart part_at difi.dpfs1 difi.dpfs2 tree.apart12 (1 - state.selector) y
        (1 - bits1 block) x (omega arith) y_in (omega arith) inside (sym is)) in
        ap value_of same))
        ∙ blocks k less below (some_marked-found (is_marked state.touched.items) _ _ marked)

    unmarked_bit : (k : ℕ) → k < blocks_of difi.dpfs3 → has_mark (bits_in difi) state (k / bits_in difi) ≡ false
        → IsTurnedBit k
    unmarked_bit k less none =
        let block = k / bits_in difi in
        let below = bit_block_below base part_at difi state tree k less in
        let within = of_bits (bits_in difi) k (omega (arith, pow_pos difi.dpfs2.log)) in
        let mark : is_marked state.touched.items k ≡ false = some_marked-not (is_marked state.touched.items) _ _ k none
        within in
        let copy : bits1 block ≡ bit_of (pick1 (bytes_of new) part_at difi (1 - state.selector)) block =
        sym (block_copy block below ∙ ap (λ (m : Bool). copy_read m (bits1 block)) none) in
        let own : bits1 block ≡ bit_of (pick1 (bytes_of new) part_at difi state.selector) block =
        sym (bit1-same base part_at difi state.selector tree (bytes_of old) (bytes_of new) upper_new block below) in
        sym (read_bit k (1 - state.selector) (bits1 block) copy) ∙ read_bit k state.selector (bits1 block) own
        ∙ bit2-same base part_at difi state.selector tree (bytes_of old) (bytes_of new) upper_new k less
        ∙ ap (λ (m : Bool). copy_read m (bit_of (pick2 (bytes_of old) part_at difi state.selector) k)) (sym mark)

    turned_bits : (k : ℕ) → k < blocks_of difi.dpfs3 → IsTurnedBit k
    turned_bits k less =
        ⊎_elim (marked_bit k less) (unmarked_bit k less) (cases_Bool (has_mark (bits_in difi) state (k / bits_in difi)))

    -- with the other selector the base has the view's bytes
    pub seal_chosen : (x : ℕ) → x < view_size difi
        → chosen (bytes_of new) part_at difi (1 - state.selector) x
        ≡ value_of (old (place_of (bytes_of old) part_at difi state x))
    seal_chosen = sealed_chosen (bytes_of old) (bytes_of new) part_at difi state (1 - state.selector) turned_bits
        (λ x inside.
        ap value_of (both_stay _
        (place_by-inside base part_at difi state.selector tree (is_marked state.touched.items) (bytes_of old) x
        inside)
        (view_off (bytes_of old) (is_marked state.touched.items) x inside)))

  -- a view stays as it is shown
  pub seal_shown : (old new : State)
      → ((x : ℕ) → x < base.size → ¬ SealWrites (bytes_of old.cells) part_at difi state x → new.cells x ≡ old.cells x)
      → SameCells (contents_state old part_at difi state) (contents_state new part_at difi state)
  seal_shown old new stays x inside =
      let marks = is_marked state.touched.items in
      let bytes = bytes_of old.cells in
      let there : place_of (bytes_of new.cells) part_at difi state x ≡ place_of bytes part_at difi state x =
      place_by-upper base part_at difi state.selector tree bytes (bytes_of new.cells)
      (upper_sealed old.cells new.cells stays) marks x in
      ap new.cells there
      ∙ stays (place_of bytes part_at difi state x)
      (place_by-inside base part_at difi state.selector tree marks bytes x inside)
      (view_off bytes marks x inside)

-- so a call that writes where a seal may leaves the view as it is shown
pub seal_kept : {A : Type 0} (states : A → State) (keeps : Spot → A → A → Type 0) (lands : A → ℕ → Spot → Type 0)
    (s t : A) (part_at : ℕ)
    (difi : Difi) (state : DpfsState) (refusal : Option Bad) → HasContents (states s).shape part_at difi state.selector
    → Writes states keeps lands (SealWrites (bytes_of (states s).cells) part_at difi state) s t refusal
    → IsTrue (states s).told
    → UnlessDisk refusal (SameCells (contents_state (states s) part_at difi state)
    (contents_state (states t) part_at difi state))
seal_kept states keeps lands s t part_at difi state refusal tree writes told =
    UnlessDisk-map refusal (seal_shown (states s).shape part_at difi state tree (states s) (states t))
    (writes.others told)
