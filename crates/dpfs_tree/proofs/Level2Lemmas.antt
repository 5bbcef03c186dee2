-- Blocks of level 2, their bits, and what sealing one of them leaves.
use Rattle.std.proofs.Common.{◌≡◌, ℕ, ◌+◌, ◌-◌, ◌*◌, ◌/◌, ◌^◌, ◌<◌, ◌≤◌, min, Bool, true}
use Rattle.std.proofs.Common.{false, IsTrue, Option, None, List, length, refl, sym, ◌∙◌, ap, subst, arith, ⊎_elim}
use Rattle.std.specs.Int.{div_ceil}
use Rattle.std.proofs.Math.Nat.{mul-div-mul_left, div-div-eq-div-mul, div-eq_of_eq-mul_left}
use Rattle.std.proofs.lemmas.Bool.{cases_lt}
use Rattle.std.proofs.lemmas.Nat.{pow_pos, div-add-mod', div-mul-add, mod_below}
use Rattle.std.proofs.lemmas.List.{get_or_past}
use Rattle.save_bytes.specs.declared.space.Bad.{Bad}
use Rattle.save_bytes.specs.Cells.{Cell}
use Rattle.save_bytes.specs.State.{Shape, State}
use Rattle.save_bytes.specs.Refusals.{IfDone}
use Rattle.save_bytes.specs.Spots.{Spot, Frame, Hold}
use Rattle.save_bytes.specs.Reads.{Reads}
use Rattle.save_bytes.specs.Writes.{IsWithin, Writes}
use Rattle.save_bytes.proofs.SpaceLemmas.{IfDone-map}
use Rattle.save_bytes.proofs.WriteLemmas.{Writes-wider, writes_after}
use Rattle.dpfs_tree.specs.Copies.{CanCopy}
use Rattle.difi.specs.declared.descriptor.Difi.{Difi}
use Rattle.difi.specs.Places.{blocks_of}
use Rattle.difi.proofs.PlaceLemmas.{block_begins}
use Rattle.dpfs_tree.specs.declared.state.DpfsState.{DpfsState}
use Rattle.dpfs_tree.specs.declared.blocks.BlockCopies.{BlockCopies}
use Rattle.dpfs_tree.specs.Picks.{bytes_of, bit_of, copy_place, pick1}
use Rattle.dpfs_tree.specs.Marks.{is_marked, copy_read, IsMadeForContents}
use Rattle.dpfs_tree.specs.View.{HasContents}
use Rattle.dpfs_tree.specs.Puts.{AreCopiesAt}
use Rattle.dpfs_tree.specs.Turns.{AreTurned, IsTurned}
use Rattle.dpfs_tree.specs.Seals.{bits_in, HasMark, SealsBlock, IsBlockSealed}
use Rattle.dpfs_tree.specs.SameLaws.{SameUpper, upper_same, word_inside, bit1-same, bit2-same}
use Rattle.dpfs_tree.proofs.PickLemmas.{four_parts}
use Rattle.dpfs_tree.proofs.BitLemmas.{bit_of-pick2, word_block_below}
use Rattle.dpfs_tree.proofs.BlockLemmas.{begin, ends, in_block, can_copy_block}
use Rattle.dpfs_tree.proofs.SealLemmas.{turned_bit}

-- the block of a bit's word, by the bit
pub word_block : (k log : ℕ) → 2 ≤ log → 4 * (k / 32) / 2 ^ log ≡ k / (8 * 2 ^ log)
word_block k log least =
    let c = 2 ^ (log - 2) in
    let eight : 8 * (4 * c) ≡ 32 * c = omega arith in
    rw (four_parts log least, eight) (mul-div-mul_left (k / 32) c (omega arith) ∙ div-div-eq-div-mul k 32 c)

-- a bit lies in its block
pub in_bits : (bits block k : ℕ) → IsWithin (bits * block) bits k → k / bits ≡ block
in_bits bits block k within =
    let place : k ≡ block * bits + (k - bits * block) = omega (arith, within.0) in
    ap (λ (n : ℕ). n / bits) place ∙ div-mul-add block bits (k - bits * block) (omega (arith, within.0, within.1))

pub of_bits : (bits k : ℕ) → 0 < bits → IsWithin (bits * (k / bits)) bits k
of_bits bits k some =
    let split = div-add-mod' k bits in
    let rest = mod_below k bits some in
    (omega (arith, split), omega (arith, split, rest))

-- a mark that is set is one of a block of level 3
pub marked_below : (touched : List Bool) (k : ℕ) → is_marked touched k ≡ true → k < length touched
marked_below touched k marked =
    ⊎_elim (λ (below : k < length touched). below)
    (λ (past : length touched ≤ k). absurd (let none = get_or_past touched k false past in cc))
    (cases_lt k (length touched))

module _ (base : Shape) (part_at : ℕ) (difi : Difi) (state : DpfsState)
    (tree : HasContents base part_at difi state.selector) where
  -- the block of level 2 in which a block of level 3 has its bit
  pub bit_block_below : (k : ℕ) → k < blocks_of difi.dpfs3 → k / bits_in difi < blocks_of difi.dpfs2
  bit_block_below k less =
      subst (λ (b : ℕ). b < blocks_of difi.dpfs2) (word_block k difi.dpfs2.log (omega (arith, tree.log2.0)))
      (word_block_below difi k less tree.bits2)

  -- a block with a mark is one of level 2
  pub marked_block_below : (block : ℕ) → IsMadeForContents difi state → HasMark difi state block
      → block < blocks_of difi.dpfs2
  marked_block_below block made (k, within, marked) =
      subst (λ (b : ℕ). b < blocks_of difi.dpfs2) (in_bits (bits_in difi) block k within)
      (bit_block_below k (omega (arith, marked_below state.touched.items k marked, made.marks)))

  -- and begins in it
  pub begins_at : (block at : ℕ) → at ≡ block * 2 ^ difi.dpfs2.log → IsMadeForContents difi state
      → HasMark difi state block
      → at < difi.dpfs2.size
  begins_at block at at_is made marked =
      omega (arith, block_begins block difi.dpfs2.size difi.dpfs2.log (marked_block_below block made marked), at_is)

  -- what a block that was sealed holds, by bases with the same chosen bytes
  pub sealed_before : (old mid new : ℕ → Cell) (block : ℕ)
      → SameUpper part_at difi state.selector (bytes_of old) (bytes_of mid)
      → IsBlockSealed part_at difi state mid block new → IsBlockSealed part_at difi state old block new
  sealed_before old mid new block upper sealed k less here =
      let one = bit1-same base part_at difi state.selector tree (bytes_of old) (bytes_of mid) upper (k / bits_in difi)
      (bit_block_below k less) in
      let two = bit2-same base part_at difi state.selector tree (bytes_of old) (bytes_of mid) upper k less in
      rw (one, two) at (sealed k less here)

  module _ (block at chosen : ℕ) (copies : BlockCopies) (at_is : at ≡ block * 2 ^ difi.dpfs2.log)
      (below : at < difi.dpfs2.size)
      (are : AreCopiesAt part_at difi.dpfs2 at chosen copies) where
    at_block : at / 2 ^ difi.dpfs2.log ≡ block
    at_block = div-eq_of_eq-mul_left (pow_pos difi.dpfs2.log) at_is

    at_begins : begin part_at difi.dpfs2 at chosen copies are below ≡ at
    at_begins =
        let split = div-add-mod' at (2 ^ difi.dpfs2.log) in
        let row = ap (λ (q : ℕ). q * 2 ^ difi.dpfs2.log) at_block in
        omega (arith, split, at_is, row)

    -- a place of its other copy
    pub sealed_site : (bytes : ℕ → ℕ) → HasMark difi state block
        → chosen ≡ bit_of (pick1 bytes part_at difi state.selector) block
        → (place : ℕ) → IsWithin copies.to copies.len place → SealsBlock bytes part_at difi state block place
    sealed_site bytes marked is place within =
        let start = begin part_at difi.dpfs2 at chosen copies are below in
        let x : ℕ = start + (place - copies.to) in
        let inside : x < difi.dpfs2.size =
        omega (arith, within.0, within.1, ends part_at difi.dpfs2 at chosen copies are below) in
        let here : x / 2 ^ difi.dpfs2.log ≡ block =
        in_block part_at difi.dpfs2 at chosen copies are below x (omega arith) (omega (arith, within.0, within.1))
        ∙ at_block in
        let there : place ≡ copy_place part_at difi.dpfs2 (1 - chosen) x = omega (arith, within.0, are.to) in (
          x,
          inside,
          here,
          marked,
          there ∙ ap (λ (c : ℕ). copy_place part_at difi.dpfs2 (1 - c) x) is,
        )

    -- its bits are turned where the words of its copies are
    pub block_sealed : (old new : ℕ → Cell) (first count words : ℕ) → first ≡ at / 4
        → words ≡ div_ceil (blocks_of difi.dpfs3) 32
        → count ≡ min (copies.len / 4) (words - first) → chosen
        ≡ bit_of (pick1 (bytes_of old) part_at difi state.selector) block
        → AreTurned (is_marked state.touched.items) old copies.from copies.to first count new
        → IsBlockSealed part_at difi state old block new
    block_sealed old new first count words first_is words_is count_is is turned k less here =
        let level = difi.dpfs2 in
        let bits1 = pick1 (bytes_of old) part_at difi state.selector in
        let four = four_parts level.log (omega (arith, tree.log2.0)) in
        let scaled = ap (λ (n : ℕ). block * n) four in
        let four_at : 4 * first ≡ at = omega (arith, first_is, at_is, scaled) in
        let from : ℕ = part_at + level.at + chosen * level.size in
        let to : ℕ = part_at + level.at + (1 - chosen) * level.size in
        let from_is : copies.from ≡ from + 4 * first = omega (arith, are.from, at_begins, four_at) in
        let to_is : copies.to ≡ to + 4 * first = omega (arith, are.to, at_begins, four_at) in
        let within = of_bits (bits_in difi) k (omega (arith, pow_pos level.log)) in
        let low : bits_in difi * block ≤ k = rw here at within.0 in
        let high : k < bits_in difi * block + bits_in difi = rw here at within.1 in
        let word = word_inside k (blocks_of difi.dpfs3) less in
        let by_block : k / 32 < first + copies.len / 4 = omega
        (arith, word, tree.bits2, are.len, at_begins, four_at, at_is, four, high) in
        let by_words : k / 32 < words = omega (arith, words_is, less) in
        let moved : AreTurned (is_marked state.touched.items) old (from + 4 * first) (to + 4 * first) first count new =
        rw (from_is, to_is) at turned in
        let bit = turned_bit (is_marked state.touched.items) old new from to first count k moved
        (omega (arith, low, four_at, at_is))
        (omega (arith, by_block, by_words, count_is)) in
        let own : chosen ≡ bit_of bits1 (4 * (k / 32) / 2 ^ level.log) =
        is ∙ ap (λ (b : ℕ). bit_of bits1 b) (sym (word_block k level.log (omega (arith, tree.log2.0)) ∙ here)) in
        let read = bit_of-pick2 (bytes_of old) part_at difi state.selector from chosen k tree.log2.0 refl own in
        let copy : chosen ≡ bit_of bits1 (k / bits_in difi) = is ∙ ap (λ (b : ℕ). bit_of bits1 b) (sym here) in
        ap (λ (c : ℕ). bit_of (λ x. bytes_of new (copy_place part_at level (1 - c) x)) k) (sym copy) ∙ bit
        ∙ ap (copy_read (is_marked state.touched.items k)) read

-- what sealing a block leaves behind a call that reads
module _ {A : Type 0} (states : A → State) (keeps : Spot → A → A → Type 0) (lands : A → ℕ → Spot → Type 0)
    (join : (spot : Spot) (s t u : A) → keeps spot s t → keeps spot t u → keeps spot s u)
    (hold : (s t : A) → keeps Frame s t → keeps Hold s t) (s m t : A) (part_at : ℕ) (difi : Difi) (state : DpfsState)
    (tree : HasContents (states s).shape part_at difi state.selector) (made : IsMadeForContents difi state)
    (block at chosen : ℕ) (touched : HasMark difi state block) (at_is : at ≡ block * 2 ^ difi.dpfs2.log)
    (copies : BlockCopies)
    (are : AreCopiesAt part_at difi.dpfs2 at chosen copies) (one : chosen < 2)
    (reads : Reads states keeps lands s m None)
    (bit : IsTrue (states s).told
    → chosen ≡ bit_of (pick1 (bytes_of (states s).cells) part_at difi state.selector) block) where
  block_at : at < difi.dpfs2.size
  block_at = begins_at (states s).shape part_at difi state tree block at at_is made touched

  pub seals_copy : CanCopy (states m).shape copies.from copies.to copies.len
  seals_copy =
      subst (λ (shape : Shape). CanCopy shape copies.from copies.to copies.len) (sym reads.stays.space.shape)
      (can_copy_block part_at difi.dpfs2 at chosen copies are block_at (states s).shape difi state.selector tree
      tree.level2 one)

  module _ (refusal : Option Bad) where
    pub seals_block : (first count words : ℕ) → first ≡ at / 4 → words ≡ div_ceil (length state.touched.items) 32
        → count ≡ min (copies.len / 4) (words - first)
        → (IsTrue (states m).told → IfDone refusal
        (IsTurned (is_marked state.touched.items) (states m).cells copies.from copies.to copies.len first count
        (states t).cells))
        → IsTrue (states s).told
        → IfDone refusal (IsBlockSealed part_at difi state (states s).cells block (states t).cells)
    seals_block first count words first_is words_is count_is turned told =
        let shape = (states s).shape in
        let old = (states s).cells in
        let mid = (states m).cells in
        let upper = upper_same shape part_at difi state.selector tree (bytes_of old) (bytes_of mid)
        (λ x less. rw (reads.stays.cells told x less) refl) in
        let same = bit1-same shape part_at difi state.selector tree (bytes_of old) (bytes_of mid) upper block
        (marked_block_below shape part_at difi state tree block made touched) in
        IfDone-map refusal
        (λ (is : IsTurned (is_marked state.touched.items) mid copies.from copies.to copies.len first count
        (states t).cells).
        sealed_before shape part_at difi state tree old mid (states t).cells block upper
        (block_sealed shape part_at difi state tree block at chosen copies at_is block_at are mid (states t).cells first
        count words
        first_is (words_is ∙ ap (λ (n : ℕ). div_ceil n 32) made.marks) count_is (bit told ∙ sym same) is.words))
        (turned (reads.stays.space.told told))

    pub seals_there : Writes states keeps lands (IsWithin copies.to copies.len) m t refusal
        → Writes states keeps lands (SealsBlock (bytes_of (states s).cells) part_at difi state block) s t refusal
    seals_there writes =
        Writes-wider states keeps lands (IsWithin copies.to copies.len)
        (SealsBlock (bytes_of (states s).cells) part_at difi state block) s t refusal
        (λ told x inside within.
        sealed_site (states s).shape part_at difi state tree block at chosen copies at_is block_at are
        (bytes_of (states s).cells)
        touched (bit told) x within)
        (writes_after states keeps lands join hold (IsWithin copies.to copies.len) s m t refusal reads writes)
