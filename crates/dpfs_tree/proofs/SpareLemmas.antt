-- No byte of a chosen copy is written by a put, or by a seal.
use Rattle.std.proofs.Common.{◌≡◌, ◌≢◌, ℕ, ◌+◌, ◌-◌, ◌*◌, ◌/◌, ◌^◌, ◌<◌, ◌≤◌, true, false, Option, refl, sym, ◌∙◌, ap}
use Rattle.std.proofs.Common.{subst, arith, ⊎_elim}
use Rattle.std.proofs.lemmas.Bool.{cases_lt}
use Rattle.save_bytes.specs.declared.space.Bad.{Bad}
use Rattle.save_bytes.specs.State.{Shape, State}
use Rattle.save_bytes.specs.Spots.{Spot}
use Rattle.save_bytes.specs.Writes.{Writes}
use Rattle.save_bytes.proofs.SpaceLemmas.{UnlessDisk-map}
use Rattle.difi.specs.declared.descriptor.Difi.{Difi}
use Rattle.difi.specs.Contents.{view_size}
use Rattle.dpfs_tree.specs.declared.state.DpfsState.{DpfsState}
use Rattle.dpfs_tree.specs.Picks.{bytes_of, bit_of, pick1, pick2}
use Rattle.dpfs_tree.specs.Spares.{place3, IsChosenPlace, Spares}
use Rattle.dpfs_tree.specs.Marks.{place_by, other_place}
use Rattle.dpfs_tree.specs.View.{HasContents}
use Rattle.dpfs_tree.specs.Puts.{WritesIn}
use Rattle.dpfs_tree.specs.Seals.{SealWrites}
use Rattle.dpfs_tree.specs.SameLaws.{bit_of-lt, in_copy, behind_level3}
use Rattle.dpfs_tree.proofs.BlockLemmas.{one_copy, place_in_block, place_behind, off_level}
use Rattle.dpfs_tree.proofs.SealedLemmas.{chosen1_off, chosen2_off, view_off}

module _ (base : Shape) (part_at : ℕ) (difi : Difi) (selector : ℕ) (tree : HasContents base part_at difi selector)
    (bytes : ℕ → ℕ) where
  -- a byte of the chosen level 3 is where a view shows it that has no mark
  place3_is : (x : ℕ) → x < difi.dpfs3.size → place_by bytes part_at difi selector (λ block. false) x
      ≡ place3 bytes part_at difi selector x
  place3_is x inside = place_in_block base part_at difi selector tree bytes (λ block. false) x (x / 2 ^ difi.dpfs3.log)
      inside refl

  -- where a byte is put there is no byte of the chosen level 3
  other_off : (x y : ℕ) → x < difi.dpfs3.size → y < view_size difi
      → place3 bytes part_at difi selector x ≢ other_place bytes part_at difi selector y
  other_off x y inside in_view same =
      let bits = pick2 bytes part_at difi selector in
      let bit = bit_of bits (x / 2 ^ difi.dpfs3.log) in
      let one = bit_of-lt bits (x / 2 ^ difi.dpfs3.log) in
      ⊎_elim
      (λ (below : y < difi.dpfs3.size).
      let there = place_in_block base part_at difi selector tree bytes (λ block. true) y (y / 2 ^ difi.dpfs3.log) below
      refl in
      let at = one_copy part_at difi.dpfs3 bit x (1 - bit_of bits (y / 2 ^ difi.dpfs3.log)) y inside below
      (same ∙ there) in
      let other : bit ≡ bit_of bits (y / 2 ^ difi.dpfs3.log) =
      ap (λ (z : ℕ). bit_of bits (z / 2 ^ difi.dpfs3.log)) at.1 in
      absurd (omega (arith, at.0, other, one)))
      (λ (behind : difi.dpfs3.size ≤ y).
      let size = difi.dpfs3.size in
      let external = behind_level3 difi y behind in_view in
      let is = same ∙ place_behind base part_at difi selector tree bytes (λ block. true) y behind in
      let there = in_copy difi.dpfs3.at size bit (x + 1) (difi.dpfs3.at + 2 * size) one (omega (arith, inside))
      (omega arith) in
      (tree.external_apart external.0).2 (difi.dpfs3.at + bit * size + x) (omega (arith, is))
      (omega (arith, is, in_view, external.1, behind)) (omega arith) (omega (arith, there)))
      (cases_lt y difi.dpfs3.size)

  pub put_spares : (at n place : ℕ) → IsChosenPlace bytes part_at difi selector place
      → ¬ WritesIn bytes part_at difi selector at n place
  put_spares at n place chosen (k, y, less, inside, beside, is) =
      ⊎_elim
      (λ (x, h, here).
      off_level base part_at difi selector tree difi.dpfs1 tree.apart13 (λ external. (tree.external_apart external).0)
      bytes (λ block. true)
      y inside selector x tree.one_of_two h (sym here ∙ is))
      (λ lower.
      ⊎_elim
      (λ (x, h, here).
      let bits = pick1 bytes part_at difi selector in
      off_level base part_at difi selector tree difi.dpfs2 tree.apart23 (λ external. (tree.external_apart external).1)
      bytes (λ block. true)
      y inside (bit_of bits (x / 2 ^ difi.dpfs2.log)) x (bit_of-lt bits (x / 2 ^ difi.dpfs2.log)) h (sym here ∙ is))
      (λ (x, h, here). other_off x y h inside (sym here ∙ is))
      lower)
      chosen

pub seal_spares : (base : Shape) (part_at : ℕ) (difi : Difi) (state : DpfsState)
    → HasContents base part_at difi state.selector
    → (bytes : ℕ → ℕ) (place : ℕ) → IsChosenPlace bytes part_at difi state.selector place
    → ¬ SealWrites bytes part_at difi state place
seal_spares base part_at difi state tree bytes place chosen site =
    ⊎_elim
    (λ (x, h, here). chosen1_off base part_at difi state tree bytes x h
    (subst (SealWrites bytes part_at difi state) here site))
    (λ lower.
    ⊎_elim
    (λ (x, h, here). chosen2_off base part_at difi state tree bytes x h
    (subst (SealWrites bytes part_at difi state) here site))
    (λ (x, h, here).
    view_off base part_at difi state tree bytes (λ block. false) x (omega (arith, h))
    (subst (SealWrites bytes part_at difi state)
    (here ∙ sym (place3_is base part_at difi state.selector tree bytes x h)) site))
    lower)
    chosen

-- so a call that writes there alone spares the chosen copies
pub writes_spare : {A : Type 0} (states : A → State) (keeps : Spot → A → A → Type 0) (lands : A → ℕ → Spot → Type 0)
    (part_at : ℕ)
    (difi : Difi) (selector : ℕ) (sites : ℕ → Type 0) (s t : A) (refusal : Option Bad)
    → ((place : ℕ) → IsChosenPlace (bytes_of (states s).cells) part_at difi selector place → ¬ sites place)
    → Writes states keeps lands sites s t refusal → Spares states part_at difi selector s t refusal
writes_spare states keeps lands part_at difi selector sites s t refusal off writes told =
    UnlessDisk-map refusal (λ same. λ place inside chosen. same place inside (off place chosen)) (writes.others told)
