-- A partition's cells through both of its trees.
use Rattle.std.proofs.Common.{Bool, true, false, ◌&&◌, suc, ◌≡◌, ℕ, ◌+◌, ◌^◌, ◌<◌, IsTrue, List, length}
use Rattle.std.proofs.Common.{Option, Some, None, Result, Ok, Err, refl, sym, ◌∙◌, ap, subst, arith}
use Rattle.std.proofs.lemmas.Bool.{and_parts}
use Rattle.save_bytes.specs.declared.space.Bad.{Bad}
use Rattle.save_bytes.specs.Cells.{Cell, Byte, Blank, Spoilt, IsByte}
use Rattle.save_bytes.specs.CellNumbers.{value_of}
use Rattle.save_bytes.specs.State.{Shape, State, IsInside}
use Rattle.difi.specs.declared.places.LevelPlace.{LevelPlace}
use Rattle.difi.specs.declared.descriptor.Difi.{Difi}
use Rattle.std.specs.Borrow.{Bor}
use Rattle.std.specs.Result.{result_err}
use Rattle.save_bytes.specs.declared.space.Bad.TheVariants.{Disk, Damaged}
use Rattle.save_bytes.specs.Refusals.{NeverDamaged}
use Rattle.save_bytes.specs.Answers.{IsPiece}
use Rattle.save_bytes.specs.Stays.{Stays}
use Rattle.save_bytes.proofs.SpaceLemmas.{UnlessDisk-map}
use Rattle.difi.specs.Contents.{view_size}
use Rattle.dpfs_tree.specs.declared.state.DpfsState.{DpfsState}
use Rattle.dpfs_tree.specs.View.{contents_state, IsLocated}
use Rattle.dpfs_tree.proofs.SameLemmas.{view_stays as contents_stay}
use Rattle.ivfc_tree.specs.Levels.{level_of, level4_of}
use Rattle.ivfc_tree.specs.declared.state.IvfcState.{IvfcState}
use Rattle.ivfc_tree.specs.View.{HasTree as HasHashes, IsVerified}
use Rattle.ivfc_tree.specs.View.{view_state as hashed_state}
use Rattle.ivfc_tree.specs.Marks.{is_marked, IsEmpty}
use Rattle.ivfc_tree.specs.KnownLaws.{remembers-true}
use Rattle.ivfc_tree.specs.ViewLaws.{place_inside}
use Rattle.ivfc_tree.proofs.LevelLemmas.{level4_is}
use Rattle.ivfc_tree.proofs.ViewLemmas.{byte_cell, view_stays as hashed_stay}
use Rattle.part_store.specs.declared.part.Part.{Part}
use Rattle.part_store.specs.Spots.{SamePart, KeepsMarks}
use Rattle.part_store.specs.SpotLaws.{SamePart-same, KeepsMarks-part, can_view_part-same}
use Rattle.ivfc_tree.specs.ViewLaws.{can_view_hashes-true}
use Rattle.part_store.specs.PartLaws.{hash_view, contents_there, hashes_there, can_view_part-true, true-can_view_part}
use Rattle.part_store.specs.Parts.{HasNoMemory, master_of, contents_of, hashed_of, part_state, CanViewPart, can_view_part, IsFound}

-- the place of a byte of level four in the contents
pub place_there : (base : State) (part : Part) (table : List ℕ) (at : ℕ) → base.shape.size < 2 ^ 64
    → CanViewPart base.shape part (length table) → at < part.difi.ivfc4.size
    → (level4_of part.difi).at + at < view_size part.difi
place_there base part table at small view inside =
    let there = place_inside (contents_of base part).shape part.difi (length (master_of table part.difi)) at (hashes_there base part table small view) inside in
    subst (λ (level : LevelPlace). level.at + at < view_size part.difi) (level4_is part.difi) there

-- a byte of level four lies in the contents
pub four_small : (contents : Shape) (difi : Difi) (master_len at : ℕ) → HasHashes contents difi master_len → at < difi.ivfc4.size
    → (level4_of difi).at + at < 2 ^ 64
four_small contents difi master_len at tree inside =
    let there : (level4_of difi).at + at < contents.size =
    subst (λ (level : LevelPlace). level.at + at < contents.size) (level4_is difi) (place_inside contents difi master_len at tree inside) in
    omega (arith, there, tree.levels.small)

pub byte_value : (cell : Cell) → IsByte cell → Byte (value_of cell) ≡ cell
byte_value (Byte value) byte = refl
byte_value (Blank part level block) byte = absurd byte
byte_value (Spoilt part level block) byte = absurd byte

-- bytes that could not be located
pub unlocated : (s base : State) (at most : ℕ) (bad : Bad) → NeverDamaged (Some bad) → IsFound s base at most (Err bad)
unlocated s base at most Disk never = record { some = tt; bounded = tt; inside = tt; in_base = tt; cells = λ told. tt; damaged = λ told. tt }
unlocated s base at most (Damaged part level block) never = absurd never

-- where verified bytes of level four lie in the base of the contents
module _ (first mid last : State) (part_at : ℕ) (difi : Difi) (dpfs : DpfsState) (number : ℕ) (master : List ℕ) (ivfc : IvfcState)
    (at most n : ℕ) (tree : HasHashes first.shape difi (length master)) (verified : IsVerified (hashed_state first number master difi ivfc) at most (Ok n))
    (stays : Stays first (contents_state mid part_at difi dpfs) None) (bytes : IsTrue mid.told → (x : ℕ) → IsByte (mid.cells x)) where
  found : (place m : ℕ) → IsLocated mid part_at difi dpfs ((level4_of difi).at + at) n (Ok (place, m)) → Stays mid last None
      → IsFound (hashed_state first number master difi ivfc) last at most (Ok (place, m))
  found place m located later =
      let size : last.shape.size ≡ mid.shape.size = ap (λ (shape : Shape). shape.size) later.space.shape in
      let four : (level_of difi 4).at ≡ (level4_of difi).at = ap (λ (level : LevelPlace). level.at) (level4_is difi) in
      record {
        some = located.some;
        bounded = omega (arith, located.bounded, verified.bounded);
        inside = omega (arith, located.bounded, verified.inside);
        in_base = omega (arith, located.in_base, size);
        cells = λ told k h. (
            let below : IsTrue first.told = (and_parts _ _ told).0 in
            let told_mid : IsTrue mid.told = stays.space.told below in
            let within : at + k < difi.ivfc4.size = omega (arith, h, located.bounded, verified.inside) in
            let there : (level4_of difi).at + at + k ≡ (level_of difi 4).at + (at + k) = omega (arith, four) in
            let in_first : (level4_of difi).at + at + k < first.shape.size =
            omega (arith, there, place_inside first.shape difi (length master) (at + k) tree within) in
            let same : last.cells (place + k) ≡ mid.cells (place + k) = later.cells told_mid (place + k) (omega (arith, h, located.in_base)) in
            let shown : first.cells ((level4_of difi).at + at + k) ≡ last.cells (place + k) =
            sym (stays.cells below ((level4_of difi).at + at + k) in_first) ∙ ap mid.cells (located.places told_mid k h) ∙ sym same in
            let byte : IsByte (last.cells (place + k)) = subst IsByte (sym same) (bytes told_mid (place + k)) in
            byte_cell _ number _ (verified.bytes told k (omega (arith, h, located.bounded)))
            ∙ ap (λ (x : ℕ). Byte (value_of (first.cells x))) (sym there)
            ∙ ap (λ (cell : Cell). Byte (value_of cell)) shown
            ∙ byte_value (last.cells (place + k)) byte);
        damaged = λ told. tt;
      }

  pub found_run : (result : Result (ℕ × ℕ) Bad) → IsLocated mid part_at difi dpfs ((level4_of difi).at + at) n result
      → Stays mid last (result_err result) → IsFound (hashed_state first number master difi ivfc) last at most result
  found_run (Ok (place, m)) located later = found place m located later
  found_run (Err bad) located later = unlocated (hashed_state first number master difi ivfc) last at most bad located.plain

-- what is found under the master hash in the table is so in the partition
pub found_part : (base last : State) (part : Part) (table : List ℕ) (at most : ℕ) (result : Result (ℕ × ℕ) Bad)
    → IsFound (hashed_of base part table) last at most result → IsFound (part_state base part table) last at most result
found_part base last part table at most result h =
    record { some = h.some; bounded = h.bounded; inside = h.inside; in_base = h.in_base; cells = h.cells; damaged = h.damaged }

-- a piece of the base where bytes were found is one of the space
pub found_piece : (s base : State) (at most place m : ℕ) → IsTrue base.shape.plain
    → (IsTrue s.told → IsTrue base.told) → IsFound s base at most (Ok (place, m))
    → (result : Result (Bor (List ℕ)) Bad) → IsPiece base place m result → IsPiece s at most result
found_piece s base at most place m plain same_told found (Ok piece) h = record {
  some = h.some;
  bounded = omega (arith, h.bounded, found.bounded);
  inside = omega (arith, h.bounded, found.inside);
  bytes = λ told k below. found.cells told k (omega (arith, below, h.bounded)) ∙ h.bytes (same_told told) k below;
  damaged = λ told. tt;
  plain = λ plain. tt;
}
found_piece s base at most place m plain same_told found (Err Disk) h =
    record { some = tt; bounded = tt; inside = tt; bytes = λ told. tt; damaged = λ told. tt; plain = λ plain. tt }
found_piece s base at most place m plain same_told found (Err (Damaged part level block)) h = absurd (h.plain plain)

-- what stays under the hash tree stays in the partition
pub part_stays : (base last : State) (part new : Part) (table : List ℕ) (refusal : Option Bad)
    → last.shape ≡ base.shape → SamePart part new
    → Stays (hashed_of base part table) (hashed_of last new table) refusal
    → Stays (part_state base part table) (part_state last new table) refusal
part_stays base last part new table refusal same_base same stays =
    let sound = can_view_part-same base.shape last.shape part new (length table) same_base same in
    record {
      space = record {
        shape = rw sound (ap (λ (shape : Shape). record shape
            { sound = can_view_part base.shape part (length table) }) stays.space.shape);
        faults = stays.space.faults;
        cause = stays.space.cause;
        told = stays.space.told;
        twins = λ told. UnlessDisk-map refusal (λ same. record { bottom = same.bottom; is_fixed = same.is_fixed })
            (stays.space.twins told);
      };
      cells = stays.cells;
    }

-- of a part of which nothing is kept in the hash tree nothing is remembered
pub no_memory : (part : Part) → IsEmpty part.ivfc → HasNoMemory part
no_memory part empty base table =
    let marked : (level block : ℕ) → is_marked part.ivfc level block ≡ false = λ level block. rw (empty level block) refl in
    let contents = contents_of base part in
    rw (remembers-true contents.cells (master_of table part.difi) part.difi part.ivfc (record {
      closed = λ upper block some there is. absurd (let no = sym (marked (suc upper) block) ∙ is in cc);
      agrees = λ level block there. rw (empty level block) tt;
    })) (and_true base.told)
  where
    and_true : (b : Bool) → (b && true) ≡ b
    and_true true = refl
    and_true false = refl

-- a part is told only where its base is
pub told_below : (base : State) (part : Part) (table : List ℕ) → IsTrue (part_state base part table).told
    → IsTrue base.told
told_below base part table told = (and_parts _ _ told).0

-- what stays in the base stays in the partition
pub part_from_base : (base last : State) (part : Part) (table : List ℕ) (refusal : Option Bad)
    → base.shape.size < 2 ^ 64 → CanViewPart base.shape part (length table) → Stays base last refusal
    → Stays (part_state base part table) (part_state last part table) refusal
part_from_base base last part table refusal small view stays =
    let tree = contents_there base part (length table) small view in
    let contents = contents_stay base last part.at part.difi part.dpfs refusal tree stays in
    part_stays base last part part table refusal stays.space.shape (SamePart-same part)
    (hashed_stay (contents_of base part) (contents_of last part) part.number
    (master_of table part.difi) part.difi part.ivfc refusal
    (hashes_there base part table small view) contents)

-- where bytes were found there is one
pub found_inside : (s base : State) (at most place m : ℕ) → IsTrue base.shape.sound → IsFound s base at most (Ok (place, m))
    → IsInside base.shape place 1
found_inside s base at most place m sound found = record { sound = sound; inside = omega (arith, found.some, found.in_base) }

-- a part that hangs on the same can be viewed over a base of the same shape
pub kept_view : (base last : Shape) (part new : Part) (table later : List ℕ) → last ≡ base → KeepsMarks part new
    → later ≡ table
    → CanViewPart base part (length table) → CanViewPart last new (length later)
kept_view base last part new table later shape kept same view =
    true-can_view_part last new (length later)
    (rw same (can_view_part-same base last part new (length table) shape (KeepsMarks-part part new kept)
    ∙ can_view_part-true base part (length table) view))

-- of a part that can be viewed a contract sees what it sees of the view through its hash tree
pub part_is_hashed : (base : State) (part : Part) (table : List ℕ) → CanViewPart base.shape part (length table)
    → part_state base part table ≡ hashed_of base part table
part_is_hashed base part table view =
    rw (
      can_view_part-true base.shape part (length table) view,
      can_view_hashes-true (contents_of base part).shape part.difi (length (master_of table part.difi)) part.ivfc
          (hash_view base part table view),
    ) refl
