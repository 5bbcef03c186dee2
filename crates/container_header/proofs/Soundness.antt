-- No condition of the layout fails exactly where a header is sound.
use Rattle.std.proofs.Common.{◌≡◌, ℕ, suc, ◌+◌, ◌≤◌, Bool, true, false, ◌==◌, ◌&&◌, ◌||◌, not, nat_lt, cond, None, List}
use Rattle.std.proofs.Common.{[], ◌∷◌, refl, arith, lit≤}
use Rattle.std.proofs.lemmas.Bool.{ltb-false, le-ltb, eqb-true, eq-eqb}
use Rattle.std.proofs.lemmas.Bool.{cond_both, or_parts, or_from}
use Rattle.std.proofs.lemmas.Bool.Decides.{nat_tests}
use Rattle.save_bytes.specs.declared.extent.Extent.{Extent}
use Rattle.container_header.specs.declared.header.Header.{Header}
use Rattle.save_bytes.specs.Extents.{lies_inside, LiesInside, AreApart}
use Rattle.save_bytes.proofs.ExtentLemmas.{inside, not-lies_inside, apart, overlap-apart, AllApart, all_apart}
use Rattle.save_bytes.proofs.ExtentLemmas.{some_overlap-apart}
use Rattle.container_header.specs.Conditions.{max_length, table_at, regions, is_bad_descriptor, is_bad_partition}
use Rattle.container_header.specs.Conditions.{layout_faults, first_failing}
use Rattle.container_header.specs.Sound.{IsDescriptorPlace, IsPartition, IsSoundHeader, active_at, inactive_at}
use Rattle.container_header.specs.Raw.{other_table, flipped}

-- none of the tests is met
abbrev pub NoneHolds : List Bool → Type 0
NoneHolds [] = Unit {0}
NoneHolds (b ∷ bs) = (b ≡ false) × NoneHolds bs

pub none_from : (n : ℕ) (bs : List Bool) → first_failing n bs ≡ None → NoneHolds bs
none_from n [] e = tt
none_from n (true ∷ bs) e = cc
none_from n (false ∷ bs) e = (refl, none_from (n + 1) bs e)

pub none_to : (n : ℕ) (bs : List Bool) → NoneHolds bs → first_failing n bs ≡ None
none_to n [] h = refl
none_to n (b ∷ bs) h = rw h.0 (none_to (n + 1) bs h.1)

-- a test that is made only where there are two partitions
second_from : (parts : ℕ) (test : Bool) → ((parts == 2) && test) ≡ false → parts ≡ 2 → test ≡ false
second_from parts test h two = rw two at h

second_to : (parts : ℕ) (test : Bool) → (parts ≡ 2 → test ≡ false) → ((parts == 2) && test) ≡ false
second_to parts test h = grind (arith, nat_tests)

descriptor_from : (header : Header) (e : Extent) → is_bad_descriptor header e ≡ false
    → IsDescriptorPlace e header.table_size
descriptor_from header e h = let both = or_parts _ _ h in record
    { shortest = ltb-false e.size 0x44 both.1; inside = inside e 0 header.table_size both.0 }

descriptor_to : (header : Header) (e : Extent) → IsDescriptorPlace e header.table_size
    → is_bad_descriptor header e ≡ false
descriptor_to header e h = or_from _ _ (not-lies_inside e 0 header.table_size h.inside) (le-ltb e.size 0x44 h.shortest)

partition_from : (e : Extent) (n : ℕ) → is_bad_partition e n ≡ false → IsPartition e n
partition_from e n h =
    let both : ((e.size == 0) ≡ false) × (not (lies_inside e 512 n) ≡ false) =
    or_parts (e.size == 0) (not (lies_inside e 512 n)) h in
    record { some = grind (arith, nat_tests); inside = inside e 512 n both.1 }

partition_to : (e : Extent) (n : ℕ) → IsPartition e n → is_bad_partition e n ≡ false
partition_to e n h = or_from _ _ (grind (arith, nat_tests, h.some)) (not-lies_inside e 512 n h.inside)

-- the tables and the partitions
abbrev regions_with : Header → Bool → List Extent
regions_with header two = table_at header header.primary ∷ table_at header header.secondary ∷ header.part_a ∷ cond two
    (header.part_b ∷ []) []

regions_to : (header : Header) (n : ℕ) (two : Bool) → (two ≡ true → header.parts ≡ 2) → IsSoundHeader header n
    → AllApart (regions_with header two)
regions_to header n true is s = (
  (s.tables_apart, (s.primary_a_apart, (s.primary_b_apart (is refl), tt))),
  ((s.secondary_a_apart, (s.secondary_b_apart (is refl), tt)), ((s.partitions_apart (is refl), tt), (tt, tt))),
)
regions_to header n false is s =
    ((s.tables_apart, (s.primary_a_apart, tt)), ((s.secondary_a_apart, tt), (tt, tt)))

in_two_from : (n low : ℕ) → not (n == low || n == suc low) ≡ false → (low ≤ n) × (n ≤ suc low)
in_two_from n low h = grind (arith, nat_tests)

in_two_to : (n low : ℕ) → low ≤ n → n ≤ suc low → not (n == low || n == suc low) ≡ false
in_two_to n low from to = grind (arith, nat_tests)

-- what holds of both tables holds of either
either : (test : Bool) (x y : ℕ) (P : ℕ → Type 0) → P x → P y → P (cond test x y)
either test x y P at_x at_y = cond_both test x y P (λ _. at_x) (λ _. at_y)

active_apart : (header : Header) (first : Bool)
    → AreApart (table_at header header.primary) (table_at header header.secondary)
    → AreApart (table_at header (cond first header.primary header.secondary))
    (table_at header (cond first header.secondary header.primary))
active_apart header true h = h
active_apart header false h = λ x a b c d. h x c d a b

none_sound : (header : Header) (n : ℕ) → NoneHolds (layout_faults header n) → IsSoundHeader header n
none_sound header n (
  longest,
  (parts, (active, (table, (primary, (secondary, (a, (b, (a_b, (part_a, (part_b, (regions, _))))))))))),
) =
    let count = in_two_from header.parts 1 parts in
    let byte = in_two_from header.active 0 active in
    let size = or_parts (nat_lt header.table_size 0x44) (nat_lt 65536 header.table_size) table in
    let first = header.active == 0 in
    let in_primary = inside (table_at header header.primary) 512 n primary in
    let in_secondary = inside (table_at header header.secondary) 512 n secondary in
    let pairs = all_apart (regions_with header (header.parts == 2)) regions in
    let with_b = λ (two : header.parts ≡ 2). rw (eq-eqb header.parts 2 two) at pairs in
    record {
      longest = ltb-false max_length n longest;
      one_part = count.0;
      two_parts = count.1;
      active_byte = byte.1;
      least_table = ltb-false header.table_size 0x44 size.0;
      largest_table = ltb-false 65536 header.table_size size.1;
      primary_inside = in_primary;
      secondary_inside = in_secondary;
      descriptor_a = descriptor_from header header.desc_a a;
      descriptor_b = λ two. descriptor_from header header.desc_b (second_from header.parts _ b two);
      partition_a = partition_from header.part_a n part_a;
      partition_b = λ two. partition_from header.part_b n (second_from header.parts _ part_b two);
      descriptors_apart = λ two. apart header.desc_a header.desc_b (second_from header.parts _ a_b two);
      tables_apart = pairs.0.0;
      primary_a_apart = pairs.0.1.0;
      secondary_a_apart = pairs.1.0.0;
      primary_b_apart = λ two. (with_b two).0.1.1.0;
      secondary_b_apart = λ two. (with_b two).1.0.1.0;
      partitions_apart = λ two. (with_b two).1.1.0.0;
      active_inside = either first header.primary header.secondary (λ at. LiesInside (table_at header at) 512 n)
          in_primary in_secondary;
      inactive_inside = either first header.secondary header.primary (λ at. LiesInside (table_at header at) 512 n)
          in_secondary in_primary;
      active_inactive_apart = active_apart header first pairs.0.0;
      active_a_apart = either first header.primary header.secondary (λ at. AreApart (table_at header at) header.part_a)
          pairs.0.1.0 pairs.1.0.0;
      inactive_a_apart = either first header.secondary header.primary
          (λ at. AreApart (table_at header at) header.part_a) pairs.1.0.0 pairs.0.1.0;
      active_b_apart = λ two. either first header.primary header.secondary
          (λ at. AreApart (table_at header at) header.part_b) (with_b two).0.1.1.0
          (with_b two).1.0.1.0;
      inactive_b_apart = λ two. either first header.secondary header.primary
          (λ at. AreApart (table_at header at) header.part_b) (with_b two).1.0.1.0
          (with_b two).0.1.1.0;
    }

also : {A B : Type 0} → A → B → A × B
also a b = (a, b)

sound_none : (header : Header) (n : ℕ) → IsSoundHeader header n → NoneHolds (layout_faults header n)
sound_none header n s =
    also (le-ltb max_length n s.longest)
    (also (in_two_to header.parts 1 s.one_part s.two_parts)
    (also (in_two_to header.active 0 (omega arith) s.active_byte)
    (also (or_from _ _ (le-ltb header.table_size 0x44 s.least_table) (le-ltb 65536 header.table_size s.largest_table))
    (also (not-lies_inside (table_at header header.primary) 512 n s.primary_inside)
    (also (not-lies_inside (table_at header header.secondary) 512 n s.secondary_inside)
    (also (descriptor_to header header.desc_a s.descriptor_a)
    (also (second_to header.parts _ (λ two. descriptor_to header header.desc_b (s.descriptor_b two)))
    (also (second_to header.parts _ (λ two. overlap-apart header.desc_a header.desc_b (s.descriptors_apart two)))
    (also (partition_to header.part_a n s.partition_a)
    (also (second_to header.parts _ (λ two. partition_to header.part_b n (s.partition_b two)))
    (also (some_overlap-apart (regions_with header (header.parts == 2))
    (regions_to header n (header.parts == 2) (eqb-true header.parts 2) s)) tt)))))))))))

-- no condition fails exactly where a header is sound
pub sound_from : (header : Header) (n : ℕ) → first_failing 1 (layout_faults header n) ≡ None → IsSoundHeader header n
sound_from header n e = none_sound header n (none_from 1 (layout_faults header n) e)

pub sound_to : (header : Header) (n : ℕ) → IsSoundHeader header n → first_failing 1 (layout_faults header n) ≡ None
sound_to header n s = none_to 1 (layout_faults header n) (sound_none header n s)

at_most_one : (active : ℕ) → other_table active ≤ 1
at_most_one active = cond_both (active == 0) 1 0 (λ x. x ≤ 1) (λ _. lit≤ tt) (λ _. lit≤ tt)

-- a flipped header is as sound as it was
pub sound-flipped : (header : Header) (hash : List ℕ) (n : ℕ) → IsSoundHeader header n
    → IsSoundHeader (flipped header hash) n
sound-flipped header hash n s =
    let none = sound_none header n s in
    let active = other_table header.active in
    none_sound (flipped header hash) n
    (none.0, (none.1.0, (in_two_to active 0 (omega arith) (at_most_one header.active), none.1.1.1)))

-- and its tables change their places
pub active_at-flipped : (header : Header) (hash : List ℕ) → active_at (flipped header hash) ≡ inactive_at header
active_at-flipped header hash =
    elim (header.active == 0) as (λ first. cond (cond first 1 0 == 0) header.primary header.secondary ≡ cond first
    header.secondary header.primary) [ true ↦ refl | false ↦ refl ]

pub inactive_at-flipped : (header : Header) (hash : List ℕ) → inactive_at (flipped header hash) ≡ active_at header
inactive_at-flipped header hash =
    elim (header.active == 0) as (λ first. cond (cond first 1 0 == 0) header.secondary header.primary ≡ cond first
    header.primary header.secondary) [ true ↦ refl | false ↦ refl ]
