-- What puts, seals and commits write is in the footprint.
use Rattle.std.proofs.Common.{◌≡◌, ⊎_elim, ℕ, ◌+◌, ◌-◌, ◌/◌, ◌^◌, ◌<◌, ◌≤◌, Bool, true, IsTrue, List, length, get_or}
use Rattle.std.proofs.Common.{refl, sym, ◌∙◌, ap, subst, arith}
use Rattle.std.proofs.lemmas.Bool.{cases_lt, lt-ltb, le-ltb}
use Rattle.std.proofs.lemmas.Nat.{div-add-mod', mod_below}
use Rattle.container_header.specs.declared.header.Header.{Header}
use Rattle.difi.specs.declared.descriptor.Difi.{Difi}
use Rattle.difi.specs.Places.{block_size, blocks_of}
use Rattle.difi.specs.Contents.{view_size}
use Rattle.difi.specs.Sound.{HasHashLevels}
use Rattle.dpfs_tree.specs.declared.state.DpfsState.{DpfsState}
use Rattle.dpfs_tree.specs.Picks.{bit_of, copy_place, pick1, external_place}
use Rattle.dpfs_tree.specs.Marks.{is_marked, place_by, other_place, IsMadeForContents}
use Rattle.dpfs_tree.specs.Held.{IsBeside}
use Rattle.dpfs_tree.specs.Seals.{bits_in, SealWrites}
use Rattle.dpfs_tree.specs.SameLaws.{behind_level3}
use Rattle.dpfs_tree.proofs.Level2Lemmas.{word_block, in_bits, marked_below}
use Rattle.ivfc_tree.specs.Levels.{IsLevel, level_of}
use Rattle.ivfc_tree.specs.Paths.{block_above, path_block}
use Rattle.ivfc_tree.specs.Held.{IsOnPath}
use Rattle.ivfc_tree.specs.ViewLaws.{level4_size, level4_log}
use Rattle.container.specs.Openings.{partition_of}
use Rattle.live_image.specs.Footprint.{MeetsPath, MayWriteIn, Bits1, Bits2, Contents, External, MayWrite, Front}
use Rattle.live_image.specs.Footprint.{Table, InPart, write_footprint}
use Rattle.live_image.proofs.CellLemmas.{upper_inside, external_behind}

-- a place lies in its sector
pub in_sector : (grain : ℕ) (image : List ℕ) (blocks : ℕ → ℕ → Bool) (place : ℕ) → 1 ≤ grain → place < length image
    → MayWrite image blocks place → write_footprint grain image blocks (place / grain)
in_sector grain image blocks at some inside may =
    let split = div-add-mod' at grain in
    let rest = mod_below at grain some in
    record { place = at; begins = omega (arith, split); ends = omega (arith, split, rest); inside = inside; may = may }

-- the block of level four on the path of a byte of it
own_block : (difi : Difi) (x : ℕ) → path_block difi x 4 ≡ x / block_size difi.ivfc4
unfolding block_above
own_block difi x = refl

module _ (image : List ℕ) (header : Header) (part : ℕ) (difi : Difi) (blocks : ℕ → Bool)
    (levels : HasHashLevels difi) where
  -- a put at a byte of a view that is on the path of a byte of these blocks
  module _ (four level at y : ℕ) (in_four : four < difi.ivfc4.size)
      (touched : IsTrue (blocks (four / block_size difi.ivfc4)))
      (in_tree : IsLevel level) (on_path : IsOnPath difi four level at)
      (beside : IsBeside difi ((level_of difi level).at + at) y) where
    beside_met : y < difi.dpfs3.size → MeetsPath difi blocks (y / 2 ^ difi.dpfs3.log)
    beside_met below =
        ⊎_elim
        (λ (there : y ≡ (level_of difi level).at + at). record {
          four = four;
          level = level;
          at = at;
          in_four = in_four;
          touched = touched;
          in_tree = in_tree;
          on_path = on_path;
          inside = omega (arith, there, below);
          there = ap (λ (z : ℕ). z / 2 ^ difi.dpfs3.log) (sym there);
        })
        (λ (both : ((level_of difi level).at + at < difi.dpfs3.size) × (y < difi.dpfs3.size)
        × (y / 2 ^ difi.dpfs3.log ≡ ((level_of difi level).at + at) / 2 ^ difi.dpfs3.log)). record {
          four = four;
          level = level;
          at = at;
          in_four = in_four;
          touched = touched;
          in_tree = in_tree;
          on_path = on_path;
          inside = both.0;
          there = sym both.2;
        })
        beside

    -- behind level 3 there is level four alone
    behind_four : difi.dpfs3.size ≤ y → (level ≡ 4) × (y ≡ (level_of difi level).at + at)
    behind_four behind =
        ⊎_elim
        (λ (there : y ≡ (level_of difi level).at + at).
        ⊎_elim
        (λ (upper : level < 4). absurd (let inside = upper_inside difi levels level in_tree.0 (omega (arith, upper)) in
        omega (arith, inside, there, behind, on_path.0)))
        (λ (last : 4 ≤ level). (omega (arith, last, in_tree.1), there))
        (cases_lt level 4))
        (λ (both : ((level_of difi level).at + at < difi.dpfs3.size) × (y < difi.dpfs3.size)
        × (y / 2 ^ difi.dpfs3.log ≡ ((level_of difi level).at + at) / 2 ^ difi.dpfs3.log)). absurd (omega
        (arith, both.1, behind)))
        beside

    put_external : difi.external ≡ true → difi.dpfs3.size ≤ y
        → MayWriteIn image header part difi blocks (external_place (partition_of header part).at difi y)
    put_external external behind =
        let last = behind_four behind in
        let begin = external_behind difi external in
        let here : y ≡ (level_of difi 4).at + at = last.1 ∙ ap (λ (n : ℕ). (level_of difi n).at + at) last.0 in
        let path : IsOnPath difi four 4 at = subst (λ (n : ℕ). IsOnPath difi four n at) last.0 on_path in
        let size = level4_size difi in
        let same : at / block_size difi.ivfc4 ≡ four / block_size difi.ivfc4 =
        ap (λ (log : ℕ). at / 2 ^ log) (sym (level4_log difi)) ∙ path.1 ∙ own_block difi four in
        External at external (omega (arith, path.0, size)) (rw same touched) (omega (arith, here, begin))

    pub put_writes : y < view_size difi
        → MayWriteIn image header part difi blocks
        (other_place (λ x. get_or image x 0) (partition_of header part).at difi difi.selector y)
    unfolding place_by
    put_writes inside =
        ⊎_elim
        (λ (below : y < difi.dpfs3.size).
        rw (lt-ltb y difi.dpfs3.size below) (Contents y below (beside_met below) refl))
        (λ (behind : difi.dpfs3.size ≤ y).
        rw (le-ltb y difi.dpfs3.size behind) (put_external (behind_level3 difi y behind inside).0 behind))
        (cases_lt y difi.dpfs3.size)

  -- a seal of marks of such blocks
  pub seal_writes : (state : DpfsState) → IsMadeForContents difi state → 2 ≤ difi.dpfs2.log
      → state.selector ≡ difi.selector
      → ((block : ℕ) → block < blocks_of difi.dpfs3 → is_marked state.touched.items block ≡ true
      → MeetsPath difi blocks block)
      → (place : ℕ) → SealWrites (λ x. get_or image x 0) (partition_of header part).at difi state place
      → MayWriteIn image header part difi blocks place
  seal_writes state made least selector marks place writes =
      let part_at = (partition_of header part).at in
      let bytes : ℕ → ℕ = λ y. get_or image y 0 in
      ⊎_elim
      (λ (first : (x : ℕ) × (x < difi.dpfs1.size)
      × (place ≡ copy_place (partition_of header part).at difi.dpfs1 (1 - state.selector) x)).
      Bits1 first.0 first.1 (rw selector at first.2))
      (λ (block, (x, inside, here, (k, within, marked), is)).
      Bits2 x inside
      (record {
        bit = k;
        met = marks k (omega (arith, marked_below state.touched.items k marked, made.marks)) marked;
        there = word_block k difi.dpfs2.log least ∙ in_bits (bits_in difi) block k within ∙ sym here;
      })
      (is ∙ ap (λ (s : ℕ). copy_place part_at difi.dpfs2 (1 - bit_of (pick1 bytes part_at difi s) block) x) selector
      ∙ ap (λ (b : ℕ). copy_place part_at difi.dpfs2 (1 - bit_of (pick1 bytes part_at difi difi.selector) b) x)
      (sym here)))
      writes

-- more blocks
met_more : (difi : Difi) (few many : ℕ → Bool) → ((b : ℕ) → IsTrue (few b) → IsTrue (many b)) → (block : ℕ)
    → MeetsPath difi few block → MeetsPath difi many block
met_more difi few many more block met = record {
  four = met.four;
  level = met.level;
  at = met.at;
  in_four = met.in_four;
  touched = more (met.four / block_size difi.ivfc4) met.touched;
  in_tree = met.in_tree;
  on_path = met.on_path;
  inside = met.inside;
  there = met.there;
}

may_in_more : (image : List ℕ) (header : Header) (part : ℕ) (difi : Difi) (few many : ℕ → Bool) (place : ℕ)
    → ((b : ℕ) → IsTrue (few b) → IsTrue (many b))
    → MayWriteIn image header part difi few place → MayWriteIn image header part difi many place
may_in_more image header part difi few many place more (Bits1 x h is) = Bits1 x h is
may_in_more image header part difi few many place more (Bits2 x h met is) =
    Bits2 x h (record { bit = met.bit; met = met_more difi few many more met.bit met.met; there = met.there }) is
may_in_more image header part difi few many place more (Contents x h met is) = Contents x h
    (met_more difi few many more _ met) is
may_in_more image header part difi few many place more (External x external h touched is) = External x external h
    (more _ touched) is

may_more : (image : List ℕ) (few many : ℕ → ℕ → Bool) (place : ℕ)
    → ((part b : ℕ) → IsTrue (few part b) → IsTrue (many part b))
    → MayWrite image few place → MayWrite image many place
may_more image few many place more (Front h) = Front h
may_more image few many place more (Table header is begin end) = Table header is begin end
may_more image few many place more (InPart header part difi has may) =
    InPart header part difi has (may_in_more image header part difi (few part) (many part) place (more part) may)

pub footprint_more : (grain : ℕ) (image : List ℕ) (few many : ℕ → ℕ → Bool) (sector : ℕ)
    → ((part b : ℕ) → IsTrue (few part b) → IsTrue (many part b))
    → write_footprint grain image few sector → write_footprint grain image many sector
footprint_more grain image few many sector more has = record {
  place = has.place;
  begins = has.begins;
  ends = has.ends;
  inside = has.inside;
  may = may_more image few many has.place more has.may;
}
