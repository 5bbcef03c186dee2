-- Whether a place may be written, by tests of each kind of place.
use Rattle.std.proofs.Common.{◌≡◌, ⊎_elim, ℕ, zero, suc, ◌+◌, ◌-◌, ◌*◌, ◌/◌, ◌^◌, ◌<◌, ◌≤◌, Bool, true, ◌||◌, eqb}
use Rattle.std.proofs.Common.{cond, List, get_or, Ok, refl, sym, ◌∙◌, ap, subst, arith}
use Rattle.std.proofs.lemmas.Nat.{div-mul-add}
use Rattle.std.specs.Bool.{Decides}
use Rattle.std.proofs.lemmas.Bool.{or_cases, or_left, or_right, eqb-true, eq-eqb}
use Rattle.container_header.specs.declared.header.Header.{Header}
use Rattle.container_header.specs.Conditions.{reading as header_reading}
use Rattle.container_header.specs.Sound.{IsHeaderOf, inactive_at}
use Rattle.container_header.proofs.HeaderRead.{reading-is}
use Rattle.difi.specs.declared.descriptor.Difi.{Difi}
use Rattle.difi.specs.Places.{block_size}
use Rattle.dpfs_tree.specs.Picks.{copy_place}
use Rattle.container.specs.Openings.{partition_of}
use Rattle.live_image.specs.Live.{copy1, copy2, copy3, lies_from}
use Rattle.live_image.specs.Same.{HasPart}
use Rattle.live_image.specs.Footprint.{MeetsPath, HasPathBit, MayWriteIn, Bits1, Bits2, Contents, External, MayWrite}
use Rattle.live_image.specs.Footprint.{Front, Table, InPart}
use Rattle.live_image.proofs.LevelLemmas.{lies, lies_where}

module _ (image : List ℕ) (header : Header) (part : ℕ) (difi : Difi) (touched place : ℕ) where
  abbrev at : ℕ
  at = (partition_of header part).at

  abbrev bytes : ℕ → ℕ
  bytes = λ y. get_or image y 0

  abbrev Other1 : Type 0
  Other1 = (x : ℕ) × ((x < difi.dpfs1.size) × (place ≡ copy_place at difi.dpfs1 (1 - copy1 difi x) x))

  abbrev Other2 : ℕ → Type 0
  Other2 copy = (x : ℕ) × ((x < difi.dpfs2.size) × ((copy ≡ 1 - copy2 bytes at difi x)
      × (HasPathBit difi (λ n. eqb n touched) (x / 2 ^ difi.dpfs2.log) × (place ≡ copy_place at difi.dpfs2 copy x))))

  abbrev Other3 : ℕ → Type 0
  Other3 copy = (x : ℕ) × ((x < difi.dpfs3.size) × ((copy ≡ 1 - copy3 bytes at difi x)
      × (MeetsPath difi (λ n. eqb n touched) (x / 2 ^ difi.dpfs3.log) × (place ≡ copy_place at difi.dpfs3 copy x))))

  abbrev Outside : Type 0
  Outside = (x : ℕ) × ((difi.external ≡ true) × ((x < difi.ivfc4.size) × ((x / block_size difi.ivfc4 ≡ touched)
      × (place ≡ at + difi.external_at + x))))

  -- what each kind says
  from1 : Other1 → MayWriteIn image header part difi (λ n. eqb n touched) place
  from1 (x, (h, is)) = Bits1 x h is

  from2 : (copy : ℕ) → Other2 copy → MayWriteIn image header part difi (λ n. eqb n touched) place
  from2 copy (x, (h, (other, (met, is)))) = Bits2 x h met (is ∙ ap (λ (n : ℕ). copy_place at difi.dpfs2 n x) other)

  from3 : (copy : ℕ) → Other3 copy → MayWriteIn image header part difi (λ n. eqb n touched) place
  from3 copy (x, (h, (other, (met, is)))) = Contents x h met (is ∙ ap (λ (n : ℕ). copy_place at difi.dpfs3 n x) other)

  from4 : Outside → MayWriteIn image header part difi (λ n. eqb n touched) place
  from4 (x, (external, (h, (own, is)))) = External x external h (eq-eqb _ _ own) is

  module _ (one a b c d e : Bool) (d1 : Decides one Other1) (da : Decides a (Other2 0)) (db : Decides b (Other2 1))
      (dc : Decides c (Other3 0)) (dd : Decides d (Other3 1)) (de : Decides e Outside) where
    there : (one || ((a || b) || ((c || d) || e))) ≡ true → MayWriteIn image header part difi (λ n. eqb n touched) place
    there some =
        ⊎_elim (λ h. from1 (d1.0 h))
        (λ rest.
        ⊎_elim
        (λ second. ⊎_elim (λ h. from2 0 (da.0 h)) (λ h. from2 1 (db.0 h)) (or_cases a b second))
        (λ more.
        ⊎_elim
        (λ third. ⊎_elim (λ h. from3 0 (dc.0 h)) (λ h. from3 1 (dd.0 h)) (or_cases c d third))
        (λ h. from4 (de.0 h))
        (or_cases (c || d) e more))
        (or_cases (a || b) ((c || d) || e) rest))
        (or_cases one ((a || b) || ((c || d) || e)) some)

    in_second : (copy : ℕ) → copy < 2 → Other2 copy → (a || b) ≡ true
    in_second zero h other = or_left a b (da.1 other)
    in_second (suc zero) h other = or_right a b (db.1 other)
    in_second (suc (suc copy)) h other = absurd (omega arith)

    in_third : (copy : ℕ) → copy < 2 → Other3 copy → (c || d) ≡ true
    in_third zero h other = or_left c d (dc.1 other)
    in_third (suc zero) h other = or_right c d (dd.1 other)
    in_third (suc (suc copy)) h other = absurd (omega arith)

    back : MayWriteIn image header part difi (λ n. eqb n touched) place → (one || ((a || b) || ((c || d) || e))) ≡ true
    back (Bits1 x h is) = or_left one _ (d1.1 (x, (h, is)))
    back (Bits2 x h met is) =
        or_right one _ (or_left (a || b) _
        (in_second (1 - copy2 bytes at difi x) (omega arith) (x, (h, (refl, (met, is))))))
    back (Contents x h met is) =
        or_right one _ (or_right (a || b) _ (or_left (c || d) e
        (in_third (1 - copy3 bytes at difi x) (omega arith) (x, (h, (refl, (met, is)))))))
    back (External x external h own is) =
        or_right one _ (or_right (a || b) _ (or_right (c || d) e (de.1 (x, (external, (h, (eqb-true _ _ own, is)))))))

    pub may_in : Decides (one || ((a || b) || ((c || d) || e)))
        (MayWriteIn image header part difi (λ n. eqb n touched) place)
    may_in = (there, back)

-- one part has one descriptor
same_descriptor : (image : List ℕ) (header : Header) (part : ℕ) (one other : Difi) → HasPart image header part one
    → HasPart image header part other → other ≡ one
same_descriptor image header part one other has also = let both = sym has.described ∙ also.described in cc

pub by_descriptor : (image : List ℕ) (header : Header) (part : ℕ) (difi : Difi) (blocks : ℕ → Bool) (place : ℕ)
    (result : Bool)
    → HasPart image header part difi → Decides result (MayWriteIn image header part difi blocks place)
    → Decides result ((x : Difi) × (HasPart image header part x × MayWriteIn image header part x blocks place))
by_descriptor image header part difi blocks place result has decides = (
  λ h. (difi, (has, decides.0 h)),
  λ (other, (also, may)).
      decides.1 (subst (λ (d : Difi). MayWriteIn image header part d blocks place)
      (same_descriptor image header part difi other has also) may),
)

-- the touched block of each part
abbrev pub each : ℕ → ℕ → ℕ → ℕ → Bool
each first second part n = eqb n (cond (eqb part 0) first second)

abbrev pub InThat : List ℕ → Header → ℕ → ℕ → ℕ → Type 0
InThat image header part touched place =
    (x : Difi) × (HasPart image header part x × MayWriteIn image header part x (λ n. eqb n touched) place)

module _ (image : List ℕ) (header : Header) (is : IsHeaderOf header image) (first second place : ℕ)
    (from : 512 ≤ place) where
  one_header : (other : Header) → header_reading image ≡ Ok other → other ≡ header
  one_header other also = let both = sym (reading-is image header is) ∙ also in cc

  module _ (t a b : Bool) (dt : t ≡ lies_from (inactive_at header) header.table_size place)
      (da : Decides a (InThat image header 0 first place))
      (db : Decides b ((header.parts ≡ 2) × InThat image header 1 second place)) where
    may : (t || (a || b)) ≡ true → MayWrite image (each first second) place
    may some =
        ⊎_elim
        (λ h. let there = lies_where (inactive_at header) header.table_size place (sym dt ∙ h) in
        Table header (reading-is image header is) there.0 there.1)
        (λ rest.
        ⊎_elim
        (λ h. let there = da.0 h in InPart header 0 there.0 there.1.0 there.1.1)
        (λ h. let there = db.0 h in InPart header 1 there.1.0 there.1.1.0 there.1.1.1)
        (or_cases a b rest))
        (or_cases t (a || b) some)

    in_part : (part : ℕ) (difi : Difi) → HasPart image header part difi
        → MayWriteIn image header part difi (each first second part) place → (t || (a || b)) ≡ true
    in_part zero difi has may = or_right t _ (or_left a b (da.1 (difi, (has, may))))
    in_part (suc zero) difi has may =
        or_right t _ (or_right a b (db.1 (omega (arith, has.counted, is.sound.two_parts), (difi, (has, may)))))
    in_part (suc (suc part)) difi has may = absurd (omega (arith, has.counted, is.sound.two_parts))

    back_from : MayWrite image (each first second) place → (t || (a || b)) ≡ true
    back_from (Front h) = absurd (omega (arith, h, from))
    back_from (Table other also begin end) =
        let same = one_header other also in
        or_left t _ (dt ∙ lies (inactive_at header) header.table_size place (rw same at begin) (rw same at end))
    back_from (InPart other part difi has may) =
        let same = one_header other has.header_is in
        in_part part difi (rw same at has)
        (subst (λ (h : Header). MayWriteIn image h part difi (each first second part) place) same may)

    pub may_behind : Decides (t || (a || b)) (MayWrite image (each first second) place)
    may_behind = (may, back_from)

-- a place of a sector
pub sector_is : (grain sector place : ℕ) → sector * grain ≤ place → place < sector * grain + grain
    → place / grain ≡ sector
sector_is grain sector place from below =
    let split : place ≡ sector * grain + (place - sector * grain) = omega (arith, from) in
    ap (λ (x : ℕ). x / grain) split ∙ div-mul-add sector grain (place - sector * grain) (omega (arith, from, below))
