-- Calls that put into cells of a space, one after another.
use Rattle.std.proofs.Common.{◌≡◌, ◌≢◌, ◌⊎◌, ℕ, ◌+◌, ◌-◌, ◌<◌, ◌≤◌, IsTrue, List, [], ◌∷◌, ◌++◌, length}
use Rattle.std.proofs.Common.{slice_index, Option, Some, None, zero, suc, sym, ◌∙◌, ap}
use Rattle.std.proofs.Common.{subst, arith, inl, inr, ⊎_elim}
use Rattle.std.proofs.lemmas.List.Elements.{Contains-append_left, Contains-append_right}
use Rattle.std.specs.List.{Contains}
use Rattle.chain_nodes.specs.declared.info.ChainInfo.{ChainInfo}
use Rattle.save_bytes.specs.declared.space.Bad.{Bad}
use Rattle.save_bytes.specs.declared.space.Bad.TheVariants.{Disk, Damaged}
use Rattle.save_bytes.specs.Cells.{Cell, Byte, Blank, Spoilt, IsByte, IsUnspoilt}
use Rattle.save_bytes.specs.State.{Shape, State, HasNoTwins, CanPut}
use Rattle.save_bytes.specs.Answers.{IsReady}
use Rattle.save_bytes.specs.Refusals.{UnlessDisk, NeverDamaged}
use Rattle.save_bytes.specs.Stays.{SameCells}
use Rattle.save_bytes.specs.Puts.{HasPut, Puts, IsDeeper}
use Rattle.save_bytes.specs.Spots.{Spot, Frame, Hold, LandsAsBefore, MovesOnly}
use Rattle.save_bytes.specs.Reads.{Reads}
use Rattle.save_bytes.specs.Writes.{IsWithin}
use Rattle.save_bytes.specs.Within.{MaySoften, ChangesWithin}
use Rattle.save_bytes.proofs.SpaceLemmas.{UnlessDisk-map, SameSpace-join, SameSpace-where, can_put}
use Rattle.save_bytes.proofs.PutLemmas.{find_value}
use Rattle.save_bytes.proofs.WithinLemmas.{ChangesWithin-put, ChangesWithin-same, ChangesWithin-wider}
use Rattle.save_bytes.proofs.WithinLemmas.{ChangesWithin-join}
use Rattle.chain_links.specs.Alters.{AreUnspoilt, Alters, IsOfEntries}

-- a cell that is not spoilt softens to one that is not
pub soft_unspoilt : (cell new : Cell) → MaySoften cell new → IsUnspoilt cell → IsUnspoilt new
soft_unspoilt (Byte value) new soft is = rw soft tt
soft_unspoilt (Blank part level block) new soft is =
    ⊎_elim
    (λ (same : new ≡ Blank part level block). subst (λ (c : Cell). IsUnspoilt c) (sym same) tt)
    (λ (other : (new ≡ Byte 0) ⊎ IsDeeper part level new). ⊎_elim
    (λ (zero_byte : new ≡ Byte 0). subst (λ (c : Cell). IsUnspoilt c) (sym zero_byte) tt)
    (λ (more : IsDeeper part level new). subst (λ (c : Cell). IsUnspoilt c) (sym more.3) tt) other)
    soft
soft_unspoilt (Spoilt part level block) new soft is = absurd is

-- and a byte to a byte
soft_byte : (cell new : Cell) → MaySoften cell new → IsByte cell → IsByte new
soft_byte (Byte value) new soft is = rw soft tt
soft_byte (Blank part level block) new soft is = absurd is
soft_byte (Spoilt part level block) new soft is = absurd is

-- a spoilt cell is not one that is not spoilt
spoilt_is : (cell : Cell) (part level block : ℕ) → cell ≡ Spoilt part level block → ¬ IsUnspoilt cell
spoilt_is cell part level block is un = subst (λ (c : Cell). IsUnspoilt c) is un

-- a place is one that a put writes, or its cell softens
put_or_soft : (was : State) (at : ℕ) (bytes : List ℕ) (new : ℕ → Cell) → at + length bytes ≤ was.shape.size
    → HasPut was at bytes new → (x : ℕ) → x < was.shape.size
    → ((value : ℕ) × (new x ≡ Byte value)) ⊎ MaySoften (was.cells x) (new x)
put_or_soft was at bytes new fits put x inside =
    ⊎_elim
    (λ (hit : (k : ℕ) × (k < length bytes) × (was.bottom x ≡ was.bottom (at + k))).
    inl (slice_index bytes hit.0, put.written x hit.0 inside hit.1 hit.2))
    (λ (miss : (k : ℕ) → k < length bytes → was.bottom x ≢ was.bottom (at + k)).
    inr (ChangesWithin-put was at bytes new fits put x inside
    (λ (y, below, within, same). (let place : at + (y - at) ≡ y = omega (arith, within) in
    miss (y - at) (omega (arith, within)) (same ∙ ap was.bottom (sym place))))))
    (find_value (λ k. was.bottom (at + k)) (was.bottom x) (length bytes))

-- no cell becomes spoilt by a put
put_unspoilt : (was : State) (at : ℕ) (bytes : List ℕ) (new : ℕ → Cell) → at + length bytes ≤ was.shape.size
    → HasPut was at bytes new → (x : ℕ) → x < was.shape.size → IsUnspoilt (was.cells x) → IsUnspoilt (new x)
put_unspoilt was at bytes new fits put x inside is =
    ⊎_elim
    (λ (hit : (value : ℕ) × (new x ≡ Byte value)). subst (λ (c : Cell). IsUnspoilt c) (sym hit.1) tt)
    (λ (soft : MaySoften (was.cells x) (new x)). soft_unspoilt (was.cells x) (new x) soft is)
    (put_or_soft was at bytes new fits put x inside)

-- and each byte is one still
put_bytes : (was : State) (at : ℕ) (bytes : List ℕ) (new : ℕ → Cell) → at + length bytes ≤ was.shape.size
    → HasPut was at bytes new → (x : ℕ) → x < was.shape.size → IsByte (was.cells x) → IsByte (new x)
put_bytes was at bytes new fits put x inside is =
    ⊎_elim
    (λ (hit : (value : ℕ) × (new x ≡ Byte value)). subst (λ (c : Cell). IsByte c) (sym hit.1) tt)
    (λ (soft : MaySoften (was.cells x) (new x)). soft_byte (was.cells x) (new x) soft is)
    (put_or_soft was at bytes new fits put x inside)

-- a put is not refused where no cell of its range is spoilt
never_spoilt : (s : State) (at n : ℕ) (refusal : Option Bad) → at + n ≤ s.shape.size → IsTrue s.told → IsReady s at n
    refusal
    → AreUnspoilt s (IsWithin at n) → NeverDamaged refusal
never_spoilt s at n None fits told ready un = tt
never_spoilt s at n (Some Disk) fits told ready un = tt
never_spoilt s at n (Some (Damaged part level block)) fits told ready un =
    let first = ready.damaged told in
    spoilt_is (s.cells (at + first.k)) part level block first.spoilt
    (un (at + first.k) (omega (arith, first.within, fits)) (omega arith, omega (arith, first.within)))

-- each of these numbers is one of those
abbrev pub AreAmong : List ℕ → List ℕ → Type 0
AreAmong few many = (x : ℕ) → Contains few x → Contains many x

pub among_none : (many : List ℕ) → AreAmong [] many
among_none many x (k, within, is) = absurd (omega (arith, within))

pub among_more : (a : ℕ) (few many : List ℕ) → Contains many a → AreAmong few many → AreAmong (a ∷ few) many
among_more a few many here rest x (zero, within, is) = subst (λ (y : ℕ). Contains many y) is here
among_more a few many here rest x (suc k, within, is) = rest x (k, omega (arith, within), is)

pub among_all : (many : List ℕ) → AreAmong many many
among_all many x within = within

-- a list is among a longer one
pub among_behind : (a : ℕ) (many : List ℕ) → AreAmong many (a ∷ many)
among_behind a many x (k, within, is) = (suc k, omega (arith, within), is)

-- the parts of a list are among it
pub among_left : (xs ys : List ℕ) → AreAmong xs (xs ++ ys)
among_left xs ys x within = Contains-append_left xs ys x within

pub among_right : (xs ys : List ℕ) → AreAmong ys (xs ++ ys)
among_right xs ys x within = Contains-append_right xs ys x within

-- one number of a list, two, three, or four
pub among_one : (a : ℕ) (many : List ℕ) → Contains many a → AreAmong (a ∷ []) many
among_one a many in_a = among_more a [] many in_a (among_none many)

pub among_two : (a b : ℕ) (many : List ℕ) → Contains many a → Contains many b → AreAmong (a ∷ b ∷ []) many
among_two a b many in_a in_b = among_more a (b ∷ []) many in_a (among_one b many in_b)

pub among_three : (a b c : ℕ) (many : List ℕ) → Contains many a → Contains many b → Contains many c
    → AreAmong (a ∷ b ∷ c ∷ []) many
among_three a b c many in_a in_b in_c = among_more a (b ∷ c ∷ []) many in_a (among_two b c many in_b in_c)

pub among_four : (a b c d : ℕ) (many : List ℕ) → Contains many a → Contains many b → Contains many c → Contains many d
    → AreAmong (a ∷ b ∷ c ∷ d ∷ []) many
among_four a b c d many in_a in_b in_c in_d =
    among_more a (b ∷ c ∷ d ∷ []) many in_a (among_more b (c ∷ d ∷ []) many in_b (among_two c d many in_c in_d))

module _ {A : Type 0} (states : A → State) (keeps : Spot → A → A → Type 0) (lands : A → ℕ → Spot → Type 0) where
  -- before the first call
  pub Alters-read : (sites : ℕ → Type 0) (s t : A) (refusal : Option Bad) → (keeps Frame s t → keeps Hold s t)
      → (IsTrue (states s).shape.plain → NeverDamaged refusal)
      → (IsTrue (states s).told → AreUnspoilt (states s) sites → NeverDamaged refusal)
      → Reads states keeps lands s t refusal → Alters states keeps lands sites s t refusal
  Alters-read sites s t refusal hold plain ready h = record {
    space = h.stays.space;
    plain = plain;
    ready = ready;
    changes = λ told. UnlessDisk-map refusal
        (λ (same : SameCells (states s) (states t)). ChangesWithin-same (states s) sites (states t).cells same)
        (h.stays.cells told);
    unspoilt = λ told. UnlessDisk-map refusal
        (λ (same : SameCells (states s) (states t)). λ x below is. subst (λ (c : Cell). IsUnspoilt c) (sym (same x
        below)) is)
        (h.stays.cells told);
    bytes = λ told. UnlessDisk-map refusal
        (λ (same : SameCells (states s) (states t)). λ x below is. subst (λ (c : Cell). IsByte c) (sym (same x
        below)) is)
        (h.stays.cells told);
    hold = hold h.frame;
    spots = λ told spot misses. h.spots told spot;
    reach = h.reach;
  }

  -- at more places it leaves less
  pub Alters-wider : (few many : ℕ → Type 0) (s t : A) (refusal : Option Bad)
      → ((x : ℕ) → few x → many x) → Alters states keeps lands few s t refusal → Alters states keeps lands many s t
      refusal
  Alters-wider few many s t refusal wider h = record {
    space = h.space;
    plain = h.plain;
    ready = λ told un. h.ready told (λ x below site. un x below (wider x site));
    changes = λ told. UnlessDisk-map refusal
        (λ (within : ChangesWithin (states s) few (states t).cells). ChangesWithin-wider (states s) few many (states
        t).cells
        (λ x below. wider x) within) (h.changes told);
    unspoilt = h.unspoilt;
    bytes = h.bytes;
    hold = h.hold;
    spots = λ told spot misses. h.spots told spot (λ x below site. misses x below (wider x site));
    reach = h.reach;
  }

  -- a call behind a call
  pub Alters-join : ((spot : Spot) (s t u : A) → keeps spot s t → keeps spot t u → keeps spot s u) → (sites : ℕ →
      Type 0)
      (s t u : A) (refusal : Option Bad) → Alters states keeps lands sites s t None → Alters states keeps lands sites
      t u refusal
      → Alters states keeps lands sites s u refusal
  Alters-join join sites s t u refusal h k =
      let size : (states t).shape.size ≡ (states s).shape.size = ap (λ (shape : Shape). shape.size) h.space.shape in
      record {
        space = SameSpace-join (states s) (states t) (states u) refusal (λ told. told) h.space.told h.space k.space;
        plain = λ plain. k.plain (subst (λ (shape : Shape). IsTrue shape.plain) (sym h.space.shape) plain);
        ready = λ told un. k.ready (h.space.told told)
            (λ x below site. (let inside : x < (states s).shape.size = omega arith in
            h.unspoilt told x inside (un x inside site)));
        changes = λ told. UnlessDisk-map refusal
            (λ (later : ChangesWithin (states t) sites (states u).cells). ChangesWithin-join (states s) (states t)
            sites
            (states u).cells size (h.space.twins told) (h.changes told) later) (k.changes (h.space.told told));
        unspoilt = λ told. UnlessDisk-map refusal
            (λ (later : (x : ℕ) → x < (states t).shape.size → IsUnspoilt ((states t).cells x) → IsUnspoilt ((states
            u).cells x)).
            λ x below is. later x (omega arith) (h.unspoilt told x below is)) (k.unspoilt (h.space.told told));
        bytes = λ told. UnlessDisk-map refusal
            (λ (later : (x : ℕ) → x < (states t).shape.size → IsByte ((states t).cells x) → IsByte ((states u).cells
            x)).
            λ x below is. later x (omega arith) (h.bytes told x below is)) (k.bytes (h.space.told told));
        hold = join Hold s t u h.hold k.hold;
        spots = λ told spot misses. join spot s t u (h.spots told spot misses)
            (k.spots (h.space.told told) spot
            (λ x below site lands_t. (let inside : x < (states s).shape.size = omega arith in
            misses x inside site (h.reach told x inside spot lands_t))));
        reach = λ told. UnlessDisk-map refusal
            (λ (later : LandsAsBefore (states t).shape.size (lands t) (lands u)). λ x below spot lands_u.
            h.reach told x below spot (later x (omega arith) spot lands_u)) (k.reach (h.space.told told));
      }

  -- calls at places of one set of places
  pub alters_both : ((spot : Spot) (s t u : A) → keeps spot s t → keeps spot t u → keeps spot s u) → (one other many
      : ℕ → Type 0)
      (s t u : A) (refusal : Option Bad) → ((x : ℕ) → one x → many x) → ((x : ℕ) → other x → many x)
      → Alters states keeps lands one s t None → Alters states keeps lands other t u refusal
      → Alters states keeps lands many s u refusal
  alters_both join one other many s t u refusal first second h k =
      Alters-join join many s t u refusal (Alters-wider one many s t None first h)
      (Alters-wider other many t u refusal second k)

  -- so at the words of entries
  pub alters_of : (info : ChainInfo) (few many : List ℕ) (s t : A) (refusal : Option Bad) → AreAmong few many
      → Alters states keeps lands (IsOfEntries info few) s t refusal
      → Alters states keeps lands (IsOfEntries info many) s t refusal
  alters_of info few many s t refusal wider =
      Alters-wider (IsOfEntries info few) (IsOfEntries info many) s t refusal
      (λ x (e, within, of). (e, wider e within, of))

  pub alters_then : ((spot : Spot) (s t u : A) → keeps spot s t → keeps spot t u → keeps spot s u) → (info :
      ChainInfo)
      (few more many : List ℕ) (s t u : A) (refusal : Option Bad) → AreAmong few many → AreAmong more many
      → Alters states keeps lands (IsOfEntries info few) s t None
      → Alters states keeps lands (IsOfEntries info more) t u refusal
      → Alters states keeps lands (IsOfEntries info many) s u refusal
  alters_then join info few more many s t u refusal first second h k =
      Alters-join join (IsOfEntries info many) s t u refusal (alters_of info few many s t None first h)
      (alters_of info more many t u refusal second k)

  module _ (s t : A) (at : ℕ) (bytes : List ℕ) (single : HasNoTwins (states s)) where
    changes_put : (refusal : Option Bad) → at + length bytes ≤ (states s).shape.size → Puts (states s) at bytes
        (states t) refusal
        → IsTrue (states s).told
        → UnlessDisk refusal (ChangesWithin (states s) (IsWithin at (length bytes)) (states t).cells)
    changes_put None fits puts told =
        ChangesWithin-put (states s) at bytes (states t).cells fits (puts.done (can_put (states s) at (length bytes)
        single told))
    changes_put (Some Disk) fits puts told = tt
    changes_put (Some (Damaged part level block)) fits puts told =
        ChangesWithin-same (states s) (IsWithin at (length bytes)) (states t).cells
        (puts.damaged (can_put (states s) at (length bytes) single told))

    unspoilt_put : (refusal : Option Bad) → at + length bytes ≤ (states s).shape.size → Puts (states s) at bytes
        (states t) refusal
        → IsTrue (states s).told
        → UnlessDisk refusal ((x : ℕ) → x < (states s).shape.size → IsUnspoilt ((states s).cells x) → IsUnspoilt
        ((states t).cells x))
    unspoilt_put None fits puts told =
        put_unspoilt (states s) at bytes (states t).cells fits (puts.done (can_put (states s) at (length bytes)
        single told))
    unspoilt_put (Some Disk) fits puts told = tt
    unspoilt_put (Some (Damaged part level block)) fits puts told = λ x below is.
        subst (λ (c : Cell). IsUnspoilt c)
        (sym (puts.damaged (can_put (states s) at (length bytes) single told) x below)) is

    bytes_put : (refusal : Option Bad) → at + length bytes ≤ (states s).shape.size → Puts (states s) at bytes (states
        t) refusal
        → IsTrue (states s).told
        → UnlessDisk refusal ((x : ℕ) → x < (states s).shape.size → IsByte ((states s).cells x) → IsByte ((states
        t).cells x))
    bytes_put None fits puts told =
        put_bytes (states s) at bytes (states t).cells fits (puts.done (can_put (states s) at (length bytes) single
        told))
    bytes_put (Some Disk) fits puts told = tt
    bytes_put (Some (Damaged part level block)) fits puts told = λ x below is.
        subst (λ (c : Cell). IsByte c)
        (sym (puts.damaged (can_put (states s) at (length bytes) single told) x below)) is

    -- a put
    pub put_alters : (refusal : Option Bad) → at + length bytes ≤ (states s).shape.size
        → (IsTrue (states s).shape.plain → NeverDamaged refusal)
        → (CanPut (states s) at (length bytes) → IsReady (states s) at (length bytes) refusal)
        → Puts (states s) at bytes (states t) refusal → MovesOnly keeps lands (states s) s at (length bytes) t refusal
        → Alters states keeps lands (IsWithin at (length bytes)) s t refusal
    put_alters refusal fits plain ready puts moves =
        let can = can_put (states s) at (length bytes) single in
        record {
          space = SameSpace-where (states s) (states t) refusal can puts.space;
          plain = plain;
          ready = λ told un. never_spoilt (states s) at (length bytes) refusal fits told (ready (can told)) un;
          changes = changes_put refusal fits puts;
          unspoilt = unspoilt_put refusal fits puts;
          bytes = bytes_put refusal fits puts;
          hold = moves.hold;
          spots = λ told spot misses. moves.spots (can told) spot
              (λ k less lands_k. misses (at + k) (omega (arith, less)) (omega arith, omega (arith, less)) lands_k);
          reach = λ told. moves.reach (can told);
        }
