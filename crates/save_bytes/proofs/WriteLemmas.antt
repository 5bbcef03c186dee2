-- Calls of a space that write some of its cells, one after another.
use Rattle.std.proofs.Common.{◌≡◌, ℕ, ◌+◌, ◌<◌, ◌≤◌, IsTrue, List, length, Option, Some, None, ◌∙◌, ap, arith}
use Rattle.save_bytes.specs.declared.space.Bad.{Bad}
use Rattle.save_bytes.specs.declared.space.Bad.TheVariants.{Disk, Damaged}
use Rattle.save_bytes.specs.Cells.{Cell, Byte, Blank, Spoilt, IsByte}
use Rattle.save_bytes.specs.State.{Shape, State, HasNoTwins}
use Rattle.save_bytes.specs.Refusals.{UnlessDisk, NeverDamaged}
use Rattle.save_bytes.specs.Puts.{SoftensFrom, HasPut, Puts}
use Rattle.save_bytes.specs.Spots.{Spot, Frame, Hold, LandsAsBefore, MovesOnly}
use Rattle.save_bytes.specs.Reads.{Reads}
use Rattle.save_bytes.specs.Writes.{IsWithin, Writes}
use Rattle.save_bytes.proofs.SpaceLemmas.{UnlessDisk-map, SameSpace-join, SameSpace-where, can_put}

-- a byte that is not written stays
pub byte_stays : (s : State) (at n x : ℕ) (cell new : Cell) → IsByte cell → SoftensFrom s at n x cell new → new ≡ cell
byte_stays s at n x (Byte value) new is soft = soft
byte_stays s at n x (Blank part level block) new is soft = absurd is
byte_stays s at n x (Spoilt part level block) new is soft = absurd is

-- a range within a range
pub within_part : (at n done m : ℕ) → done + m ≤ n → (x : ℕ) → IsWithin (at + done) m x → IsWithin at n x
within_part at n done m fits x (from, below) = (omega arith, omega arith)

module _ {A : Type 0} (states : A → State) (keeps : Spot → A → A → Type 0) (lands : A → ℕ → Spot → Type 0) where
  -- a call that only reads writes at no place
  pub Writes-read : (sites : ℕ → Type 0) (s t : A) (refusal : Option Bad) → (keeps Frame s t → keeps Hold s t) → NeverDamaged refusal
      → Reads states keeps lands s t refusal → Writes states keeps lands sites s t refusal
  Writes-read sites s t refusal hold plain h = record {
    space = h.stays.space;
    plain = plain;
    others = λ told. UnlessDisk-map refusal (λ same. λ x below apart. same x below) (h.stays.cells told);
    hold = hold h.frame;
    spots = λ told spot misses. h.spots told spot;
    reach = h.reach;
  }

  -- at more places it leaves less
  pub Writes-wider : (few many : ℕ → Type 0) (s t : A) (refusal : Option Bad)
      → (IsTrue (states s).told → (x : ℕ) → x < (states s).shape.size → few x → many x)
      → Writes states keeps lands few s t refusal → Writes states keeps lands many s t refusal
  Writes-wider few many s t refusal wider h = record {
    space = h.space;
    plain = h.plain;
    others = λ told. UnlessDisk-map refusal
        (λ same. λ x below apart. same x below (λ site. apart (wider told x below site))) (h.others told);
    hold = h.hold;
    spots = λ told spot misses. h.spots told spot (λ x below site. misses x below (wider told x below site));
    reach = h.reach;
  }

  -- a call behind a call, whose places are places of the first where the cells were told
  pub Writes-then : ((spot : Spot) (s t u : A) → keeps spot s t → keeps spot t u → keeps spot s u) → (sites others : ℕ → Type 0) (s t u : A)
      (refusal : Option Bad) → (IsTrue (states s).told → (x : ℕ) → x < (states s).shape.size → others x → sites x) → Writes states keeps lands sites s t None
      → Writes states keeps lands others t u refusal → Writes states keeps lands sites s u refusal
  Writes-then join sites others s t u refusal wider h k =
      let size : (states t).shape.size ≡ (states s).shape.size = ap (λ (shape : Shape). shape.size) h.space.shape in
      record {
        space = SameSpace-join (states s) (states t) (states u) refusal (λ told. told) h.space.told h.space k.space;
        plain = k.plain;
        others = λ told. UnlessDisk-map refusal
            (λ later. λ x below apart.
            later x (omega arith) (λ other. apart (wider told x below other)) ∙ h.others told x below apart) (k.others (h.space.told told));
        hold = join Hold s t u h.hold k.hold;
        spots = λ told spot misses. join spot s t u (h.spots told spot misses)
            (k.spots (h.space.told told) spot
            (λ x below other lands_t. (let inside : x < (states s).shape.size = omega arith in
            misses x inside (wider told x inside other) (h.reach told x inside spot lands_t))));
        reach = λ told. UnlessDisk-map refusal
            (λ (later : LandsAsBefore (states t).shape.size (lands t) (lands u)). λ x below spot lands_u.
            h.reach told x below spot (later x (omega arith) spot lands_u)) (k.reach (h.space.told told));
      }

  -- and one whose places are the same
  pub Writes-join : ((spot : Spot) (s t u : A) → keeps spot s t → keeps spot t u → keeps spot s u) → (sites : ℕ → Type 0) (s t u : A)
      (refusal : Option Bad) → Writes states keeps lands sites s t None → Writes states keeps lands sites t u refusal
      → Writes states keeps lands sites s u refusal
  Writes-join join sites s t u refusal = Writes-then join sites sites s t u refusal (λ told x below site. site)

  -- a call that writes, behind one that reads
  pub writes_after : ((spot : Spot) (s t u : A) → keeps spot s t → keeps spot t u → keeps spot s u)
      → ((s t : A) → keeps Frame s t → keeps Hold s t) → (sites : ℕ → Type 0) (s t u : A) (refusal : Option Bad)
      → Reads states keeps lands s t None → Writes states keeps lands sites t u refusal → Writes states keeps lands sites s u refusal
  writes_after join hold sites s t u refusal reads writes =
      Writes-join join sites s t u refusal (Writes-read sites s t None (hold s t) tt reads) writes

  -- two calls that write at places of one range
  pub writes_both : ((spot : Spot) (s t u : A) → keeps spot s t → keeps spot t u → keeps spot s u) → (one other many : ℕ → Type 0)
      (s t u : A) (refusal : Option Bad) → ((x : ℕ) → one x → many x) → ((x : ℕ) → other x → many x)
      → Writes states keeps lands one s t None → Writes states keeps lands other t u refusal → Writes states keeps lands many s u refusal
  writes_both join one other many s t u refusal first second h k =
      Writes-join join many s t u refusal (Writes-wider one many s t None (λ told x below. first x) h)
      (Writes-wider other many t u refusal (λ told x below. second x) k)

  module _ (s t : A) (at : ℕ) (bytes : List ℕ) (single : HasNoTwins (states s))
      (all_bytes : IsTrue (states s).told → (x : ℕ) → IsByte ((states s).cells x)) where
    -- a put of a space whose cells are bytes leaves those outside its range
    outside : IsTrue (states s).told → HasPut (states s) at bytes (states t).cells → (x : ℕ) → x < (states s).shape.size
        → ¬ IsWithin at (length bytes) x → (states t).cells x ≡ (states s).cells x
    outside told put x below apart =
        byte_stays (states s) at (length bytes) x ((states s).cells x) ((states t).cells x) (all_bytes told x)
        (put.others x below (λ k within same.
        (let place = single.apart x (at + k) same in apart (omega arith, omega arith))))

    others_put : (refusal : Option Bad) → Puts (states s) at bytes (states t) refusal → NeverDamaged refusal → IsTrue (states s).told
        → UnlessDisk refusal ((x : ℕ) → x < (states s).shape.size → ¬ IsWithin at (length bytes) x → (states t).cells x ≡ (states s).cells x)
    others_put None puts never told = outside told (puts.done (can_put (states s) at (length bytes) single told))
    others_put (Some Disk) puts never told = tt
    others_put (Some (Damaged part level block)) puts never told = absurd never

    -- it writes at the places of its range
    pub put_writes : (refusal : Option Bad) → at + length bytes ≤ (states s).shape.size → NeverDamaged refusal
        → Puts (states s) at bytes (states t) refusal → MovesOnly keeps lands (states s) s at (length bytes) t refusal
        → Writes states keeps lands (IsWithin at (length bytes)) s t refusal
    put_writes refusal fits never puts moves =
        let can = can_put (states s) at (length bytes) single in
        record {
          space = SameSpace-where (states s) (states t) refusal can puts.space;
          plain = never;
          others = others_put refusal puts never;
          hold = moves.hold;
          spots = λ told spot misses. moves.spots (can told) spot
              (λ k less lands_k. misses (at + k) (omega (arith, less)) (omega arith, omega (arith, less)) lands_k);
          reach = λ told. moves.reach (can told);
        }
