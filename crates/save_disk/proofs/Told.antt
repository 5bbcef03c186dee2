-- What it means that a disk tells its trace and each read.
use Rattle.std.proofs.Common.{◌≡◌, ℕ, zero, suc, ◌/◌, ◌<◌, ◌≤◌, Bool, true, false, ◌&&◌, IsTrue, List, length, Option}
use Rattle.std.proofs.Common.{Some, None, IfSome, refl, ap, subst, arith, ⊎_elim, ◌∙◌}
use Rattle.std.proofs.lemmas.Bool.{cases_lt}
use Rattle.save_disk.specs.Trace.{Told, IsFresh, sector_of, image_now}
use Rattle.save_disk.specs.State.{State, IsSound, IsRead}
use Rattle.save_disk.specs.Stops.{EachWrite, Fits}
use Rattle.save_disk.specs.Tells.{all_below, is_sure, tells}
use Rattle.save_disk.proofs.Moments.{length-image_after}

-- a number below the bound passes
pub all_below-at : (test : ℕ → Bool) (n x : ℕ) → IsTrue (all_below test n) → x < n → IsTrue (test x)
unfolding all_below
all_below-at test zero x all below = absurd (omega (arith, below))
all_below-at test (suc n) x all below =
    let both = and_split (test n) (all_below test n) all in
    ⊎_elim (λ (lower : x < n). all_below-at test n x both.1 lower)
    (λ (top : n ≤ x). let same : x ≡ n = omega arith in rw same both.0) (cases_lt x n)
  where
    and_split : (a b : Bool) → IsTrue (a && b) → IsTrue a × IsTrue b
    and_split true b h = (refl, h)
    and_split false b h = absurd (cc)

pub all_below-all : (test : ℕ → Bool) (n : ℕ) → ((x : ℕ) → x < n → IsTrue (test x)) → IsTrue (all_below test n)
unfolding all_below
all_below-all test zero each = refl
all_below-all test (suc n) each = rw (each n (omega arith)) (all_below-all test n (λ x below. each x (omega arith)))

sure_at : (size : ℕ) (o : Option Told) (told : Told) (x : ℕ) → o ≡ Some told → IsTrue (is_sure size o) → x < size
    → IsTrue (told.sure (x / told.grain))
sure_at size o told x is sure below = all_below-at (λ y. told.sure (y / told.grain)) size x (rw is at sure) below

-- where each read is told, so is the read of a byte
pub tells-sure : (state : State) (told : Told) (x : ℕ) → state.told ≡ Some told → IsTrue (tells state) → x < state.size
    → IsTrue (told.sure (x / told.grain))
tells-sure state told x is sure below = sure_at state.size state.told told x is sure below

-- a disk that tells each read tells its trace
pub tells-told : (o : Option Told) (size : ℕ) → IsTrue (is_sure size o) → (told : Told) × (o ≡ Some told)
tells-told None size sure = absurd (cc)
tells-told (Some told) size sure = (told, refl)

-- a trace that has no event yet tells each read
pub fresh_tells : (state : State) (told : Told) → state.told ≡ Some told → IsFresh told → IsTrue (tells state)
fresh_tells state told is fresh =
    rw is (all_below-all (λ x. told.sure (x / told.grain)) state.size (λ x below. fresh.sure (x / told.grain)))

pub told_grain : (state : State) (told : Told) → IsSound state → state.told ≡ Some told → told.grain ≡ state.grain
told_grain state told sound is = subst (λ (o : Option Told). IfSome o (λ t. t.grain ≡ state.grain)) is sound.told_grain

-- each write that is told is of a whole sector that begins inside the image
pub told_writes : (state : State) (told : Told) → IsSound state → state.told ≡ Some told
    → EachWrite (Fits told.grain (length told.start)) told.events
told_writes state told sound is =
    subst (λ (o : Option Told). IfSome o (λ t. EachWrite (Fits t.grain (length t.start)) t.events)) is sound.told_writes

-- the image has at each moment the disk's length
pub now_size : (state : State) (told : Told) → IsSound state → state.told ≡ Some told
    → length (image_now told) ≡ state.size
now_size state told sound is =
    let size : length told.start ≡ state.size = subst (λ (o : Option Told). IfSome o (λ t. length t.start ≡ state.size))
    is sound.told_size in
    length-image_after told.grain told.start told.events (told_writes state told sound is) ∙ size

-- a read that is told gives the sector of the image
pub read_sure : (state : State) (told : Told) (sector : ℕ) (bytes : List ℕ) → IsSound state → state.told ≡ Some told
    → IsTrue (told.sure sector) → IsRead state sector bytes → bytes ≡ sector_of state.grain (image_now told) sector
read_sure state told sector bytes sound is sure read =
    let given : bytes ≡ sector_of told.grain (image_now told) sector =
    subst (λ (o : Option Told). IfSome o
    (λ t. IsTrue (t.sure sector) → bytes ≡ sector_of t.grain (image_now t) sector)) is read sure in
    given ∙ ap (λ (k : ℕ). sector_of k (image_now told) sector) (told_grain state told sound is)
