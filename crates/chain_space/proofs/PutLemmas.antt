-- Bytes that are put run by run.
use Rattle.std.proofs.Common.{◌≡◌, ℕ, ◌+◌, ◌-◌, ◌≤◌, List, [], ◌++◌, length, take, drop, Option, Some, None, sym, ap}
use Rattle.std.proofs.Common.{subst, arith}
use Rattle.std.proofs.Common.{length-drop, length-append}
use Rattle.std.proofs.lemmas.List.{length-take-le, take_rest}
use Rattle.save_bytes.specs.declared.space.Bad.{Bad}
use Rattle.save_bytes.specs.Cells.{IsUnspoilt}
use Rattle.save_bytes.specs.State.{State, Shape, CanPut}
use Rattle.save_bytes.specs.Spots.{Spot, MovesOnly}
use Rattle.save_bytes.specs.Answers.{IsReady}
use Rattle.save_bytes.specs.Refusals.{NeverDamaged}
use Rattle.save_bytes.specs.Stays.{Stays}
use Rattle.save_bytes.specs.Puts.{Puts}
use Rattle.save_bytes.proofs.SpaceLemmas.{SameSpace-where}
use Rattle.save_bytes.proofs.JoinLemmas.{CanPut-part, CanPut-front, CanPut-later, HasPut-none, Puts-more, Puts-refused}
use Rattle.save_bytes.proofs.JoinLemmas.{take-more}
use Rattle.save_bytes.proofs.JoinLemmas.{MovesOnly-append, MovesOnly-longer}
use Rattle.save_bytes.proofs.PutLemmas.{AreUnspoilt, Puts-unspoilt}

-- the front of some bytes was put
module _ (s t : State) (at : ℕ) (bytes : List ℕ) (done : ℕ) (within : done ≤ length bytes)
    (inside : at + length bytes ≤ s.shape.size)
    (puts : Puts s at (take done bytes) t None) where
  -- the bytes behind it
  abbrev pub rest : List ℕ
  rest = take (length bytes - done) (drop done bytes)

  pub rest_len : length rest ≡ length bytes - done
  rest_len = rw take_rest (length-drop done bytes)

  front_len : length (take done bytes) ≡ done
  front_len = length-take-le done bytes within

  front_can : (n : ℕ) → done ≤ n → CanPut s at n → CanPut s at (length (take done bytes))
  front_can n le can = subst (λ (m : ℕ). CanPut s at m) (sym front_len) (CanPut-front s at n done le can)

  -- they may be put
  pub rest_can : (m : ℕ) → done + m ≤ length bytes → CanPut s at (done + m) → CanPut t (at + done) m
  rest_can m fits can =
      let front = front_can (done + m) (omega arith) can in
      CanPut-later s t (at + done) m (omega (arith, inside)) (puts.space.told front) (puts.space.twins front)
      (CanPut-part s at (done + m) done m (omega arith) can)

  -- and no cell of theirs is spoilt yet
  rest_unspoilt : IsReady s at (length bytes) None → CanPut s at (length bytes)
      → AreUnspoilt t (at + done) (length rest)
  rest_unspoilt ready can k less =
      let all = Puts-unspoilt s t at (length bytes) at (take done bytes) None puts (front_can
      (length bytes) within can) inside
      (ready.done can.told) in
      let place : at + (done + k) ≡ at + done + k = omega arith in
      subst (λ (x : ℕ). IsUnspoilt (t.cells x)) place (all (done + k) (omega (arith, less, rest_len)))

  module _ (ready : IsReady s at (length bytes) None) (u : State) where
    pub rest_never : (bad : Bad)
        → (CanPut t (at + done) (length rest) → AreUnspoilt t (at + done) (length rest) → NeverDamaged (Some bad))
        → CanPut s at (length bytes) → NeverDamaged (Some bad)
    rest_never bad never can =
        let whole : done + length rest ≡ length bytes = omega (arith, rest_len, within) in
        never (rest_can (length rest) (omega (arith, whole)) (subst (λ (m : ℕ). CanPut s at m) (sym whole) can))
        (rest_unspoilt ready can)

    -- a put that was refused
    pub rest_refused : (bad : Bad)
        → (CanPut t (at + done) (length rest) → AreUnspoilt t (at + done) (length rest) → NeverDamaged (Some bad))
        → Puts t (at + done) rest u (Some bad) → Puts s at bytes u (Some bad)
    rest_refused bad never put =
        let whole : length (take done bytes ++ rest) ≡ length bytes =
        omega (arith, length-append (take done bytes) rest, front_len, rest_len, within) in
        Puts-refused s u at (take done bytes ++ rest) bytes bad (omega (arith, whole))
        (Puts-more s t u at bytes rest done (Some bad) (omega (arith, rest_len, within)) inside
        (λ can. rest_never bad never (subst (λ (m : ℕ). CanPut s at m) whole can)) puts put)

  -- some more were put
  pub rest_put : (u : State) (n : ℕ) → n ≤ length rest → Puts t (at + done) (take n rest) u None
      → Puts s at (take (done + n) bytes) u None
  rest_put u n le put =
      let len : length (take n rest) ≡ n = length-take-le n rest le in
      subst (λ (l : List ℕ). Puts s at l u None) (sym (take-more bytes done n))
      (Puts-more s t u at bytes (take n rest) done None (omega (arith, len, le, rest_len, within)) inside
      (λ can. tt) puts put)

-- a call that reads puts nothing
pub nothing_put : (s t : State) (at : ℕ) → Stays s t None → Puts s at [] t None
nothing_put s t at stays = record {
  space = SameSpace-where s t None (λ (can : CanPut s at 0). can.told) stays.space;
  done = λ can. HasPut-none s at t.cells (stays.cells can.told);
  damaged = λ can. tt;
}

-- what the puts of the front and of the rest touch
module _ {A : Type 0} (states : A → State) (keeps : Spot → A → A → Type 0) (lands : A → ℕ → Spot → Type 0)
    (join : (spot : Spot) (s t u : A) → keeps spot s t → keeps spot t u → keeps spot s u) (a b u : A) (at : ℕ)
    (bytes : List ℕ) (done : ℕ) (within : done ≤ length bytes) (inside : at + length bytes ≤ (states a).shape.size)
    (puts : Puts (states a) at (take done bytes) (states b) None) (moves : MovesOnly keeps lands
    (states a) a at done b None) where
  pub rest_moves : (n : ℕ) (refusal : Option Bad) → done + n ≤ length bytes
      → (CanPut (states a) at (done + n) → NeverDamaged refusal)
      → MovesOnly keeps lands (states b) b (at + done) n u refusal
      → MovesOnly keeps lands (states a) a at (done + n) u refusal
  rest_moves n refusal fits never more =
      MovesOnly-append states keeps lands join a b u at done n refusal (omega (arith, fits, inside))
      (ap (λ (shape : Shape). shape.size) puts.space.shape)
      (rest_can (states a) (states b) at bytes done within inside puts n fits) never moves more

  -- where the put of the rest was refused
  pub rest_moves_refused : IsReady (states a) at (length bytes) None → (bad : Bad) → (len : ℕ)
      → len ≡ length bytes - done
      → (CanPut (states b) (at + done) len → AreUnspoilt (states b) (at + done) len → NeverDamaged (Some bad))
      → MovesOnly keeps lands (states b) b (at + done) len u (Some bad)
      → MovesOnly keeps lands (states a) a at (length bytes) u (Some bad)
  rest_moves_refused ready bad len is never more =
      let behind = rest_len (states a) (states b) at bytes done within inside puts in
      let same : length (rest (states a) (states b) at bytes done within inside puts) ≡ len = omega
      (arith, behind, is) in
      let whole : done + len ≡ length bytes = omega (arith, is, within) in
      MovesOnly-longer states keeps lands join a u at (done + len) (length bytes) (Some bad) (omega (arith, whole))
      (rest_moves len (Some bad) (omega (arith, whole))
      (λ can. rest_never (states a) (states b) at bytes done within inside puts ready (states u) bad
      (subst (λ (n : ℕ). CanPut (states b) (at + done) n → AreUnspoilt (states b) (at + done) n
      → NeverDamaged (Some bad))
      (sym same) never) (subst (λ (n : ℕ). CanPut (states a) at n) whole can)) more)
