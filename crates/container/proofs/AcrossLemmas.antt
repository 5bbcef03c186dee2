-- A put that lies in both parts.
use Rattle.std.proofs.Common.{◌≡◌, ℕ, ◌+◌, ◌≤◌, List, ◌++◌, length, length-append, Option, Some, None, ap, subst, arith}
use Rattle.save_bytes.specs.declared.space.Bad.{Bad}
use Rattle.save_bytes.specs.Cells.{IsUnspoilt}
use Rattle.save_bytes.specs.State.{Shape, State, CanPut}
use Rattle.save_bytes.specs.Refusals.{NeverDamaged}
use Rattle.save_bytes.specs.Answers.{IsReady}
use Rattle.save_bytes.specs.Stays.{Stays}
use Rattle.save_bytes.specs.Puts.{Puts}
use Rattle.save_bytes.specs.Reads.{Reads}
use Rattle.save_bytes.specs.Spots.{Frame, Hold, MovesOnly}
use Rattle.save_bytes.proofs.PutLemmas.{AreUnspoilt, Puts-unspoilt, IsReady-unspoilt}
use Rattle.save_bytes.proofs.JoinLemmas.{CanPut-front, CanPut-part, CanPut-later, Puts-after, Puts-append, Puts-refused}
use Rattle.save_bytes.proofs.JoinLemmas.{IsReady-told, MovesOnly-after, MovesOnly-append, MovesOnly-longer}
use Rattle.save_disk.specs.State as disks
use Rattle.container.specs.Overs.{Opened, opened_state, OpenedKeeps, opened_lands}
use Rattle.container.proofs.OverLemmas.{OpenedKeeps-join}

module _ (s r p : State) (at : ℕ) (xs ys : List ℕ) (refusal : Option Bad)
    (fits : at + (length xs + length ys) ≤ s.shape.size) (ready : IsReady s at (length xs + length ys) None)
    (stays : Stays s r None) (put : Puts r at xs p None)
    (answer : CanPut p (at + length xs) (length ys) → IsReady p (at + length xs) (length ys) refusal) where
  front : Puts s at xs p None
  front = Puts-after s r p at xs (omega (arith, fits)) stays None put

  can_front : CanPut s at (length xs + length ys) → CanPut s at (length xs)
  can_front can = CanPut-front s at (length xs + length ys) (length xs) (omega arith) can

  pub can_behind : CanPut s at (length xs + length ys) → CanPut p (at + length xs) (length ys)
  can_behind can =
      CanPut-later s p (at + length xs) (length ys) (omega (arith, fits)) (front.space.told (can_front can))
      (front.space.twins (can_front can)) (CanPut-part s at (length xs + length ys) (length xs) (length ys) (omega arith) can)

  -- the back part is not refused as damaged
  pub never : CanPut s at (length xs + length ys) → NeverDamaged refusal
  never can =
      let unspoilt : AreUnspoilt s (at + length xs) (length ys) = λ k less.
      (let place : at + (length xs + k) ≡ at + length xs + k = omega arith in
      subst (λ (x : ℕ). IsUnspoilt (s.cells x)) place (ready.done can.told (length xs + k) (omega (arith, less)))) in
      IsReady-unspoilt p (at + length xs) (length ys) refusal (answer (can_behind can)) (can_behind can).told
      (Puts-unspoilt s p (at + length xs) (length ys) at xs None front (can_front can) (omega (arith, fits)) unspoilt)

  pub across_ready : CanPut s at (length xs + length ys) → IsReady s at (length xs + length ys) refusal
  across_ready can = IsReady-told s at (length xs + length ys) refusal ready (never can)

  pub across_puts : (q : State) → Puts p (at + length xs) ys q refusal → Puts s at (xs ++ ys) q refusal
  across_puts q puts =
      Puts-append s p q at xs ys (omega (arith, fits)) front refusal
      (λ can. never (subst (λ (n : ℕ). CanPut s at n) (length-append xs ys) can)) puts

-- a front that was refused
pub refused_puts : (s r p : State) (at : ℕ) (xs ys : List ℕ) (bad : Bad) → at + (length xs + length ys) ≤ s.shape.size
    → Stays s r None → Puts r at xs p (Some bad) → Puts s at (xs ++ ys) p (Some bad)
refused_puts s r p at xs ys bad fits stays put =
    Puts-refused s p at xs (xs ++ ys) bad (omega (arith, length-append xs ys))
    (Puts-after s r p at xs (omega (arith, fits)) stays (Some bad) put)

module _ {D : Type 0} (states : D → disks.State) (a b c : Opened D) (at n m : ℕ)
    (fits : at + (n + m) ≤ (opened_state states a).shape.size)
    (reads : Reads (opened_state states) (OpenedKeeps states) (opened_lands states) a b None) where
  hold : OpenedKeeps states Frame a b → OpenedKeeps states Hold a b
  hold frame = (frame.0, tt, (frame.2.0, tt))

  pub refused_moves : (bad : Bad)
      → MovesOnly (OpenedKeeps states) (opened_lands states) (opened_state states b) b at n c (Some bad)
      → MovesOnly (OpenedKeeps states) (opened_lands states) (opened_state states a) a at (n + m) c (Some bad)
  refused_moves bad moves =
      MovesOnly-longer (opened_state states) (OpenedKeeps states) (opened_lands states) (OpenedKeeps-join states)
      a c at n (n + m) (Some bad) (omega arith)
      (MovesOnly-after (opened_state states) (OpenedKeeps states) (opened_lands states) (OpenedKeeps-join states)
      a b c at n (Some bad) hold (omega (arith, fits)) reads moves)

  pub across_moves : (e : Opened D) (refusal : Option Bad)
      → (opened_state states c).shape ≡ (opened_state states b).shape
      → (CanPut (opened_state states a) at (n + m) → CanPut (opened_state states c) (at + n) m)
      → (CanPut (opened_state states a) at (n + m) → NeverDamaged refusal)
      → MovesOnly (OpenedKeeps states) (opened_lands states) (opened_state states b) b at n c None
      → MovesOnly (OpenedKeeps states) (opened_lands states) (opened_state states c) c (at + n) m e refusal
      → MovesOnly (OpenedKeeps states) (opened_lands states) (opened_state states a) a at (n + m) e refusal
  across_moves e refusal shape can never_is first later =
      let one : (opened_state states c).shape.size ≡ (opened_state states b).shape.size = ap (λ (shape : Shape). shape.size) shape in
      let two : (opened_state states b).shape.size ≡ (opened_state states a).shape.size =
      ap (λ (shape : Shape). shape.size) reads.stays.space.shape in
      MovesOnly-append (opened_state states) (OpenedKeeps states) (opened_lands states) (OpenedKeeps-join states)
      a c e at n m refusal (omega (arith, fits)) (omega (arith, one, two)) can never_is
      (MovesOnly-after (opened_state states) (OpenedKeeps states) (opened_lands states) (OpenedKeeps-join states)
      a b c at n None hold (omega (arith, fits)) reads first) later
