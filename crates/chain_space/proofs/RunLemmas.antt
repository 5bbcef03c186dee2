-- Calls of the base on places that lie side by side, as calls of the view.
use Rattle.std.proofs.Common.{◌≡◌, ℕ, ◌+◌, ◌<◌, ◌≤◌, List, length, take, IsTrue, Option, Some, None, Ok, sym, ◌∙◌, ap}
use Rattle.std.proofs.Common.{subst, arith}
use Rattle.std.proofs.lemmas.List.{length-take-le}
use Rattle.save_bytes.specs.declared.space.Bad.{Bad}
use Rattle.save_bytes.specs.declared.space.Bad.TheVariants.{Disk, Damaged}
use Rattle.save_bytes.specs.Cells.{IsUnspoilt}
use Rattle.save_bytes.specs.State.{State, CanPut}
use Rattle.save_bytes.specs.Answers.{IsReady}
use Rattle.save_bytes.specs.Refusals.{NeverDamaged}
use Rattle.save_bytes.specs.Stays.{Stays}
use Rattle.save_bytes.specs.Puts.{Puts}
use Rattle.save_bytes.specs.Spots.{Spot, Frame, Hold, MovesOnly}
use Rattle.save_bytes.specs.Reads.{Reads}
use Rattle.save_bytes.proofs.JoinLemmas.{CanPut-front, CanPut-later, IsReady-before, Puts-after, Puts-refused}
use Rattle.save_bytes.proofs.JoinLemmas.{MovesOnly-after, MovesOnly-longer}
use Rattle.save_bytes.proofs.PutLemmas.{AreUnspoilt, IsReady-unspoilt}
use Rattle.chain_nodes.specs.declared.info.ChainInfo.{ChainInfo}
use Rattle.chain_space.specs.declared.space.Shown.{Shown}
use Rattle.chain_space.specs.Shown.{can_show, place_of, shown_state, ShownLands, IsLocatedRun}
use Rattle.chain_space.specs.ShownLaws.{CanShow, can_show-facts, with_blocks}
use Rattle.chain_space.proofs.ViewLemmas.{base_told, shown_room, view_stays, view_reach, can_below, put_list, view_puts}

-- an answer on a range that lies side by side in the base
pub view_ready : (base : State) (info : ChainInfo) (first blocks at n place : ℕ) (refusal : Option Bad)
    → (IsTrue (shown_state info first blocks base).told → (k : ℕ) → k < n
    → place_of base info first (at + k) ≡ place + k)
    → IsReady base place n refusal → IsReady (shown_state info first blocks base) at n refusal
view_ready base info first blocks at n place None places h = record {
  done = λ told k less. subst (λ (x : ℕ). IsUnspoilt (base.cells x)) (sym (places told k less))
      (h.done (base_told base info first blocks told) k less);
  damaged = λ told. tt;
  plain = λ plain. tt;
}
view_ready base info first blocks at n place (Some Disk) places h =
    record { done = λ told. tt; damaged = λ told. tt; plain = λ plain. tt }
view_ready base info first blocks at n place (Some (Damaged part level block)) places h = record {
  done = λ told. tt;
  damaged = λ told.
      (let found = h.damaged (base_told base info first blocks told) in
      record {
        k = found.k;
        within = found.within;
        spoilt = ap base.cells (places told found.k found.within) ∙ found.spoilt;
        before = λ j less. subst (λ (x : ℕ). IsUnspoilt (base.cells x))
            (sym (places told j (omega (arith, less, found.within)))) (found.before j less);
      });
  plain = h.plain;
}

-- an answer on a run, given after calls that read
pub ready_later : (old now mid : State) (shown : Shown) (at most place n : ℕ) (refusal : Option Bad)
    → IsTrue (with_blocks shown old).shape.sound → IsLocatedRun now shown.info shown.first shown.blocks at most (Ok
    (place, n))
    → Stays old now None → Stays now mid None → at + n ≤ (with_blocks shown old).shape.size
    → IsReady mid place n refusal
    → IsReady (with_blocks shown old) at n refusal
ready_later old now mid shown at most place n refusal sound run first second fits h =
    IsReady-before (with_blocks shown old) (with_blocks shown now) at n refusal fits
    (view_stays old now shown.info shown.first shown.blocks (shown_room old shown sound) None first)
    (view_ready now shown.info shown.first shown.blocks at n place refusal run.places
    (IsReady-before now mid place n refusal run.in_base second h))

-- a put of the front of some bytes into the base at m, after a call that read from a on
module _ {A : Type 0} (states : A → State) (keeps : Spot → A → A → Type 0) (lands : A → ℕ → Spot → Type 0)
    (join : (spot : Spot) (s t u : A) → keeps spot s t → keeps spot t u → keeps spot s u)
    (hold : (s t : A) → keeps Frame s t → keeps Hold s t) (a m b : A) (shown : Shown) (at : ℕ) (all : List ℕ)
    (place n : ℕ)
    (sound : IsTrue (can_show (states a).shape shown.info shown.blocks))
    (run : IsLocatedRun (states a) shown.info shown.first shown.blocks at (length all) (Ok (place, n)))
    (reads : Reads states keeps lands a m None) where
  abbrev view : A → State
  view x = with_blocks shown (states x)

  abbrev view_lands : A → ℕ → Spot → Type 0
  view_lands = ShownLands states lands shown.info shown.first

  abbrev front : List ℕ
  front = take n all

  len : length front ≡ n
  len = length-take-le n all run.bounded

  room : CanShow (states a).shape shown.info shown.blocks
  room = can_show-facts (states a).shape shown.info shown.blocks sound

  fits : place + length front ≤ (states a).shape.size
  fits = omega (arith, len, run.in_base)

  base_puts : (refusal : Option Bad) → Puts (states m) place front (states b) refusal
      → Puts (states a) place front (states b) refusal
  base_puts = Puts-after (states a) (states m) (states b) place front fits reads.stays

  can_base : CanPut (view a) at n → CanPut (states a) place n
  can_base = can_below (states a) (states b) shown.info shown.first shown.blocks at
      (length all) place n room run front len

  -- puts them into the view
  pub run_puts : (refusal : Option Bad) → Puts (states m) place front (states b) refusal
      → Puts (view a) at front (view b) refusal
  run_puts refusal puts =
      view_puts (states a) (states b) shown.info shown.first shown.blocks at (length all) place n room run front len
      refusal (base_puts refusal puts)

  pub run_refused : (bad : Bad) → Puts (states m) place front (states b) (Some bad)
      → Puts (view a) at all (view b) (Some bad)
  run_refused bad puts =
      Puts-refused (view a) (view b) at front all bad (omega (arith, len, run.bounded)) (run_puts (Some bad) puts)

  -- touches in the view what it touches
  pub run_moves : (refusal : Option Bad) → Puts (states m) place front (states b) refusal
      → MovesOnly keeps lands (states m) m place (length front) b refusal
      → MovesOnly keeps view_lands (view a) a at n b refusal
  run_moves refusal puts moves =
      let base = MovesOnly-after states keeps lands join a m b place (length front) refusal
      (hold a m) fits reads moves in
      let old = states a in
      let below = λ (can : CanPut (view a) at n). subst (λ (l : ℕ). CanPut old place l) (sym len) (can_base can) in
      record {
        hold = base.hold;
        spots = λ can spot misses. base.spots (below can) spot (λ k less lands_k.
            (let here : k < n = omega (arith, less, len) in
            misses k here (subst (λ (x : ℕ). lands a x spot) (sym (run.places can.told k here)) lands_k)));
        damaged = λ can. base.damaged (below can);
        reach = λ can. view_reach states keeps lands a b shown.info shown.first shown.blocks room refusal can.told
            (put_list old (states b) shown.info shown.first shown.blocks at
            (length all) place n room run front len can refusal
            (base_puts refusal puts)) (base.reach (below can));
      }

  pub moves_refused : (bad : Bad) → Puts (states m) place front (states b) (Some bad)
      → MovesOnly keeps lands (states m) m place (length front) b (Some bad)
      → MovesOnly keeps view_lands (view a) a at (length all) b (Some bad)
  moves_refused bad puts moves =
      MovesOnly-longer view keeps view_lands join a b at n (length all) (Some bad) run.bounded (run_moves
      (Some bad) puts moves)

  -- and is not refused where no cell is spoilt
  pub run_never : (refusal : Option Bad)
      → (CanPut (states m) place (length front) → IsReady (states m) place (length front) refusal)
      → CanPut (view a) at (length all) → AreUnspoilt (view a) at (length all) → NeverDamaged refusal
  run_never refusal ready can ok =
      let fewer : n ≤ length all = run.bounded in
      let told = base_told (states a) shown.info shown.first shown.blocks can.told in
      let later = CanPut-later (states a) (states m) place n run.in_base (reads.stays.space.told told)
      (reads.stays.space.twins told) (can_base (CanPut-front (view a) at (length all) n fewer can)) in
      let there = subst (λ (l : ℕ). IsReady (states m) place l refusal) len
      (ready (subst (λ (l : ℕ). CanPut (states m) place l) (sym len) later)) in
      let here = view_ready (states a) shown.info shown.first shown.blocks at n place refusal run.places
      (IsReady-before (states a) (states m) place n refusal run.in_base reads.stays there) in
      IsReady-unspoilt (view a) at n refusal here can.told (λ k less. ok k (omega (arith, less, fewer)))
