-- How calls of a disk add up.
use Rattle.std.proofs.Common.{List, [], ◌∷◌, ◌++◌, Option, Some, refl, ◌∙◌, ap, arith, append_assoc}
use Rattle.std.specs.Option.{option_map}
use Rattle.save_disk.specs.Trace.{Event, Told}
use Rattle.save_disk.specs.State.{State, IsSteady, Happens, then_event}
use Rattle.save_disk.specs.Tells.{Tells}

pub steady_start : (state : State) → IsSteady state state
steady_start state = record { size = refl; grain = refl; disk = omega arith; source = omega arith; sink = omega arith }

pub steady_join : (one two three : State) → IsSteady one two → IsSteady two three → IsSteady one three
steady_join one two three before after = record {
  size = after.size ∙ before.size;
  grain = after.grain ∙ before.grain;
  disk = omega (arith, before.disk, after.disk);
  source = omega (arith, before.source, after.source);
  sink = omega (arith, before.sink, after.sink);
}

module _ (P : List Event → Type 0) where
  -- a call that adds an event
  pub tells_more : (Q : List Event → Type 0) (event : Event) (one two three : State) → Tells P one two
      → Happens event two three → ((events : List Event) → P events → Q (events ++ event ∷ [])) → Tells Q one three
  tells_more Q event one two three so_far happens more = λ told is.
      let before = so_far told is in (
        before.0 ++ event ∷ [],
        more before.0 before.1,
        happens ∙ ap (λ (o : Option Told). option_map (then_event event) o) before.2
            ∙ ap (λ (events : List Event). Some (record told { events = events }))
            (append_assoc told.events before.0 (event ∷ [])),
      )
