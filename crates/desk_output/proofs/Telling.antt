-- What was said, call by call.
use Rattle.std.proofs.Common.{◌≡◌, ℕ, zero, suc, List, [], ◌∷◌, ◌++◌, take, drop, Option, Some, None}
use Rattle.std.proofs.Common.{refl, sym, ◌∙◌, ap, subst, append_assoc}
use Rattle.std.proofs.lemmas.List.{append-nil, take-append-drop}
use Rattle.std.specs.Option.{option_map}
use Rattle.save_disk.specs.Trace.{Event, Told, Write, Sync, Said, OnlySays, said_of}
use Rattle.save_disk.specs.State.{State, then_event}
use Rattle.save_disk.specs.Stops.{AtEachMoment}
use Rattle.save_disk.specs.Tells.{Tells}
use Rattle.save_disk.proofs.Events.{said_of-append}
use Rattle.desk_output.specs.Output.{IsFront, SaysFront, SaysAll, SaysBefore, HasOnlySaid}

-- ---- events behind one another

OnlySays-append : (events more : List Event) → OnlySays events → OnlySays more → OnlySays (events ++ more)
OnlySays-append [] more only next = next
OnlySays-append (Said first ∷ events) more only next = OnlySays-append events more only next
OnlySays-append (Write sector written ∷ events) more only next = absurd only
OnlySays-append (Sync ∷ events) more only next = absurd only

-- what is left of a text, once more of it was said
pub joined : (text rest next : List ℕ) (events more : List Event) → SaysBefore rest text events
    → SaysBefore next rest more → SaysBefore next text (events ++ more)
joined text rest next events more before after = record {
  only = OnlySays-append events more before.only after.only;
  front = ap (λ (l : List ℕ). l ++ next) (said_of-append events more)
      ∙ append_assoc (said_of events) (said_of more) next
      ∙ ap (λ (l : List ℕ). said_of events ++ l) after.front ∙ before.front;
}

-- a piece of a text was said
pub one_said : (text next : List ℕ) (n : ℕ) → next ≡ drop n text → SaysBefore next text (Said (take n text) ∷ [])
one_said text next n is = record {
  only = tt;
  front = ap (λ (l : List ℕ). (take n text ++ []) ++ l) is
      ∙ ap (λ (l : List ℕ). l ++ drop n text) (append-nil (take n text)) ∙ take-append-drop n text;
}

-- a piece more was said
pub said_more : (text rest next : List ℕ) (n : ℕ) (events : List Event) → next ≡ drop n rest
    → SaysBefore rest text events → SaysBefore next text (events ++ Said (take n rest) ∷ [])
said_more text rest next n events is before =
    joined text rest next events (Said (take n rest) ∷ []) before (one_said rest next n is)

-- more is to be said
pub before_more : (text rest more : List ℕ) (events : List Event) → SaysBefore rest text events
    → SaysBefore (rest ++ more) (text ++ more) events
before_more text rest more events before = record {
  only = before.only;
  front = sym (append_assoc (said_of events) rest more) ∙ ap (λ (l : List ℕ). l ++ more) before.front;
}

-- all or a front of the rest was said
pub all_join : (text rest : List ℕ) (events more : List Event) → SaysBefore rest text events → SaysAll rest more
    → SaysAll text (events ++ more)
all_join text rest events more before after = record {
  only = OnlySays-append events more before.only after.only;
  whole = said_of-append events more ∙ ap (λ (l : List ℕ). said_of events ++ l) after.whole ∙ before.front;
}

pub front_join : (text rest : List ℕ) (events more : List Event) → SaysBefore rest text events → SaysFront rest more
    → SaysFront text (events ++ more)
front_join text rest events more before after =
    let left = joined text rest after.front.0 events more before
    (record { only = after.only; front = after.front.1 }) in
    record { only = left.only; front = (after.front.0, left.front) }

-- a front of a text is one of a longer text
pub front_more : (text more whole : List ℕ) (events : List Event) → text ++ more ≡ whole → SaysFront text events
    → SaysFront whole events
front_more text more whole events is says = record {
  only = says.only;
  front = (
    says.front.0 ++ more,
    sym (append_assoc (said_of events) says.front.0 more) ∙ ap (λ (l : List ℕ). l ++ more) says.front.1 ∙ is,
  );
}

-- ---- calls behind one another

module _ (P Q R : List Event → Type 0) where
  pub tells_join : (one two three : State) → Tells P one two → Tells Q two three
      → ((events more : List Event) → P events → Q more → R (events ++ more)) → Tells R one three
  tells_join one two three first second join = λ told is.
      let before = first told is in
      let after = second (record told { events = told.events ++ before.0 }) before.2 in (
        before.0 ++ after.0,
        join before.0 after.0 before.1 after.1,
        after.2 ∙ ap (λ (events : List Event). Some (record told { events = events }))
            (append_assoc told.events before.0 after.0),
      )

pub only_start : (o : Option Told) → HasOnlySaid o o
only_start None = refl
only_start (Some told) =
    ([], tt, ap (λ (events : List Event). Some (record told { events = events })) (sym (append-nil told.events)))

pub only_join : (one two three : Option Told) → HasOnlySaid one two → HasOnlySaid two three → HasOnlySaid one three
only_join None two three first second = subst (λ (o : Option Told). HasOnlySaid o three) first second
only_join (Some told) two three first second =
    let after = subst (λ (o : Option Told). HasOnlySaid o three) first.2 second in (
      first.0 ++ after.0,
      OnlySays-append first.0 after.0 first.1 after.1,
      after.2 ∙ ap (λ (events : List Event). Some (record told { events = events }))
          (append_assoc told.events first.0 after.0),
    )

only_said : (bytes : List ℕ) (one two : Option Told) → two ≡ option_map (then_event (Said bytes)) one
    → HasOnlySaid one two
only_said bytes None two is = is
only_said bytes (Some told) two is = (Said bytes ∷ [], tt, is)

pub only_more : (bytes : List ℕ) (one two three : Option Told) → HasOnlySaid one two
    → three ≡ option_map (then_event (Said bytes)) two → HasOnlySaid one three
only_more bytes one two three so_far is = only_join one two three so_far (only_said bytes two three is)

-- ---- at each moment

only_front : (events : List Event) (moment : ℕ) → OnlySays events → OnlySays (take moment events)
only_front events zero only = tt
only_front [] (suc moment) only = tt
only_front (Said bytes ∷ events) (suc moment) only = only_front events moment only
only_front (Write sector bytes ∷ events) (suc moment) only = absurd only
only_front (Sync ∷ events) (suc moment) only = absurd only

said_front_of : (events : List Event) (moment : ℕ) → IsFront (said_of (take moment events)) (said_of events)
said_front_of events zero = (said_of events, refl)
said_front_of [] (suc moment) = ([], refl)
said_front_of (Said bytes ∷ events) (suc moment) =
    let rest = said_front_of events moment in (
      rest.0,
      append_assoc bytes (said_of (take moment events)) rest.0 ∙ ap (λ (l : List ℕ). bytes ++ l) rest.1,
    )
said_front_of (Write sector bytes ∷ events) (suc moment) = said_front_of events moment
said_front_of (Sync ∷ events) (suc moment) = said_front_of events moment

-- what was said by an earlier moment is a front too
pub front_at_each_moment : (text : List ℕ) (events : List Event) → SaysFront text events
    → AtEachMoment (SaysFront text) events
front_at_each_moment text events says = λ moment.
    let earlier = said_front_of events moment in
    record {
      only = only_front events moment says.only;
      front = (
        earlier.0 ++ says.front.0,
        sym (append_assoc (said_of (take moment events)) earlier.0 says.front.0)
            ∙ ap (λ (l : List ℕ). l ++ says.front.0) earlier.1 ∙ says.front.1,
      );
    }
