-- One more event at the end of a trace.
use Rattle.std.proofs.Common.{◌≡◌, ℕ, List, [], ◌∷◌, ◌++◌, map, refl, sym, subst, ◌∙◌, ap, append_assoc, ⊎_elim}
use Rattle.std.proofs.lemmas.List.{map_push}
use Rattle.save_disk.specs.declared.trace.KeptEvent.{KeptEvent}
use Rattle.save_disk.specs.Trace.{Event, Write, Sync, Said, with_sector, image_after, said_of}
use Rattle.save_disk.specs.Stops.{EachWrite}
use Rattle.save_disk.specs.KeptEvents.{event_of}
use Rattle.save_disk.proofs.Moments.{each_write-append}

-- the last event changes the image that the others left
pub image_after-push :
    (grain : ℕ) (events : List Event) (event : Event) (image : List ℕ)
    → image_after grain image (events ++ event ∷ []) ≡ image_after grain (image_after grain image events) (event ∷ [])
image_after-push grain [] event image = refl
image_after-push grain (Write sector bytes ∷ events) event image =
    image_after-push grain events event (with_sector grain image sector bytes)
image_after-push grain (Sync ∷ events) event image = image_after-push grain events event image
image_after-push grain (Said bytes ∷ events) event image = image_after-push grain events event image

pub said_of-append : (events more : List Event) → said_of (events ++ more) ≡ said_of events ++ said_of more
said_of-append [] more = refl
said_of-append (Write sector bytes ∷ events) more = said_of-append events more
said_of-append (Sync ∷ events) more = said_of-append events more
said_of-append (Said bytes ∷ events) more = ap (λ (l : List ℕ). bytes ++ l) (said_of-append events more)
    ∙ sym (append_assoc bytes (said_of events) (said_of more))

-- an image that all events gave, once there is one event more and it changed the image so
pub written_more :
    (grain : ℕ) (start image next : List ℕ) (events now : List KeptEvent) (event : KeptEvent)
    → image ≡ image_after grain start (map event_of events) → now ≡ events ++ event ∷ []
    → next ≡ image_after grain image (event_of event ∷ []) → next ≡ image_after grain start (map event_of now)
written_more grain start image next events now event was more changed =
    changed
    ∙ ap (λ (l : List ℕ). image_after grain l (event_of event ∷ [])) was
    ∙ sym (image_after-push grain (map event_of events) (event_of event) start)
    ∙ ap (image_after grain start) (sym (map_push event_of events event))
    ∙ ap (λ (l : List KeptEvent). image_after grain start (map event_of l)) (sym more)

-- all that was said, once there is one event more and it said so
pub said_more :
    (said next : List ℕ) (events now : List KeptEvent) (event : KeptEvent) → said ≡ said_of (map event_of events)
    → now ≡ events ++ event ∷ [] → next ≡ said ++ said_of (event_of event ∷ []) → next ≡ said_of (map event_of now)
said_more said next events now event was more changed =
    changed
    ∙ ap (λ (l : List ℕ). l ++ said_of (event_of event ∷ [])) was
    ∙ sym (said_of-append (map event_of events) (event_of event ∷ []))
    ∙ ap said_of (sym (map_push event_of events event))
    ∙ ap (λ (l : List KeptEvent). said_of (map event_of l)) (sym more)

module _ (Q : ℕ → List ℕ → Type 0) where
  -- one write, or none
  pub one_write : (sector : ℕ) (bytes : List ℕ) → Q sector bytes → EachWrite Q (Write sector bytes ∷ [])
  one_write sector bytes such number written has =
      ⊎_elim
      (λ (here : Write sector bytes ≡ Write number written).
      let same_sector : sector ≡ number = cc in
      let same_bytes : bytes ≡ written = cc in
      subst (λ (n : ℕ). Q n written) same_sector (subst (Q sector) same_bytes such))
      (λ none. absurd none)
      has

  pub no_write :
      (event : Event) → ((sector : ℕ) (bytes : List ℕ) → event ≡ Write sector bytes → ⊥) → EachWrite Q (event ∷ [])
  no_write event apart number written has =
      ⊎_elim (λ (here : event ≡ Write number written). absurd (apart number written here)) (λ none. absurd none) has

  -- each write is such, once there is one event more and its write is
  pub each_write_more :
      (events now : List KeptEvent) (event : KeptEvent) → EachWrite Q (map event_of events)
      → now ≡ events ++ event ∷ [] → EachWrite Q (event_of event ∷ []) → EachWrite Q (map event_of now)
  each_write_more events now event was more such =
      let whole : map event_of events ++ event_of event ∷ [] ≡ map event_of now = sym (map_push event_of events event)
      ∙ ap (λ (l : List KeptEvent). map event_of l) (sym more) in
      subst (EachWrite Q) whole (each_write-append Q (map event_of events) (event_of event ∷ []) was such)
