-- What was said at a moment, beside what is to be said in all.
use Rattle.std.specs.Prelude.{ℕ, ◌≡◌, List, ◌++◌, Option, Some, None}
use Rattle.save_disk.specs.Trace.{Event, Told, OnlySays, said_of}
use Rattle.save_disk.specs.Stops.{Since}

-- the first list is a front of the second
abbrev pub IsFront : List ℕ → List ℕ → Type 0
IsFront front whole = (rest : List ℕ) × (front ++ rest ≡ whole)

-- no write and no sync, and what was said is a front of the text
pub record SaysFront (text : List ℕ) (events : List Event) : Type 0 where
  pub only : OnlySays events
  pub front : IsFront (said_of events) text

-- no write and no sync, and the text was said
pub record SaysAll (text : List ℕ) (events : List Event) : Type 0 where
  pub only : OnlySays events
  pub whole : said_of events ≡ text

-- no write and no sync, and what was said is the text up to a rest
pub record SaysBefore (rest text : List ℕ) (events : List Event) : Type 0 where
  pub only : OnlySays events
  pub front : said_of events ++ rest ≡ text

-- nothing happened but output; where no trace is told none is told later
abbrev pub HasOnlySaid : Option Told → Option Told → Type 0
HasOnlySaid None later = later ≡ None
HasOnlySaid (Some told) later = Since OnlySays told later
