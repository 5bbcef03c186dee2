-- What a command says, beside the replies that it may say.
use Rattle.std.specs.Prelude.{ℕ, ◌≡◌, ◌≤◌, ◌⊎◌, List, [], Some}
use Rattle.save_disk.specs.Trace.{Event, Told, OnlySays, said_of}
use Rattle.save_disk.specs.State.{State}
use Rattle.save_disk.specs.Stops.{Since, AtEachMoment}
use Rattle.save_disk.specs.Tells.{Tells}
use Rattle.desk_output.specs.Output.{IsFront, SaysFront, SaysAll}

-- a status, and all that is said
pub record Reply : Type 0 where
  pub status : ℕ
  pub text : List ℕ

abbrev pub done : List ℕ → Reply
done text = record { status = 0; text = text }

abbrev pub refused : List ℕ → Reply
refused line = record { status = 1; text = line }

-- Since the call began nothing was written or synced, and what was said is a front of a reply's text; at 0 and 1 it
-- is all of it, with the reply's status.
pub record Says (status : ℕ) (text : List ℕ) (before after : State) (result : ℕ) : Type 0 where
  pub front : Tells (SaysFront text) before after
  pub whole : result ≤ 1 → (result ≡ status) × Tells (SaysAll text) before after

-- no write and no sync, and what was said is nothing or a front of one such reply's text
pub record SaysSome (IsReply : Reply → Type 0) (events : List Event) : Type 0 where
  pub only : OnlySays events
  pub said : (said_of events ≡ []) ⊎ ((reply : Reply) × IsReply reply × IsFront (said_of events) reply.text)

-- one such reply was said, and it has this status
abbrev pub SaysReply : (Reply → Type 0) → ℕ → Told → State → Type 0
SaysReply IsReply result told after =
    (reply : Reply) × IsReply reply × (result ≡ reply.status) × Since (SaysAll reply.text) told after.told

-- Since the call began nothing was written or synced, and what was said is nothing or a front of one such reply's
-- text; at 0 and 1 it is all of one, with its status.
pub record Answers (IsReply : Reply → Type 0) (before after : State) (result : ℕ) : Type 0 where
  pub front : Tells (SaysSome IsReply) before after
  pub whole : result ≤ 1 → (told : Told) → before.told ≡ Some told → SaysReply IsReply result told after

-- at each moment nothing was written or synced, and nothing said, or a front of the text of one such reply: the same
-- reply at all moments
abbrev pub SaysOneReply : (Reply → Type 0) → List Event → Type 0
SaysOneReply IsReply events =
    AtEachMoment (SaysFront []) events
    ⊎ ((reply : Reply) × IsReply reply × AtEachMoment (SaysFront reply.text) events)

-- a command ends done or refused, for the disk's or the sink's sake, or for want of memory
abbrev pub IsEnd : ℕ → Type 0
IsEnd result = (result ≤ 1) ⊎ ((result ≡ 3) ⊎ ((result ≡ 5) ⊎ (result ≡ 6)))
