-- A command as a whole.
use Rattle.std.proofs.Common.{◌≡◌, ◌⊎◌, ℕ, ◌≤◌, List, [], take, Option, Some, Result, Ok, refl, ◌∙◌, ap, subst}
use Rattle.std.proofs.Common.{arith, inl, inr, ⊎_elim}
use Rattle.std.proofs.lemmas.List.{append-nil}
use Rattle.save_disk.specs.Trace.{Event, Told, IsFresh, OnlySays, image_after, said_of}
use Rattle.save_disk.specs.State.{State, IsQuiet, Rose}
use Rattle.save_disk.specs.Stops.{Since, AtEachMoment}
use Rattle.save_disk.specs.Tells.{image_of, image_told, NoneRose, Tells}
use Rattle.save_top.specs.declared.failure.Failure.{Failure}
use Rattle.save_top.specs.declared.failure.Failure.TheVariants.{Memory as NoMemory, Disk as DiskFailed, Refused}
use Rattle.container.specs.Signers.{Signing}
use Rattle.container.specs.declared.fault.OpenFault.{OpenFault}
use Rattle.container.specs.declared.fault.OpenFault.TheVariants.{Memory, Disk, Header, Tag, TableHash, Difi}
use Rattle.container.specs.Openings.{IsCaused}
use Rattle.container.proofs.OpensLemmas.{no_fault}
use Rattle.save_top.specs.declared.form.Act.{Act}
use Rattle.desk_output.specs.Output.{SaysFront, SaysAll}
use Rattle.desk_output.proofs.Telling.{front_at_each_moment, front_more}
use Rattle.save_top.specs.Output.{Reply, refused, Says, SaysSome, SaysReply, SaysOneReply, Answers, IsEnd}
use Rattle.container_header.specs.declared.header.Header.{Header as Fields}
use Rattle.container_header.specs.declared.fault.HeaderFault.{HeaderFault}
use Rattle.container.specs.declared.open.Container.{Container}
use Rattle.save_top.specs.declared.form.Order.{Order}
use Rattle.save_top.specs.Peeks.{Holds}
use Rattle.save_top.specs.Replies.{act_reply, reply_by, reply_to}
use Rattle.save_top.specs.Failures.{IsFaultBy, IsFailureBy}

-- at a trace with no event the image is that of the start
pub start_told : (state : State) (told : Told) → state.told ≡ Some told → IsFresh told → image_told state ≡ told.start
start_told state told is fresh = ap image_of is ∙ ap (image_after told.grain told.start) fresh.silent

-- a fault that has its cause is said as the image's
pub fault_by : (expected : Option OpenFault) (act : Act) (image : List ℕ) (fault : OpenFault) → IsCaused expected fault
    → IsFaultBy (reply_by expected act image) fault
fault_by expected act image Memory caused = tt
fault_by expected act image Disk caused = tt
fault_by expected act image (Header fault) caused = ap (λ (o : Option OpenFault). reply_by o act image) caused
fault_by expected act image (Tag want found) caused = ap (λ (o : Option OpenFault). reply_by o act image) caused
fault_by expected act image TableHash caused = ap (λ (o : Option OpenFault). reply_by o act image) caused
fault_by expected act image (Difi part fault) caused = ap (λ (o : Option OpenFault). reply_by o act image) caused

-- what is said after a call that left the trace as it was
pub says_before : (old mid new : State) (status : ℕ) (text : List ℕ) (result : ℕ) → IsQuiet old mid
    → Says status text mid new result → Says status text old new result
says_before old mid new status text result quiet says = record {
  front = λ told is. says.front told (quiet ∙ is);
  whole = λ done. (let all = says.whole done in (all.0, λ told is. all.1 told (quiet ∙ is)));
}

-- what was said is all that happened, on every desk that tells its trace
pub silent_says : (status : ℕ) (text : List ℕ) (old new : State) (result : ℕ) → Says status text old new result → Tells OnlySays old new
silent_says status text old new result says = λ told is. (let since = says.front told is in (since.0, since.1.only, since.2))

pub silent_after : (old mid new : State) → IsQuiet old mid → Tells OnlySays mid new → Tells OnlySays old new
silent_after old mid new quiet says = λ told is. says told (quiet ∙ is)

-- each failure has a reply
pub reply_of : (failure : Failure) → (reply : Reply) × IsFailureBy reply failure
reply_of NoMemory = (refused [], tt)
reply_of DiskFailed = (refused [], tt)
reply_of (Refused line) = (refused line.items, refl)

pub says_as : (one other : Reply) (old new : State) (result : ℕ) → one ≡ other
    → Says other.status other.text old new result → Says one.status one.text old new result
says_as one other old new result same says = rw same says

-- done, or the sink failed
pub end_done : (result : ℕ) → (result ≡ 0) ⊎ (result ≡ 5) → IsEnd result
end_done result known = ⊎_elim (λ (done : result ≡ 0). inl (omega (arith, done))) (λ (sink : result ≡ 5). inr (inr (inl sink))) known

-- no command ends as words that are no form
pub end_is_not_2 : (result : ℕ) → IsEnd result → result ≡ 2 → ⊥
end_is_not_2 result ends two =
    elim ends [
      | inl low ↦ omega (arith, low, two)
      | inr (inl three) ↦ omega (arith, three, two)
      | inr (inr (inl five)) ↦ omega (arith, five, two)
      | inr (inr (inr six)) ↦ omega (arith, six, two)
    ]

-- a reply that was said is one of those that may be
pub answers_one : (IsReply : Reply → Type 0) (reply : Reply) (old new : State) (result : ℕ) → IsReply reply
    → Says reply.status reply.text old new result → Answers IsReply old new result
answers_one IsReply reply old new result such says = record {
  front = λ told is.
      (let since = says.front told is in (
        since.0,
        record { only = since.1.only; said = inr (reply, such, since.1.front) },
        since.2,
      ));
  whole = λ low told is. (let all = says.whole low in (reply, such, all.0, all.1 told is));
}

silent_at_moments : (events : List Event) → OnlySays events → said_of events ≡ [] → AtEachMoment (SaysFront []) events
silent_at_moments events only none = front_at_each_moment [] events
    (record { only = only; front = ([], append-nil (said_of events) ∙ none) })

one_at_moments : (IsReply : Reply → Type 0) (events : List Event) → SaysSome IsReply events
    → SaysOneReply IsReply events
one_at_moments IsReply events some =
    elim some.said [
      | inl none ↦ inl (silent_at_moments events some.only none)
      | inr one ↦ inr (
        one.0,
        one.1,
        front_at_each_moment one.0.text events (record { only = some.only; front = one.2 }),
      )
    ]

pub at_moments : (IsReply : Reply → Type 0) (old new : State) (result : ℕ) → Answers IsReply old new result
    → Tells (SaysOneReply IsReply) old new
at_moments IsReply old new result answers = λ told is.
    let since = answers.front told is in (since.0, one_at_moments IsReply since.0 since.1, since.2)

-- a command that met no fault was done or refused, unless memory was wanting
pub ended : (old new : State) (result : ℕ) → IsEnd result → (result ≡ 3 → Rose old.counts.disk new.counts.disk)
    → (result ≡ 5 → Rose old.counts.sink new.counts.sink) → NoneRose old new → (result ≤ 1) ⊎ (result ≡ 6)
ended old new result ends disk sink none = elim ends [
  | inl low ↦ inl low
  | inr (inl three) ↦ absurd (none.disk (disk three))
  | inr (inr (inl five)) ↦ absurd (none.sink (sink five))
  | inr (inr (inr six)) ↦ inr six
]

-- ---- where there is but one reply

nothing_is_front : (text : List ℕ) (events : List Event) → SaysFront [] events → SaysFront text events
nothing_is_front text events says = front_more [] text text events refl says

pub lone_front : (reply : Reply) (events : List Event) → SaysOneReply (λ one. one ≡ reply) events
    → AtEachMoment (SaysFront reply.text) events
lone_front reply events says =
    elim says [
      | inl none ↦ λ moment. nothing_is_front reply.text (take moment events) (none moment)
      | inr one ↦ subst (λ (r : Reply). AtEachMoment (SaysFront r.text) events) one.1 one.2
    ]

pub lone_whole : (reply : Reply) (result : ℕ) (told : Told) (after : State)
    → SaysReply (λ one. one ≡ reply) result told after
    → (result ≡ reply.status) × Since (SaysAll reply.text) told after.told
lone_whole reply result told after says = subst
    (λ (r : Reply). (result ≡ r.status) × Since (SaysAll r.text) told after.told) says.1 (says.2, says.3)

-- what an order answers on an image that opens
pub opened_reply : (sign : Signing) (image : List ℕ) (disk : State) (container : Container) (order : Order) (act : Act)
    → Holds sign image disk container → order.act ≡ act
    → reply_to sign order image ≡ act_reply act image (Ok container.header)
opened_reply sign image disk container order act holds is =
    ap (λ (o : Option OpenFault). reply_by o order.act image) (no_fault sign image holds.opened.opens)
    ∙ ap (λ (r : Result Fields HeaderFault). act_reply order.act image r) holds.opened.header
    ∙ ap (λ (a : Act). act_reply a image (Ok container.header)) is
