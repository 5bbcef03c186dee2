-- The calls of a desk in memory: their list, which of them are named to fail, and what failed.
use Rattle.std.specs.Prelude.{ℕ, ◌+◌, ◌-◌, ◌^◌, ◌==◌, ◌≡◌, ◌≤◌, min, List, [], ◌∷◌, ◌++◌, Option, None, Some}
use Rattle.std.specs.List.{count_by}
use Rattle.save_disk.specs.declared.calls.Call.{Call}
use Rattle.save_disk.specs.declared.calls.Call.TheVariants.{Len, Read, Write, Sync, Hear, Say}
use Rattle.save_disk.specs.State.{Counts}

-- a number of each kind of call
abbrev pub call_number : Call → ℕ
call_number Len = 0
call_number Read = 1
call_number Write = 2
call_number Sync = 3
call_number Hear = 4
call_number Say = 5

-- how many of the calls are of this kind
abbrev pub count_of : Call → List Call → ℕ
count_of call calls = count_by (λ made. call_number made == call_number call) calls

pub record Log : Type 0 where
  -- the kinds of all calls, in order
  pub calls : List Call
  -- which call of a kind is to fail, counted from 1
  pub named : Call → Option ℕ
  pub counts : Counts
  -- how many calls are not in the list, since their record found no memory
  pub short : ℕ

abbrev pub no_faults : Counts
no_faults = record { disk = 0; source = 0; sink = 0 }

-- no call was made and none is named
pub record IsNewLog (log : Log) : Type 0 where
  pub calls : log.calls ≡ []
  pub named : (call : Call) → log.named call ≡ None
  pub counts : log.counts ≡ no_faults
  pub short : log.short ≡ 0

-- the next call of this kind is to fail
abbrev pub IsNamed : Call → Log → Type 0
IsNamed call log = log.named call ≡ Some (count_of call log.calls + 1)

-- the call is in the list
abbrev pub listed : Call → Log → Log
listed call log = record log { calls = log.calls ++ call ∷ [] }

-- one more, up to the last value of a count
abbrev pub raised : ℕ → ℕ
raised count = min (count + 1) (2 ^ 64 - 1)

-- one more fault of the part that the call speaks to
abbrev pub counts_after : Call → Counts → Counts
counts_after Len counts = record counts { disk = raised counts.disk }
counts_after Read counts = record counts { disk = raised counts.disk }
counts_after Write counts = record counts { disk = raised counts.disk }
counts_after Sync counts = record counts { disk = raised counts.disk }
counts_after Hear counts = record counts { source = raised counts.source }
counts_after Say counts = record counts { sink = raised counts.sink }

abbrev pub faulted : Call → Log → Log
faulted call log = record log { counts = counts_after call log.counts }

-- no count fell
pub record NoneFell (before after : Counts) : Type 0 where
  pub disk : before.disk ≤ after.disk
  pub source : before.source ≤ after.source
  pub sink : before.sink ≤ after.sink

-- the record of the call found no memory
abbrev pub fell_short : Call → Log → Log
fell_short call log = record (faulted call log) { short = raised log.short }
