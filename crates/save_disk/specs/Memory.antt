-- What contracts see of a desk in memory, and how its calls end.
use Rattle.std.specs.Prelude.{◌≡◌, ◌⊎◌, length, Some, Result, IfOk, OnErr, IsErr}
use Rattle.save_disk.specs.declared.calls.Call.{Call}
use Rattle.save_disk.specs.Trace.{Told}
use Rattle.save_disk.specs.State.{State}
use Rattle.save_disk.specs.Calls.{Log, IsNamed, listed, faulted, fell_short}

pub record Memory : Type 0 where
  pub trace : Told
  pub log : Log

-- what it tells as a disk and desk
abbrev pub state_from : Memory → State
state_from memory = record {
  told = Some memory.trace;
  size = length memory.trace.start;
  grain = memory.trace.grain;
  counts = memory.log.counts;
}

-- A call was done, or was named to fail, or its record found no memory and nothing but the counts changed. A call
-- that is named is not done. Given are the traces that the first two leave.
pub record Ends {T E : Type 0} (call : Call) (done : T → Told) (failed : Told) (before after : Memory)
    (result : Result T E) : Type 0 where
  pub ok : IfOk result (λ value. after ≡ record { trace = done value; log = listed call before.log })
  pub err : OnErr result ((IsNamed call before.log
      × (after ≡ record { trace = failed; log = faulted call (listed call before.log) })) ⊎
      (after ≡ record before { log = fell_short call before.log }))
  pub named : IsNamed call before.log → IsErr result
