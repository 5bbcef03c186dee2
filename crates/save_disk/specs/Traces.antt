-- What contracts see of what a desk in memory remembers.
use Rattle.std.specs.Prelude.{ℕ, ◌+◌, ◌<◌, ◌≤◌, true, List, [], map, drop, vec_len, vec_capacity}
use Rattle.save_disk.specs.declared.trace.Trace.{Trace}
use Rattle.save_disk.specs.Trace.{Told}
use Rattle.save_disk.specs.KeptEvents.{event_of}

abbrev pub told_of : Trace → Told
told_of trace = record {
  start = trace.start.items;
  grain = trace.grain;
  events = map event_of trace.events.items;
  left = drop trace.heard trace.source.items;
  sure = λ _. true;
}

-- nothing happened yet
abbrev pub fresh : ℕ → List ℕ → List ℕ → Told
fresh grain image source = record { start = image; grain = grain; events = []; left = source; sure = λ _. true }

-- there is room for one more event, which says so many bytes
abbrev pub HasRoom : ℕ → Trace → Type 0
HasRoom n trace = (vec_len trace.events < vec_capacity trace.events)
    × (vec_len trace.said + n ≤ vec_capacity trace.said)

-- that many bytes of the source are gone
abbrev pub heard : ℕ → Told → Told
heard n told = record told { left = drop n told.left }
