-- The events that a desk in memory keeps.
use Rattle.save_disk.specs.declared.trace.KeptEvent.{KeptEvent}
use Rattle.save_disk.specs.declared.trace.KeptEvent.TheVariants as kept
use Rattle.save_disk.specs.Trace.{Event, Write, Sync, Said}

abbrev pub event_of : KeptEvent → Event
event_of (kept.Write sector bytes) = Write sector bytes.items
event_of kept.Sync = Sync
event_of (kept.Said bytes) = Said bytes.items
