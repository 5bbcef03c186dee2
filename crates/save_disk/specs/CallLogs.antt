-- What contracts see of a list of calls.
use Rattle.std.specs.Prelude.{None, slice_index_or}
use Rattle.save_disk.specs.declared.calls.CallLog.{CallLog}
use Rattle.save_disk.specs.Calls.{call_number, Log}

abbrev pub log_of : CallLog → Log
log_of log = record {
  calls = log.calls.items;
  named = λ call. slice_index_or log.named (call_number call) None;
  counts = record { disk = log.disk; source = log.source; sink = log.sink };
  short = log.short;
}
