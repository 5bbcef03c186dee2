-- Why calls on a mounted SAVE fail.
use Rattle.std.specs.Prelude.{Option, Some, None, Result, Ok, Err, ⊤, List}
use Rattle.save_bytes.specs.declared.space.Bad.{Bad}
use Rattle.save_bytes.specs.declared.space.Bad.TheVariants as bad
use Rattle.chain_nodes.specs.declared.fault.ChainFault.{ChainFault}
use Rattle.chain_nodes.specs.declared.fault.ChainFault.TheVariants as chain
use Rattle.entry_tables.specs.declared.table.EntryFault.{EntryFault}
use Rattle.entry_tables.specs.declared.table.EntryFault.TheVariants as entry
use Rattle.save_mount.specs.declared.fault.MountFault.{MountFault}
use Rattle.save_mount.specs.declared.fault.MountFault.TheVariants as mount
use Rattle.tree_model.specs.declared.listing.Row.{Row}
use Rattle.tree_model.specs.declared.refusal.FsFault.{FsFault}
use Rattle.tree_model.specs.declared.refusal.FsFault.TheVariants.{Refused, Disk}
use Rattle.tree_model.specs.declared.refusal.Refusal.TheVariants.{BadPath, NoParent, NotFound, Exists, NotEmpty, Full}
use Rattle.tree_model.specs.declared.refusal.Refusal.TheVariants.{Damaged, WrongKind, IsRoot, NoMemory, Changed}
use Rattle.tree_model.specs.Trees.{Tree}
use Rattle.tree_model.specs.Listings.{ListsTree}

-- what the refusal of a store comes to
abbrev pub bad_fault : Bad → FsFault
bad_fault bad.Disk = Disk
bad_fault (bad.Damaged part level block) = Refused (Damaged part level block)

-- what the fault of tables comes to that were good when they were mounted
abbrev pub rows_fault : MountFault → FsFault
rows_fault mount.Memory = Refused NoMemory
rows_fault mount.Disk = Disk
rows_fault (mount.Damaged part level block) = Refused (Damaged part level block)
rows_fault (mount.Broken table entry) = Refused Changed
rows_fault mount.NotSave = Refused Changed
rows_fault (mount.Layout condition) = Refused Changed

-- the same of entries, and of a chain
abbrev pub entry_fault : EntryFault → FsFault
entry_fault (entry.Bad refusal) = bad_fault refusal
entry_fault (entry.Broken table number) = Refused Changed
entry_fault (entry.NoEntry most) = Refused Changed

abbrev pub chain_fault : ChainFault → FsFault
chain_fault (chain.Bad refusal) = bad_fault refusal
chain_fault (chain.Broken number) = Refused Changed
chain_fault (chain.Short need have) = Refused Changed

-- the refusal of the store that a fault passes on
abbrev pub bad_in : FsFault → Option Bad
bad_in Disk = Some bad.Disk
bad_in (Refused (Damaged part level block)) = Some (bad.Damaged part level block)
bad_in (Refused (BadPath fault)) = None
bad_in (Refused NoParent) = None
bad_in (Refused NotFound) = None
bad_in (Refused Exists) = None
bad_in (Refused NotEmpty) = None
bad_in (Refused (Full kind need have)) = None
bad_in (Refused WrongKind) = None
bad_in (Refused IsRoot) = None
bad_in (Refused NoMemory) = None
bad_in (Refused Changed) = None

abbrev pub disk_in : {A : Type 0} → Result A FsFault → Option Bad
disk_in (Ok value) = None
disk_in (Err fault) = bad_in fault

-- the tree's rows; or memory was wanting, or the disk failed
abbrev pub IsRowsReply : Tree → Result (List Row) FsFault → Type 0
IsRowsReply tree (Ok rows) = ListsTree tree rows
IsRowsReply tree (Err (Refused NoMemory)) = ⊤
IsRowsReply tree (Err Disk) = ⊤
IsRowsReply tree (Err fault) = ⊥

-- P holds of what the call gave; it is refused for the disk's sake alone
abbrev pub DoneOrDisk : {A : Type 0} → Result A FsFault → (A → Type 0) → Type 0
DoneOrDisk (Ok given) P = P given
DoneOrDisk (Err Disk) P = ⊤
DoneOrDisk (Err (Refused refusal)) P = ⊥

-- the refusals that a store gives: a damaged cell, or, where it is no more as it was mounted, that it has changed
abbrev pub IsStoreFault : FsFault → Type 0
IsStoreFault Disk = ⊤
IsStoreFault (Refused (Damaged part level block)) = ⊤
IsStoreFault (Refused Changed) = ⊤
IsStoreFault (Refused refusal) = ⊥

-- of a listing also want of memory, and of a file that none stands at the path
abbrev pub IsRowsFault : FsFault → Type 0
IsRowsFault (Refused NoMemory) = ⊤
IsRowsFault fault = IsStoreFault fault

abbrev pub IsGetFault : FsFault → Type 0
IsGetFault (Refused IsRoot) = ⊤
IsGetFault (Refused WrongKind) = ⊤
IsGetFault (Refused NotFound) = ⊤
IsGetFault fault = IsStoreFault fault
