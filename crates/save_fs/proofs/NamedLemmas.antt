-- The refusals that calls on a mounted SAVE have.
use Rattle.save_bytes.specs.declared.space.Bad.{Bad}
use Rattle.save_bytes.specs.declared.space.Bad.TheVariants as bad
use Rattle.chain_nodes.specs.declared.fault.ChainFault.{ChainFault}
use Rattle.chain_nodes.specs.declared.fault.ChainFault.TheVariants as link
use Rattle.entry_tables.specs.declared.table.EntryFault.{EntryFault}
use Rattle.entry_tables.specs.declared.table.EntryFault.TheVariants as entry
use Rattle.save_mount.specs.declared.fault.MountFault.{MountFault}
use Rattle.save_mount.specs.declared.fault.MountFault.TheVariants.{Memory, Disk, Damaged, Broken, NotSave, Layout}
use Rattle.tree_model.specs.declared.refusal.FsFault.{FsFault}
use Rattle.tree_model.specs.declared.refusal.FsFault.TheVariants as fs
use Rattle.tree_model.specs.declared.refusal.Refusal.TheVariants as refusal
use Rattle.save_fs.specs.Faults.{bad_fault, rows_fault, entry_fault, chain_fault, IsStoreFault, IsRowsFault, IsGetFault}

bad_named : (why : Bad) → IsStoreFault (bad_fault why)
bad_named bad.Disk = tt
bad_named (bad.Damaged part level block) = tt

pub entry_named : (fault : EntryFault) → IsStoreFault (entry_fault fault)
entry_named (entry.Bad why) = bad_named why
entry_named (entry.Broken table number) = tt
entry_named (entry.NoEntry most) = tt

pub chain_named : (fault : ChainFault) → IsStoreFault (chain_fault fault)
chain_named (link.Bad why) = bad_named why
chain_named (link.Broken number) = tt
chain_named (link.Short need have) = tt

pub rows_named : (fault : MountFault) → IsRowsFault (rows_fault fault)
rows_named Memory = tt
rows_named Disk = tt
rows_named (Damaged part level block) = tt
rows_named (Broken table number) = tt
rows_named NotSave = tt
rows_named (Layout condition) = tt

-- a file is refused also as a store is
pub get_named : (fault : FsFault) → IsStoreFault fault → IsGetFault fault
get_named fs.Disk h = tt
get_named (fs.Refused (refusal.BadPath why)) h = h
get_named (fs.Refused refusal.NoParent) h = h
get_named (fs.Refused refusal.NotFound) h = tt
get_named (fs.Refused refusal.Exists) h = h
get_named (fs.Refused refusal.NotEmpty) h = h
get_named (fs.Refused (refusal.Full kind need have)) h = h
get_named (fs.Refused (refusal.Damaged part level block)) h = tt
get_named (fs.Refused refusal.WrongKind) h = tt
get_named (fs.Refused refusal.IsRoot) h = tt
get_named (fs.Refused refusal.NoMemory) h = h
get_named (fs.Refused refusal.Changed) h = tt
