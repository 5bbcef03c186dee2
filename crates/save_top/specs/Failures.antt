-- What is said where a command is not done.
use Rattle.std.specs.Prelude.{◌≡◌, ⊤}
use Rattle.container.specs.declared.fault.OpenFault.{OpenFault}
use Rattle.container.specs.declared.fault.OpenFault.TheVariants.{Memory as MemoryFault, Disk as DiskFault, Header, Tag, TableHash, Difi}
use Rattle.save_top.specs.declared.failure.Failure.{Failure}
use Rattle.save_top.specs.declared.failure.Failure.TheVariants.{Memory, Disk, Refused}
use Rattle.save_top.specs.Texts.{open_fault_line}
use Rattle.save_top.specs.Output.{Reply, refused}

-- the reply is the refusal with this line; want of memory is free, and that the disk failed is shown by its count
abbrev pub IsFailureBy : Reply → Failure → Type 0
IsFailureBy reply Memory = ⊤
IsFailureBy reply Disk = ⊤
IsFailureBy reply (Refused line) = reply ≡ refused line.items

-- the same of a fault of opening
abbrev pub IsFaultBy : Reply → OpenFault → Type 0
IsFaultBy reply MemoryFault = ⊤
IsFaultBy reply DiskFault = ⊤
IsFaultBy reply (Header fault) = reply ≡ refused (open_fault_line (Header fault))
IsFaultBy reply (Tag want found) = reply ≡ refused (open_fault_line (Tag want found))
IsFaultBy reply TableHash = reply ≡ refused (open_fault_line TableHash)
IsFaultBy reply (Difi part fault) = reply ≡ refused (open_fault_line (Difi part fault))
