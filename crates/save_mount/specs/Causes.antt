-- Why a filesystem is not mounted.
use Rattle.std.specs.Prelude.{◌≡◌, ◌⊎◌, ℕ, ◌+◌, ◌<◌, Option, Some, None, Result, Ok, Err, ⊤}
use Rattle.save_bytes.specs.declared.space.Bad.{Bad}
use Rattle.save_bytes.specs.declared.space.Bad.TheVariants as bad
use Rattle.save_bytes.specs.Cells.{Cell, IsByte}
use Rattle.save_bytes.specs.CellNumbers.{number_in}
use Rattle.save_bytes.specs.Answers.{IsFirstFault}
use Rattle.chain_nodes.specs.declared.info.ChainInfo.{ChainInfo}
use Rattle.chain_nodes.specs.declared.fault.ChainFault.{ChainFault}
use Rattle.chain_nodes.specs.declared.fault.ChainFault.TheVariants as chain
use Rattle.chain_nodes.specs.declared.fault.ChainFault.TheVariants.{Bad as Refused}
use Rattle.chain_nodes.specs.Table.{table_in, HasFault}
use Rattle.container_header.specs.Conditions.{first_failing}
use Rattle.entry_tables.specs.Tables.{Tables}
use Rattle.tree_model.specs.declared.kind.TreeKind.{TreeKind}
use Rattle.tree_layout.specs.Headers.{IsOther, HasHeader, HasBadHeader}
use Rattle.tree_rules.specs.declared.information.Information.{Information}
use Rattle.tree_rules.specs.Information.{information_in, information_len}
use Rattle.tree_rules.specs.Layout.{place_faults, layout_fault}
use Rattle.tree_rules.specs.Fails.{allocation_number}
use Rattle.save_mount.specs.declared.fault.MountFault.{MountFault}
use Rattle.save_mount.specs.declared.fault.MountFault.TheVariants.{Memory, Disk, Damaged, Broken, NotSave, Layout}

-- the refusal of the store that a fault passes on
abbrev pub bad_of : MountFault → Option Bad
bad_of Memory = None
bad_of Disk = Some bad.Disk
bad_of (Damaged part level block) = Some (bad.Damaged part level block)
bad_of (Broken table entry) = None
bad_of NotSave = None
bad_of (Layout condition) = None

-- what the fault of a list comes to: it is never that there are too few blocks
abbrev pub list_fault : ChainFault → MountFault
list_fault (Refused bad.Disk) = Disk
list_fault (Refused (bad.Damaged part level block)) = Damaged part level block
list_fault (chain.Broken entry) = Broken allocation_number entry
list_fault (chain.Short need have) = Memory

abbrev pub refusal_in : {A : Type 0} → Result A MountFault → Option Bad
refusal_in (Ok value) = None
refusal_in (Err fault) = bad_of fault

-- The header and the information are as they should be, and no condition fails that needs no table.
pub record IsPlaced (kind : TreeKind) (size : ℕ) (split : Option ℕ) (cells : ℕ → Cell) (info : Information) : Type 0 where
  pub header : HasHeader kind size cells (number_in 8 cells 8)
  pub info_is : info ≡ information_in cells
  pub read : (k : ℕ) → k < information_len → IsByte (cells (number_in 8 cells 8 + k))
  pub faultless : first_failing 1 (place_faults kind split size (information_in cells)) ≡ None

-- why there is no header
abbrev pub HasHeaderCause : TreeKind → ℕ → (ℕ → Cell) → MountFault → Type 0
HasHeaderCause kind size cells Memory = ⊥
HasHeaderCause kind size cells Disk = ⊤
HasHeaderCause kind size cells (Damaged part level block) = HasBadHeader kind size cells part level block
HasHeaderCause kind size cells (Broken table entry) = ⊥
HasHeaderCause kind size cells NotSave = IsOther kind size cells
HasHeaderCause kind size cells (Layout condition) = ⊥

-- why a filesystem with a header does not lie as it should
abbrev pub HasLayoutCause : TreeKind → ℕ → Option ℕ → (ℕ → Cell) → MountFault → Type 0
HasLayoutCause kind size split cells Memory = ⊥
HasLayoutCause kind size split cells Disk = ⊤
HasLayoutCause kind size split cells (Damaged part level block) =
    IsFirstFault cells (number_in 8 cells 8) information_len part level block
HasLayoutCause kind size split cells (Broken table entry) = ⊥
HasLayoutCause kind size split cells NotSave = ⊥
HasLayoutCause kind size split cells (Layout condition) =
    (t : Tables) → layout_fault kind split size (information_in cells) t ≡ Some condition

-- either
abbrev pub HasPlaceCause : TreeKind → ℕ → Option ℕ → (ℕ → Cell) → MountFault → Type 0
HasPlaceCause kind size split cells fault = HasHeaderCause kind size cells fault
    ⊎ (HasHeader kind size cells (number_in 8 cells 8) × HasLayoutCause kind size split cells fault)

-- Why lists are refused: an entry is at fault, or a cell of an entry that is needed is damaged.
abbrev pub HasListCause : (ℕ → Cell) → ChainInfo → (ℕ → Type 0) → (ℕ → Type 0) → MountFault → Type 0
HasListCause cells info Breaks Needs Memory = ⊤
HasListCause cells info Breaks Needs Disk = ⊤
HasListCause cells info Breaks Needs (Damaged part level block) =
    (entry : ℕ) × Needs entry × HasFault (table_in cells info) entry part level block
HasListCause cells info Breaks Needs (Broken table entry) = (table ≡ allocation_number) × Breaks entry
HasListCause cells info Breaks Needs NotSave = ⊥
HasListCause cells info Breaks Needs (Layout condition) = ⊥

-- the store is no filesystem of this kind, or the disk failed
abbrev pub IsNotSaveOrDisk : MountFault → Type 0
IsNotSaveOrDisk Memory = ⊥
IsNotSaveOrDisk Disk = ⊤
IsNotSaveOrDisk (Damaged part level block) = ⊥
IsNotSaveOrDisk (Broken table entry) = ⊥
IsNotSaveOrDisk NotSave = ⊤
IsNotSaveOrDisk (Layout condition) = ⊥
