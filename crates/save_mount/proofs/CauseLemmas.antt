-- What faults of lists come to.
use Rattle.std.proofs.Common.{◌≡◌, ℕ, IsTrue, Some, None, refl, subst}
use Rattle.save_bytes.specs.declared.space.Bad.TheVariants as bad
use Rattle.save_bytes.specs.Cells.{Cell}
use Rattle.save_bytes.specs.State.{State}
use Rattle.save_bytes.specs.Stays.{Stays}
use Rattle.chain_nodes.specs.declared.info.ChainInfo.{ChainInfo}
use Rattle.chain_nodes.specs.declared.fault.ChainFault.{ChainFault}
use Rattle.chain_nodes.specs.declared.fault.ChainFault.TheVariants as chain
use Rattle.chain_nodes.specs.Table.{HasAllocationTable, HasFault}
use Rattle.chain_nodes.specs.Faults.{refusal_of, FaultsOnly}
use Rattle.chain_nodes.proofs.TableLemmas.{table_stays}
use Rattle.save_mount.specs.declared.fault.MountFault.{MountFault}
use Rattle.save_mount.specs.declared.fault.MountFault.TheVariants.{Memory, Disk, Damaged, Broken, NotSave, Layout}
use Rattle.save_mount.specs.Causes.{bad_of, list_fault, HasListCause}

pub bad_of_list : (fault : ChainFault) → bad_of (list_fault fault) ≡ refusal_of (Some fault)
bad_of_list (chain.Bad bad.Disk) = refl
bad_of_list (chain.Bad (bad.Damaged part level block)) = refl
bad_of_list (chain.Broken entry) = refl
bad_of_list (chain.Short need have) = refl

pub list_cause : (s : State) (info : ChainInfo) {B N : ℕ → Type 0} (fault : ChainFault) → IsTrue s.told
    → FaultsOnly s info B N (Some fault) → HasListCause s.cells info B N (list_fault fault)
list_cause s info (chain.Bad bad.Disk) told h = tt
list_cause s info (chain.Bad (bad.Damaged part level block)) told h = h.damaged told
list_cause s info (chain.Broken entry) told h = (refl, h.broken told)
list_cause s info (chain.Short need have) told h = absurd h.never_short

-- the cause of a fault that a later call names
pub cause_later : {s t : State} {info : ChainInfo} → HasAllocationTable s.shape info → Stays s t None → IsTrue s.told
    → {B N B' N' : ℕ → Type 0} (fault : MountFault) → ((entry : ℕ) → B' entry → B entry)
    → ((entry : ℕ) → N' entry → N entry) → HasListCause t.cells info B' N' fault → HasListCause s.cells info B N fault
cause_later has_table stays told Memory f g h = tt
cause_later has_table stays told Disk f g h = tt
cause_later {s} {t} {info} has_table stays told (Damaged part level block) f g (entry, needed, has) = (
  entry,
  g entry needed,
  subst (λ (table : ℕ → ℕ → Cell). HasFault table entry part level block) (table_stays s t info has_table stays told)
      has,
)
cause_later has_table stays told (Broken table entry) f g h = (h.0, f entry h.1)
cause_later has_table stays told NotSave f g h = absurd h
cause_later has_table stays told (Layout condition) f g h = absurd h

-- with weaker facts of the entry
pub cause_map : (cells : ℕ → Cell) (info : ChainInfo) {B N B' N' : ℕ → Type 0} (fault : MountFault)
    → ((entry : ℕ) → B' entry → B entry) → ((entry : ℕ) → N' entry → N entry)
    → HasListCause cells info B' N' fault → HasListCause cells info B N fault
cause_map cells info Memory f g h = tt
cause_map cells info Disk f g h = tt
cause_map cells info (Damaged part level block) f g (entry, needed, has) = (entry, g entry needed, has)
cause_map cells info (Broken table entry) f g h = (h.0, f entry h.1)
cause_map cells info NotSave f g h = absurd h
cause_map cells info (Layout condition) f g h = absurd h
