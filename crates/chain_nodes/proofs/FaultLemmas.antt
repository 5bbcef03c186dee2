-- Faults of one call as faults of another.
use Rattle.std.proofs.Common.{ℕ, IsTrue, Option, Some, None, sym, subst}
use Rattle.save_bytes.specs.Cells.{Cell}
use Rattle.save_bytes.specs.State.{State, Shape}
use Rattle.save_bytes.specs.Stays.{Stays}
use Rattle.save_bytes.proofs.SpaceLemmas.{IfDamaged-map}
use Rattle.chain_nodes.specs.declared.info.ChainInfo.{ChainInfo}
use Rattle.chain_nodes.specs.declared.fault.ChainFault.{ChainFault}
use Rattle.chain_nodes.specs.declared.fault.ChainFault.TheVariants.{Broken, Short}
use Rattle.chain_nodes.specs.declared.fault.ChainFault.TheVariants.{Bad as Refused}
use Rattle.chain_nodes.specs.Table.{HasFault, HasAllocationTable}
use Rattle.chain_nodes.specs.Faults.{IfListBroken, refusal_of, FaultsOnly}
use Rattle.chain_nodes.proofs.TableLemmas.{table_stays}

pub IfListBroken-map : (fault : Option ChainFault) {P Q : ℕ → Type 0} → ((entry : ℕ) → P entry → Q entry)
    → IfListBroken fault P → IfListBroken fault Q
IfListBroken-map None f h = tt
IfListBroken-map (Some (Refused bad)) f h = tt
IfListBroken-map (Some (Broken entry)) f h = f entry h
IfListBroken-map (Some (Short need have)) f h = tt

-- the same fault after calls that changed no cell, with weaker facts of the entry
pub FaultsOnly-later : (s t : State) (info : ChainInfo) {B N B' N' : ℕ → Type 0} (fault : Option ChainFault)
    → HasAllocationTable s.shape info → Stays s t None → (IsTrue s.told → (entry : ℕ) → B entry → B' entry)
    → (IsTrue s.told → (entry : ℕ) → N entry → N' entry) → FaultsOnly t info B N fault → FaultsOnly s info B' N' fault
FaultsOnly-later s t info fault table stays f g h = record {
  broken = λ told. IfListBroken-map fault (f told) (h.broken (stays.space.told told));
  damaged = λ told. IfDamaged-map (refusal_of fault) (λ part level block (entry, needed, has). (
    entry,
    g told entry needed,
    subst (λ (cells : ℕ → ℕ → Cell). HasFault cells entry part level block)
        (table_stays s t info table stays told) has,
  ))
      (h.damaged (stays.space.told told));
  plain = λ plain. h.plain (subst (λ (shape : Shape). IsTrue shape.plain) (sym stays.space.shape) plain);
  never_short = h.never_short;
}

-- the same fault, with weaker facts of the entry
pub FaultsOnly-map : (s : State) (info : ChainInfo) {B N B' N' : ℕ → Type 0} (fault : Option ChainFault)
    → (IsTrue s.told → (entry : ℕ) → B entry → B' entry) → (IsTrue s.told → (entry : ℕ) → N entry → N' entry)
    → FaultsOnly s info B N fault → FaultsOnly s info B' N' fault
FaultsOnly-map s info fault f g h = record {
  broken = λ told. IfListBroken-map fault (f told) (h.broken told);
  damaged = λ told. IfDamaged-map (refusal_of fault)
      (λ part level block (entry, needed, has). (entry, g told entry needed, has)) (h.damaged told);
  plain = h.plain;
  never_short = h.never_short;
}
