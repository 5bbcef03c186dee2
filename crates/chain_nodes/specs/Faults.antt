-- At which entries of a list the table is not as it should be, and which fault of a call comes when.
use Rattle.std.specs.Prelude.{◌≡◌, ℕ, ◌+◌, ◌^◌, ◌<◌, ◌≤◌, IsTrue, List, length, Option, Some, None, ⊤}
use Rattle.save_bytes.specs.declared.space.Bad.{Bad}
use Rattle.save_bytes.specs.Cells.{Cell}
use Rattle.save_bytes.specs.State.{State}
use Rattle.save_bytes.specs.Refusals.{IfDamaged, NeverDamaged}
use Rattle.chain_nodes.specs.declared.info.ChainInfo.{ChainInfo}
use Rattle.chain_nodes.specs.declared.fault.ChainFault.{ChainFault}
use Rattle.chain_nodes.specs.declared.fault.ChainFault.TheVariants.{Broken, Short}
use Rattle.chain_nodes.specs.declared.fault.ChainFault.TheVariants.{Bad as Refused}
use Rattle.chain_nodes.specs.declared.node.Node.{Node}
use Rattle.chain_nodes.specs.declared.node.Lead.{Lead}
use Rattle.chain_nodes.specs.declared.node.Lead.TheVariants.{OpensFree}
use Rattle.chain_nodes.specs.Table.{table_in, word_u, word_v, index_of, flagged, HasWords, HasFault, IsEntry}
use Rattle.chain_nodes.specs.Chains.{IsLead, IsInner, start_of, AreNodes, lead_after, entries_of, occurrences}

-- the first entry of a node says that it has a second one
abbrev pub IsLong : (ℕ → ℕ → Cell) → ℕ → Type 0
IsLong table first = 2 ^ 31 ≤ word_v table first

-- the first entry of a node is as it should be: what it names lies in the table, and so does its second entry, if it has one
pub record IsHead (table : ℕ → ℕ → Cell) (count : ℕ) (lead : Lead) (first : ℕ) : Type 0 where
  pub read : HasWords table first
  pub u : IsLead lead (word_u table first)
  pub next : index_of (word_v table first) ≤ count
  pub room : IsLong table first → first < count

-- the second entry of a node is as it should be: the last entry that it names lies behind the first, in the table
pub record IsSecond (table : ℕ → ℕ → Cell) (count first : ℕ) : Type 0 where
  pub read : HasWords table (first + 1)
  pub u : word_u table (first + 1) ≡ flagged first
  pub behind : first < word_v table (first + 1)
  pub inside : word_v table (first + 1) ≤ count

-- an entry of the node that begins with `first` is not as it should be, while those of the node before it are
pub data IsFaulty (table : ℕ → ℕ → Cell) (count : ℕ) (lead : Lead) (first entry : ℕ) : Type 0 where
  AtFirst : entry ≡ first → ¬ IsHead table count lead first → IsFaulty table count lead first entry
  AtSecond : IsHead table count lead first → IsLong table first → entry ≡ first + 1 → ¬ IsSecond table count first
      → IsFaulty table count lead first entry
  AtLast : IsHead table count lead first → IsLong table first → IsSecond table count first
      → entry ≡ word_v table (first + 1) → ¬ IsInner table (record { first = first; last = entry }) entry
      → IsFaulty table count lead first entry

-- from `first` on some nodes are as they should be, and the one behind them is not, at this entry
pub record FailsAt (table : ℕ → ℕ → Cell) (count : ℕ) (lead : Lead) (first entry : ℕ) : Type 0 where
  pub nodes : List Node
  pub next : ℕ
  pub linked : AreNodes table count lead nodes next
  pub starts : start_of nodes next ≡ first
  pub named : IsEntry count next
  pub faulty : IsFaulty table count (lead_after lead nodes) next entry

-- From `first` on some nodes are as they should be, but have more entries than the table, so that some have two places in
-- them. This entry is one of those.
pub record IsShared (table : ℕ → ℕ → Cell) (count : ℕ) (lead : Lead) (first entry : ℕ) : Type 0 where
  pub nodes : List Node
  pub next : ℕ
  pub linked : AreNodes table count lead nodes next
  pub starts : start_of nodes next ≡ first
  pub named : next ≤ count
  pub many : count < length (entries_of nodes)
  pub twice : 2 ≤ occurrences entry (entries_of nodes)

-- the list from `first` on is broken at this entry: its words are not as they should be, or it has two places
pub data IsBroken (table : ℕ → ℕ → Cell) (count : ℕ) (lead : Lead) (first entry : ℕ) : Type 0 where
  Unlike : HasWords table entry → FailsAt table count lead first entry → IsBroken table count lead first entry
  Shared : IsShared table count lead first entry → IsBroken table count lead first entry

-- the free list is broken at this entry: entry 0 names one that is not in the table, or the list from there on is broken
pub data IsFreeBroken (table : ℕ → ℕ → Cell) (count entry : ℕ) : Type 0 where
  AtRoot : entry ≡ 0 → HasWords table 0 → count < index_of (word_v table 0) → IsFreeBroken table count entry
  InList : IsBroken table count OpensFree (index_of (word_v table 0)) entry → IsFreeBroken table count entry

-- the words of this entry are needed for the free list
pub data IsFreeNeeded (table : ℕ → ℕ → Cell) (count entry : ℕ) : Type 0 where
  Root : entry ≡ 0 → IsFreeNeeded table count entry
  Listed : FailsAt table count OpensFree (index_of (word_v table 0)) entry → IsFreeNeeded table count entry

-- P holds of the entry where the fault is a broken list
abbrev pub IfListBroken : Option ChainFault → (ℕ → Type 0) → Type 0
IfListBroken None P = ⊤
IfListBroken (Some (Refused bad)) P = ⊤
IfListBroken (Some (Broken entry)) P = P entry
IfListBroken (Some (Short need have)) P = ⊤

-- the fault is not that there are too few blocks
abbrev pub NeverShort : Option ChainFault → Type 0
NeverShort None = ⊤
NeverShort (Some (Refused bad)) = ⊤
NeverShort (Some (Broken entry)) = ⊤
NeverShort (Some (Short need have)) = ⊥

-- how a space refused a call on which the fault rests
abbrev pub refusal_of : Option ChainFault → Option Bad
refusal_of None = None
refusal_of (Some (Refused bad)) = Some bad
refusal_of (Some (Broken entry)) = None
refusal_of (Some (Short need have)) = None

-- Which fault comes when. A broken list is named at an entry where it is broken, and a damaged cell is one of an entry
-- whose words are needed.
pub record FaultsOnly (s : State) (info : ChainInfo) (Breaks Needs : ℕ → Type 0)
    (fault : Option ChainFault) : Type 0 where
  pub broken : IsTrue s.told → IfListBroken fault Breaks
  pub damaged : IsTrue s.told → IfDamaged (refusal_of fault)
      (λ part level block. (entry : ℕ) × Needs entry × HasFault (table_in s.cells info) entry part level block)
  pub plain : IsTrue s.shape.plain → NeverDamaged (refusal_of fault)
  pub never_short : NeverShort fault
