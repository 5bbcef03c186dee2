-- Lists of allocation entries that were walked under a set of those that were met: where each is at fault.
use Rattle.std.specs.Prelude.{◌≡◌, ℕ, ◌+◌, ◌<◌, IsTrue, List, length, All, Option, Some, None, Result, Ok, Err, ⊤}
use Rattle.save_bytes.specs.declared.space.Bad.{Bad}
use Rattle.save_bytes.specs.Cells.{Cell}
use Rattle.save_bytes.specs.State.{State}
use Rattle.chain_nodes.specs.declared.info.ChainInfo.{ChainInfo}
use Rattle.chain_nodes.specs.declared.fault.ChainFault.{ChainFault}
use Rattle.chain_nodes.specs.declared.node.Lead.TheVariants.{Opens, OpensFree}
use Rattle.chain_nodes.specs.Table.{table_in, word_v, index_of, HasWords}
use Rattle.chain_nodes.specs.Chains.{IsChain}
use Rattle.chain_nodes.specs.Faults.{FailsAt, refusal_of, FaultsOnly}
use Rattle.held_lists.specs.declared.set.EntrySet.{EntrySet}
use Rattle.held_lists.specs.Walks.{IsListFault}
use Rattle.tree_rules.specs.declared.information.TableAt.{TableAt}
use Rattle.tree_rules.specs.declared.information.TableAt.TheVariants.{Plainly, InChain}
use Rattle.tree_rules.specs.declared.information.Places.{Places}
use Rattle.tree_rules.specs.Places.{blocks_in_chain}
use Rattle.tree_rules.specs.Fails.{IsWrongFile}
use Rattle.save_mount.specs.declared.lists.FileFault.{FileFault}
use Rattle.save_mount.specs.declared.lists.FileFault.TheVariants.{Chain, Wrong}

-- the free list is at fault: entry 0 names an entry that is not in the table, or the list from there on is at fault
pub data IsFreeFault (table : ℕ → ℕ → Cell) (count : ℕ) (before : EntrySet) (entry : ℕ) : Type 0 where
  AtRoot : entry ≡ 0 → HasWords table 0 → count < index_of (word_v table 0) → IsFreeFault table count before entry
  InFree : IsListFault table count OpensFree (index_of (word_v table 0)) before entry
      → IsFreeFault table count before entry

-- a table in a chain begins with one of the data blocks
abbrev pub TableLies : ℕ → TableAt → Type 0
TableLies count (Plainly at) = ⊤
TableLies count (InChain first blocks) = first < count

-- the chain of a table is at fault, or is too short, which is named by its first entry
pub data IsChainFault (table : ℕ → ℕ → Cell) (count first blocks : ℕ) (before : EntrySet) (entry : ℕ) : Type 0 where
  InTableChain : IsListFault table count Opens (first + 1) before entry
      → IsChainFault table count first blocks before entry
  TooFewBlocks : entry ≡ first + 1 → (list : List ℕ) → IsChain table count (first + 1) list → length list < blocks
      → IsChainFault table count first blocks before entry

abbrev pub IsTableFault : (ℕ → ℕ → Cell) → ℕ → TableAt → EntrySet → ℕ → Type 0
IsTableFault table count (Plainly at) before entry = ⊥
IsTableFault table count (InChain first blocks) before entry = IsChainFault table count first blocks before entry

-- the words of an entry are needed to follow the chain
abbrev pub TableNeeds : (ℕ → ℕ → Cell) → ℕ → TableAt → ℕ → Type 0
TableNeeds table count (Plainly at) entry = ⊥
TableNeeds table count (InChain first blocks) entry = FailsAt table count Opens (first + 1) entry

-- the same of a file
abbrev pub IsFileFault : (ℕ → ℕ → Cell) → ℕ → ℕ → EntrySet → ℕ → Type 0
IsFileFault table count start before entry =
    (start < count) × IsListFault table count Opens (start + 1) before entry

abbrev pub FileNeeds : (ℕ → ℕ → Cell) → ℕ → ℕ → ℕ → Type 0
FileNeeds table count start entry = (start < count) × FailsAt table count Opens (start + 1) entry

-- the fault of a file's chain
abbrev pub chain_of : Result ⊤ FileFault → Option ChainFault
chain_of (Ok value) = None
chain_of (Err (Chain fault)) = Some fault
chain_of (Err Wrong) = None

abbrev pub file_refusal : Result ⊤ FileFault → Option Bad
file_refusal result = refusal_of (chain_of result)

-- P holds where a file is wrong in itself
abbrev pub IfWrong : Result ⊤ FileFault → Type 0 → Type 0
IfWrong (Ok value) P = ⊤
IfWrong (Err (Chain fault)) P = ⊤
IfWrong (Err Wrong) P = P

-- why a file is refused
pub record HasFileCause (s : State) (info : ChainInfo) (start size : ℕ) (before : EntrySet)
    (result : Result ⊤ FileFault) : Type 0 where
  pub chain : FaultsOnly s info (IsFileFault (table_in s.cells info) info.count start before)
      (FileNeeds (table_in s.cells info) info.count start) (chain_of result)
  pub wrong : IsTrue s.told → IfWrong result (IsWrongFile (table_in s.cells info) info start size)

-- these are data blocks, as many as both tables have in their chains
pub record AreTableBlocks (p : Places) (blocks : List ℕ) : Type 0 where
  pub inside : All (λ block. block < p.chain.count) blocks
  pub count : length blocks ≡ blocks_in_chain p.dirs.table + blocks_in_chain p.files.table
