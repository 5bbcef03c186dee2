-- A file's contents, which lie in the data blocks of a chain, and what comes of reading them.
use Rattle.std.specs.Prelude.{ℕ, ◌+◌, ◌*◌, ◌≤◌, List, length, Result, Ok, Err, ⊤}
use Rattle.save_bytes.specs.declared.space.Bad.TheVariants.{Disk, Damaged}
use Rattle.save_bytes.specs.Cells.{Cell}
use Rattle.chain_nodes.specs.declared.info.ChainInfo.{ChainInfo}
use Rattle.chain_nodes.specs.declared.fault.ChainFault.{ChainFault}
use Rattle.chain_nodes.specs.declared.fault.ChainFault.TheVariants.{Broken, Short}
use Rattle.chain_nodes.specs.declared.fault.ChainFault.TheVariants.{Bad as Refused}
use Rattle.chain_nodes.specs.Chains.{IsChain}
use Rattle.chain_space.specs.Shown.{block_place}

-- The entries of a file of so many bytes, whose first data block is `start`. Where there are bytes they are a chain.
pub record IsContentsList (table : ℕ → ℕ → Cell) (info : ChainInfo) (start size : ℕ) (list : List ℕ) : Type 0 where
  pub enough : size ≤ length list * info.block
  pub chain : 1 ≤ size → IsChain table info.count (start + 1) list

-- the cells of the contents
abbrev pub contents_in : ChainInfo → List ℕ → (ℕ → Cell) → ℕ → Cell
contents_in info list cells x = cells (block_place info list x)

-- the call was done, and P holds of what it gave, or it was refused for a damaged cell, of which D holds, or for the
-- disk's sake
abbrev pub DoneOrDamaged : {A : Type 0} → Result A ChainFault → (A → Type 0) → (ℕ → ℕ → ℕ → Type 0) → Type 0
DoneOrDamaged (Ok given) P D = P given
DoneOrDamaged (Err (Refused Disk)) P D = ⊤
DoneOrDamaged (Err (Refused (Damaged part level block))) P D = D part level block
DoneOrDamaged (Err (Broken entry)) P D = ⊥
DoneOrDamaged (Err (Short need have)) P D = ⊥
