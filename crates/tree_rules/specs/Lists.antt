-- The lists of allocation entries that a filesystem has: the free one, and the chains of its tables and files.
use Rattle.std.specs.Prelude.{◌≡◌, ℕ, ◌+◌, ◌*◌, ◌<◌, ◌≤◌, List, [], length}
use Rattle.save_bytes.specs.Cells.{Cell}
use Rattle.chain_nodes.specs.declared.info.ChainInfo.{ChainInfo}
use Rattle.chain_nodes.specs.Chains.{IsChain, IsFreeList}
use Rattle.entry_tables.specs.declared.table.EntryKind.{EntryKind}
use Rattle.entry_tables.specs.declared.table.EntryKind.TheVariants.{File}
use Rattle.entry_tables.specs.Tables.{Tables}
use Rattle.entry_tables.specs.Used.{used_entries}
use Rattle.tree_model.specs.declared.kind.TreeKind.{TreeKind}
use Rattle.tree_model.specs.declared.kind.TreeKind.TheVariants.{Save, Vsxe}
use Rattle.tree_rules.specs.declared.information.TableAt.{TableAt}
use Rattle.tree_rules.specs.declared.information.TableAt.TheVariants.{Plainly, InChain}
use Rattle.tree_rules.specs.declared.information.Places.{Places}
use Rattle.tree_rules.specs.Places.{table_lies}

-- who has a list of allocation entries
pub data Holder : Type 0 where
  Free : Holder
  OfTable : (table : EntryKind) → Holder
  OfFile : (entry : ℕ) → Holder

-- what a file without data blocks has as its first
abbrev pub no_block : ℕ
no_block = 0x80000000

-- a table that lies plainly has no chain; that of another begins with its first data block, and has as many as it
-- should
abbrev pub IsTableList : (ℕ → ℕ → Cell) → ℕ → TableAt → List ℕ → Type 0
IsTableList table count (Plainly at) list = list ≡ []
IsTableList table count (InChain first blocks) list = IsChain table count (first + 1) list × (blocks ≤ length list)

-- a file without data blocks is empty; the chain of another has blocks enough for its bytes
pub data IsFileList (table : ℕ → ℕ → Cell) (chain : ChainInfo) (start size : ℕ) (list : List ℕ) : Type 0 where
  HasNone : start ≡ no_block → size ≡ 0 → list ≡ [] → IsFileList table chain start size list
  HasSome : start < chain.count → IsChain table chain.count (start + 1) list → size ≤ length list * chain.block
      → IsFileList table chain start size list

-- of a used entry; in a VSXE no file has data blocks
abbrev pub IsListOfFile : TreeKind → (ℕ → ℕ → Cell) → ChainInfo → Tables → ℕ → List ℕ → Type 0
IsListOfFile Save table chain t e list = IsFileList table chain (t.start e) (t.wide e) list
IsListOfFile Vsxe table chain t e list = list ≡ []

-- the list of each holder
abbrev pub IsListOf : TreeKind → (ℕ → ℕ → Cell) → Places → Tables → Holder → List ℕ → Type 0
IsListOf kind table p t Free list = IsFreeList table p.chain.count list
IsListOf kind table p t (OfTable entries) list = IsTableList table p.chain.count (table_lies p entries) list
IsListOf kind table p t (OfFile e) list = (used_entries (t.table File) e → IsListOfFile kind table p.chain t e list)
    × (¬ used_entries (t.table File) e → list ≡ [])
