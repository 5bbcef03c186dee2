-- How a filesystem's tables stand in a store, so that they can be read.
use Rattle.std.specs.Prelude.{◌≡◌, ℕ, ◌≤◌, IsTrue, Option, None, IfSome, List, ◌++◌}
use Rattle.save_bytes.specs.State.{Shape}
use Rattle.container_header.specs.Conditions.{first_failing}
use Rattle.entry_tables.specs.declared.table.EntryKind.{EntryKind}
use Rattle.entry_tables.specs.declared.table.EntryKind.TheVariants.{Dir, File}
use Rattle.tree_model.specs.declared.kind.TreeKind.{TreeKind}
use Rattle.tree_rules.specs.declared.information.Information.{Information}
use Rattle.tree_rules.specs.declared.information.Places.{Places}
use Rattle.tree_rules.specs.Layout.{place_faults}
use Rattle.tree_rules.specs.Places.{places_of, table_blocks}
use Rattle.save_mount.specs.Held.{AreTableBlocks}

-- The filesystem lies in a store as its information says, and these are the data blocks of its tables.
pub record StandsIn (shape : Shape) (kind : TreeKind) (split : Option ℕ) (info : Information) (p : Places)
    (blocks : List ℕ) : Type 0 where
  pub sound : IsTrue shape.sound
  pub first : shape.first ≡ 0
  pub small : shape.size ≤ 67108864
  pub split_inside : IfSome split (λ n. n ≤ shape.size)
  pub placed : p ≡ places_of kind split info
  pub faultless : first_failing 1 (place_faults kind split shape.size info) ≡ None
  pub blocks_are : AreTableBlocks p blocks

-- these are the data blocks of both tables, by their chains
abbrev pub AreBlocksOf : Places → (EntryKind → List ℕ) → List ℕ → Type 0
AreBlocksOf p chains blocks =
    blocks ≡ table_blocks p.dirs.table (chains Dir) ++ table_blocks p.files.table (chains File)
