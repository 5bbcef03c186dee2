use Rattle.std.proofs.Common.{ℕ, IsTrue, None, List}
use Rattle.save_bytes.specs.Reads.{Reads}
use Rattle.chain_nodes.specs.Table.{table_in}
use Rattle.entry_tables.specs.Tables.{Tables}
use Rattle.held_lists.specs.Sets.{HasRoomFor}
use Rattle.tree_model.specs.declared.kind.TreeKind.TheVariants.{Save}
use Rattle.tree_rules.specs.Lists.{Holder}
use Rattle.save_mount.specs.Files.{AreReadFiles, HasNoFileLists}
use Rattle.save_mount.proofs.FileLemmas.{HasFilesBelow}
use Rattle.save_mount.proofs.files.hold_files.Given as goal

abbrev pub invariant-loop-entry : goal.invariant-loop-entry
invariant-loop-entry g l =
    let old = g.S.Space.state l.initial.base in
    let table = table_in old.cells l.p.chain in
    record {
      reads : Reads g.S.Space.state g.S.Space.keeps g.S.Space.lands l.initial.base l.base None;
      room : (entry : ℕ) → HasRoomFor l.initial.held entry → HasRoomFor l.held entry;
      below : IsTrue old.told → (t : Tables) (lists : Holder → List ℕ) → AreReadFiles t l.files
          → HasNoFileLists Save table l.p t l.initial.held lists
          → (all : Holder → List ℕ) × HasFilesBelow table l.p t lists l.entry l.held all;
    }
