-- What is kept of a mounted filesystem where the cells of its store stay.
use Rattle.std.proofs.Common.{◌≡◌, ℕ, ◌<◌, List, Option, sym, ap, ◌∙◌, subst}
use Rattle.save_bytes.specs.Cells.{Cell}
use Rattle.save_bytes.specs.Within.{MaySoften}
use Rattle.save_bytes.proofs.WithinLemmas.{MaySoften-same}
use Rattle.entry_tables.specs.declared.table.EntryKind.TheVariants.{Dir, File}
use Rattle.entry_tables.specs.Tables.{Tables}
use Rattle.tree_model.specs.declared.kind.TreeKind.TheVariants.{Save}
use Rattle.tree_rules.specs.declared.information.Places.{Places}
use Rattle.tree_rules.specs.Places.{tree_tables}
use Rattle.tree_rules.specs.Lists.{Holder}
use Rattle.tree_rules.specs.Reading.{IsRoomOf}
use Rattle.tree_rules.specs.Structure.{KeepsTree}
use Rattle.tree_rules.specs.Trees.{table_chains}
use Rattle.tree_rules.proofs.Kept.{consistent_kept}
use Rattle.save_mount.specs.declared.mounting.Mounted.{Mounted}
use Rattle.save_mount.specs.Mounted.{IsMountOf}
use Rattle.std.proofs.Common.{None, IsTrue}
use Rattle.save_bytes.specs.State.{State, Shape}
use Rattle.save_bytes.specs.Stays.{Stays}
use Rattle.chain_nodes.specs.Table.{HasAllocationTable}
use Rattle.save_mount.proofs.BeginLemmas.{table_there}
use Rattle.save_fs.specs.declared.mounted.SaveFs.{SaveFs}
use Rattle.save_fs.specs.Mounted.{StandsOn, tables_on}
use Rattle.save_fs.proofs.MountLemmas.{places_at}

module _ (size : ℕ) (split : Option ℕ) (cells new : ℕ → Cell) (m : Mounted) (lists : Holder → List ℕ)
    (mount : IsMountOf Save size split cells m lists) (same : (x : ℕ) → x < size → new x ≡ cells x) where
  pub kept : KeepsTree Save size split cells new lists
  kept = consistent_kept Save size split cells new lists mount.consistent
      (λ x less part. subst (MaySoften (cells x)) (sym (same x less)) (MaySoften-same (cells x)))

  pub mount_later : IsMountOf Save size split new m lists
  mount_later = record {
    consistent = kept.tree;
    kind_is = mount.kind_is;
    info_is = mount.info_is ∙ sym kept.information;
    places_are = mount.places_are;
    dirs_at = mount.dirs_at;
    files_at = mount.files_at;
    blocks_are = mount.blocks_are;
    held_are = mount.held_are;
    free_blocks = mount.free_blocks;
    free_dirs = subst (λ (t : Tables). IsRoomOf (t.table Dir) m.room.dirs) (sym kept.tables) mount.free_dirs;
    free_files = subst (λ (t : Tables). IsRoomOf (t.table File) m.room.files) (sym kept.tables) mount.free_files;
    lost_are = mount.lost_are;
  }

  -- the tables, where they stand
  pub tables_later : tree_tables size m.places (table_chains lists) new
      ≡ tree_tables size m.places (table_chains lists) cells
  tables_later =
      let later = ap (λ (q : Places). tree_tables size q (table_chains lists) new)
      (places_at size split new m lists mount_later) in
      let before = ap (λ (q : Places). tree_tables size q (table_chains lists) cells)
      (places_at size split cells m lists mount) in
      later ∙ kept.tables ∙ sym before

-- in a state that a reading call left
module _ (old mid : State) (stays : Stays old mid None) (told : IsTrue old.told) (fs : SaveFs)
    (lists : Holder → List ℕ) (mount : IsMountOf Save old.shape.size fs.split old.cells fs.mounted lists) where
  pub mount_mid : IsMountOf Save mid.shape.size fs.split mid.cells fs.mounted lists
  mount_mid = subst (λ (s : Shape). IsMountOf Save s.size fs.split mid.cells fs.mounted lists)
      (sym stays.space.shape)
      (mount_later old.shape.size fs.split old.cells mid.cells fs.mounted lists mount (stays.cells told))

  pub tables_mid : tables_on mid.shape.size fs mid.cells lists ≡ tables_on old.shape.size fs old.cells lists
  tables_mid = subst (λ (s : Shape). tables_on s.size fs mid.cells lists ≡ tables_on old.shape.size fs old.cells lists)
      (sym stays.space.shape)
      (tables_later old.shape.size fs.split old.cells mid.cells fs.mounted lists mount (stays.cells told))

-- the allocation table lies in the store
pub table_at : (shape : Shape) (fs : SaveFs) → StandsOn shape fs → HasAllocationTable shape fs.mounted.places.chain
table_at shape fs h = subst (λ (q : Places). HasAllocationTable shape q.chain) (sym h.placed.places_are)
    (table_there shape Save fs.split fs.mounted.info h.mountable.sound h.mountable.first h.mountable.inside
    h.placed.faultless)
