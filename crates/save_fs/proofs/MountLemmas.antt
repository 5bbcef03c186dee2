-- What a mount keeps of the tree that the cells hold.
use Rattle.std.proofs.Common.{◌≡◌, ℕ, List, Option, ap, ◌∙◌, subst}
use Rattle.save_bytes.specs.Cells.{Cell}
use Rattle.tree_model.specs.declared.kind.TreeKind.TheVariants.{Save}
use Rattle.tree_model.specs.Trees.{Tree}
use Rattle.tree_rules.specs.declared.information.Places.{Places}
use Rattle.tree_rules.specs.Information.{information_in}
use Rattle.tree_rules.specs.Places.{places_of}
use Rattle.tree_rules.specs.Lists.{Holder}
use Rattle.tree_rules.specs.Reading.{TreeReadsFrom, IsReadBy}
use Rattle.tree_rules.specs.Trees.{IsConsistentTree, table_chains}
use Rattle.tree_rules.specs.Places.{tree_tables}
use Rattle.tree_rules.proofs.OneTree.{one_list}
use Rattle.tree_rules.proofs.OneReading.{one_tree}
use Rattle.tree_rules.proofs.SomeTree.{some_tree}
use Rattle.save_mount.specs.declared.mounting.Mounted.{Mounted}
use Rattle.save_mount.specs.Counts.{IsCountOf, IsLost}
use Rattle.save_mount.specs.Mounted.{IsMountOf}
use Rattle.save_fs.specs.declared.mounted.SaveFs.{SaveFs}
use Rattle.save_fs.specs.Mounted.{IsMountedOn, HasLost}

module _ (size : ℕ) (split : Option ℕ) (cells : ℕ → Cell) (m : Mounted) (lists : Holder → List ℕ)
    (mount : IsMountOf Save size split cells m lists) where
  lists_same : (others : Holder → List ℕ) → IsConsistentTree Save size split cells others → lists ≡ others
  lists_same others k = λ i holder. one_list Save size split cells lists others mount.consistent k holder i

  pub mounted_on : (tree : Tree) → TreeReadsFrom Save size split cells tree
      → IsMountedOn size (record { split = split; mounted = m }) cells tree
  mounted_on tree reads = record {
    reads = reads;
    mount = subst (IsMountOf Save size split cells m) (lists_same reads.lists reads.consistent) mount;
  }

  pub some_on : (tree : Tree) × IsMountedOn size (record { split = split; mounted = m }) cells tree
  some_on =
      let some = some_tree Save size split cells lists mount.consistent in
      (some.0, mounted_on some.0 some.1)

-- where all lies
pub places_at : (size : ℕ) (split : Option ℕ) (cells : ℕ → Cell) (m : Mounted) (lists : Holder → List ℕ)
    → IsMountOf Save size split cells m lists → m.places ≡ places_of Save split (information_in cells)
places_at size split cells m lists mount = mount.places_are ∙ ap (places_of Save split) mount.info_is

module _ (size : ℕ) (fs : SaveFs) (cells : ℕ → Cell) (tree : Tree) (h : IsMountedOn size fs cells tree) where
  pub places_is : fs.mounted.places ≡ places_of Save fs.split (information_in cells)
  places_is = places_at size fs.split cells fs.mounted h.reads.lists h.mount

  abbrev p : Places
  p = places_of Save fs.split (information_in cells)

  -- the tree with the room that is kept
  abbrev kept_tree : Tree
  kept_tree = record tree { room = fs.mounted.room }

  kept_read : IsReadBy Save cells h.reads.lists p (tree_tables size p (table_chains h.reads.lists) cells) kept_tree
  kept_read = record {
    kind_is = h.reads.read.kind_is;
    block_is = h.reads.read.block_is;
    dirs = h.reads.read.dirs;
    files = h.reads.read.files;
    free_blocks = h.mount.free_blocks;
    free_dirs = h.mount.free_dirs;
    free_files = h.mount.free_files;
  }

  kept_reads : TreeReadsFrom Save size fs.split cells kept_tree
  kept_reads = record { lists = h.reads.lists; consistent = h.reads.consistent; read = kept_read }

  pub room_is : tree.room ≡ fs.mounted.room
  room_is = (one_tree Save size fs.split cells kept_tree tree kept_reads h.reads).room

  pub lost_is : HasLost size fs.split cells fs.mounted.lost
  lost_is lists consistent =
      let same : h.reads.lists ≡ lists = λ i holder. one_list Save size fs.split cells h.reads.lists lists
      h.reads.consistent consistent holder i in
      subst (λ (l : Holder → List ℕ). IsCountOf (IsLost p.chain.count l) fs.mounted.lost) same
      (subst (λ (q : Places). IsCountOf (IsLost q.chain.count h.reads.lists) fs.mounted.lost) places_is
      h.mount.lost_are)
