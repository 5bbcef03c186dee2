-- A tree whose structure is kept and whose contents have softened at most is the same, but for these cells.
use Rattle.std.proofs.Common.{◌≡◌, ℕ, ◌<◌, List, Option, Some, None, refl, sym, ap, subst}
use Rattle.save_bytes.specs.Cells.{Cell}
use Rattle.save_bytes.specs.Within.{MaySoften}
use Rattle.entry_tables.specs.declared.table.EntryKind.TheVariants.{File}
use Rattle.entry_tables.specs.Tables.{Tables}
use Rattle.entry_tables.specs.Used.{named_entries}
use Rattle.tree_model.specs.declared.kind.TreeKind.{TreeKind}
use Rattle.tree_model.specs.declared.kind.TreeKind.TheVariants.{Save, Vsxe}
use Rattle.tree_model.specs.Trees.{Names, TreeFile, Contents, Identifier, Tree, IsFileBy, IsSofter}
use Rattle.tree_rules.specs.declared.information.Places.{Places}
use Rattle.tree_rules.specs.Information.{information_in}
use Rattle.tree_rules.specs.Places.{places_of, tree_tables}
use Rattle.tree_rules.specs.Lists.{Holder}
use Rattle.tree_rules.specs.Trees.{table_chains}
use Rattle.tree_rules.specs.Structure.{KeepsStructure}
use Rattle.tree_rules.specs.Reading.{IsFileRead, IsReadBy, TreeReadsFrom, file_of, SoftensContents, IsSoftened}
use Rattle.tree_rules.proofs.Kept.{consistent_kept}

same_identifier : (id : ℕ) (file : TreeFile) → file ≡ Identifier id
    → IsFileBy MaySoften (Some file) (Some (Identifier id))
same_identifier id file is =
    subst (λ (f : TreeFile). IsFileBy MaySoften (Some f) (Some (Identifier id))) (sym is) refl

soft_contents : (size held : ℕ) (cells new : ℕ → Cell) (file : TreeFile) → file ≡ Contents size held cells
    → ((x : ℕ) → x < size → MaySoften (cells x) (new x))
    → IsFileBy MaySoften (Some file) (Some (Contents size held new))
soft_contents size held cells new file is soft =
    subst (λ (f : TreeFile). IsFileBy MaySoften (Some f) (Some (Contents size held new))) (sym is) (new, refl, soft)

module _ (kind : TreeKind) (p : Places) (t : Tables) (lists : Holder → List ℕ) (cells new : ℕ → Cell)
    (soft : SoftensContents p t lists cells new) where
  -- what a file has now
  abbrev file_now : (path : Names) (file : Option TreeFile) → IsFileRead kind p t lists cells path file
      → Option TreeFile
  file_now path None h = None
  file_now path (Some file) h = Some (file_of kind p t lists new h.0)

  read_now : (path : Names) (file : Option TreeFile) (h : IsFileRead kind p t lists cells path file)
      → IsFileRead kind p t lists new path (file_now path file h)
  read_now path None h = h
  read_now path (Some file) h = (h.0, h.1, refl)

  of_kind : (k : TreeKind) (e : ℕ) (file : TreeFile) → named_entries File (t.table File) e
      → file ≡ file_of k p t lists cells e → IsFileBy MaySoften (Some file) (Some (file_of k p t lists new e))
  of_kind Save e file used is = soft_contents _ _ _ _ file is (soft e used)
  of_kind Vsxe e file used is = same_identifier (t.wide e) file is

  softer_now : (path : Names) (file : Option TreeFile) (h : IsFileRead kind p t lists cells path file)
      → IsFileBy MaySoften file (file_now path file h)
  softer_now path None h = refl
  softer_now path (Some file) h = of_kind kind h.0 file h.1.0 h.2

  abbrev later : (tree : Tree) → IsReadBy kind cells lists p t tree → Tree
  later tree h = record tree { file = λ path. file_now path (tree.file path) (h.files path) }

  later_read : (tree : Tree) (h : IsReadBy kind cells lists p t tree) → IsReadBy kind new lists p t (later tree h)
  later_read tree h = record {
    kind_is = h.kind_is;
    block_is = h.block_is;
    dirs = h.dirs;
    files = λ path. read_now path (tree.file path) (h.files path);
    free_blocks = h.free_blocks;
    free_dirs = h.free_dirs;
    free_files = h.free_files;
  }

  later_softer : (tree : Tree) (h : IsReadBy kind cells lists p t tree) → IsSofter tree (later tree h)
  later_softer tree h = record {
    kind = refl;
    block = refl;
    dirs = λ path. refl;
    files = λ path. softer_now path (tree.file path) (h.files path);
    room = refl;
  }

pub tree_softens : (kind : TreeKind) (size : ℕ) (split : Option ℕ) (cells new : ℕ → Cell) (tree : Tree)
    → (h : TreeReadsFrom kind size split cells tree)
    → KeepsStructure size (information_in cells) (places_of kind split (information_in cells)) h.lists
    (tree_tables size (places_of kind split (information_in cells)) (table_chains h.lists) cells) cells new
    → SoftensContents (places_of kind split (information_in cells))
    (tree_tables size (places_of kind split (information_in cells)) (table_chains h.lists) cells) h.lists cells new
    → IsSoftened kind size split tree new
tree_softens kind size split cells new tree h kept soft =
    let info = information_in cells in
    let p = places_of kind split info in
    let t = tree_tables size p (table_chains h.lists) cells in
    let keeps = consistent_kept kind size split cells new h.lists h.consistent kept in
    let now = later kind p t h.lists cells new soft tree h.read in
    let read = later_read kind p t h.lists cells new soft tree h.read in
    let at_tables : (q : Places) (u : Tables) → q ≡ p → u ≡ t → IsReadBy kind new h.lists q u now =
    λ q u places tables. subst (λ (r : Places). IsReadBy kind new h.lists r u now) (sym places)
    (subst (λ (v : Tables). IsReadBy kind new h.lists p v now) (sym tables) read) in
    record {
      later = now;
      reads = record {
        lists = h.lists;
        consistent = keeps.tree;
        read = at_tables _ _ (ap (places_of kind split) keeps.information) keeps.tables;
      };
      softer = later_softer kind p t h.lists cells new soft tree h.read;
    }
