-- The tree of a mounted filesystem, where the cells of its store stay.
use Rattle.std.proofs.Common.{◌≡◌, ℕ, ◌<◌, List, Option, Some, None, refl, sym, ap, ◌∙◌, subst}
use Rattle.save_bytes.specs.Cells.{Cell}
use Rattle.save_bytes.specs.State.{Shape}
use Rattle.chain_nodes.specs.Table.{table_in, HasAllocationTable}
use Rattle.entry_tables.specs.Tables.{Tables}
use Rattle.file_reader.specs.Contents.{contents_in}
use Rattle.file_reader.proofs.PlaceLemmas.{StayContents, cell_stays}
use Rattle.tree_model.specs.declared.kind.TreeKind.TheVariants.{Save}
use Rattle.tree_model.specs.Trees.{Names, Tree, TreeFile, SameTree, IsFileBy}
use Rattle.tree_rules.specs.declared.information.Information.{Information}
use Rattle.tree_rules.specs.declared.information.Places.{Places}
use Rattle.tree_rules.specs.Information.{information_in}
use Rattle.tree_rules.specs.Places.{places_of, tree_tables}
use Rattle.tree_rules.specs.Lists.{Holder, OfFile}
use Rattle.tree_rules.specs.Reading.{TreeReadsFrom, IsReadBy, IsFileRead, IsFileAt, file_of}
use Rattle.tree_rules.specs.Trees.{table_chains}
use Rattle.tree_rules.proofs.OneTree.{one_list}
use Rattle.tree_rules.proofs.OneReading.{one_tree, one_file}
use Rattle.tree_rules.proofs.SomeTree.{some_tree}
use Rattle.save_fs.specs.declared.mounted.SaveFs.{SaveFs}
use Rattle.save_fs.specs.Mounted.{StandsOn, IsMountedOn, StaysMounted}
use Rattle.save_fs.proofs.MountLemmas.{places_is, mounted_on}
use Rattle.save_fs.proofs.GetLemmas.{contents_from}
use Rattle.save_fs.proofs.LaterLemmas.{kept, mount_later, table_at}

module _ (shape : Shape) (fs : SaveFs) (cells new : ℕ → Cell) (tree : Tree) (stands : StandsOn shape fs)
    (h : IsMountedOn shape.size fs cells tree) (same : (x : ℕ) → x < shape.size → new x ≡ cells x) where
  abbrev size : ℕ
  size = shape.size

  abbrev lists : Holder → List ℕ
  lists = h.reads.lists

  abbrev p : Places
  p = places_of Save fs.split (information_in cells)

  abbrev t : Tables
  t = tree_tables size p (table_chains lists) cells

  found : (later : Tree) × TreeReadsFrom Save size fs.split new later
  found = some_tree Save size fs.split new lists
      (kept size fs.split cells new fs.mounted lists h.mount same).tree

  lists_same : found.1.lists ≡ lists
  lists_same = λ i holder. one_list Save size fs.split new found.1.lists lists found.1.consistent
      (kept size fs.split cells new fs.mounted lists h.mount same).tree holder i

  -- the later tree is read off the same tables
  read_later : IsReadBy Save new lists p t found.0
  read_later =
      let keeps = kept size fs.split cells new fs.mounted lists h.mount same in
      let one = subst (λ (l : Holder → List ℕ). IsReadBy Save new l (places_of Save fs.split (information_in new))
      (tree_tables size (places_of Save fs.split (information_in new)) (table_chains l) new) found.0) lists_same
      found.1.read in
      let two = subst (λ (u : Tables). IsReadBy Save new lists (places_of Save fs.split (information_in new)) u found.0)
      keeps.tables one in
      subst (λ (i : Information). IsReadBy Save new lists (places_of Save fs.split i) t found.0) keeps.information two

  -- but for the contents it is read off the cells of before
  abbrev outline : Tree
  outline = record found.0 { file = tree.file }

  outline_same : SameTree tree outline
  outline_same = one_tree Save size fs.split cells tree outline h.reads (record {
    lists = lists;
    consistent = h.reads.consistent;
    read = record {
      kind_is = read_later.kind_is;
      block_is = read_later.block_is;
      dirs = read_later.dirs;
      files = h.reads.read.files;
      free_blocks = read_later.free_blocks;
      free_dirs = read_later.free_dirs;
      free_files = read_later.free_files;
    };
  })

  contents_stay : (e : ℕ) (path : Names) → IsFileAt t path e → (x : ℕ) → x < t.wide e
      → contents_in p.chain (lists (OfFile e)) new x ≡ contents_in p.chain (lists (OfFile e)) cells x
  contents_stay e path at x less =
      let table = subst (λ (q : Places). HasAllocationTable shape q.chain) (places_is size fs cells tree h)
      (table_at shape fs stands) in
      let stay : StayContents (table_in cells p.chain) p.chain (t.start e) (t.wide e) (lists (OfFile e)) cells new =
      record {
        contents = contents_from (table_in cells p.chain) p.chain (t.start e) (t.wide e) (lists (OfFile e))
            ((h.reads.consistent.listed (OfFile e)).0 at.0.used);
        space = size;
        inside = table.region;
        same = same;
      } in
      cell_stays stay x less

  file_later : (path : Names) (file later : Option TreeFile) → IsFileRead Save p t lists cells path file
      → IsFileRead Save p t lists new path later → IsFileBy (λ (cell now : Cell). now ≡ cell) file later
  file_later path None None one other = refl
  file_later path None (Some file) one other = absurd (one other.0 other.1)
  file_later path (Some file) None one other = absurd (other one.0 one.1)
  file_later path (Some file) (Some later) one other =
      let entry = one_file t h.reads.consistent.orderly path other.0 one.0 other.1 one.1 in
      let is : later ≡ file_of Save p t lists new one.0 = other.2 ∙ ap (file_of Save p t lists new) entry in
      subst (λ (f : TreeFile). IsFileBy (λ (cell now : Cell). now ≡ cell) (Some f) (Some later)) (sym one.2)
      (contents_in p.chain (lists (OfFile one.0)) new, ap Some is, contents_stay one.0 path one.1)

  pub stays_mounted : StaysMounted size fs new tree
  stays_mounted = record {
    later = found.0;
    mounted = mounted_on size fs.split new fs.mounted lists
        (mount_later size fs.split cells new fs.mounted lists h.mount same) found.0 found.1;
    same = record {
      kind = outline_same.kind;
      block = outline_same.block;
      dirs = outline_same.dirs;
      files = λ path. file_later path (tree.file path) (found.0.file path) (h.reads.read.files path)
          (read_later.files path);
      room = outline_same.room;
    };
  }
