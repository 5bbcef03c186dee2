-- Cells hold one plain map at most.
use Rattle.std.proofs.Common.{◌≡◌, ℕ, ◌+◌, ◌-◌, Bool, true, false, List, [], ◌∷◌, ◌++◌, length}
use Rattle.std.proofs.Common.{map, reverse, drop, get_or, Option, Some, None, refl, sym, ap, subst, ◌∙◌, arith}
use Rattle.std.specs.List.{Contains}
use Rattle.std.proofs.lemmas.List.{reverse-reverse, reverse-append, append-nil}
use Rattle.save_bytes.specs.Cells.{Cell}
use Rattle.entry_tables.specs.declared.table.EntryKind.TheVariants.{Dir, File}
use Rattle.entry_tables.specs.Tables.{Table, Tables}
use Rattle.entry_tables.specs.Links.{LeadsTo}
use Rattle.entry_tables.specs.Used.{used_entries, named_entries, dir_path}
use Rattle.entry_tables.specs.Rules.{IsOrderly}
use Rattle.entry_tables.proofs.LinkLemmas.{whole_front, Contains-head, Contains-tail}
use Rattle.tree_model.specs.declared.kind.TreeKind.{TreeKind}
use Rattle.tree_model.specs.Trees.{Names, TreeFile, Contents, Identifier, Tree, IsFileBy, SameTree}
use Rattle.tree_rules.specs.declared.information.Places.{Places}
use Rattle.tree_rules.specs.Information.{information_in}
use Rattle.tree_rules.specs.Places.{places_of, tree_tables}
use Rattle.tree_rules.specs.Lists.{Holder}
use Rattle.tree_rules.specs.Trees.{table_chains}
use Rattle.tree_rules.specs.Reading.{IsDirAt, IsFileAt, IsFileRead, IsRoomOf, IsReadBy, TreeReadsFrom, file_of}
use Rattle.tree_rules.proofs.OneTree.{one_list}

pub head_same : (x y : List ℕ) (xs ys : List (List ℕ)) → x ∷ xs ≡ y ∷ ys → x ≡ y
head_same x y xs ys same = ap (λ (l : List (List ℕ)). get_or l 0 []) same

pub tail_same : (x y : List ℕ) (xs ys : List (List ℕ)) → x ∷ xs ≡ y ∷ ys → xs ≡ ys
tail_same x y xs ys same = ap (λ (l : List (List ℕ)). drop 1 l) same

module _ (t : Tables) (orderly : IsOrderly t) where
  named_dir : (e : ℕ) (xs : List ℕ) → used_entries (t.table Dir) e → ¬ Contains (e ∷ xs) 1 → named_entries Dir
      (t.table Dir) e
  named_dir e xs used below = record {
    used = used;
    other = λ root. below (subst (λ (n : ℕ). Contains (e ∷ xs) n) root (Contains-head e xs));
  }

  -- two ways up to the root with the same names begin at one directory
  same_up : (d e : ℕ) (xs ys : List ℕ) → used_entries (t.table Dir) d → used_entries (t.table Dir) e
      → LeadsTo (t.table Dir).parent d xs 1 → LeadsTo (t.table Dir).parent e ys 1 → ¬ Contains xs 1 → ¬ Contains ys 1
      → map (t.table Dir).name xs ≡ map (t.table Dir).name ys → d ≡ e
  same_up d e [] [] used other up way below under names = up ∙ sym way
  same_up d e [] (y ∷ ys) used other up way below under names = absurd (omega (arith, ap length names))
  same_up d e (x ∷ xs) [] used other up way below under names = absurd (omega (arith, ap length names))
  same_up d e (x ∷ xs) (y ∷ ys) used other up way below under names =
      let one = named_dir x xs (subst (used_entries (t.table Dir)) up.0 used) below in
      let two = named_dir y ys (subst (used_entries (t.table Dir)) way.0 other) under in
      let parents = same_up ((t.table Dir).parent x) ((t.table Dir).parent y) xs ys (orderly.placed Dir x one).parent
      (orderly.placed Dir y two).parent up.2 way.2 (λ within. below (Contains-tail x xs 1 within))
      (λ within. under (Contains-tail y ys 1 within)) (tail_same _ _ _ _ names) in
      up.0 ∙ orderly.names_apart Dir x y one two parents (head_same _ _ _ _ names) ∙ sym way.0

  pub one_dir : (path : Names) (d e : ℕ) → IsDirAt t path d → IsDirAt t path e → d ≡ e
  one_dir path d e h k =
      let names : map (t.table Dir).name h.1.rising ≡ map (t.table Dir).name k.1.rising =
      sym (reverse-reverse (map (t.table Dir).name h.1.rising)) ∙ ap reverse (sym h.1.names ∙ k.1.names)
      ∙ reverse-reverse (map (t.table Dir).name k.1.rising) in
      same_up d e h.1.rising k.1.rising h.0 k.0 h.1.leads k.1.leads h.1.below_root k.1.below_root names

  -- a path with a last name
  front_same : (xs ys : Names) (x y : List ℕ) → xs ++ x ∷ [] ≡ ys ++ y ∷ [] → (x ≡ y) × (xs ≡ ys)
  front_same xs ys x y same =
      let turned : x ∷ reverse xs ≡ y ∷ reverse ys =
      sym (reverse-append xs (x ∷ [])) ∙ ap reverse same ∙ reverse-append ys (y ∷ []) in (
        head_same x y _ _ turned,
        sym (reverse-reverse xs) ∙ ap reverse (tail_same x y _ _ turned) ∙ reverse-reverse ys,
      )

  pub one_file : (path : Names) (d e : ℕ) → IsFileAt t path d → IsFileAt t path e → d ≡ e
  one_file path d e h k =
      let fronts = front_same h.1.parents_path k.1.parents_path _ _ (sym h.1.names ∙ k.1.names) in
      let parents = one_dir k.1.parents_path ((t.table File).parent d) ((t.table File).parent e)
      ((orderly.placed File d h.0).parent, subst (dir_path (t.table Dir) ((t.table File).parent d)) fronts.1 h.1.parent)
      ((orderly.placed File e k.0).parent, k.1.parent) in
      orderly.names_apart File d e h.0 k.0 parents fronts.0

bool_same : (a b : Bool) → (a ≡ true → b ≡ true) → (b ≡ true → a ≡ true) → b ≡ a
bool_same true b there back = there refl
bool_same false true there back = sym (back refl)
bool_same false false there back = refl

same_file : (file other : TreeFile) → other ≡ file → IsFileBy (λ (cell new : Cell). new ≡ cell) (Some file) (Some other)
same_file (Identifier id) other same = ap Some same
same_file (Contents size held cells) other same = (cells, ap Some same, λ x less. refl)

module _ (kind : TreeKind) (cells : ℕ → Cell) (lists : Holder → List ℕ) (p : Places) (t : Tables)
    (orderly : IsOrderly t) where
  file_same : (path : Names) (one other : Option TreeFile) → IsFileRead kind p t lists cells path one
      → IsFileRead kind p t lists cells path other → IsFileBy (λ (cell new : Cell). new ≡ cell) one other
  file_same path None None h k = refl
  file_same path None (Some file) h k = absurd (h k.0 k.1)
  file_same path (Some file) None h k = absurd (k h.0 h.1)
  file_same path (Some file) (Some other) h k =
      let entry = one_file t orderly path k.0 h.0 k.1 h.1 in
      same_file file other (k.2 ∙ ap (file_of kind p t lists cells) entry ∙ sym h.2)

  room_same : (table : Table) (one other : ℕ) → IsRoomOf table one → IsRoomOf table other → other ≡ one
  room_same table one other h k =
      let lists_same = whole_front table.link (table.link 0) h.0 k.0 h.1 k.1 ∙ append-nil h.0 in
      k.2 ∙ ap (λ (l : List ℕ). table.most - table.count + length l) lists_same ∙ sym h.2

  read_same : (tree other : Tree) → IsReadBy kind cells lists p t tree → IsReadBy kind cells lists p t other
      → SameTree tree other
  read_same tree other h k = record {
    kind = k.kind_is ∙ sym h.kind_is;
    block = k.block_is ∙ sym h.block_is;
    dirs = λ path. bool_same (tree.is_dir path) (other.is_dir path) (λ is. (k.dirs path).1 ((h.dirs path).0 is))
        (λ is. (h.dirs path).1 ((k.dirs path).0 is));
    files = λ path. file_same path (tree.file path) (other.file path) (h.files path) (k.files path);
    room = λ i. record {
      blocks = (k.free_blocks ∙ sym h.free_blocks) i;
      dirs = room_same (t.table Dir) tree.room.dirs other.room.dirs h.free_dirs k.free_dirs i;
      files = room_same (t.table File) tree.room.files other.room.files h.free_files k.free_files i;
    };
  }

pub one_tree : (kind : TreeKind) (size : ℕ) (split : Option ℕ) (cells : ℕ → Cell) (tree other : Tree)
    → TreeReadsFrom kind size split cells tree → TreeReadsFrom kind size split cells other → SameTree tree other
one_tree kind size split cells tree other h k =
    let p = places_of kind split (information_in cells) in
    let same : k.lists ≡ h.lists =
    λ i. λ holder. one_list kind size split cells k.lists h.lists k.consistent h.consistent holder i in
    read_same kind cells h.lists p
    (tree_tables size p (table_chains h.lists) cells) h.consistent.orderly tree other h.read
    (subst (λ (lists : Holder → List ℕ). IsReadBy kind cells lists p
    (tree_tables size p (table_chains lists) cells) other)
    same k.read)
