-- What the tree answers to `get`, by what stands at the path.
use Rattle.std.proofs.Common.{◌≡◌, ℕ, ◌<◌, ◌≤◌, true, false, List, [], length, Option, Some, None, refl, sym, ap}
use Rattle.std.proofs.Common.{◌∙◌, subst, arith, slice_index}
use Rattle.save_bytes.specs.Cells.{Cell, Byte}
use Rattle.tree_model.specs.declared.refusal.Refusal.{Refusal}
use Rattle.tree_model.specs.declared.refusal.Refusal.TheVariants.{IsRoot, WrongKind, NotFound, Damaged}
use Rattle.tree_model.specs.declared.kind.TreeKind.TheVariants.{Save}
use Rattle.tree_model.specs.Trees.{Names, Tree, TreeFile, Contents, Identifier, SameTree, IsFileBy}
use Rattle.tree_model.specs.Answers.{get_refusal, is_root, FileIs, Refused, IsFirstHole, GetAnswers}
use Rattle.std.proofs.Common.{◌∷◌, is_some}
use Rattle.std.specs.Option.{option_map}
use Rattle.chain_nodes.specs.declared.info.ChainInfo.{ChainInfo}
use Rattle.chain_nodes.specs.Table.{table_in}
use Rattle.entry_tables.specs.Tables.{Tables}
use Rattle.file_reader.specs.Contents.{IsContentsList}
use Rattle.tree_rules.specs.declared.information.Places.{Places}
use Rattle.tree_rules.specs.Information.{information_in}
use Rattle.tree_rules.specs.Places.{places_of, tree_tables}
use Rattle.tree_rules.specs.Lists.{OfFile, IsFileList}
use Rattle.tree_rules.specs.Lists.IsFileList.{HasNone, HasSome}
use Rattle.tree_rules.specs.Reading.{IsFileAt, IsFileRead, file_of}
use Rattle.tree_rules.specs.Trees.{table_chains}
use Rattle.tree_rules.proofs.OneReading.{one_file}
use Rattle.tree_paths.specs.declared.descent.Standing.{Standing}
use Rattle.tree_paths.specs.Standings.{IsStanding}
use Rattle.tree_paths.proofs.TreeLemmas.{dir_read, file_read}
use Rattle.save_fs.specs.declared.mounted.SaveFs.{SaveFs}
use Rattle.save_fs.specs.Mounted.{IsMountedOn, tables_on}
use Rattle.std.proofs.Common.{Err}
use Rattle.tree_model.specs.declared.refusal.FsFault.{FsFault}
use Rattle.tree_model.specs.declared.refusal.FsFault.TheVariants.{Refused as Refuses, Disk}
use Rattle.save_fs.specs.Faults.{DoneOrDisk}
use Rattle.save_fs.specs.Gets.{IsGetReply, IsGetBegun, IsFileWith, AreFieldsFound}
use Rattle.save_fs.proofs.MountLemmas.{places_is}

same_file : (file : Option TreeFile) → IsFileBy (λ (cell new : Cell). new ≡ cell) file file
same_file None = refl
same_file (Some (Identifier id)) = refl
same_file (Some (Contents size held cells)) = (cells, refl, λ x less. refl)

pub same_tree : (tree : Tree) → SameTree tree tree
same_tree tree = record {
  kind = refl;
  block = refl;
  dirs = λ path. refl;
  files = λ path. same_file (tree.file path);
  room = refl;
}

module _ (tree : Tree) (path : Names) (save : tree.kind ≡ Save) where
  pub of_root : is_root path ≡ true → get_refusal tree path ≡ Some IsRoot
  of_root root = rw (save, root) refl

  pub of_file : is_root path ≡ false → (file : TreeFile) → tree.file path ≡ Some file → get_refusal tree path ≡ None
  of_file below file is = rw (save, below, is) refl

  pub of_dir : is_root path ≡ false → tree.file path ≡ None → tree.is_dir path ≡ true
      → get_refusal tree path ≡ Some WrongKind
  of_dir below none is = rw (save, below, none, is) refl

  pub of_nothing : is_root path ≡ false → tree.file path ≡ None → tree.is_dir path ≡ false
      → get_refusal tree path ≡ Some NotFound
  of_nothing below none not_there = rw (save, below, none, not_there) refl

  pub refused_reply : (refusal : Refusal) → get_refusal tree path ≡ Some refusal
      → IsGetReply tree path (Refused refusal)
  refused_reply refusal is = (Some refusal, sym is, (refl, same_tree tree))

  -- a file with these cells
  module _ (size held : ℕ) (cells : ℕ → Cell) (file : tree.file path ≡ Some (Contents size held cells))
      (none : get_refusal tree path ≡ None) where
    pub bytes_reply : (bytes : List ℕ) → length bytes ≡ size
        → ((x : ℕ) → x < size → cells x ≡ Byte (slice_index bytes x)) → IsGetReply tree path (FileIs bytes)
    bytes_reply bytes long are =
        let answers : GetAnswers (Some (Contents size held cells)) (FileIs bytes) = (long, are) in
        let given = subst (λ (f : Option TreeFile). GetAnswers f (FileIs bytes)) (sym file) answers in
        (None, sym none, (given, same_tree tree))

    pub hole_reply : (part level block : ℕ) → IsFirstHole size cells part level block
        → IsGetReply tree path (Refused (Damaged part level block))
    hole_reply part level block hole =
        let answers : GetAnswers (Some (Contents size held cells)) (Refused (Damaged part level block)) = hole in (
          None,
          sym none,
          (
            subst (λ (f : Option TreeFile). GetAnswers f (Refused (Damaged part level block))) (sym file) answers,
            same_tree tree,
          ),
        )

below : (path : Names) → 1 ≤ length path → is_root path ≡ false
below [] some = absurd (omega (arith, some))
below (name ∷ names) some = refl

-- the chain of a file holds its contents
pub contents_from : (table : ℕ → ℕ → Cell) (chain : ChainInfo) (start size : ℕ) (list : List ℕ)
    → IsFileList table chain start size list → IsContentsList table chain start size list
contents_from table chain start size list (HasNone none empty no_list) = record {
  enough = omega (arith, empty);
  chain = λ some. absurd (omega (arith, some, empty));
}
contents_from table chain start size list (HasSome there linked enough) = record {
  enough = enough;
  chain = λ some. linked;
}

module _ (size : ℕ) (fs : SaveFs) (cells : ℕ → Cell) (tree : Tree) (h : IsMountedOn size fs cells tree) (path : Names)
  where
    abbrev p : Places
    p = places_of Save fs.split (information_in cells)

    abbrev t : Tables
    t = tree_tables size p (table_chains h.reads.lists) cells

    -- what stands at the path
    module _ (standing : Standing) (stands : IsStanding (tables_on size fs cells h.reads.lists) path standing) where
      placed : IsStanding t path standing
      placed = subst (λ (q : Places). IsStanding (tree_tables size q (table_chains h.reads.lists) cells) path standing)
          (places_is size fs cells tree h) stands

      dir_is : tree.is_dir path ≡ is_some standing.dir
      dir_is = dir_read Save cells h.reads.lists p t tree h.reads.read path standing placed

      file_is : tree.file path ≡ option_map (file_of Save p t h.reads.lists cells) standing.file
      file_is = file_read Save cells h.reads.lists p t tree h.reads.read path standing placed

      pub found_file : 1 ≤ length path → (e : ℕ) → standing.file ≡ Some e
          → IsFileAt (tables_on size fs cells h.reads.lists) path e × (get_refusal tree path ≡ None)
      found_file some e is = (
        (stands.file e).0 is,
        of_file tree path h.reads.read.kind_is (below path some) (file_of Save p t h.reads.lists cells e)
            (file_is ∙ ap (option_map (file_of Save p t h.reads.lists cells)) is),
      )

      pub found_dir : 1 ≤ length path → standing.file ≡ None → (e : ℕ) → standing.dir ≡ Some e
          → get_refusal tree path ≡ Some WrongKind
      found_dir some none e is = of_dir tree path h.reads.read.kind_is (below path some)
          (file_is ∙ ap (option_map (file_of Save p t h.reads.lists cells)) none) (dir_is ∙ ap is_some is)

      pub found_nothing : 1 ≤ length path → standing.file ≡ None → standing.dir ≡ None
          → get_refusal tree path ≡ Some NotFound
      found_nothing some none no_dir = of_nothing tree path h.reads.read.kind_is (below path some)
          (file_is ∙ ap (option_map (file_of Save p t h.reads.lists cells)) none) (dir_is ∙ ap is_some no_dir)

    -- the file with an entry
    module _ (e : ℕ) (at : IsFileAt t path e) (none : get_refusal tree path ≡ None) where
      file_there : (file : Option TreeFile) → IsFileRead Save p t h.reads.lists cells path file
          → file ≡ Some (file_of Save p t h.reads.lists cells e)
      file_there None read = absurd (read e at)
      file_there (Some file) read =
          let same = one_file t h.reads.consistent.orderly path read.0 e read.1 at in
          ap Some (read.2 ∙ ap (file_of Save p t h.reads.lists cells) same)

      file_with : IsFileWith cells p.chain tree path (t.start e) (t.wide e)
      file_with = record {
        list = h.reads.lists (OfFile e);
        held = length (h.reads.lists (OfFile e));
        none = none;
        file = file_there (tree.file path) (h.reads.read.files path);
        contents = contents_from (table_in cells p.chain) p.chain (t.start e) (t.wide e) (h.reads.lists (OfFile e))
            ((h.reads.consistent.listed (OfFile e)).0 at.0.used);
      }

    pub file_fields : (e : ℕ) → IsFileAt (tables_on size fs cells h.reads.lists) path e → get_refusal tree path ≡ None
        → (start wide : ℕ) → start ≡ (tables_on size fs cells h.reads.lists).start e
        → wide ≡ (tables_on size fs cells h.reads.lists).wide e
        → IsFileWith cells fs.mounted.places.chain tree path start wide
    file_fields e at none start wide is_start is_wide =
        let same = places_is size fs cells tree h in
        let placed : IsFileAt t path e =
        subst (λ (q : Places). IsFileAt (tree_tables size q (table_chains h.reads.lists) cells) path e) same at in
        let all = file_with e placed none in
        let back : IsFileWith cells fs.mounted.places.chain tree path
        ((tables_on size fs cells h.reads.lists).start e) ((tables_on size fs cells h.reads.lists).wide e) =
        subst (λ (q : Places). IsFileWith cells q.chain tree path
        ((tree_tables size q (table_chains h.reads.lists) cells).start e)
        ((tree_tables size q (table_chains h.reads.lists) cells).wide e)) (sym same) all in
        subst (λ (n : ℕ). IsFileWith cells fs.mounted.places.chain tree path n wide) (sym is_start)
        (subst (λ (n : ℕ). IsFileWith cells fs.mounted.places.chain tree path
        ((tables_on size fs cells h.reads.lists).start e) n) (sym is_wide) back)

-- refusals that are passed on
pub fields_refused : (A : Type 0) (P : A → Type 0) (cells : ℕ → Cell) (chain : ChainInfo) (tree : Tree) (path : Names)
    (fault : FsFault) → DoneOrDisk {A = A} (Err fault) P → AreFieldsFound cells chain tree path (Err fault)
fields_refused A P cells chain tree path Disk h = tt
fields_refused A P cells chain tree path (Refuses refusal) h = absurd h

pub begin_refused : (cells : ℕ → Cell) (chain : ChainInfo) (tree : Tree) (path : Names) → tree.kind ≡ Save
    → (fault : FsFault) → AreFieldsFound cells chain tree path (Err fault) → IsGetBegun cells tree path (Err fault)
begin_refused cells chain tree path save Disk h = tt
begin_refused cells chain tree path save (Refuses refusal) h = refused_reply tree path save refusal h
