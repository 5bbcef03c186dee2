-- What was found at a path, and in a directory, is what the tree has there that the tables hold.
use Rattle.std.proofs.Common.{◌≡◌, ℕ, ◌↔◌, Bool, true, false, List, [], ◌∷◌, ◌++◌, Option, Some, None, is_some}
use Rattle.std.proofs.Common.{refl, sym, ◌∙◌, ap, inl, inr, ⊎_elim}
use Rattle.std.proofs.lemmas.Bool.{false≢true}
use Rattle.std.specs.Prelude.{IsSome}
use Rattle.std.specs.Option.{option_map}
use Rattle.save_bytes.specs.Cells.{Cell}
use Rattle.entry_tables.specs.declared.table.EntryKind.{EntryKind}
use Rattle.entry_tables.specs.declared.table.EntryKind.TheVariants.{Dir, File}
use Rattle.entry_tables.specs.Tables.{Tables}
use Rattle.entry_tables.specs.Used.{children_of}
use Rattle.entry_tables.specs.Rules.{IsOrderly}
use Rattle.tree_model.specs.declared.kind.TreeKind.{TreeKind}
use Rattle.tree_model.specs.Trees.{Names, TreeFile, Tree}
use Rattle.tree_model.specs.Answers.{is_root, parent_of, HasChildren}
use Rattle.tree_rules.specs.declared.information.Places.{Places}
use Rattle.tree_rules.specs.Lists.{Holder}
use Rattle.tree_rules.specs.Reading.{IsDirAt, IsFileAt, IsFileRead, IsReadBy, file_of}
use Rattle.tree_rules.proofs.OneReading.{one_dir}
use Rattle.tree_paths.specs.declared.descent.Standing.{Standing}
use Rattle.tree_paths.specs.Standings.{IsOnly, IsParentAt, IsStanding, HasChild}
use Rattle.tree_paths.proofs.DescentLemmas.{stands_down, stands_up, none_some, some_same}

not_true : (b : Bool) → ¬ (b ≡ true) → b ≡ false
not_true true other = absurd (other refl)
not_true false other = refl

-- a test of whether there is one such entry
only_decides : (P : ℕ → Type 0) (found : Option ℕ) (b : Bool) → IsOnly P found → (b ≡ true) ↔ ((e : ℕ) × P e)
    → b ≡ is_some found
only_decides P None b only decides =
    not_true b (λ is. (let h = decides.0 is in none_some h.0 ((only h.0).1 h.1)))
only_decides P (Some e) b only decides = decides.1 (e, (only e).0 refl)

below_root : (path : Names) → is_root path ≡ false → path ≡ [] → ⊥
below_root [] below root = cc
below_root (name ∷ names) below root = cc

module _ (kind : TreeKind) (cells : ℕ → Cell) (lists : Holder → List ℕ) (p : Places) (t : Tables) where
  only_file : (path : Names) (file : Option TreeFile) (found : Option ℕ) → IsFileRead kind p t lists cells path file
      → IsOnly (IsFileAt t path) found → file ≡ option_map (file_of kind p t lists cells) found
  only_file path None None read only = refl
  only_file path None (Some e) read only = absurd (read e ((only e).0 refl))
  only_file path (Some file) None read only = absurd (none_some read.0 ((only read.0).1 read.1))
  only_file path (Some file) (Some e) read only =
      let own = some_same e read.0 ((only read.0).1 read.1) in
      ap Some (read.2 ∙ ap (file_of kind p t lists cells) (sym own))

  file_there : (path : Names) (file : Option TreeFile) → IsFileRead kind p t lists cells path file → (e : ℕ)
      → IsFileAt t path e → IsSome file
  file_there path None read e at = absurd (read e at)
  file_there path (Some file) read e at = refl

  there_file : (path : Names) (file : Option TreeFile) → IsFileRead kind p t lists cells path file → IsSome file
      → (e : ℕ) × IsFileAt t path e
  there_file path None read some = absurd (false≢true some)
  there_file path (Some file) read some = (read.0, read.1)

  module _ (tree : Tree) (read : IsReadBy kind cells lists p t tree) where
    -- what stands at a path
    module _ (path : Names) (standing : Standing) (stands : IsStanding t path standing) where
      pub dir_read : tree.is_dir path ≡ is_some standing.dir
      dir_read = only_decides (IsDirAt t path) standing.dir (tree.is_dir path) stands.dir (read.dirs path)

      pub file_read : tree.file path ≡ option_map (file_of kind p t lists cells) standing.file
      file_read = only_file path (tree.file path) standing.file (read.files path) stands.file

      pub parent_read : is_root path ≡ false → tree.is_dir (parent_of path) ≡ is_some standing.parent
      parent_read below =
          only_decides (IsParentAt t path) standing.parent (tree.is_dir (parent_of path)) stands.parent (
            (λ is. (let h = (read.dirs (parent_of path)).0 is in
                (h.0, record { below_root = below_root path below; dir = h.1 }))),
            (λ h. (read.dirs (parent_of path)).1 (h.0, h.1.dir)),
          )

    -- and in a directory
    module _ (orderly : IsOrderly t) (path : Names) (dir : ℕ) (here : IsDirAt t path dir) where
      child_stands : (table : EntryKind) (e : ℕ) → children_of t table dir e → HasChildren tree path
      child_stands Dir e child =
          let name = (t.table Dir).name e in
          let at = stands_down t Dir path dir name e here
          (record { entry = child.entry; parent_is = child.parent; name_is = refl }) in
          (name, inl ((read.dirs (path ++ name ∷ [])).1 (e, at)))
      child_stands File e child =
          let name = (t.table File).name e in
          let below = path ++ name ∷ [] in
          let at = stands_down t File path dir name e here
          (record { entry = child.entry; parent_is = child.parent; name_is = refl }) in
          (name, inr (file_there below (tree.file below) (read.files below) e at))

      dir_below : (name : List ℕ) → tree.is_dir (path ++ name ∷ []) ≡ true → HasChild t dir
      dir_below name is =
          let h = (read.dirs (path ++ name ∷ [])).0 is in
          let up = stands_up t orderly Dir path name h.0 h.1 in
          record {
            kind = Dir;
            entry = h.0;
            child = record {
              entry = up.entry.entry;
              parent = one_dir t orderly path ((t.table Dir).parent h.0) dir up.dir here;
            };
          }

      file_below : (name : List ℕ) → IsSome (tree.file (path ++ name ∷ [])) → HasChild t dir
      file_below name some =
          let below = path ++ name ∷ [] in
          let h = there_file below (tree.file below) (read.files below) some in
          let up = stands_up t orderly File path name h.0 h.1 in
          record {
            kind = File;
            entry = h.0;
            child = record {
              entry = up.entry.entry;
              parent = one_dir t orderly path ((t.table File).parent h.0) dir up.dir here;
            };
          }

      pub children_read : HasChild t dir ↔ HasChildren tree path
      children_read = (
        (λ has. child_stands has.kind has.entry has.child),
        (λ has. ⊎_elim (dir_below has.0) (file_below has.0) has.1),
      )
