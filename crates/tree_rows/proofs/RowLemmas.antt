-- Rows of entries.
use Rattle.std.proofs.Common.{◌≡◌, ℕ, ◌+◌, ◌<◌, Bool, true, false, not, List, [], ◌∷◌, length, get_or}
use Rattle.std.proofs.Common.{Option, Some, None, IfSome, ⊎_elim, refl, sym, ap, subst, ◌∙◌, arith}
use Rattle.std.specs.declared.cmp.Ordering.TheVariants.{Less, Equal}
use Rattle.std.specs.List.{All, Contains}
use Rattle.std.specs.List.Sorted.{IsStrictlySortedBy}
use Rattle.std.specs.Map.{keys_of, values_of}
use Rattle.std.specs.BTreeMap.{insert_entry}
use Rattle.std.proofs.lemmas.Bool.{cases_lt}
use Rattle.std.proofs.lemmas.List.{get_or-map, length-map}
use Rattle.std.proofs.lemmas.List.Elements.{All-map, All-weaker, All-get_or}
use Rattle.std.proofs.lemmas.Map.Keys.{Less-from_sorted}
use Rattle.save_bytes.specs.Cells.{Cell}
use Rattle.entry_tables.specs.declared.table.EntryKind.{EntryKind}
use Rattle.entry_tables.specs.declared.table.EntryKind.TheVariants.{Dir, File}
use Rattle.entry_tables.specs.Tables.{Tables}
use Rattle.entry_tables.specs.Rules.{IsOrderly}
use Rattle.tree_model.specs.declared.kind.TreeKind.{TreeKind}
use Rattle.tree_model.specs.declared.kind.TreeKind.TheVariants.{Save, Vsxe}
use Rattle.tree_model.specs.declared.listing.Row.{Row}
use Rattle.tree_model.specs.Trees.{Names, TreeFile, Tree}
use Rattle.tree_model.specs.Listings.{IsRowOf, ListsTree, file_row, row_path, is_dir_row, is_row_before}
use Rattle.tree_rules.specs.declared.information.Places.{Places}
use Rattle.tree_rules.specs.Lists.{Holder, OfFile}
use Rattle.tree_rules.specs.Reading.{IsFileAt, IsFileRead, IsReadBy, file_of, file_cells}
use Rattle.tree_rows.specs.Rows.{Key, IsAt, IsPairOf, IsEntryRow, AddsRows, kind_at, key_cmp, entry_row, sized_row}
use Rattle.tree_rows.proofs.PathLemmas.{one_path, one_entry}
use Rattle.tree_rows.proofs.InsertLemmas.{insert_all, insert_keeps, insert_has}
use Rattle.tree_rows.proofs.OrderLemmas.{keys_before, same_keys}

module _ (kind : TreeKind) (t : Tables) (orderly : IsOrderly t) where
  -- entries with equal keys have one row
  one_row : (one other : Key × Row) → IsEntryRow kind t one → IsEntryRow kind t other
      → key_cmp one.0 other.0 ≡ Equal → other.1 ≡ one.1
  one_row one other h k equal =
      let keys = same_keys one.0 other.0 equal in
      let at : IsAt t (kind_at other.0.1) other.0.0.items h.entry =
      subst (λ (b : Bool). IsAt t (kind_at b) other.0.0.items h.entry) keys.1
      (subst (λ (path : Names). IsAt t (kind_at one.0.1) path h.entry) keys.0 h.at) in
      let same = one_entry t orderly (kind_at other.0.1) other.0.0.items k.entry h.entry k.at at in
      k.row ∙ ap (entry_row kind t (kind_at other.0.1) other.0.0.items) same
      ∙ ap (λ (b : Bool). entry_row kind t (kind_at b) other.0.0.items h.entry) (sym keys.1)
      ∙ ap (λ (path : Names). entry_row kind t (kind_at one.0.1) path h.entry) (sym keys.0) ∙ sym h.row

  module _ (entries : EntryKind) (below : ℕ) (old new : List (Key × Row))
      (h : AddsRows kind t entries below old new) where
    -- an entry that has no path
    pub AddsRows-other : ((path : Names) → ¬ IsAt t entries path below)
        → AddsRows kind t entries (below + 1) old new
    AddsRows-other none = record {
      true_rows = h.true_rows;
      kept = h.kept;
      all = λ e path less at. ⊎_elim (λ (before : e < below). h.all e path before at)
          (λ (behind : _). (let here : e ≡ below = omega (arith, less, behind) in
          absurd (none path (subst (IsAt t entries path) here at)))) (cases_lt e below);
    }

    pair_row : (pair : Key × Row) → IsPairOf kind t entries below (Some pair) → IsEntryRow kind t pair
    pair_row pair is = record {
      entry = below;
      at = subst (λ (k : EntryKind). IsAt t k pair.0.0.items below) (sym is.1) is.0;
      row = is.2 ∙ ap (λ (k : EntryKind). entry_row kind t k pair.0.0.items below) (sym is.1);
    }

    -- an entry whose row is put
    pub AddsRows-more : (pair : Key × Row) → IsPairOf kind t entries below (Some pair)
        → AddsRows kind t entries (below + 1) old (insert_entry key_cmp new pair.0 pair.1)
    AddsRows-more pair is =
        let here = pair_row pair is in
        let same : (q : Key) (w : Row) → key_cmp pair.0 q ≡ Equal → IsEntryRow kind t (q, w) → w ≡ pair.1 =
        λ q w equal k. one_row pair (q, w) here k equal in
        let stays : (x : Row) → Contains (values_of new) x
        → Contains (values_of (insert_entry key_cmp new pair.0 pair.1)) x =
        λ x within. insert_keeps key_cmp (IsEntryRow kind t) pair.0 pair.1 x same new h.true_rows within in
        record {
          true_rows = insert_all key_cmp (IsEntryRow kind t) pair.0 pair.1 here
              (λ q w equal k. record { entry = k.entry; at = k.at; row = sym (same q w equal k) ∙ k.row }) new
              h.true_rows;
          kept = λ x within. stays x (h.kept x within);
          all = λ e path less at. ⊎_elim
              (λ (before : e < below). stays (entry_row kind t entries path e) (h.all e path before at))
              (λ (behind : _). (let now : e ≡ below = omega (arith, less, behind) in
              let paths = one_path t entries pair.0.0.items path below is.0 (subst (IsAt t entries path) now at) in
              let row : pair.1 ≡ entry_row kind t entries path e =
              is.2 ∙ ap (λ (names : Names). entry_row kind t entries names below) paths
              ∙ ap (entry_row kind t entries path) (sym now) in
              subst (λ (x : Row). Contains (values_of (insert_entry key_cmp new pair.0 pair.1)) x) row
              (insert_has key_cmp pair.0 pair.1 new)))
              (cases_lt e below);
        }

  -- after the rows of both kinds each entry has its row
  pub both_kinds : (old mid new : List (Key × Row)) → AddsRows kind t Dir (t.table Dir).count old mid
      → AddsRows kind t File (t.table File).count mid new → (entries : EntryKind) (e : ℕ) (path : Names)
      → IsAt t entries path e → Contains (values_of new) (entry_row kind t entries path e)
  both_kinds old mid new h k Dir e path at =
      k.kept (entry_row kind t Dir path e) (h.all e path at.0.below at)
  both_kinds old mid new h k File e path at = k.all e path at.0.used.below at

  path_is : (entries : EntryKind) (path : Names) (e : ℕ) → row_path (entry_row kind t entries path e) ≡ path
  path_is Dir path e = refl
  path_is File path e = sized kind where
    sized : (kind : TreeKind) → row_path (sized_row kind path (t.wide e)) ≡ path
    sized Save = refl
    sized Vsxe = refl

  dir_is : (b : Bool) (path : Names) (e : ℕ) → is_dir_row (entry_row kind t (kind_at b) path e) ≡ not b
  dir_is false path e = refl
  dir_is true path e = sized kind where
    sized : (kind : TreeKind) → is_dir_row (sized_row kind path (t.wide e)) ≡ false
    sized Save = refl
    sized Vsxe = refl

  rows_before : (one other : Key × Row) → IsEntryRow kind t one → IsEntryRow kind t other
      → key_cmp one.0 other.0 ≡ Less → is_row_before one.1 other.1 ≡ true
  rows_before one other h k less =
      let path = ap row_path h.row ∙ path_is (kind_at one.0.1) one.0.0.items h.entry in
      let too = ap row_path k.row ∙ path_is (kind_at other.0.1) other.0.0.items k.entry in
      let dir = ap is_dir_row h.row ∙ dir_is one.0.1 one.0.0.items h.entry in
      let dir_too = ap is_dir_row k.row ∙ dir_is other.0.1 other.0.0.items k.entry in
      rw (path, too, dir, dir_too) (keys_before one.0 other.0 less)

  pub rows_ordered : (es : List (Key × Row)) → All (IsEntryRow kind t) es → IsStrictlySortedBy key_cmp (keys_of es)
      → (i j : ℕ) (d : Row) → i < j → j < length (values_of es)
      → is_row_before (get_or (values_of es) i d) (get_or (values_of es) j d) ≡ true
  rows_ordered [] all sorted i j d less within = absurd (omega (arith, within))
  rows_ordered (e ∷ es) all sorted i j d less within =
      let pairs = e ∷ es in
      let far : j < length pairs = omega (arith, within, length-map pairs (λ (p : Key × Row). p.1)) in
      let near : i < length pairs = omega (arith, far, less) in
      let far_key : j < length (keys_of pairs) = omega (arith, far, length-map pairs (λ (p : Key × Row). p.0)) in
      let keys = Less-from_sorted key_cmp (keys_of pairs) i j e.0 sorted less far_key in
      let one = get_or-map (λ (p : Key × Row). p.0) pairs i e e.0 near in
      let other = get_or-map (λ (p : Key × Row). p.0) pairs j e e.0 far in
      let row = get_or-map (λ (p : Key × Row). p.1) pairs i e d near in
      let row_too = get_or-map (λ (p : Key × Row). p.1) pairs j e d far in
      rw (row, row_too) (rows_before (get_or pairs i e) (get_or pairs j e)
      (All-get_or (IsEntryRow kind t) pairs i e near all) (All-get_or (IsEntryRow kind t) pairs j e far all)
      (rw (one, other) at keys))

file_row_is : (kind : TreeKind) (p : Places) (t : Tables) (lists : Holder → List ℕ) (cells : ℕ → Cell) (path : Names)
    (e : ℕ) → file_row path (file_of kind p t lists cells e) ≡ sized_row kind path (t.wide e)
file_row_is Save p t lists cells path e = refl
file_row_is Vsxe p t lists cells path e = refl

sized_true : (kind : TreeKind) (p : Places) (t : Tables) (lists : Holder → List ℕ) (cells : ℕ → Cell) (tree : Tree)
    (path : Names) (e : ℕ) → tree.file path ≡ Some (file_of kind p t lists cells e)
    → IsRowOf tree (sized_row kind path (t.wide e))
sized_true Save p t lists cells tree path e is =
    (length (lists (OfFile e)), file_cells p.chain (lists (OfFile e)) cells, is)
sized_true Vsxe p t lists cells tree path e is = is

module _ (kind : TreeKind) (cells : ℕ → Cell) (lists : Holder → List ℕ) (p : Places) (t : Tables) (tree : Tree)
    (orderly : IsOrderly t) (read : IsReadBy kind cells lists p t tree) where
  file_true : (path : Names) (e : ℕ) → IsFileAt t path e → (found : Option TreeFile) → tree.file path ≡ found
      → IsFileRead kind p t lists cells path found → IsRowOf tree (sized_row kind path (t.wide e))
  file_true path e at None is h = absurd (h e at)
  file_true path e at (Some file) is h =
      sized_true kind p t lists cells tree path e
      (is ∙ ap Some (h.2 ∙ ap (file_of kind p t lists cells) (one_entry t orderly File path h.0 e h.1 at)))

  entry_true : (entries : EntryKind) (path : Names) (e : ℕ) → IsAt t entries path e
      → IsRowOf tree (entry_row kind t entries path e)
  entry_true Dir path e at = (read.dirs path).1 (e, at)
  entry_true File path e at = file_true path e at (tree.file path) refl (read.files path)

  module _ (es : List (Key × Row)) (true_rows : All (IsEntryRow kind t) es)
      (all : (entries : EntryKind) (e : ℕ) (path : Names) → IsAt t entries path e
      → Contains (values_of es) (entry_row kind t entries path e)) where
    file_there : (path : Names) (found : Option TreeFile) → IsFileRead kind p t lists cells path found
        → IfSome found (λ file. Contains (values_of es) (file_row path file))
    file_there path None h = tt
    file_there path (Some file) h =
        subst (λ (x : Row). Contains (values_of es) x)
        (sym (file_row_is kind p t lists cells path h.0) ∙ ap (file_row path) (sym h.2)) (all File h.0 path h.1)

    -- these are the tree's rows
    pub lists_tree : IsStrictlySortedBy key_cmp (keys_of es) → ListsTree tree (values_of es)
    lists_tree sorted = record {
      true_rows = All-map (IsRowOf tree) (λ (pair : Key × Row). pair.1) es
          (All-weaker (IsEntryRow kind t) (λ (pair : Key × Row). IsRowOf tree pair.1)
          (λ pair h. subst (IsRowOf tree) (sym h.row) (entry_true (kind_at pair.0.1) pair.0.0.items h.entry h.at)) es
          true_rows);
      dirs = λ path is. (let found = (read.dirs path).0 is in all Dir found.0 path found.1);
      files = λ path. file_there path (tree.file path) (read.files path);
      ordered = rows_ordered kind t orderly es true_rows sorted;
    }
