-- What lies in the first part, with a second part and without.
use Rattle.std.proofs.Common.{◌≡◌, ℕ, ◌+◌, ◌*◌, Bool, true, false, List, [], ◌∷◌, Option, refl, ap}
use Rattle.save_bytes.specs.declared.extent.Extent.{Extent}
use Rattle.entry_tables.specs.declared.table.EntryKind.TheVariants.{Dir, File}
use Rattle.entry_tables.specs.Kinds.{entry_size}
use Rattle.entry_tables.specs.Tables.{Tables}
use Rattle.tree_model.specs.declared.kind.TreeKind.{TreeKind}
use Rattle.tree_model.specs.declared.kind.TreeKind.TheVariants.{Save, Vsxe}
use Rattle.tree_rules.specs.declared.information.Information.{Information}
use Rattle.tree_rules.specs.Information.{header_len, information_len, has_second}
use Rattle.tree_rules.specs.Places.{places_of}
use Rattle.tree_rules.specs.Layout.{extent_from, taken_extents}

module _ (info : Information) (t : Tables) where
  -- what lies there in any case, and what behind it
  abbrev pub taken_before : List Extent → List Extent
  taken_before others =
      extent_from 0 header_len ∷ extent_from info.at information_len
      ∷ extent_from info.dirs.buckets_at (4 * info.dirs.buckets)
      ∷ extent_from info.files.buckets_at (4 * info.files.buckets)
      ∷ extent_from info.chain_at (8 * (info.count + 1)) ∷ others

  module _ (kind : TreeKind) (split : Option ℕ) where
    pub taken_second : has_second kind split ≡ true
        → taken_extents (has_second kind split) info (places_of kind split info) t
        ≡ taken_before (extent_from info.dirs.table_at ((t.table Dir).most * entry_size Dir)
        ∷ extent_from info.files.table_at ((t.table File).most * entry_size File) ∷ [])
    unfolding taken_extents places_of
    taken_second is = rw is refl

    pub taken_first : has_second kind split ≡ false
        → taken_extents (has_second kind split) info (places_of kind split info) t
        ≡ taken_before (extent_from info.region_at (info.count * info.block) ∷ [])
    unfolding taken_extents places_of
    taken_first is = rw is refl
