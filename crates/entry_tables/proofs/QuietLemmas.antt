-- Where cells only soften the tables stay.
use Rattle.std.proofs.Common.{◌≡◌, ℕ, None, refl, ap, arith}
use Rattle.save_bytes.specs.Cells.{Cell}
use Rattle.save_bytes.specs.State.{State}
use Rattle.save_bytes.specs.Stays.{Stays}
use Rattle.save_bytes.specs.Writes.{IsWithin}
use Rattle.save_bytes.specs.Within.{ChangesWithin}
use Rattle.save_bytes.proofs.WithinLemmas.{ChangesWithin-same}
use Rattle.entry_tables.specs.declared.table.EntryKind.{EntryKind}
use Rattle.entry_tables.specs.declared.table.EntryKind.TheVariants.{Dir, File}
use Rattle.entry_tables.specs.declared.table.TableInfo.{TableInfo}
use Rattle.entry_tables.specs.Tables.{Tables, tables_in}
use Rattle.entry_tables.specs.Kinds.{link_offset, child_offset}
use Rattle.entry_tables.specs.Layout.{HasEntryTables}
use Rattle.entry_tables.specs.Changes.{EntriesOf, CanChangeTables}
use Rattle.entry_tables.proofs.ValueLemmas.{IsRunIn}
use Rattle.entry_tables.proofs.WordLemmas.{fields_same, tables_same, Misses, HeadMisses, count_kept, most_kept}
use Rattle.entry_tables.proofs.WordLemmas.{head_kept}
use Rattle.entry_tables.proofs.WordLemmas.{parent_kept, names_kept, sibling_kept, link_kept, first_kept, start_kept}
use Rattle.entry_tables.proofs.WordLemmas.{wide_kept}
use Rattle.entry_tables.proofs.SetLemmas.{still}

module _ (s : State) (dirs files : TableInfo) (tables : HasEntryTables s.shape dirs files)
    (can : CanChangeTables s dirs files) where
  no_run : IsRunIn s.cells dirs files (EntriesOf Dir) 0 0
  no_run = record { inside = λ k less. absurd (omega (arith, less)) }

  module _ (new : ℕ → Cell) (soft : ChangesWithin s (IsWithin 0 0) new) where
    nowhere : (kind : EntryKind) (e offset m : ℕ) → Misses dirs files (EntriesOf Dir) 0 0 kind e offset m
    nowhere kind e offset m same k less within = omega (arith, within.0, within.1)

    no_head : (kind : EntryKind) (b : ℕ) → HeadMisses dirs files (EntriesOf Dir) 0 0 kind b
    no_head kind b same k less within = omega (arith, within.0, within.1)

    quiet : (kind : EntryKind) → Misses dirs files (EntriesOf Dir) 0 0 kind 0 4 4
    quiet kind = nowhere kind 0 4 4

    pub tables_stay : tables_in new dirs files ≡ tables_in s.cells dirs files
    tables_stay = tables_same _ _
        (λ kind. fields_same _ _ (record {
          count = count_kept s dirs files tables can (EntriesOf Dir) 0 0 no_run new soft kind (nowhere kind 0 0 4);
          most = most_kept s dirs files tables can (EntriesOf Dir) 0 0 no_run new soft quiet kind;
          buckets = refl;
          head = λ b. head_kept s dirs files tables can (EntriesOf Dir) 0 0 no_run new soft quiet kind b
              (no_head kind b);
          parent = λ e. parent_kept s dirs files tables can (EntriesOf Dir) 0 0 no_run new soft quiet kind e
              (nowhere kind e 0 4);
          name = λ e. names_kept s dirs files tables can (EntriesOf Dir) 0 0 no_run new soft quiet kind e
              (nowhere kind e 4 16);
          sibling = λ e. sibling_kept s dirs files tables can (EntriesOf Dir) 0 0 no_run new soft quiet kind e
              (nowhere kind e 0x14 4);
          link = λ e. link_kept s dirs files tables can (EntriesOf Dir) 0 0 no_run new soft quiet kind e
              (nowhere kind e (link_offset kind) 4);
        }))
        (λ kind dir. first_kept s dirs files tables can (EntriesOf Dir) 0 0 no_run new soft quiet kind dir
        (nowhere Dir dir (child_offset kind) 4))
        (λ e. start_kept s dirs files tables can (EntriesOf Dir) 0 0 no_run new soft quiet e (nowhere File e 0x1C 4))
        (λ e. wide_kept s dirs files tables can (EntriesOf Dir) 0 0 no_run new soft quiet e (nowhere File e 0x20 8))

  -- after a call that only reads, too
  module _ (t : State) (stays : Stays s t None) where
    stays_soft : ChangesWithin s (IsWithin 0 0) t.cells
    stays_soft = ChangesWithin-same s (IsWithin 0 0) t.cells (stays.cells (can.tells Dir).told)

    pub stays_tables : tables_in t.cells dirs files ≡ tables_in s.cells dirs files
    stays_tables = tables_stay t.cells stays_soft

    pub stays_can : CanChangeTables t dirs files
    stays_can =
        still s dirs files tables can t
        (record {
          shape = stays.space.shape;
          told = stays.space.told (can.tells Dir).told;
          twins = stays.space.twins
              (can.tells Dir).told;
        })
        (EntriesOf Dir) 0 0 no_run stays_soft (λ k less. absurd (omega (arith, less)))
        (λ kind. ap (λ (t : Tables). (t.table kind).most) stays_tables)
        (λ kind. (let is = ap (λ (t : Tables). (t.table kind).count) stays_tables in record {
          least = omega (arith, is, (can.tells kind).least (can.counts kind));
          ends = omega (arith, is, (can.tells kind).most (can.counts kind));
        }))
