-- Tables of which no condition fails lie in their space as a whole.
use Rattle.std.proofs.Common.{◌≡◌, ℕ, ◌+◌, ◌*◌, ◌<◌, ◌≤◌, List, Option, None, subst, arith}
use Rattle.std.proofs.Math.Nat.{mul-le-mul_right}
use Rattle.std.proofs.lemmas.List.Elements.{All-contains}
use Rattle.std.specs.List.{Contains}
use Rattle.save_bytes.specs.Cells.{Cell}
use Rattle.save_bytes.specs.State.{Shape}
use Rattle.entry_tables.specs.declared.table.EntryKind.{EntryKind}
use Rattle.entry_tables.specs.declared.table.TableInfo.{TableInfo}
use Rattle.entry_tables.specs.Kinds.{entry_size}
use Rattle.entry_tables.specs.Tables.{Tables, tables_in, info_of}
use Rattle.entry_tables.specs.Rules.{HasFreedList, CanBeFreed}
use Rattle.entry_tables.specs.Layout.{IsNeeded}
use Rattle.entry_tables.specs.Layout.{OfZero, OfBucket, OfUsed, OfFreed as OfFreedWord}
use Rattle.entry_tables.specs.Layout.{IsOfTable, InZero, InEntry, InBucket}
use Rattle.entry_tables.proofs.EntryLemmas.{link_last}
use Rattle.entry_audit.proofs.CopyLemmas.{freed_same}
use Rattle.tree_model.specs.declared.kind.TreeKind.{TreeKind}
use Rattle.tree_rules.specs.declared.information.Information.{Information}
use Rattle.tree_rules.specs.Layout.{layout_fault}
use Rattle.tree_rules.specs.Places.{places_of}
use Rattle.tree_rules.specs.Sound.{HasLayout}
use Rattle.tree_rules.proofs.LayoutLemmas.{layout_from}
use Rattle.save_mount.specs.Audited.{CanAudit}

module _ (shape : Shape) (cells : ℕ → Cell) (kind : TreeKind) (split : Option ℕ) (size : ℕ) (info : Information)
    (dirs files : TableInfo) (can : CanAudit shape kind split size info dirs files)
    (layout : layout_fault kind split size info (tables_in cells dirs files) ≡ None) where
  abbrev t : Tables
  t = tables_in cells dirs files

  h : HasLayout kind split size info (places_of kind split info) t
  h = layout_from kind split size info t layout

  pub entry_inside : (table : EntryKind) (e : ℕ) → e < (t.table table).most
      → (info_of dirs files table).table_at + e * entry_size table + entry_size table ≤ shape.size
  entry_inside table e below =
      let room = can.room t layout table in
      let whole : (e + 1) * entry_size table ≤ (t.table table).most * entry_size table =
      mul-le-mul_right (entry_size table) (omega (arith, below)) in
      omega (arith, room, whole)

  pub of_table_inside : (table : EntryKind) (x : ℕ) → IsOfTable table (info_of dirs files table) (t.table table) x
      → x < shape.size
  of_table_inside table x (InZero within) = omega (arith, within.before, (can.tables table).zero)
  of_table_inside table x (InEntry e below within) = omega (arith, within.before, entry_inside table e below)
  of_table_inside table x (InBucket bucket below within) =
      omega (arith, within.before, below, (can.tables table).buckets)

  needed_of_table : (table : EntryKind) (x : ℕ) → HasFreedList table (t.table table)
      → IsNeeded table (info_of dirs files table) (t.table table) x
      → IsOfTable table (info_of dirs files table) (t.table table) x
  needed_of_table table x whole (OfZero within) = InZero within
  needed_of_table table x whole (OfBucket bucket below within) = InBucket bucket below within
  needed_of_table table x whole (OfUsed e used within) =
      InEntry e (omega (arith, used.below, (h.counts table).most)) within
  needed_of_table table x whole (OfFreedWord e list freed listed within) =
      let can_be = All-contains (CanBeFreed table (t.table table)) whole.0 e whole.1.inside
      (subst (λ (l : List ℕ). Contains l e)
      (freed_same (t.table table) whole.0 list whole.1.leads freed) listed) in
      InEntry e (omega (arith, can_be.1, (h.counts table).most))
      (record { from = omega (arith, within.from); before = omega (arith, within.before, link_last table) })

  pub needed_inside : (table : EntryKind) (x : ℕ) → HasFreedList table (t.table table)
      → IsNeeded table (info_of dirs files table) (t.table table) x → x < shape.size
  needed_inside table x whole needed = of_table_inside table x (needed_of_table table x whole needed)
