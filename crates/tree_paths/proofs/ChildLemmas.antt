-- Whether a directory has entries.
use Rattle.std.proofs.Common.{◌≡◌, ◌≢◌, ℕ, ◌+◌, ◌≤◌, ◌↔◌, IsTrue, not, nat_eq, List, [], length, refl, sym, ◌∙◌}
use Rattle.std.proofs.Common.{ap, subst, arith, ⊎_elim}
use Rattle.std.proofs.lemmas.Bool.{cases_eq, ne_eqb, false≢true}
use Rattle.save_bytes.specs.Cells.{Cell, AreBytesAt}
use Rattle.save_bytes.specs.Fields.{number_at}
use Rattle.std.specs.List.{Contains}
use Rattle.entry_tables.specs.declared.table.EntryKind.{EntryKind}
use Rattle.entry_tables.specs.declared.table.EntryKind.TheVariants.{Dir, File}
use Rattle.entry_tables.specs.Tables.{HasEntry, Tables, table_in, tables_in, entry_place}
use Rattle.entry_tables.specs.declared.table.TableInfo.{TableInfo}
use Rattle.entry_tables.specs.Kinds.{child_offset}
use Rattle.entry_tables.specs.Links.{LeadsToEnd}
use Rattle.entry_tables.specs.Used.{used_entries, children_of}
use Rattle.entry_tables.specs.Rules.{IsOrderly}
use Rattle.entry_tables.proofs.ByteLemmas.{field_is}
use Rattle.entry_tables.proofs.EntryLemmas.{field_there}
use Rattle.entry_tables.proofs.LinkLemmas.{first_left, nothing_left}
use Rattle.tree_paths.specs.Standings.{HasChild}

module _ (t : Tables) (orderly : IsOrderly t) (dir : ℕ) (used : used_entries (t.table Dir) dir) where
  -- the first entry is one
  pub first_is_child : (kind : EntryKind) (first : ℕ) → first ≡ t.first kind dir → first ≢ 0 → HasChild t dir
  first_is_child kind first is some =
      let list = orderly.listed kind dir used in
      let leads = subst (λ (n : ℕ). LeadsToEnd (t.table kind).sibling n list.0) (sym is) list.1.leads in
      record {
        kind = kind;
        entry = first;
        child = list.1.children first (first_left (t.table kind).sibling first list.0 some leads);
      }

  -- without a first entry there is none
  no_child_of : (kind : EntryKind) (e : ℕ) → t.first kind dir ≡ 0 → ¬ children_of t kind dir e
  no_child_of kind e none child =
      let list = orderly.listed kind dir used in
      let leads = subst (λ (n : ℕ). LeadsToEnd (t.table kind).sibling n list.0) none list.1.leads in
      let empty : list.0 ≡ [] = nothing_left (t.table kind).sibling list.0 leads in
      let within : Contains [] e = subst (λ (l : List ℕ). Contains l e) empty (list.1.all e child) in
      omega (arith, within.1)

  no_child : (kind : EntryKind) (e : ℕ) → t.first Dir dir ≡ 0 → t.first File dir ≡ 0 → ¬ children_of t kind dir e
  no_child Dir e dirs files = no_child_of Dir e dirs
  no_child File e dirs files = no_child_of File e files

  pub no_first_no_child : t.first Dir dir ≡ 0 → t.first File dir ≡ 0 → ¬ HasChild t dir
  no_first_no_child dirs files has = no_child has.kind has.entry dirs files has.child

  -- what is known of the first entries tells whether there is one
  not_none : (n : ℕ) → n ≢ 0 → IsTrue (not (nat_eq n 0))
  not_none n some = rw (ne_eqb n 0 some) refl

  pub some_first : (kind : EntryKind) (first : ℕ) → first ≡ t.first kind dir → first ≢ 0
      → IsTrue (not (nat_eq first 0)) ↔ HasChild t dir
  some_first kind first is some = (λ told. first_is_child kind first is some, λ has. not_none first some)

  pub last_first : (first file : ℕ) → first ≡ t.first Dir dir → first ≡ 0 → file ≡ t.first File dir
      → IsTrue (not (nat_eq file 0)) ↔ HasChild t dir
  last_first first file is none last =
      ⊎_elim
      (λ (zero : file ≡ 0). (
        (λ told. absurd (false≢true (sym (ap (λ (n : ℕ). not (nat_eq n 0)) zero) ∙ told))),
        (λ has. absurd (no_first_no_child (sym is ∙ none) (sym last ∙ zero) has)),
      ))
      (λ (some : file ≢ 0). some_first File file last some) (cases_eq file 0)

-- the first entries stand in bytes of the directory's entry
pub first_is : (cells : ℕ → Cell) (dirs files : TableInfo) (e offset : ℕ) (bytes : List ℕ) (kind : EntryKind) (k : ℕ)
    → HasEntry (table_in cells Dir dirs) e → AreBytesAt cells (entry_place Dir dirs e + offset) bytes
    → k + 4 ≤ length bytes → offset + k ≡ child_offset kind
    → number_at 4 bytes k ≡ (tables_in cells dirs files).first kind e
first_is cells dirs files e offset bytes kind k has are long there =
    field_is 4 cells (entry_place Dir dirs e + offset) k (entry_place Dir dirs e + child_offset kind) bytes are long
    (omega (arith, there))
    ∙ sym (field_there (table_in cells Dir dirs) e _ 0 has)
