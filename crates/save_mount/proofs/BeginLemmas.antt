-- What is known before the tables can be read.
use Rattle.std.proofs.Common.{◌≡◌, ℕ, ◌≤◌, Bool, true, false, IsTrue, List, Option, None, IfSome}
use Rattle.std.proofs.Common.{sym, subst, arith, if◌then◌else◌}
use Rattle.save_bytes.specs.Cells.{Cell}
use Rattle.save_bytes.specs.State.{Shape, State}
use Rattle.save_bytes.specs.Stays.{Stays}
use Rattle.container_header.specs.Conditions.{first_failing}
use Rattle.chain_nodes.specs.Table.{table_in, HasAllocationTable}
use Rattle.chain_nodes.specs.Chains.{IsFreeList}
use Rattle.chain_nodes.proofs.TableLemmas.{table_stays}
use Rattle.entry_tables.specs.declared.table.EntryKind.{EntryKind}
use Rattle.entry_tables.specs.declared.table.EntryKind.TheVariants.{Dir, File}
use Rattle.tree_model.specs.declared.kind.TreeKind.{TreeKind}
use Rattle.tree_rules.specs.declared.information.Information.{Information}
use Rattle.tree_rules.specs.declared.information.TableAt.{TableAt}
use Rattle.tree_rules.specs.declared.information.TableAt.TheVariants.{Plainly, InChain}
use Rattle.tree_rules.specs.declared.information.Places.{Places}
use Rattle.tree_rules.specs.Information.{front_len, has_second}
use Rattle.tree_rules.specs.Places.{places_of}
use Rattle.tree_rules.specs.Layout.{place_faults}
use Rattle.tree_rules.specs.Sound.{IsTablePlace, HasPlaces}
use Rattle.tree_rules.specs.Lists.{Holder, Free, OfTable, IsTableList}
use Rattle.tree_rules.specs.Places.{table_lies}
use Rattle.save_mount.specs.Holders.{HoldsLists}
use Rattle.tree_rules.specs.Fails.{TreeFailsAt}
use Rattle.tree_rules.specs.Fails.BreaksAt.{BeforeTables}
use Rattle.tree_rules.proofs.LayoutLemmas.{places_from}
use Rattle.save_mount.specs.declared.fault.MountFault.{MountFault}
use Rattle.save_mount.specs.declared.fault.MountFault.TheVariants.{Memory, Disk, Damaged, Broken, NotSave, Layout}
use Rattle.save_mount.specs.declared.structure.Structure.{Structure}
use Rattle.save_mount.specs.Held.{TableLies}
use Rattle.save_mount.specs.Causes.{HasListCause}
use Rattle.save_mount.specs.Structure.{HasStructure, FailsInStructure, NeedsStructure}
use Rattle.save_mount.specs.Mounts.{places_in, HasMountCause}
use Rattle.save_mount.specs.Mounts.BlamesMount.{InLists}
use Rattle.save_mount.proofs.PlaceLemmas.{front_small}

pub end_small : (second : Bool) (front size : ℕ) → front ≤ size → (if second then size else front) ≤ size
end_small true front size small = omega arith
end_small false front size small = small

lies_from : (front count : ℕ) (kind : EntryKind) (at : TableAt) → IsTablePlace front count kind at → TableLies count at
lies_from front count kind (Plainly at) h = tt
lies_from front count kind (InChain first blocks) h = h.0

-- where no condition fails that needs no table, the allocation table lies in the store, and tables begin with data blocks
module _ (shape : Shape) (kind : TreeKind) (split : Option ℕ) (info : Information) (sound : IsTrue shape.sound)
    (first : shape.first ≡ 0) (inside : IfSome split (λ n. n ≤ shape.size))
    (none : first_failing 1 (place_faults kind split shape.size info) ≡ None) where
  known : HasPlaces kind split shape.size info (places_of kind split info)
  known = places_from kind split shape.size info none

  pub table_there : HasAllocationTable shape (places_of kind split info).chain
  unfolding places_of
  table_there = record {
    sound = sound;
    first = first;
    few = omega (arith, known.count.most);
    table = omega (arith, known.chain_inside, front_small split shape.size inside);
    region = omega (
      arith,
      known.region_inside,
      end_small (has_second kind split) (front_len split shape.size) shape.size (front_small split shape.size inside),
    );
  }

  pub dirs_lie : TableLies (places_of kind split info).chain.count (places_of kind split info).dirs.table
  unfolding places_of
  dirs_lie = lies_from (front_len split shape.size) info.count Dir (places_of kind split info).dirs.table
      (known.tables_placed Dir)

  pub files_lie : TableLies (places_of kind split info).chain.count (places_of kind split info).files.table
  unfolding places_of
  files_lie = lies_from (front_len split shape.size) info.count File (places_of kind split info).files.table
      (known.tables_placed File)

-- lists that were walked in a later state
pub structure_later : (s t : State) (p : Places) → HasAllocationTable s.shape p.chain → Stays s t None → IsTrue s.told
    → (found : Structure) (lists : Holder → List ℕ) → HasStructure t.cells p found lists
    → HasStructure s.cells p found lists
structure_later s t p has_table stays told found lists h =
    let same = table_stays s t p.chain has_table stays told in
    record {
      holds = λ kind t'. subst (λ (c : ℕ → ℕ → Cell). HoldsLists kind c p t' found.held lists) same (h.holds kind t');
      free = subst (λ (c : ℕ → ℕ → Cell). IsFreeList c p.chain.count (lists Free)) same h.free;
      free_len = h.free_len;
      tables = λ table. subst (λ (c : ℕ → ℕ → Cell). IsTableList c p.chain.count (table_lies p table)
          (lists (OfTable table))) same (h.tables table);
      files = h.files;
      blocks = h.blocks;
    }

-- why lists are refused, as why the filesystem is
pub lists_cause : (kind : TreeKind) (size : ℕ) (split : Option ℕ) (cells : ℕ → Cell) (fault : MountFault)
    → HasListCause cells (places_in kind split cells).chain (FailsInStructure cells (places_in kind split cells))
    (NeedsStructure (table_in cells (places_in kind split cells).chain) (places_in kind split cells)) fault
    → HasMountCause kind size split cells fault
lists_cause kind size split cells Memory h = tt
lists_cause kind size split cells Disk h = tt
lists_cause kind size split cells (Damaged part level block) (entry, needed, has) = InLists entry needed has
lists_cause kind size split cells (Broken table entry) h = BeforeTables (λ t.
    subst (λ (n : ℕ). TreeFailsAt kind (table_in cells (places_in kind split cells).chain) (places_in kind split cells) t n
    entry) (sym h.0) (h.1 kind t))
lists_cause kind size split cells NotSave h = absurd h
lists_cause kind size split cells (Layout condition) h = absurd h
