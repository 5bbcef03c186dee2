-- What was read of an entry later, as what it held before.
use Rattle.std.proofs.Common.{◌≡◌, ℕ, ◌+◌, ◌<◌, ◌≤◌, List, Some, None, IsTrue, length, sym, ◌∙◌, ap, subst, arith}
use Rattle.save_bytes.specs.Cells.{Cell, AreBytesAt}
use Rattle.save_bytes.specs.CellNumbers.{number_in}
use Rattle.save_bytes.specs.State.{State}
use Rattle.save_bytes.specs.Stays.{Stays}
use Rattle.entry_tables.specs.declared.table.EntryKind.{EntryKind}
use Rattle.entry_tables.specs.declared.table.TableInfo.{TableInfo}
use Rattle.name_buckets.specs.declared.find.Look.{Look}
use Rattle.entry_tables.specs.Kinds.{entry_size, link_offset, IsRoot}
use Rattle.entry_tables.specs.Tables.{Table, HasEntry, table_in, most_in, entry_place, bucket_place}
use Rattle.entry_tables.specs.Fails.{IsFreedFront}
use Rattle.entry_tables.specs.Layout.{HasCounts, HasEntryTable, TellsEntryTable, InEntry, BlamesRead, BlamesTable}
use Rattle.save_bytes.specs.Refusals.{IfDamaged}
use Rattle.save_bytes.specs.declared.space.Bad.{Bad}
use Rattle.save_bytes.proofs.SpaceLemmas.{IfDamaged-map}
use Rattle.name_buckets.specs.Looks.{HasKey, Matches, IsLook}
use Rattle.entry_tables.proofs.StayLemmas.{tells_later, known_later, table_stays, entry_fits, table_read, table_blamed}
use Rattle.entry_tables.proofs.EntryLemmas.{parent_read, name_read, link_there, head_there}

-- the parent and name of an entry are those that its bytes have
module _ (cells : ℕ → Cell) (kind : EntryKind) (info : TableInfo) (e : ℕ) (bytes : List ℕ)
    (long : length bytes ≡ entry_size kind) (are : AreBytesAt cells (entry_place kind info e + 0) bytes)
    (has : HasEntry (table_in cells kind info) e) where
  pub matches_read : (parent : ℕ) (name : List ℕ) → ¬ IsRoot kind e → HasKey bytes parent name
      → Matches kind (table_in cells kind info) parent name e
  matches_read parent name other key = record {
    other = other;
    parent_is = sym (parent_read cells kind info e bytes long are has) ∙ key.parent_is;
    name_is = sym (name_read cells kind info e bytes long are has) ∙ key.name_is;
  }

  pub key_read : (parent : ℕ) (name : List ℕ) → Matches kind (table_in cells kind info) parent name e
      → HasKey bytes parent name
  key_read parent name matches = record {
    parent_is = parent_read cells kind info e bytes long are has ∙ matches.parent_is;
    name_is = name_read cells kind info e bytes long are has ∙ matches.name_is;
  }

module _ (old mid : State) (stays : Stays old mid None) (kind : EntryKind) (info : TableInfo) (table : HasEntryTable old.shape kind info)
    (tells : TellsEntryTable old kind info) (known : HasCounts old.cells info) where
  pub same_table : table_in mid.cells kind info ≡ table_in old.cells kind info
  same_table = table_stays old mid stays kind info table tells known

  -- a look at it
  pub look_stays : (e parent : ℕ) (name : List ℕ) (look : Look) → HasEntry (table_in old.cells kind info) e
      → (TellsEntryTable mid kind info → HasEntry (table_in mid.cells kind info) e
      → IsLook kind (table_in mid.cells kind info) parent name e look) → IsLook kind (table_in old.cells kind info) parent name e look
  look_stays e parent name look has seen =
      subst (λ (t : Table). IsLook kind t parent name e look) same_table
      (seen (tells_later old mid stays kind info table tells)
      (subst (λ (t : Table). HasEntry t e) (sym same_table) has))

  -- its last word
  pub link_stays : (e word offset : ℕ) → offset ≡ link_offset kind → e < (table_in old.cells kind info).count
      → (TellsEntryTable mid kind info → e < most_in mid.cells info
      → word ≡ number_in 4 mid.cells (entry_place kind info e + offset)) → word ≡ (table_in old.cells kind info).link e
  link_stays e word offset there below read =
      let here : e < most_in old.cells info = omega (arith, below, tells.most known) in
      let still : e < most_in mid.cells info = subst (λ (t : Table). e < t.most) (sym same_table) here in
      read (tells_later old mid stays kind info table tells) still ∙ rw there (link_there mid.cells kind info e still)
      ∙ ap (λ (t : Table). t.link e) same_table

  -- and a bucket's head
  pub head_stays : (bucket : ℕ) → bucket < info.buckets
      → number_in 4 mid.cells (bucket_place info bucket) ≡ (table_in old.cells kind info).head bucket
  head_stays bucket below = head_there mid.cells kind info bucket below ∙ ap (λ (t : Table). t.head bucket) same_table

  -- whether a number is among freed entries
  pub among_stays : (front : List ℕ) (last : ℕ) (Q : Type 0)
      → IsFreedFront kind (table_in old.cells kind info) front last
      → (TellsEntryTable mid kind info → HasCounts mid.cells info
      → IsFreedFront kind (table_in mid.cells kind info) front last → Q) → Q
  among_stays front last Q begins seen =
      seen (tells_later old mid stays kind info table tells) (known_later old mid stays kind info table tells.told
      known)
      (subst (λ (t : Table). IsFreedFront kind t front last) (sym same_table) begins)

  -- a cell of an entry that was blamed is one of the table
  pub entry_blamed : (e offset n : ℕ) (bad : Bad) → offset + n ≤ entry_size kind
      → e < (table_in old.cells kind info).count
      → (IsTrue mid.told → IfDamaged (Some bad) (BlamesRead kind info (entry_place kind info e + offset) n mid.cells))
      → IfDamaged (Some bad) (BlamesTable kind info old.cells)
  entry_blamed e offset n bad inside below damaged =
      let here : e < most_in old.cells info = omega (arith, below, tells.most known) in
      let fits = entry_fits old mid stays kind info table tells known e here in
      IfDamaged-map (Some bad)
      (λ part level block. table_read old mid stays kind info table tells.told (entry_place kind info e + offset) n part
      level block (omega (arith, fits, inside))
      (λ x within. InEntry e here (record {
        from = omega (arith, within.from);
        before = omega (arith, within.before, inside);
      })))
      (damaged (stays.space.told tells.told))

  -- and what is blamed later was so before
  pub blamed_before : (bad : Bad) → IfDamaged (Some bad) (BlamesTable kind info mid.cells)
      → IfDamaged (Some bad) (BlamesTable kind info old.cells)
  blamed_before bad = IfDamaged-map (Some bad) (table_blamed old mid stays kind info table tells known)
