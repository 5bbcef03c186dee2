-- The bytes of a file as they are read, by the cells of its contents.
use Rattle.std.proofs.Common.{◌≡◌, ℕ, zero, suc, ◌+◌, ◌<◌, ◌≤◌, min, List, length, take, drop, Ok, Err}
use Rattle.std.proofs.Common.{slice_index, refl, sym, ap, ◌∙◌, subst, arith}
use Rattle.save_bytes.specs.Cells.{Cell, Byte, Blank, Spoilt, IsByte, AreBytesAt}
use Rattle.save_bytes.specs.CellNumbers.{value_of, bytes_in}
use Rattle.save_bytes.specs.Answers.{IsFirstFault}
use Rattle.save_bytes.proofs.CellLemmas.{bytes_in-is, length-bytes_in, bytes_in-part}
use Rattle.std.proofs.lemmas.List.{length-take-le}
use Rattle.save_bytes.specs.Cells.{Blames}
use Rattle.save_bytes.specs.State.{Shape}
use Rattle.save_bytes.specs.declared.space.Bad.TheVariants as bad
use Rattle.chain_nodes.specs.declared.info.ChainInfo.{ChainInfo}
use Rattle.chain_nodes.specs.declared.fault.ChainFault.{ChainFault}
use Rattle.chain_nodes.specs.declared.fault.ChainFault.TheVariants as link
use Rattle.chain_nodes.specs.Table.{table_in, HasAllocationTable}
use Rattle.chain_nodes.proofs.TableLemmas.{table_same}
use Rattle.entry_changes.proofs.WayLemmas.{byte_blames}
use Rattle.file_reader.specs.declared.reading.Reading.{Reading}
use Rattle.file_reader.specs.Contents.{contents_in, IsContentsList, DoneOrDamaged}
use Rattle.file_reader.specs.Reading.{IsBegun, IsReadingAt, IsPieceRead}
use Rattle.file_reader.proofs.PlaceLemmas.{StayContents, cell_stays, fault_stays}
use Rattle.tree_model.specs.declared.kind.TreeKind.TheVariants.{Save}
use Rattle.tree_model.specs.Trees.{Names, Tree}
use Rattle.save_fs.specs.declared.getting.Getting.{Getting}
use Rattle.save_fs.specs.Faults.{chain_fault}
use Rattle.save_fs.specs.Gets.{IsFileWith, IsGetBegun, IsGettingAt, IsPiece, IsPieceGot}
use Rattle.save_fs.proofs.GetLemmas.{bytes_reply, hole_reply}

byte_value : (cell : Cell) → IsByte cell → cell ≡ Byte (value_of cell)
byte_value (Byte value) h = refl
byte_value (Blank part level block) h = absurd h
byte_value (Spoilt part level block) h = absurd h

-- cells that are all bytes are their values
pub values_are : (cells : ℕ → Cell) (at n : ℕ) → ((k : ℕ) → k < n → IsByte (cells (at + k)))
    → (k : ℕ) → k < n → cells (at + k) ≡ Byte (slice_index (bytes_in cells at n) k)
unfolding bytes_in
values_are cells at zero bytes k less = absurd (omega (arith, less))
values_are cells at (suc n) bytes zero less =
    let here : at ≡ at + 0 = omega arith in
    ap cells (sym here) ∙ byte_value (cells at) (subst (λ (y : ℕ). IsByte (cells y)) (sym here) (bytes zero less))
values_are cells at (suc n) bytes (suc k) less =
    let moved : (j : ℕ) → suc at + j ≡ at + suc j = λ j. omega arith in
    let rest = values_are cells (suc at) n (λ j h. subst (λ (y : ℕ). IsByte (cells y)) (sym (moved j))
    (bytes (suc j) (omega (arith, h)))) k (omega (arith, less)) in
    subst (λ (y : ℕ). cells y ≡ Byte (slice_index (bytes_in cells (suc at) n) k)) (moved k) rest

-- what is found in cells that are those of before
module _ (old mid : ℕ → Cell) (shape : Shape) (chain : ChainInfo) (table : HasAllocationTable shape chain)
    (same : (y : ℕ) → y < shape.size → mid y ≡ old y) where
  table_is : table_in mid chain ≡ table_in old chain
  table_is = table_same old mid chain shape.size table.table same

  module _ (tree : Tree) (path : Names) (start size : ℕ) (save : tree.kind ≡ Save)
      (file : IsFileWith old chain tree path start size) where
    pub contents_mid : IsContentsList (table_in mid chain) chain start size file.list
    contents_mid = subst (λ (t : ℕ → ℕ → Cell). IsContentsList t chain start size file.list) (sym table_is)
        file.contents

    stay : StayContents (table_in old chain) chain start size file.list old mid
    stay = record { contents = file.contents; space = shape.size; inside = table.region; same = same }

    abbrev bytes : List ℕ
    bytes = bytes_in (contents_in chain file.list old) 0 size

    long : length bytes ≡ size
    long = length-bytes_in (contents_in chain file.list old) 0 size

    -- all bytes were found
    module _ (reading : Reading) (info : reading.info ≡ chain)
        (begun : IsBegun (table_in mid chain) mid start size file.list reading) where
      all_bytes : (k : ℕ) → k < size → IsByte (contents_in chain file.list old (0 + k))
      all_bytes k less =
          let there : k ≡ 0 + k = omega arith in
          let moved : IsByte (contents_in chain file.list mid k) =
          subst (λ (i : ChainInfo). IsByte (contents_in i file.list mid k)) info (begun.bytes k less) in
          subst (λ (y : ℕ). IsByte (contents_in chain file.list old y)) there
          (subst IsByte (cell_stays stay k less) moved)

      are : (k : ℕ) → k < size → contents_in chain file.list old k ≡ Byte (slice_index bytes k)
      are k less =
          let there : 0 + k ≡ k = omega arith in
          subst (λ (y : ℕ). contents_in chain file.list old y ≡ Byte (slice_index bytes k)) there
          (values_are (contents_in chain file.list old) 0 size all_bytes k less)

      stands : IsReadingAt (table_in old reading.info) start (length bytes) file.list 0 reading
      stands =
          let here =
          subst (λ (t : ℕ → ℕ → Cell). IsReadingAt t start size file.list 0 reading) table_is begun.stands in
          let named =
          subst (λ (i : ChainInfo). IsReadingAt (table_in old i) start size file.list 0 reading) (sym info)
          here in
          subst (λ (n : ℕ). IsReadingAt (table_in old reading.info) start n file.list 0 reading) (sym long) named

      getting_at : IsGettingAt old bytes 0 (record { reading = reading; size = size })
      getting_at = record {
        start = start;
        list = file.list;
        size = sym long;
        stands = stands;
        are = λ k less.
            subst (λ (i : ChainInfo). contents_in i file.list old k ≡ Byte (slice_index bytes k)) (sym info)
            (are k (omega (arith, less, long)));
      }

      pub has_begun : IsGetBegun old tree path (Ok (record { reading = reading; size = size }))
      has_begun = (
        bytes,
        bytes_reply tree path save size file.held (contents_in chain file.list old) file.file file.none bytes long are,
        getting_at,
      )

    pub not_begun : (A : Type 0) (P : A → Type 0) (fault : ChainFault)
        → DoneOrDamaged {A = A} (Err fault) P (IsFirstFault (contents_in chain file.list mid) 0 size)
        → IsGetBegun old tree path (Err (chain_fault fault))
    not_begun A P (link.Bad bad.Disk) h = tt
    not_begun A P (link.Bad (bad.Damaged part level block)) h =
        let first = fault_stays stay 0 size part level block (omega arith) h in
        let there : (k : ℕ) → 0 + k ≡ k = λ k. omega arith in
        hole_reply tree path save size file.held (contents_in chain file.list old) file.file file.none part level block
        (record {
          x = first.k;
          inside = first.within;
          fault = subst (λ (y : ℕ). Blames (contents_in chain file.list old y) part level block) (there first.k)
              first.fault;
          before = λ y less. subst (λ (z : ℕ). IsByte (contents_in chain file.list old z)) (there y)
              (first.before y less);
        })
    not_begun A P (link.Broken entry) h = absurd h
    not_begun A P (link.Short need have) h = absurd h

-- a piece of the bytes
module _ (cells : ℕ → Cell) (bytes : List ℕ) (x : ℕ) (getting : Getting) (at : IsGettingAt cells bytes x getting) where
  abbrev contents : ℕ → Cell
  contents = contents_in getting.reading.info at.list cells

  bytes_at : AreBytesAt contents 0 bytes
  bytes_at k less =
      let there : k ≡ 0 + k = omega arith in
      subst (λ (y : ℕ). contents y ≡ Byte (slice_index bytes k)) there (at.are k less)

  piece_is : (n : ℕ) (piece : List ℕ) → x + n ≤ length bytes → length piece ≡ n → AreBytesAt contents x piece
      → piece ≡ take n (drop x bytes)
  piece_is n piece fits long are =
      let there : 0 + x ≡ x = omega arith in
      let part = bytes_in-part contents 0 (length bytes) x n fits in
      sym (bytes_in-is contents x piece are) ∙ ap (bytes_in contents x) long
      ∙ sym (ap (λ (y : ℕ). bytes_in contents y n) there) ∙ sym part
      ∙ ap (λ (l : List ℕ). take n (drop x l)) (bytes_in-is contents 0 bytes bytes_at)

  pub piece_got : (later : Reading) (n : ℕ) (out : List ℕ) → later.info ≡ getting.reading.info
      → n ≡ min getting.reading.left (length out)
      → IsPieceRead (table_in cells getting.reading.info) cells at.start (length bytes) at.list x n (take n out) later
      → IsPiece cells bytes x (record { reading = later; size = getting.size }) out n
  piece_got later n out info many read =
      let left = at.stands.left in
      let long : length (take n out) ≡ n = length-take-le n out (omega (arith, many)) in
      let here : IsReadingAt (table_in cells later.info) at.start (length bytes) at.list (x + n) later =
      subst (λ (i : ChainInfo). IsReadingAt (table_in cells i) at.start (length bytes) at.list (x + n) later)
      (sym info) read.stands in
      record {
        many = many ∙ ap (λ (m : ℕ). min m (length out)) (omega (arith, left));
        given = piece_is n (take n out) (omega (arith, left, many)) long
            (subst (λ (i : ChainInfo). AreBytesAt (contents_in i at.list cells) x (take n out)) info read.bytes);
        stands = record {
          start = at.start;
          list = at.list;
          size = at.size;
          stands = here;
          are = λ k less.
              subst (λ (i : ChainInfo). contents_in i at.list cells k ≡ Byte (slice_index bytes k)) (sym info)
              (at.are k less);
        };
      }

  pub piece_refused : (A : Type 0) (P : A → Type 0) (fault : ChainFault) (n : ℕ) (later : Getting) (out : List ℕ)
      → x + n ≤ length bytes → DoneOrDamaged {A = A} (Err fault) P (IsFirstFault contents x n)
      → IsPieceGot cells bytes x later out (Err (chain_fault fault))
  piece_refused A P (link.Bad bad.Disk) n later out fits h = tt
  piece_refused A P (link.Bad (bad.Damaged part level block)) n later out fits h =
      byte_blames (contents (x + h.k)) part level block
      (subst IsByte (sym (at.are (x + h.k) (omega (arith, h.within, fits)))) tt) h.fault
  piece_refused A P (link.Broken entry) n later out fits h = absurd h
  piece_refused A P (link.Short need have) n later out fits h = absurd h
