-- The table after a word of an entry was put.
use Rattle.std.proofs.Common.{◌≡◌, ℕ, ◌+◌, ◌*◌, ◌<◌, ◌≤◌, List, [], ◌∷◌, length, sym, ◌∙◌, ap, subst, arith}
use Rattle.std.proofs.Common.{refl}
use Rattle.std.specs.List.{Contains}
use Rattle.save_bytes.specs.Cells.{Cell, Byte, Blank, Spoilt, IsByte, AreBytesAt}
use Rattle.save_bytes.specs.CellNumbers.{number_in}
use Rattle.save_bytes.specs.Fields.{number_at}
use Rattle.save_bytes.specs.State.{Shape, State, HasNoTwins}
use Rattle.save_bytes.specs.Writes.{IsWithin}
use Rattle.save_bytes.specs.Within.{MaySoften, IsIn, ChangesWithin}
use Rattle.save_bytes.specs.Puts.{HasPut}
use Rattle.save_bytes.proofs.CellLemmas.{number_in-is}
use Rattle.save_bytes.proofs.WithinLemmas.{ChangesWithin-put}
use Rattle.chain_nodes.specs.declared.info.ChainInfo.{ChainInfo}
use Rattle.chain_nodes.specs.Table.{table_in, word_u, word_v, HasWords, HasAllocationTable}
use Rattle.chain_nodes.specs.Edits.{KeepsEntry, IsEntrySet}
use Rattle.chain_nodes.proofs.TableLemmas.{number_in-same, table_cell, word_u-is, word_v-is, has_words}
use Rattle.chain_nodes.specs.declared.node.Node.{Node}
use Rattle.chain_nodes.specs.declared.node.Lead.{Lead}
use Rattle.chain_nodes.specs.Chains.{AreNodes, entries_of}
use Rattle.chain_nodes.proofs.OwnLemmas.{nodes_rest}
use Rattle.chain_nodes.proofs.EditLemmas.{entry_within}
use Rattle.chain_links.specs.Alters.{IsWordPut, IsOfEntries}

-- a byte softens to itself
pub same_byte : (cell new : Cell) → IsByte cell → MaySoften cell new → new ≡ cell
same_byte (Byte value) new is soft = soft
same_byte (Blank part level block) new is soft = absurd is
same_byte (Spoilt part level block) new is soft = absurd is

-- the places of a word are places of its entry
pub of_word : (info : ChainInfo) (entry at : ℕ) → info.table_at + 8 * entry ≤ at → at ≤ info.table_at + 8 * entry + 4
    → (x : ℕ) → IsWithin at 4 x → IsOfEntries info (entry ∷ []) x
of_word info entry at from up_to x within = (
  entry,
  (0, omega arith, refl),
  (
    omega (arith, within),
    omega (
      arith,
      within,
    ),
  ),
)

-- a word that was put
pub word_put : (s : State) (at value : ℕ) (field : List ℕ) (t : State) → HasNoTwins s → length field ≡ 4
    → number_at 4 field 0 ≡ value → at + 4 ≤ s.shape.size → HasPut s at field t.cells → IsWordPut s t at value
word_put s at value field t single len is fits put =
    let are : AreBytesAt t.cells at field = λ k less. put.written (at + k) k (omega (arith, less, len)) less refl in
    record {
      bytes = λ k less. subst (λ (c : Cell). IsByte c) (sym (are k (omega (arith, less, len)))) tt;
      number = sym (number_in-is 4 t.cells at field len are) ∙ is;
      others = λ x below apart byte. same_byte (s.cells x) (t.cells x) byte
          (ChangesWithin-put s at field t.cells (omega (arith, fits, len)) put x below
          (λ (y, inside, within, same).
          (let here : x ≡ y = single.apart x y same in
          apart (omega (arith, here, within), omega (arith, here, within, len)))));
    }

module _ (s t : State) (info : ChainInfo) (table : HasAllocationTable s.shape info) (at value : ℕ) (put : IsWordPut s
    t at value)
  where
    -- a byte of the table that is not of the word
    kept : (x k : ℕ) → x ≤ info.count → k < 8 → ¬ IsWithin at 4 (info.table_at + 8 * x + k) → IsByte (table_in
        s.cells info x k)
        → table_in t.cells info x k ≡ table_in s.cells info x k
    kept x k inside less apart byte =
        let old = table_cell s.cells info x k inside less in
        table_cell t.cells info x k inside less
        ∙ put.others (info.table_at + 8 * x + k) (omega (arith, table.table, inside, less)) apart
        (subst (λ (c : Cell). IsByte c) old byte)
        ∙ sym old

    module _ (entry : ℕ) (inside : entry ≤ info.count) where
      -- word U of an entry
      pub u_put : at ≡ info.table_at + 8 * entry → HasWords (table_in s.cells info) entry
          → IsEntrySet (table_in s.cells info) (table_in t.cells info) info.count entry value (word_v (table_in
          s.cells info) entry)
      u_put is words = record {
        words = has_words t.cells info entry at inside is put.bytes (λ k less.
            (let there : at + 4 + k ≡ info.table_at + 8 * entry + (4 + k) = omega arith in
            let small : 4 + k < 8 = omega (arith, less) in
            let same = kept entry (4 + k) inside small (λ within. omega (arith, within, is)) (words (4 + k) small) in
            subst (λ (c : Cell). IsByte c)
            (sym same ∙ table_cell t.cells info entry (4 + k) inside small ∙ ap t.cells (sym there)) (words (4 + k)
            small)));
        u_is = sym (word_u-is t.cells info entry at inside is) ∙ put.number;
        v_is = number_in-same 4 (table_in t.cells info entry) (table_in s.cells info entry) 4 4 (λ k less.
            (let small : 4 + k < 8 = omega (arith, less) in
            kept entry (4 + k) inside small (λ within. omega (arith, within, is)) (words (4 + k) small)));
        others = λ x in_x other k less byte. kept x k in_x less (λ within. other (omega (arith, within, is, less)))
            byte;
      }

      -- word V of an entry
      pub v_put : at ≡ info.table_at + 8 * entry + 4 → HasWords (table_in s.cells info) entry
          → IsEntrySet (table_in s.cells info) (table_in t.cells info) info.count entry (word_u (table_in s.cells
          info) entry) value
      v_put is words =
          let from : ℕ = info.table_at + 8 * entry in
          let there : at ≡ from + 4 = is in
          record {
            words = has_words t.cells info entry from inside refl (λ k less.
                (let small : k < 8 = omega (arith, less) in
                let same = kept entry k inside small (λ within. omega (arith, within, is, less)) (words k small) in
                subst (λ (c : Cell). IsByte c) (sym same ∙ table_cell t.cells info entry k inside small) (words k
                small)))
                (λ k less. subst (λ (p : ℕ). IsByte (t.cells (p + k))) there (put.bytes k less));
            u_is = number_in-same 4 (table_in t.cells info entry) (table_in s.cells info entry) 0 0 (λ k less.
                (let none : 0 + k ≡ k = omega arith in
                let small : k < 8 = omega (arith, less) in
                rw none (kept entry k inside small (λ within. omega (arith, within, is, less)) (words k small))));
            v_is = sym (word_v-is t.cells info entry from inside refl) ∙ subst (λ (p : ℕ). number_in 4 t.cells p ≡
                value) there put.number;
            others = λ x in_x other k less byte. kept x k in_x less (λ within. other (omega (
              arith,
              within,
              is,
              less,
            ))) byte;
          }

-- both words of an entry
pub words_put : (s m t : State) (info : ChainInfo) (entry at u v : ℕ) → HasAllocationTable s.shape info → m.shape ≡
    s.shape
    → entry ≤ info.count → at ≡ info.table_at + 8 * entry → IsWordPut s m at u → IsWordPut m t (at + 4) v
    → IsEntrySet (table_in s.cells info) (table_in t.cells info) info.count entry u v
words_put s m t info entry at u v table shape inside is first second =
    let size : m.shape.size ≡ s.shape.size = ap (λ (shape : Shape). shape.size) shape in
    let first_stays : (k : ℕ) → k < 4 → t.cells (at + k) ≡ m.cells (at + k) = λ k less.
    second.others (at + k) (omega (arith, size, is, inside, less, table.table)) (λ within. omega (
      arith,
      within,
      less,
    ))
    (first.bytes k less) in
    record {
      words = has_words t.cells info entry at inside is
          (λ k less. subst (λ (c : Cell). IsByte c) (sym (first_stays k less)) (first.bytes k less)) second.bytes;
      u_is = sym (word_u-is t.cells info entry at inside is) ∙ number_in-same 4 t.cells m.cells at at first_stays ∙
          first.number;
      v_is = sym (word_v-is t.cells info entry at inside is) ∙ second.number;
      others = λ x in_x other k less byte.
          (let place : ℕ = info.table_at + 8 * x + k in
          let old = table_cell s.cells info x k in_x less in
          let old_byte : IsByte (s.cells place) = subst (λ (c : Cell). IsByte c) old byte in
          let one = first.others place (omega (arith, table.table, in_x, less)) (λ within. other (omega (
            arith,
            within,
            is,
            less,
          ))) old_byte in
          let two = second.others place (omega (arith, size, table.table, in_x, less))
          (λ within. other (omega (arith, within, is, less))) (subst (λ (c : Cell). IsByte c) (sym one) old_byte) in
          table_cell t.cells info x k in_x less ∙ two ∙ one ∙ sym old);
    }

-- what becomes of entries that were not written
module _ (s t : State) (info : ChainInfo) (entries : List ℕ) (table : HasAllocationTable s.shape info) (single :
    HasNoTwins s)
    (changes : ChangesWithin s (IsOfEntries info entries) t.cells) where
  pub entry_kept : (x : ℕ) → x ≤ info.count → ¬ Contains entries x → KeepsEntry (table_in s.cells info) (table_in
      t.cells info) x
  entry_kept x inside apart k less byte =
      let old = table_cell s.cells info x k inside less in
      let place : ℕ = info.table_at + 8 * x + k in
      let out : ¬ IsIn s (IsOfEntries info entries) place = λ (y, below, (e, within, of), same).
      (let here : place ≡ y = single.apart place y same in
      let is : e ≡ x = omega (arith, here, of, less) in
      apart (subst (λ (n : ℕ). Contains entries n) is within)) in
      table_cell t.cells info x k inside less
      ∙ same_byte (s.cells place) (t.cells place) (subst (λ (c : Cell). IsByte c) old byte)
      (changes place (omega (arith, table.table, inside, less)) out)
      ∙ sym old

  pub nodes_clear : (lead : Lead) (nodes : List Node) (next : ℕ)
      → ((x : ℕ) → 1 ≤ x → Contains (entries_of nodes) x → ¬ Contains entries x)
      → AreNodes (table_in s.cells info) info.count lead nodes next → AreNodes (table_in t.cells info) info.count
      lead nodes next
  nodes_clear lead nodes next apart h = nodes_rest (table_in s.cells info) (table_in t.cells info) info.count lead
      nodes next
      (λ x within. (let bounds = entry_within (table_in s.cells info) info.count lead nodes next x h within in
      entry_kept x bounds.1 (apart x bounds.0 within))) h

-- bytes of an entry stay bytes
pub words_stay : (s t : State) (info : ChainInfo) (entry : ℕ) → HasAllocationTable s.shape info
    → ((x : ℕ) → x < s.shape.size → IsByte (s.cells x) → IsByte (t.cells x)) → entry ≤ info.count
    → HasWords (table_in s.cells info) entry → HasWords (table_in t.cells info) entry
words_stay s t info entry table bytes inside words k less =
    subst (λ (c : Cell). IsByte c) (sym (table_cell t.cells info entry k inside less))
    (bytes (info.table_at + 8 * entry + k) (omega (arith, table.table, inside, less))
    (subst (λ (c : Cell). IsByte c) (table_cell s.cells info entry k inside less) (words k less)))
