-- What the bytes that were read say of the cells.
use Rattle.std.proofs.Common.{◌≡◌, ℕ, ◌+◌, ◌<◌, ◌≤◌, List, length, take, drop, refl, sym, subst, ◌∙◌, ap, arith}
use Rattle.std.proofs.Common.{⊎_elim, ◌-◌}
use Rattle.std.proofs.lemmas.Bool.{cases_lt}
use Rattle.save_bytes.specs.Fields.{number_at}
use Rattle.save_bytes.specs.Cells.{Cell, IsByte, AreBytesAt}
use Rattle.save_bytes.specs.CellNumbers.{bytes_in, number_in}
use Rattle.chain_nodes.proofs.TableLemmas.{number_in-same}
use Rattle.entry_tables.proofs.ByteLemmas.{field_is, part_is}
use Rattle.tree_layout.specs.Headers.{HasHeader}
use Rattle.tree_model.specs.declared.kind.TreeKind.{TreeKind}
use Rattle.tree_rules.specs.Information.{letters_of, version_of_tree, IsLettered, header_len}

module _ (kind : TreeKind) (cells : ℕ → Cell) (front : List ℕ) (long : length front ≡ 8)
    (are : AreBytesAt cells 0 front) where
  letters_are : take 4 front ≡ bytes_in cells 0 4
  letters_are = part_is 4 cells 0 0 0 front are (omega (arith, long)) refl

  version_is : number_at 4 front 4 ≡ number_in 4 cells 4
  version_is = field_is 4 cells 0 4 4 front are (omega (arith, long)) refl

  pub lettered_from : take 4 front ≡ letters_of kind → number_at 4 front 4 ≡ version_of_tree kind
      → IsLettered kind cells
  lettered_from letters version = record { letters = sym letters_are ∙ letters; version = sym version_is ∙ version }

  pub letters_back : IsLettered kind cells → take 4 front ≡ letters_of kind
  letters_back h = letters_are ∙ h.letters

  pub version_back : IsLettered kind cells → number_at 4 front 4 ≡ version_of_tree kind
  version_back h = version_is ∙ h.version

pub at_front : (cells : ℕ → Cell) → ((k : ℕ) → k < 8 → IsByte (cells (0 + k))) → (k : ℕ) → k < 8 → IsByte (cells k)
at_front cells front k less =
    (let none : 0 + k ≡ k = omega arith in subst (λ (x : ℕ). IsByte (cells x)) none (front k less))

-- bytes behind bytes
pub header_bytes : (cells : ℕ → Cell) → ((k : ℕ) → k < 8 → IsByte (cells k))
    → ((k : ℕ) → k < 24 → IsByte (cells (8 + k))) → (x : ℕ) → x < header_len → IsByte (cells x)
header_bytes cells front rest x below =
    ⊎_elim
    (λ (early : x < 8). front x early)
    (λ (late : 8 ≤ x). subst (λ (y : ℕ). IsByte (cells y)) (there late) (rest (x - 8) (omega (arith, below, late))))
    (cases_lt x 8) where
      there : 8 ≤ x → 8 + (x - 8) ≡ x
      there late = omega (arith, late)

-- the header, by what its two parts say, the second of which was read where the cells were the same
pub header_found : (kind : TreeKind) (size : ℕ) (old mid : ℕ → Cell) (at : ℕ) (rest : List ℕ) → header_len ≤ size
    → ((x : ℕ) → x < size → mid x ≡ old x) → IsLettered kind old → ((k : ℕ) → k < 8 → IsByte (old k))
    → ((k : ℕ) → k < 24 → IsByte (mid (8 + k))) → AreBytesAt mid 8 rest → length rest ≡ 24
    → at ≡ number_at 8 rest 0 → HasHeader kind size old at
header_found kind size old mid at rest fits same lettered front behind are long is = record {
  fits = fits;
  lettered = lettered;
  read = header_bytes old front (λ k less. rw (sym (same (8 + k) (omega (arith, less, fits)))) (behind k less));
  place = is ∙ field_is 8 mid 8 0 8 rest are (omega (arith, long)) refl ∙ number_in-same 8 mid old 8 8
      (λ k less. same (8 + k) (omega (arith, less, fits)));
}
