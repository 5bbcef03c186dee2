-- The words of an entry, as they were read.
use Rattle.std.proofs.Common.{◌≡◌, ℕ, ◌+◌, ◌<◌, List, length, Option, ◌∙◌, ap, subst, arith}
use Rattle.save_bytes.specs.declared.space.Bad.{Bad}
use Rattle.save_bytes.specs.State.{State}
use Rattle.save_bytes.specs.Answers.{IsRead}
use Rattle.save_bytes.specs.Cells.{Cell, IsByte, AreBytesAt}
use Rattle.entry_tables.specs.Hash.{bucket_number}
use Rattle.entry_tables.specs.Tables.{Table}
use Rattle.entry_tables.specs.Rules.{bucket_of}

-- cells that were read are bytes
pub bytes_of_entry : (cells : ℕ → Cell) (at n : ℕ) (bytes : List ℕ) → length bytes ≡ n → AreBytesAt cells (at + 0) bytes
    → (j : ℕ) → j < n → IsByte (cells (at + j))
bytes_of_entry cells at n bytes long are j less =
    let here = are j (omega (arith, long, less)) in
    let place : at + 0 + j ≡ at + j = omega arith in
    subst (λ (x : ℕ). IsByte (cells x)) place (rw here tt)

-- the bucket of what was read is the entry's
pub bucket_read : (t : Table) (e parent : ℕ) (name : List ℕ) (bucket : ℕ) → parent ≡ t.parent e → name ≡ t.name e
    → bucket ≡ bucket_number parent name t.buckets → bucket ≡ bucket_of t e
bucket_read t e parent name bucket parent_is name_is is =
    is ∙ ap (λ (p : ℕ). bucket_number p name t.buckets) parent_is
    ∙ ap (λ (n : List ℕ). bucket_number (t.parent e) n t.buckets) name_is

-- what was read from a place on
pub read_at : (s : State) (at other n m : ℕ) (refusal : Option Bad) → IsRead s at n refusal → at ≡ other → n ≡ m
    → IsRead s other m refusal
read_at s at other n m refusal read place long =
    subst (λ (x : ℕ). IsRead s x m refusal) place (subst (λ (k : ℕ). IsRead s at k refusal) long read)
