-- How said bytes are cut into replies.
use Rattle.std.proofs.Common.{◌≡◌, ◌≢◌, ℕ, zero, suc, ◌<◌, ◌^◌, List, [], ◌∷◌, ◌++◌, length, codes, refl, sym, ◌∙◌, ap}
use Rattle.std.proofs.Common.{true, not, ◌==◌, subst, arith, append_assoc}
use Rattle.std.proofs.lemmas.Bool.{and_parts, both_ways, not-true, eq-eqb}
use Rattle.std.proofs.lemmas.Fmt.{decimal_injective}
use Rattle.std.proofs.lemmas.List.Elements.{All-nil, All-cons, All-append}
use Rattle.std.specs.Fmt.{decimal}
use Rattle.std.specs.List.{list_all}
use Rattle.tree_model.specs.Commands.{Lacks}
use Rattle.tree_model.specs.Transcripts.{counted_line, IsLine, AreLines, IsWholeReply, WithBytes, WithLines, Alone}
use Rattle.tree_model.specs.Transcripts.{IsCut, NoReply, OneReply}
use Rattle.tree_model.proofs.NumberLemmas.{decimal_lacks}
use Rattle.tree_model.proofs.WordLemmas.{first_cut}

-- two texts of one length in front of others
same_parts : (a b x y : List ℕ) → length a ≡ length b → a ++ x ≡ b ++ y → (a ≡ b) × (x ≡ y)
same_parts [] [] x y long is = (refl, is)
same_parts [] (byte ∷ b) x y long is = absurd (omega arith)
same_parts (byte ∷ a) [] x y long is = absurd (omega arith)
same_parts (byte ∷ a) (other ∷ b) x y long is =
    let head : byte ≡ other = cc in
    let tail : a ++ x ≡ b ++ y = cc in
    let rest = same_parts a b x y (omega arith) tail in
    let same : a ≡ b = rest.0 in
    (cc, rest.1)

-- ---- lines

-- a line and what stands behind it
line_behind : (line : List ℕ) (is : IsLine line) (rest : List ℕ) → line ++ rest ≡ is.content ++ 10 ∷ rest
line_behind line is rest = rw (is.is, append_assoc) refl

line_same : (a b x y : List ℕ) → IsLine a → IsLine b → a ++ x ≡ b ++ y → (a ≡ b) × (x ≡ y)
line_same a b x y first second is =
    let same = first_cut 10 first.content second.content x y first.lacks second.lacks
    (sym (line_behind a first x) ∙ is ∙ line_behind b second y) in
    (first.is ∙ ap (λ (content : List ℕ). content ++ 10 ∷ []) same.0 ∙ sym second.is, same.1)

lines_same : (n : ℕ) (a b x y : List ℕ) → AreLines n a → AreLines n b → a ++ x ≡ b ++ y → (a ≡ b) × (x ≡ y)
lines_same zero a b x y first second is = (first ∙ sym second, rw (first, second) at is)
lines_same (suc n) a b x y (line, rest, is_line, are, split) (other, more, is_other, are_more, other_split) is =
    let whole : line ++ (rest ++ x) ≡ other ++ (more ++ y) = sym (append_assoc line rest x)
    ∙ ap (λ (t : List ℕ). t ++ x) (sym split) ∙ is ∙ ap (λ (t : List ℕ). t ++ y) other_split
    ∙ append_assoc other more y in
    let same = line_same line other (rest ++ x) (more ++ y) is_line is_other whole in
    let below = lines_same n rest more x y are are_more same.1 in
    (rw (split, other_split, same.0, below.0) refl, below.1)

-- ---- lines of a name and a number

module _ (name : List ℕ) (lacks : Lacks 10 name) where
  abbrev head : ℕ → List ℕ
  head n = name ++ 32 ∷ decimal n

  head_lacks : (n : ℕ) → Lacks 10 (head n)
  head_lacks n =
      All-append (λ byte. byte ≢ 10) name (32 ∷ decimal n) lacks
      (All-cons (λ byte. byte ≢ 10) 32 (decimal n) (λ is. omega (arith, is)) (decimal_lacks 10 (omega arith) n))

  counted_behind : (n : ℕ) (rest : List ℕ) → counted_line name n ++ rest ≡ head n ++ 10 ∷ rest
  counted_behind n rest = simp append_assoc

  pub counted_is_line : (n : ℕ) → IsLine (counted_line name n)
  counted_is_line n = record { content = head n; lacks = head_lacks n; is = simp append_assoc }

  cancel : (a x y : List ℕ) → a ++ x ≡ a ++ y → x ≡ y
  cancel a x y is = (same_parts a a x y refl is).1

  counted_same : (m n : ℕ) (x y : List ℕ) → m < 2 ^ 64 → n < 2 ^ 64
      → counted_line name m ++ x ≡ counted_line name n ++ y → (m ≡ n) × (x ≡ y)
  counted_same m n x y small small_too is =
      let same = first_cut 10 (head m) (head n) x y (head_lacks m) (head_lacks n)
      (sym (counted_behind m x) ∙ is ∙ counted_behind n y) in
      let tails = cancel name (32 ∷ decimal m) (32 ∷ decimal n) same.0 in
      let numbers : decimal m ≡ decimal n = cc in
      (decimal_injective m n small small_too numbers, same.1)

  -- where a line stands in front of other bytes, it is the first of them
  line_first : (line : List ℕ) → IsLine line → (n : ℕ) (x y : List ℕ) → line ++ y ≡ counted_line name n ++ x
      → line ≡ counted_line name n
  line_first line is_line n x y is = (line_same line (counted_line name n) y x is_line (counted_is_line n) is).0

-- ---- no whole reply begins another

pub text_lacks : (mark : ℕ) (text : List ℕ) → list_all (λ byte. not (byte == mark)) text ≡ true → Lacks mark text
text_lacks mark [] is = All-nil (λ byte. byte ≢ mark)
text_lacks mark (byte ∷ text) is =
    let parts = and_parts (not (byte == mark)) (list_all (λ b. not (b == mark)) text) is in
    All-cons (λ b. b ≢ mark) byte text
    (λ same. both_ways (byte == mark) (not-true (byte == mark) parts.0) (eq-eqb byte mark same))
    (text_lacks mark text parts.1)

data_lacks : Lacks 10 (codes "data")
data_lacks = text_lacks 10 (codes "data") refl

rows_lacks : Lacks 10 (codes "rows")
rows_lacks = text_lacks 10 (codes "rows") refl

pub whole_same : (a b x y : List ℕ) → IsWholeReply a → IsWholeReply b → a ++ x ≡ b ++ y → (a ≡ b) × (x ≡ y)
whole_same a b x y (WithBytes bytes small) (WithBytes others small_too) is =
    let whole = sym (append_assoc (counted_line (codes "data") (length bytes)) bytes x) ∙ is
    ∙ append_assoc (counted_line (codes "data") (length others)) others y in
    let same = counted_same (codes "data") data_lacks (length bytes) (length others) (bytes ++ x) (others ++ y) small
    small_too whole in
    let parts = same_parts bytes others x y same.0 same.1 in
    (ap (λ (t : List ℕ). counted_line (codes "data") (length t) ++ t) parts.0, parts.1)
whole_same a b x y (WithLines m lines small are) (WithLines n others small_too are_too) is =
    let whole = sym (append_assoc (counted_line (codes "rows") m) lines x) ∙ is
    ∙ append_assoc (counted_line (codes "rows") n) others y in
    let same = counted_same (codes "rows") rows_lacks m n (lines ++ x) (others ++ y) small small_too whole in
    let parts = lines_same m lines others x y are (subst (λ (k : ℕ). AreLines k others) (sym same.0) are_too) same.1 in
    (rw (same.0, parts.0) refl, parts.1)
whole_same a b x y (WithBytes bytes small) (WithLines n lines small_too are) is =
    let other : ◌≡◌ {A = ℕ} 100 114 = cc in absurd (omega (arith, other))
whole_same a b x y (WithLines n lines small are) (WithBytes bytes small_too) is =
    let other : ◌≡◌ {A = ℕ} 114 100 = cc in absurd (omega (arith, other))
whole_same a b x y (Alone line is_line no_data no_rows) (Alone other is_other no_data_too no_rows_too) is =
    line_same line other x y is_line is_other is
whole_same a b x y (Alone line is_line no_data no_rows) (WithBytes bytes small) is =
    absurd (no_data (length bytes) small
    (line_first (codes "data") data_lacks line is_line (length bytes) (bytes ++ y) x
    (is ∙ append_assoc (counted_line (codes "data") (length bytes)) bytes y)))
whole_same a b x y (Alone line is_line no_data no_rows) (WithLines n lines small are) is =
    absurd (no_rows n small
    (line_first (codes "rows") rows_lacks line is_line n (lines ++ y) x
    (is ∙ append_assoc (counted_line (codes "rows") n) lines y)))
whole_same a b x y (WithBytes bytes small) (Alone line is_line no_data no_rows) is =
    absurd (no_data (length bytes) small
    (line_first (codes "data") data_lacks line is_line (length bytes) (bytes ++ x) y
    (sym is ∙ append_assoc (counted_line (codes "data") (length bytes)) bytes x)))
whole_same a b x y (WithLines n lines small are) (Alone line is_line no_data no_rows) is =
    absurd (no_rows n small
    (line_first (codes "rows") rows_lacks line is_line n (lines ++ x) y
    (sym is ∙ append_assoc (counted_line (codes "rows") n) lines x)))

-- said bytes are cut in one way
pub cut_same : (said also : List ℕ) (replies others : List (List ℕ)) (rest more : List ℕ) → IsCut said replies rest
    → IsCut also others more → said ≡ also → (replies ≡ others) × (rest ≡ more)
cut_same said also replies others rest more (NoReply a none) (NoReply b none_too) is = (refl, is)
cut_same said also replies others rest more (NoReply a none) (OneReply reply behind pieces left whole cut) is =
    absurd (none reply behind whole is)
cut_same said also replies others rest more (OneReply reply behind pieces left whole cut) (NoReply b none) is =
    absurd (none reply behind whole (sym is))
cut_same said also replies others rest more (OneReply a x some left whole cut)
    (OneReply b y pieces end whole_too cut_too) is =
    let same = whole_same a b x y whole whole_too is in
    let below = cut_same x y some pieces left end cut cut_too same.1 in
    (rw (same.0, below.0) refl, below.1)
