-- What is read as a number.
use Rattle.std.proofs.Common.{◌≡◌, ◌≢◌, ℕ, zero, suc, ◌/◌, ◌%◌, ◌<◌, ◌≤◌, ◌^◌, ◌==◌, ◌↔◌}
use Rattle.std.proofs.Common.{Bool, true, false, not, ◌&&◌, cond}
use Rattle.std.proofs.Common.{nat_lt, List, [], ◌∷◌}
use Rattle.std.proofs.Common.{Option, Some, None, refl, sym, ◌∙◌, ap, arith, ⊎_elim, lt-ltb}
use Rattle.std.proofs.lemmas.Bool.{and_parts, both_ways, cases_Bool, not-true, not-false, ltb-true}
use Rattle.std.proofs.lemmas.Fmt.{decimal_is_IsNumeral}
use Rattle.std.proofs.lemmas.List.Elements.{All-nil, All-cons}
use Rattle.std.proofs.lemmas.Option.{cond_some}
use Rattle.std.proofs.lemmas.Slice.Eq.{bytes_eq-Decides}
use Rattle.std.specs.Fmt.{decimal, digits, digits_onto, digit_glyph}
use Rattle.std.specs.Str.{bytes_eq}
use Rattle.std.specs.Str.Parse.{digits_value}
use Rattle.tree_model.specs.Commands.{Lacks, IsNumberText}
use Rattle.tree_model.specs.CommandReading.{number_of}

-- a number, where the word is printed from it
abbrev printed_from : List ℕ → ℕ → Option ℕ
printed_from word n = cond (nat_lt n (2 ^ 64) && bytes_eq word (decimal n)) (Some n) None

of_digits : (word : List ℕ) → number_of word ≡ printed_from word (digits_value 10 word)
unfolding number_of
of_digits word = refl

printed_from-some : (word : List ℕ) (m n : ℕ) → printed_from word m ≡ Some n → (word ≡ decimal n) × (n < 2 ^ 64)
printed_from-some word m n is =
    let found = cond_some (nat_lt m (2 ^ 64) && bytes_eq word (decimal m)) m n is in
    let tests = and_parts (nat_lt m (2 ^ 64)) (bytes_eq word (decimal m)) found.0 in
    let same : m ≡ n = found.1 in (
      (bytes_eq-Decides word (decimal m)).0 tests.1 ∙ ap (λ (k : ℕ). decimal k) same,
      omega (arith, ltb-true m (2 ^ 64) tests.0),
    )

printed_from-decimal : (word : List ℕ) (n : ℕ) → n < 2 ^ 64 → word ≡ decimal n → printed_from word n ≡ Some n
printed_from-decimal word n small is = rw (lt-ltb n (2 ^ 64) small, (bytes_eq-Decides word (decimal n)).1 is) refl

pub number_of-some : (word : List ℕ) (n : ℕ) → number_of word ≡ Some n → (word ≡ decimal n) × (n < 2 ^ 64)
number_of-some word n is = printed_from-some word (digits_value 10 word) n (sym (of_digits word) ∙ is)

pub number_of-decimal : (word : List ℕ) (n : ℕ) → n < 2 ^ 64 → word ≡ decimal n → number_of word ≡ Some n
number_of-decimal word n small is =
    let value : digits_value 10 word ≡ n = ap (λ (text : List ℕ). digits_value 10 text) is
    ∙ (decimal_is_IsNumeral n small).1 in
    of_digits word ∙ ap (λ (k : ℕ). printed_from word k) value ∙ printed_from-decimal word n small is

pub number_stands : (word : List ℕ) (n : ℕ) → (number_of word ≡ Some n) ↔ IsNumberText n word
number_stands word n = (
  λ is. (let parts = number_of-some word n is in record { digits = parts.0; fits = parts.1 }),
  λ text. number_of-decimal word n text.fits text.digits,
)

none_from : (number : Option ℕ) → ((n : ℕ) → number ≡ Some n → ⊥) → None ≡ number
none_from None never = refl
none_from (Some n) never = absurd (never n refl)

-- a word that no number is printed as is none
pub number_of-none : (word : List ℕ) → ((n : ℕ) → n < 2 ^ 64 → word ≡ decimal n → ⊥) → None ≡ number_of word
number_of-none word never =
    none_from (number_of word) (λ n is. let found = number_of-some word n is in never n found.1 found.0)

-- what `!=` tells of two texts
module _ (text word : List ℕ) (differ : Bool) (is : differ ≡ not (bytes_eq text word)) where
  pub same_text : differ ≡ false → text ≡ word
  same_text agrees = (bytes_eq-Decides text word).0 (not-false (bytes_eq text word) (sym is ∙ agrees))

  pub other_text : differ ≡ true → text ≡ word → ⊥
  other_text differs same =
      both_ways (bytes_eq text word) (not-true (bytes_eq text word) (sym is ∙ differs))
      ((bytes_eq-Decides text word).1 same)

-- a digit is none of the bytes below `0`
glyph_from : (d : ℕ) → 48 ≤ digit_glyph false d
glyph_from d =
    ⊎_elim (λ (small : nat_lt d 10 ≡ true). rw small (omega arith))
    (λ (large : nat_lt d 10 ≡ false). rw large (omega arith))
    (cases_Bool (nat_lt d 10))

module _ (mark : ℕ) (below : mark < 48) where
  glyph_lacks : (d : ℕ) (digits : List ℕ) → Lacks mark digits → Lacks mark (digit_glyph false d ∷ digits)
  glyph_lacks d digits lacks = All-cons (λ byte. byte ≢ mark) (digit_glyph false d) digits
      (λ is. let from = glyph_from d in omega (arith, is, from)) lacks

  digits_lack : (k n : ℕ) (behind : List ℕ) → Lacks mark behind → Lacks mark (digits_onto k 10 false n behind)
  digits_lack zero n behind lacks = lacks
  digits_lack (suc k) n behind lacks =
      ⊎_elim (λ (last : (n / 10 == 0) ≡ true). rw last (glyph_lacks (n % 10) behind lacks))
      (λ (more : (n / 10 == 0) ≡ false).
      rw more (digits_lack k (n / 10) (digit_glyph false (n % 10) ∷ behind) (glyph_lacks (n % 10) behind lacks)))
      (cases_Bool (n / 10 == 0))

  pub decimal_lacks : (n : ℕ) → Lacks mark (decimal n)
  unfolding digits
  decimal_lacks n = digits_lack 64 n [] (All-nil (λ byte. byte ≢ mark))
