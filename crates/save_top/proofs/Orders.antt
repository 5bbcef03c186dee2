-- The words of a call, one after another.
use Rattle.std.proofs.Common.{◌≡◌, ℕ, ◌+◌, ◌-◌, ◌<◌, true, false, List, [], ◌∷◌, length, drop, get_or, Option, Some, None, refl, sym, ◌∙◌, ap, arith, codes}
use Rattle.std.proofs.lemmas.List.{drop_more, drop_all, length-drop}
use Rattle.std.proofs.lemmas.Option.{slice_get_within, slice_get-get_or, get_or_from_slice_get}
use Rattle.std.specs.List.{slice_get}
use Rattle.std.specs.Str.{bytes_eq}
use Rattle.save_top.specs.declared.form.Act.TheVariants.{Peek}
use Rattle.tree_model.specs.CommandReading.{number_of}
use Rattle.save_top.specs.Words.{info_of, peek_at, peek_of, act_of}

-- a word, and those after it
drop_word : (words : List (List ℕ)) (at : ℕ) (word : List ℕ) → slice_get words at ≡ Some word → drop at words ≡ word ∷ drop (at + 1) words
drop_word words at word is =
    drop_more words at word (slice_get_within words at word is)
    ∙ ap (λ (first : List ℕ). first ∷ drop (at + 1) words) (get_or_from_slice_get words at word word is)

-- the command is read, and then the words after it
module _ (words : List (List ℕ)) (at : ℕ) (command : List ℕ) (is : slice_get words at ≡ Some command) where
  pub act_of-info : bytes_eq command (codes "info") ≡ true → info_of (drop (at + 1) words) ≡ act_of (drop at words)
  act_of-info info = rw (drop_word words at command is, info) refl

  pub act_of-peek : bytes_eq command (codes "info") ≡ false → bytes_eq command (codes "peek") ≡ true → peek_of (drop (at + 1) words) ≡ act_of (drop at words)
  act_of-peek info peek = rw (drop_word words at command is, info, peek) refl

  pub act_of-other : bytes_eq command (codes "info") ≡ false → bytes_eq command (codes "peek") ≡ false → None ≡ act_of (drop at words)
  act_of-other info peek = rw (drop_word words at command is, info, peek) refl

pub info_of-more : (words : List (List ℕ)) (at : ℕ) → at < length words → None ≡ info_of (drop at words)
info_of-more words at more = rw (drop_more words at [] more) refl

peek_of-other : (rest : List (List ℕ)) → (length rest ≡ 2 → ⊥) → None ≡ peek_of rest
peek_of-other [] other = refl
peek_of-other (part ∷ []) other = refl
peek_of-other (part ∷ block ∷ []) other = absurd (other refl)
peek_of-other (part ∷ block ∷ word ∷ rest) other = refl

pub peek_of-none : (words : List (List ℕ)) (at : ℕ) → (length words - at ≡ 2 → ⊥) → None ≡ peek_of (drop at words)
peek_of-none words at other = peek_of-other (drop at words) (λ two. other (sym (length-drop at words) ∙ two))

-- two words are left
peek_of-two : (words : List (List ℕ)) (at : ℕ) (part block : List ℕ) → length words - at ≡ 2
    → slice_get words at ≡ Some part → slice_get words (at + 1) ≡ Some block
    → peek_of (drop at words) ≡ peek_at (number_of part) (number_of block)
peek_of-two words at part block two is_part is_block =
    rw (drop_word words at part is_part, drop_word words (at + 1) block is_block, drop_all (at + 1 + 1) words (omega arith)) refl

no_block : (part : Option ℕ) → None ≡ peek_at part None
no_block None = refl
no_block (Some part) = refl

module _ (words : List (List ℕ)) (at : ℕ) (part block : List ℕ) (two : length words - at ≡ 2) (is_part : slice_get words at ≡ Some part) where
  pub peek_of-no_part : None ≡ number_of part → None ≡ peek_of (drop at words)
  peek_of-no_part none =
      let last = slice_get-get_or words (at + 1) [] (omega arith) in
      sym (peek_of-two words at part (get_or words (at + 1) []) two is_part last
      ∙ ap (λ (number : Option ℕ). peek_at number (number_of (get_or words (at + 1) []))) (sym none))

  pub peek_of-no_block : slice_get words (at + 1) ≡ Some block → None ≡ number_of block → None ≡ peek_of (drop at words)
  peek_of-no_block is_block none =
      no_block (number_of part) ∙ ap (λ (number : Option ℕ). peek_at (number_of part) number) none ∙ sym (peek_of-two words at part block two is_part is_block)

  pub peek_of-numbers : (m n : ℕ) → slice_get words (at + 1) ≡ Some block → Some m ≡ number_of part
      → Some n ≡ number_of block → Some (Peek m n) ≡ peek_of (drop at words)
  peek_of-numbers m n is_block first second =
      ap (λ (number : Option ℕ). peek_at number (Some n)) first
      ∙ ap (λ (number : Option ℕ). peek_at (number_of part) number) second
      ∙ sym (peek_of-two words at part block two is_part is_block)
