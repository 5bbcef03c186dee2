-- The lines of a block's bytes.
use Rattle.std.proofs.Common.{◌≡◌, ℕ, suc, ◌+◌, ◌<◌, min, List, [], ◌++◌, length, take, drop, refl, sym, ◌∙◌, ap}
use Rattle.std.proofs.Common.{arith, inl, inr, append-nil, length-append, codes}
use Rattle.std.proofs.lemmas.Bool.{cases_lt}
use Rattle.std.proofs.lemmas.List.{nil_from_length, take_all, take_at, drop_at}
use Rattle.std.specs.Int.{div_ceil}
use Rattle.save_top.specs.Texts.{triple_line, hex_line, hex_lines, block_text}

-- the bytes in as many lines as they need
abbrev pub lines_of : List ℕ → List ℕ
lines_of bytes = hex_lines (div_ceil (length bytes) 32) bytes

one_line_more : (n : ℕ) → div_ceil (n + 32) 32 ≡ suc (div_ceil n 32)
one_line_more n = omega arith

one_line : (n : ℕ) → 0 < n → n < 32 → div_ceil n 32 ≡ 1
one_line n some short = omega arith

lines_from : (count : ℕ) (bytes : List ℕ) → hex_lines (suc count) bytes ≡ hex_line (take 32 bytes) ++ hex_lines count (drop 32 bytes)
unfolding hex_lines
lines_from count bytes = refl

no_lines : (bytes : List ℕ) → hex_lines 0 bytes ≡ []
unfolding hex_lines
no_lines bytes = refl

-- a piece is 32 bytes, or the last
pub first_line : (bytes piece rest : List ℕ) → bytes ≡ piece ++ rest → length piece ≡ min 32 (length bytes)
    → 0 < length bytes → hex_line piece ++ lines_of rest ≡ lines_of bytes
first_line bytes piece rest parts size some =
    let sum = ap (λ (l : List ℕ). length l) parts ∙ length-append piece rest in
    elim (cases_lt (length bytes) 32) [
      | inl short ↦
          let none : rest ≡ [] = nil_from_length rest (omega arith) in
          let whole : bytes ≡ piece = parts ∙ ap (λ (l : List ℕ). piece ++ l) none ∙ append-nil piece in
          let end : lines_of rest ≡ [] = ap (λ (l : List ℕ). lines_of l) none ∙ no_lines [] in
          let line : lines_of bytes ≡ hex_line bytes ++ [] =
          ap (λ (k : ℕ). hex_lines k bytes) (one_line (length bytes) some short)
          ∙ lines_from 0 bytes
          ∙ ap (λ (l : List ℕ). hex_line l ++ hex_lines 0 (drop 32 bytes)) (take_all 32 bytes (omega arith))
          ∙ ap (λ (l : List ℕ). hex_line bytes ++ l) (no_lines (drop 32 bytes)) in
          ap (λ (l : List ℕ). hex_line piece ++ l) end ∙ ap (λ (l : List ℕ). hex_line l ++ []) (sym whole) ∙ sym line
      | inr long ↦
          let wide : length piece ≡ 32 = omega arith in
          let count : div_ceil (length bytes) 32 ≡ suc (div_ceil (length rest) 32) =
          ap (λ (k : ℕ). div_ceil k 32) (omega arith) ∙ one_line_more (length rest) in
          sym (ap (λ (k : ℕ). hex_lines k bytes) count
          ∙ lines_from (div_ceil (length rest) 32) bytes
          ∙ ap (λ (l : List ℕ). hex_line (take 32 l) ++ hex_lines (div_ceil (length rest) 32) (drop 32 l)) parts
          ∙ ap (λ (l : List ℕ). hex_line l ++ hex_lines (div_ceil (length rest) 32) (drop 32 (piece ++ rest))) (take_at piece rest 32 wide)
          ∙ ap (λ (l : List ℕ). hex_line piece ++ hex_lines (div_ceil (length rest) 32) l) (drop_at piece rest 32 wide))
    ]

pub lines_of-nil : lines_of [] ≡ []
lines_of-nil = no_lines []

pub block_text_is : (part block : ℕ) (bytes : List ℕ) → triple_line (codes "block ") part block (length bytes) ++ lines_of bytes ≡ block_text part block bytes
unfolding block_text
block_text_is part block bytes = refl
