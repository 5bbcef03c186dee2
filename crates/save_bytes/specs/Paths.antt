-- Paths, and the texts that stand for them.
use Rattle.std.specs.Prelude.{◌≡◌, ◌≢◌, ℕ, ◌+◌, ◌-◌, ◌*◌, ◌/◌, ◌%◌, ◌<◌, ◌≤◌, ◌==◌, ◌&&◌, not, nat_le, if◌then◌else◌}
use Rattle.std.specs.Prelude.{Bool, true}
use Rattle.std.specs.Prelude.{List, [], ◌∷◌, ◌++◌, length, take, replicate, slice_index}
use Rattle.std.specs.List.{All, flat_map}
use Rattle.std.specs.Char.{digit_value, digit_char}

-- a name: sixteen bytes, not all of them zero
pub record IsName (name : List ℕ) : Type 0 where
  pub long : length name ≡ 16
  pub bytes : (k : ℕ) → slice_index name k < 256
  pub some : name ≢ replicate 16 0

-- a path: at most 64 names
pub record IsPath (names : List (List ℕ)) : Type 0 where
  pub few : length names ≤ 64
  pub named : All IsName names

-- bytes filled with zeros to sixteen
abbrev pub filled : List ℕ → List ℕ
filled bytes = bytes ++ replicate (16 - length bytes) 0

-- a byte that stands for itself: 0x21 to 0x7E, but neither `/` nor `\`
abbrev pub is_plain : ℕ → Bool
is_plain byte = (nat_le 33 byte && nat_le byte 126) && (not (byte == 47) && not (byte == 92))

-- what stands for a byte: itself, or `\x` and two digits, each of either case
pub data IsByteText : ℕ → List ℕ → Type 0 where
  Itself : (byte : ℕ) → is_plain byte ≡ true → IsByteText byte (byte ∷ [])
  Escape : (high low : ℕ) → digit_value high < 16 → digit_value low < 16
      → IsByteText (digit_value high * 16 + digit_value low) (92 ∷ 120 ∷ high ∷ low ∷ [])

-- what stands for bytes: a text of each, in order
pub data AreByteTexts : List ℕ → List ℕ → Type 0 where
  NoByte : AreByteTexts [] []
  OneByte : (byte : ℕ) (bytes piece text : List ℕ) → IsByteText byte piece → AreByteTexts bytes text
      → AreByteTexts (byte ∷ bytes) (piece ++ text)

-- what stands for a name: a text of at most sixteen bytes, which zeros fill to the name
pub record IsNameText (name text : List ℕ) : Type 0 where
  pub bytes : List ℕ
  pub texts : AreByteTexts bytes text
  pub short : length bytes ≤ 16
  pub is : name ≡ filled bytes
  pub some : name ≢ replicate 16 0

-- what stands for names: `/` and a text of each, in order
pub data AreNameTexts : List (List ℕ) → List ℕ → Type 0 where
  NoName : AreNameTexts [] []
  OneName : (name text : List ℕ) (names : List (List ℕ)) (rest : List ℕ) → IsNameText name text
      → AreNameTexts names rest → AreNameTexts (name ∷ names) (47 ∷ (text ++ rest))

-- what stands for a path: `/` alone for the root, else a text of its names
abbrev pub IsPathText : List (List ℕ) → List ℕ → Type 0
IsPathText [] text = text ≡ 47 ∷ []
IsPathText (name ∷ names) text = (length (name ∷ names) ≤ 64) × AreNameTexts (name ∷ names) text

-- the canonical text of a byte: escaped only where needed, with lower-case digits
abbrev pub byte_text : ℕ → List ℕ
byte_text byte = if is_plain byte then byte ∷ [] else 92 ∷ 120 ∷ digit_char (byte / 16) ∷ digit_char (byte % 16) ∷ []

-- how many bytes there are up to the last that is not zero
abbrev pub last_used : List ℕ → ℕ
last_used [] = 0
last_used (byte ∷ rest) = if last_used rest == 0 then (if byte == 0 then 0 else 1) else last_used rest + 1

-- the canonical text of a name: without the zeros at its end
abbrev pub name_text : List ℕ → List ℕ
name_text name = flat_map byte_text (take (last_used name) name)

-- the canonical text of a path
abbrev pub path_text : List (List ℕ) → List ℕ
path_text [] = 47 ∷ []
path_text (name ∷ names) = flat_map (λ n. 47 ∷ name_text n) (name ∷ names)
