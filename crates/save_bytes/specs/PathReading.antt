-- A path's text as it is read from the left.
use Rattle.std.specs.Prelude.{◌≡◌, ℕ, zero, suc, ◌+◌, ◌*◌, ◌≤◌, ◌==◌, ◌&&◌, nat_lt, bytes_eq, if◌then◌else◌}
use Rattle.std.specs.Prelude.{List, [], ◌∷◌, ◌++◌, length, drop, replicate, Option, Some, None, Result, Ok, Err}
use Rattle.std.specs.Char.{digit_value}
use Rattle.save_bytes.specs.declared.path.PathFault.{PathFault}
use Rattle.save_bytes.specs.declared.path.PathFault.TheVariants.{Empty, NoSlash, EmptyName, LongName, BadEscape}
use Rattle.save_bytes.specs.declared.path.PathFault.TheVariants.{TooDeep}
use Rattle.save_bytes.specs.Paths.{filled, is_plain}
use Rattle.save_bytes.specs.PathFaults.{is_name_end}

-- the byte of an escape behind its `\`, and the rest
abbrev pub escape_from : List ℕ → Option (ℕ × List ℕ)
escape_from [] = None
escape_from (x ∷ []) = None
escape_from (x ∷ high ∷ []) = None
escape_from (x ∷ high ∷ low ∷ rest) =
    if (x == 120 && nat_lt (digit_value high) 16) && nat_lt (digit_value low) 16
    then Some (digit_value high * 16 + digit_value low, rest) else None

-- the byte that a text stands for at its front, and the rest
abbrev pub byte_from : List ℕ → Option (ℕ × List ℕ)
byte_from [] = None
byte_from (byte ∷ rest) = if is_plain byte then Some (byte, rest) else (if byte == 92 then escape_from rest else None)

-- bytes in front of those of a name that was read
abbrev pub behind_bytes : List ℕ → Result (List ℕ × List ℕ) PathFault → Result (List ℕ × List ℕ) PathFault
behind_bytes bytes (Ok read) = Ok (bytes ++ read.0, read.1)
behind_bytes bytes (Err fault) = Err fault

-- what comes of a byte, where there is one, and of the rest
abbrev pub with_byte : Option (ℕ × List ℕ) → (List ℕ → Result (List ℕ × List ℕ) PathFault)
    → Result (List ℕ × List ℕ) PathFault
with_byte None later = Err BadEscape
with_byte (Some (byte, rest)) later = behind_bytes (byte ∷ []) (later rest)

-- the bytes of a name that may have so many more, and the rest
unfoldable pub name_from : ℕ → List ℕ → Result (List ℕ × List ℕ) PathFault
name_from zero text = if is_name_end text then Ok ([], text) else Err LongName
name_from (suc room) text = if is_name_end text then Ok ([], text) else with_byte (byte_from text) (name_from room)

-- names in front of those that were read
abbrev pub behind_names : List (List ℕ) → Result (List (List ℕ)) PathFault → Result (List (List ℕ)) PathFault
behind_names names (Ok read) = Ok (names ++ read)
behind_names names (Err fault) = Err fault

-- what comes of a name's bytes, and of the rest
abbrev pub with_name : Result (List ℕ × List ℕ) PathFault → (List ℕ → Result (List (List ℕ)) PathFault)
    → Result (List (List ℕ)) PathFault
with_name (Err fault) later = Err fault
with_name (Ok (bytes, rest)) later = if bytes_eq (filled bytes) (replicate 16 0) then Err EmptyName else behind_names
    (filled bytes ∷ []) (later rest)

-- the names of a text that may have so many more
unfoldable pub names_from : ℕ → List ℕ → Result (List (List ℕ)) PathFault
names_from zero [] = Ok []
names_from zero (slash ∷ rest) = Err TooDeep
names_from (suc room) [] = Ok []
names_from (suc room) (slash ∷ rest) = with_name (name_from 16 rest) (names_from room)

-- the names of a path's text
abbrev pub path_from : List ℕ → Result (List (List ℕ)) PathFault
path_from [] = Err Empty
path_from (first ∷ []) = if first == 47 then Ok [] else Err NoSlash
path_from (first ∷ second ∷ rest) = if first == 47 then names_from 64 (first ∷ second ∷ rest) else Err NoSlash

-- a byte was read, and how many bytes of the text stand for it
abbrev pub IsByteTaken : List ℕ → Option (ℕ × ℕ) → Type 0
IsByteTaken text None = byte_from text ≡ None
IsByteTaken text (Some (byte, taken)) = (byte_from text ≡ Some (byte, drop taken text)) × (1 ≤ taken) ×
    (taken ≤ length text)

-- a name's bytes were read, and how many bytes of the text stand for them
pub record IsNameTaken (text name : List ℕ) (taken : ℕ) : Type 0 where
  pub bytes : List ℕ
  pub read : name_from 16 text ≡ Ok (bytes, drop taken text)
  pub is : name ≡ filled bytes
  pub inside : taken ≤ length text
