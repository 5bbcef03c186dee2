-- Which fault of a path's text is the first from the left.
use Rattle.std.specs.Prelude.{◌≡◌, ◌≢◌, ℕ, ◌<◌, ◌≤◌, ◌==◌, Bool, true, false, List, [], ◌∷◌, ◌++◌, length, replicate}
use Rattle.save_bytes.specs.declared.path.PathFault.{PathFault}
use Rattle.save_bytes.specs.declared.path.PathFault.TheVariants.{Empty, NoSlash, EmptyName, LongName, BadEscape}
use Rattle.save_bytes.specs.declared.path.PathFault.TheVariants.{TooDeep}
use Rattle.save_bytes.specs.Paths.{filled, IsByteText, AreByteTexts, AreNameTexts}

-- the number of a fault
abbrev pub path_fault_number : PathFault → ℕ
path_fault_number Empty = 1
path_fault_number NoSlash = 2
path_fault_number EmptyName = 3
path_fault_number LongName = 4
path_fault_number BadEscape = 5
path_fault_number TooDeep = 6

-- a name ends here: the text does, or another name begins
abbrev pub is_name_end : List ℕ → Bool
is_name_end [] = true
is_name_end (byte ∷ rest) = byte == 47

-- Up to a place the text has no fault: texts of fewer than 64 names, and `/` with texts of the bytes so far of a
-- further one.
pub record IsSoundTo (text : List ℕ) (at : ℕ) (names : List (List ℕ)) (bytes rest : List ℕ) : Type 0 where
  pub done : List ℕ
  pub begun : List ℕ
  pub names_done : AreNameTexts names done
  pub few : length names < 64
  pub bytes_begun : AreByteTexts bytes begun
  pub short : length bytes ≤ 16
  pub is : text ≡ done ++ (47 ∷ (begun ++ rest))
  pub place : at ≡ length (done ++ (47 ∷ begun))

-- A fault begins at a place up to which the text has none: the name that ends there has no byte but zeros (the
-- root's text has
-- no name), a 17th byte of a name stands there, what stands there is no text of a byte, or a 65th name begins.
pub data Begins : List ℕ → ℕ → PathFault → Type 0 where
  NoText : Begins [] 0 Empty
  OtherFirst : (byte : ℕ) (rest : List ℕ) → byte ≢ 47 → Begins (byte ∷ rest) 0 NoSlash
  NoNonzero : (text : List ℕ) (at : ℕ) (names : List (List ℕ)) (bytes rest : List ℕ)
      → IsSoundTo text at names bytes rest
      → is_name_end rest ≡ true → filled bytes ≡ replicate 16 0 → text ≢ 47 ∷ [] → Begins text at EmptyName
  OneMore : (text : List ℕ) (at : ℕ) (names : List (List ℕ)) (bytes rest : List ℕ) → IsSoundTo text at names bytes rest
      → is_name_end rest ≡ false → length bytes ≡ 16 → Begins text at LongName
  NoByteText : (text : List ℕ) (at : ℕ) (names : List (List ℕ)) (bytes rest : List ℕ)
      → IsSoundTo text at names bytes rest
      → is_name_end rest ≡ false
      → ((byte : ℕ) (piece more : List ℕ) → IsByteText byte piece → rest ≢ piece ++ more) → Begins text at BadEscape
  OneDeeper : (text : List ℕ) (at : ℕ) (names : List (List ℕ)) (bytes rest : List ℕ)
      → IsSoundTo text at names bytes (47 ∷ rest) → length names ≡ 63 → Begins text at TooDeep

-- a fault is the first from the left: of those that begin where it does it has the lowest number
pub record IsFirstPathFault (text : List ℕ) (fault : PathFault) : Type 0 where
  pub at : ℕ
  pub begins : Begins text at fault
  pub lowest : (other : PathFault) → Begins text at other → path_fault_number fault ≤ path_fault_number other
