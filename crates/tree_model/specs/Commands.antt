-- The text of a command.
use Rattle.std.specs.Prelude.{◌≡◌, ◌≢◌, ℕ, ◌<◌, ◌^◌, List, [], ◌∷◌, ◌++◌, codes}
use Rattle.std.specs.Fmt.{decimal}
use Rattle.std.specs.List.{All}
use Rattle.save_bytes.specs.Paths.{IsPathText}
use Rattle.save_bytes.specs.PathFaults.{IsFirstPathFault}
use Rattle.tree_model.specs.declared.command.Target.{Target}
use Rattle.tree_model.specs.declared.command.Target.TheVariants.{Path, Fault}
use Rattle.tree_model.specs.declared.command.Command.{Command}
use Rattle.tree_model.specs.declared.command.Command.TheVariants.{List as Listed, Room as AskRoom, Get, Put, Mkdir}
use Rattle.tree_model.specs.declared.command.Command.TheVariants.{Remove, Link, Commit, Abort, End}

-- words with one space between them
abbrev pub joined : List (List ℕ) → List ℕ
joined [] = []
joined (word ∷ []) = word
joined (word ∷ next ∷ words) = word ++ 32 ∷ joined (next ∷ words)

-- no byte of a text is this one
abbrev pub Lacks : ℕ → List ℕ → Type 0
Lacks mark = All (λ byte. byte ≢ mark)

abbrev pub HasNoSpace : List ℕ → Type 0
HasNoSpace = Lacks 32

-- the path that a word stands for, or why it stands for none
abbrev pub IsTargetText : Target → List ℕ → Type 0
IsTargetText (Path path) word = IsPathText path word
IsTargetText (Fault fault) word = IsFirstPathFault word fault

-- a number's word: `0`, or decimal digits without a leading zero; the number fits eight bytes
pub record IsNumberText (n : ℕ) (word : List ℕ) : Type 0 where
  pub digits : word ≡ decimal n
  pub fits : n < 2 ^ 64

-- a name, and a word that stands for a target
pub record IsNamed (name : List ℕ) (target : Target) (words : List (List ℕ)) : Type 0 where
  pub word : List ℕ
  pub stands : IsTargetText target word
  pub are : words ≡ name ∷ word ∷ []

-- a name, a word that stands for a target, and a number's word
pub record IsNumbered (name : List ℕ) (target : Target) (n : ℕ) (words : List (List ℕ)) : Type 0 where
  pub word : List ℕ
  pub number : List ℕ
  pub stands : IsTargetText target word
  pub counts : IsNumberText n number
  pub are : words ≡ name ∷ word ∷ number ∷ []

-- the words of a command
abbrev pub AreWords : Command → List (List ℕ) → Type 0
AreWords Listed words = words ≡ codes "list" ∷ []
AreWords AskRoom words = words ≡ codes "room" ∷ []
AreWords (Get target) words = IsNamed (codes "get") target words
AreWords (Put target size) words = IsNumbered (codes "put") target size words
AreWords (Mkdir target) words = IsNamed (codes "mkdir") target words
AreWords (Remove target) words = IsNamed (codes "remove") target words
AreWords (Link target id) words = IsNumbered (codes "link") target id words
AreWords Commit words = words ≡ codes "commit" ∷ []
AreWords Abort words = words ≡ codes "abort" ∷ []
AreWords End words = words ≡ codes "end" ∷ []

-- A command's text: its words, of which none has a space, with one space between them.
pub record IsCommandText (line : List ℕ) (command : Command) : Type 0 where
  pub words : List (List ℕ)
  pub are : AreWords command words
  pub spaceless : All HasNoSpace words
  pub is : line ≡ joined words
