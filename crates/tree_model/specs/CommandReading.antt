-- The command that words stand for, found word by word.
use Rattle.std.specs.Prelude.{ℕ, ◌^◌, bytes_eq, nat_lt, ◌&&◌, List, [], ◌∷◌, Option, Some, None, Result, Ok, Err, codes}
use Rattle.std.specs.Prelude.{if◌then◌else◌}
use Rattle.std.specs.Fmt.{decimal}
use Rattle.std.specs.Str.Parse.{digits_value}
use Rattle.save_bytes.specs.declared.path.PathFault.{PathFault}
use Rattle.save_bytes.specs.PathReading.{path_from}
use Rattle.tree_model.specs.declared.command.Target.{Target}
use Rattle.tree_model.specs.declared.command.Target.TheVariants.{Path, Fault}
use Rattle.tree_model.specs.declared.command.Command.{Command}
use Rattle.tree_model.specs.declared.command.Command.TheVariants.{List as Listed, Room as AskRoom, Get, Put, Mkdir}
use Rattle.tree_model.specs.declared.command.Command.TheVariants.{Remove, Link, Commit, Abort, End}

-- a number, where the word is the text that it is printed as
unfoldable pub number_of : List ℕ → Option ℕ
number_of word =
    let n = digits_value 10 word in if nat_lt n (2 ^ 64) && bytes_eq word (decimal n) then Some n else None

abbrev pub target_by : Result (List (List ℕ)) PathFault → Target
target_by (Ok path) = Path path
target_by (Err fault) = Fault fault

abbrev pub target_of : List ℕ → Target
target_of word = target_by (path_from word)

-- a name alone
abbrev pub bare_of : List ℕ → Option Command
bare_of name =
    if bytes_eq name (codes "list") then Some Listed
    else if bytes_eq name (codes "room") then Some AskRoom
    else if bytes_eq name (codes "commit") then Some Commit
    else if bytes_eq name (codes "abort") then Some Abort
    else if bytes_eq name (codes "end") then Some End
    else None

-- a name and a target
abbrev pub named_of : List ℕ → Target → Option Command
named_of name target =
    if bytes_eq name (codes "get") then Some (Get target)
    else if bytes_eq name (codes "mkdir") then Some (Mkdir target)
    else if bytes_eq name (codes "remove") then Some (Remove target)
    else None

-- a name, a target and a number
abbrev pub numbered_of : List ℕ → Target → ℕ → Option Command
numbered_of name target n =
    if bytes_eq name (codes "put") then Some (Put target n)
    else if bytes_eq name (codes "link") then Some (Link target n)
    else None

abbrev pub numbered_by : List ℕ → Target → Option ℕ → Option Command
numbered_by name target None = None
numbered_by name target (Some n) = numbered_of name target n

abbrev pub command_of : List (List ℕ) → Option Command
command_of [] = None
command_of (name ∷ []) = bare_of name
command_of (name ∷ word ∷ []) = named_of name (target_of word)
command_of (name ∷ word ∷ number ∷ []) = numbered_by name (target_of word) (number_of number)
command_of (name ∷ word ∷ number ∷ more ∷ words) = None
