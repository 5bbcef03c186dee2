-- The forms of the words after the program's name.
use Rattle.std.specs.Prelude.{ℕ, Bool, true, false, ◌==◌, bytes_eq, List, [], ◌∷◌, length, Option, Some, None, codes}
use Rattle.std.specs.Prelude.{if◌then◌else◌}
use Rattle.tree_model.specs.CommandReading.{number_of}
use Rattle.save_top.specs.declared.form.Order.{Order}
use Rattle.save_top.specs.declared.form.Act.{Act}
use Rattle.save_top.specs.declared.form.Act.TheVariants.{Info, Peek}

-- info
abbrev pub info_of : List (List ℕ) → Option Act
info_of [] = Some Info
info_of (word ∷ rest) = None

-- peek, where both words are numbers
abbrev pub peek_at : Option ℕ → Option ℕ → Option Act
peek_at None block = None
peek_at (Some part) None = None
peek_at (Some part) (Some block) = Some (Peek part block)

-- peek PART BLOCK
abbrev pub peek_of : List (List ℕ) → Option Act
peek_of (part ∷ block ∷ []) = peek_at (number_of part) (number_of block)
peek_of words = None

-- a command and its words: info | peek PART BLOCK
abbrev pub act_of : List (List ℕ) → Option Act
act_of [] = None
act_of (command ∷ rest) =
    if bytes_eq command (codes "info") then info_of rest
    else if bytes_eq command (codes "peek") then peek_of rest
    else None

abbrev pub order_to : Bool → Option Act → Option Order
order_to sealed None = None
order_to sealed (Some act) = Some (record { sealed = sealed; act = act })

-- a command, or `sealed` and a command
abbrev pub order_after : List (List ℕ) → Option Order
order_after [] = None
order_after (word ∷ rest) = if bytes_eq word (codes "sealed") then order_to true (act_of rest) else order_to false (act_of (word ∷ rest))

-- FILE, which is not empty, then `sealed` or not, then a command
abbrev pub order_of : List (List ℕ) → Option Order
order_of [] = None
order_of (file ∷ rest) = if length file == 0 then None else order_after rest
