-- The line that says why a command is refused.
use Rattle.std.specs.Prelude.{ℕ, List, [], ◌∷◌, ◌++◌, codes}
use Rattle.std.specs.Fmt.{decimal}
use Rattle.std.specs.List.{flat_map}
use Rattle.save_bytes.specs.PathFaults.{path_fault_number}
use Rattle.tree_model.specs.declared.refusal.Full.{Full as Lack}
use Rattle.tree_model.specs.declared.refusal.Full.TheVariants.{Blocks, Dirs, Files}
use Rattle.tree_model.specs.declared.refusal.Refusal.{Refusal}
use Rattle.tree_model.specs.declared.refusal.Refusal.TheVariants.{BadPath, NoParent, NotFound, Exists, NotEmpty, Full}
use Rattle.tree_model.specs.declared.refusal.Refusal.TheVariants.{Damaged, WrongKind, IsRoot, NoMemory, Changed}

-- the number of what there is too little of
abbrev pub full_number : Lack → ℕ
full_number Blocks = 1
full_number Dirs = 2
full_number Files = 3

-- a number behind a space
abbrev pub number_text : ℕ → List ℕ
number_text n = codes " " ++ decimal n

-- `refused`, a name, and numbers one space apart
abbrev pub named_line : List ℕ → List ℕ → List ℕ
named_line name numbers = codes "refused " ++ name ++ flat_map number_text numbers ++ codes "\n"

abbrev pub refusal_line : Refusal → List ℕ
refusal_line (BadPath fault) = named_line (codes "BadPath") (path_fault_number fault ∷ [])
refusal_line NoParent = named_line (codes "NoParent") []
refusal_line NotFound = named_line (codes "NotFound") []
refusal_line Exists = named_line (codes "Exists") []
refusal_line NotEmpty = named_line (codes "NotEmpty") []
refusal_line (Full kind need have) = named_line (codes "Full") (full_number kind ∷ need ∷ have ∷ [])
refusal_line (Damaged part level block) = named_line (codes "Damaged") (part ∷ level ∷ block ∷ [])
refusal_line WrongKind = named_line (codes "WrongKind") []
refusal_line IsRoot = named_line (codes "IsRoot") []
refusal_line NoMemory = named_line (codes "NoMemory") []
refusal_line Changed = named_line (codes "Changed") []
