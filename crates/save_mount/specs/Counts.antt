-- How many numbers there are of a sort, and which entries of the allocation table are lost.
use Rattle.std.specs.Prelude.{◌≡◌, ℕ, ◌↔◌, false, nat_eq, List, length}
use Rattle.std.specs.List.{Contains, IsDistinct}
use Rattle.chain_nodes.specs.Table.{IsEntry}
use Rattle.held_lists.specs.declared.set.EntrySet.{EntrySet}
use Rattle.held_lists.specs.Sets.{has_entry}
use Rattle.tree_rules.specs.Lists.{Holder}

-- there are so many numbers of which P holds
pub record IsCountOf (P : ℕ → Type 0) (n : ℕ) : Type 0 where
  pub list : List ℕ
  pub once : IsDistinct nat_eq list
  pub long : n ≡ length list
  pub each : (x : ℕ) → Contains list x ↔ P x

-- an entry of a data block that is not in a set
pub record IsUnheld (count : ℕ) (held : EntrySet) (entry : ℕ) : Type 0 where
  pub there : IsEntry count entry
  pub out : has_entry held entry ≡ false

-- an entry of a data block that is in no list
pub record IsLost (count : ℕ) (lists : Holder → List ℕ) (entry : ℕ) : Type 0 where
  pub there : IsEntry count entry
  pub kept_out : (holder : Holder) → ¬ Contains (lists holder) entry
