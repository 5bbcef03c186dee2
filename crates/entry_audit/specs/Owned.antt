-- Lists of entries, each of which may stand in one of them only.
use Rattle.std.specs.Prelude.{◌≡◌, ℕ, Bool, true, false, IsTrue, Option, Some, None, List, get_or, Contains}
use Rattle.entry_tables.specs.Links.{LeadsTo, LeadsToEnd}
use Rattle.entry_audit.specs.declared.owned.Link.{Link}

-- an entry's link, by its number: none for what may stand in no list
abbrev pub link_at : List (Option Link) → ℕ → Option Link
link_at links e = get_or links e None

-- the entry behind one, 0 for none
abbrev pub behind_link : Option Link → ℕ
behind_link None = 0
behind_link (Some link) = link.next

abbrev pub behind_in : List (Option Link) → ℕ → ℕ
behind_in links e = behind_link (link_at links e)

-- an entry may stand in this list
abbrev pub MayStandIn : ℕ → Option Link → Type 0
MayStandIn owner None = ⊥
MayStandIn owner (Some link) = link.owner ≡ owner

-- and has to
abbrev pub MustStandIn : ℕ → Option Link → Type 0
MustStandIn owner None = ⊥
MustStandIn owner (Some link) = (link.owner ≡ owner) × IsTrue link.must

-- a list is as it should be: from its head on it ends, each entry in it may stand there, and each that has to is in it
pub record IsOwnedList (links : List (Option Link)) (owner head : ℕ) (list : List ℕ) : Type 0 where
  pub leads : LeadsToEnd (behind_in links) head list
  pub own : (e : ℕ) → Contains list e → MayStandIn owner (link_at links e)
  pub all : (e : ℕ) → MustStandIn owner (link_at links e) → Contains list e

-- an entry was seen
abbrev pub IsSeen : List Bool → ℕ → Type 0
IsSeen seen e = get_or seen e false ≡ true

-- a list was followed from its head through these entries up to one: each may stand in it, and they were marked as seen
pub record IsFollowed (links : List (Option Link)) (owner head : ℕ) (old new : List Bool) (front : List ℕ) (end : ℕ)
    : Type 0 where
  pub leads : LeadsTo (behind_in links) head front end
  pub own : (e : ℕ) → Contains front e → MayStandIn owner (link_at links e)
  pub kept : (e : ℕ) → IsSeen old e → IsSeen new e
  pub marked : (e : ℕ) → Contains front e → IsSeen new e
  pub only : (e : ℕ) → IsSeen new e → ¬ IsSeen old e → Contains front e
