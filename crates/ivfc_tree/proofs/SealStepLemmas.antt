-- One block, one level and the whole tree sealed.
use Rattle.std.proofs.Common.{◌≡◌, ℕ, ◌+◌, ◌-◌, ◌*◌, ◌<◌, ◌≤◌, Bool, true, List, length, IsTrue, Option, None, refl}
use Rattle.std.proofs.Common.{sym, ◌∙◌, ap, subst, arith, ⊎_elim}
use Rattle.std.proofs.lemmas.Bool.{cases_lt}
use Rattle.sha2.specs.Sha256.{sha256}
use Rattle.save_bytes.specs.Cells.{Cell, AreBytesAt}
use Rattle.save_bytes.specs.declared.space.Bad.{Bad}
use Rattle.save_bytes.specs.State.{Shape, State}
use Rattle.save_bytes.specs.Refusals.{IfDone}
use Rattle.save_bytes.specs.Spots.{Spot}
use Rattle.save_bytes.specs.Writes.{IsWithin, Writes}
use Rattle.save_bytes.proofs.SpaceLemmas.{IfDone-map, UnlessDisk-map}
use Rattle.save_bytes.proofs.WriteLemmas.{Writes-then}
use Rattle.difi.specs.declared.descriptor.Difi.{Difi}
use Rattle.ivfc_tree.specs.declared.marks.Marks.{Marks}
use Rattle.ivfc_tree.specs.declared.state.IvfcState.{IvfcState}
use Rattle.ivfc_tree.specs.Levels.{IsLevel, level_of, HasBlock, padded_block, hash_entry}
use Rattle.ivfc_tree.specs.Marks.{mark_in, is_put, is_marked}
use Rattle.ivfc_tree.specs.View.{HasTree}
use Rattle.ivfc_tree.specs.Seals.{HasMarkedBlock, MarkedEntry, MarkedFirst, LevelSites, MasterSites, HashSites}
use Rattle.ivfc_tree.specs.Seals.{DiffersAt, CountsOn, AreDigests, SealsLevel, SealsTree}
use Rattle.ivfc_tree.proofs.EntryLemmas.{entry_in_block, entries_apart, digest_stays, padded-kept, block_inside}
use Rattle.ivfc_tree.proofs.EntryLemmas.{in_base, entry_written, DiffersAt-then}
use Rattle.ivfc_tree.proofs.SealLemmas.{digests_hash, seal_shows}

module _ (base : Shape) (difi : Difi) (master_len : ℕ) (tree : HasTree base difi master_len) (level block : ℕ)
    (there : HasBlock difi level block) where
  -- a digest was put into the entry of its block, whose bytes stay
  pub sealed_entry : (old mid new : ℕ → Cell) (master digest : List ℕ) (at : ℕ) → 1 < level
      → at ≡ (level_of difi (level - 1)).at + 32 * block → length digest ≡ 32
      → ((x : ℕ) → x < base.size → mid x ≡ old x)
      → ((x : ℕ) → x < base.size → ¬ IsWithin at (length digest) x → new x ≡ mid x)
      → digest ≡ sha256 (padded_block old difi level block) → AreBytesAt new at digest
      → hash_entry new master difi level block ≡ sha256 (padded_block new difi level block)
  sealed_entry old mid new master digest at below place long same stays is bytes =
      let kept = padded-kept base difi master_len tree old new level block there
      (λ x within.
      let inside = in_base base difi master_len tree level x there.in_tree
      (block_inside base difi master_len tree level block x there within) in
      stays x inside (λ written.
      let above = entry_in_block base difi master_len tree level level block block x there there within
      (below, (omega (arith, place, written.0), omega (arith, place, long, written.1))) in
      omega (arith, above.0)) ∙ same x inside) in
      entry_written base difi master_len tree new master digest level block below there long (rw place at bytes)
      ∙ is ∙ ap sha256 (sym kept)

module _ (base : Shape) (difi : Difi) (master_len : ℕ) (tree : HasTree base difi master_len) (marked : ℕ → ℕ → Bool)
    (level : ℕ) (now new : ℕ → Cell) (master new_master : List ℕ) where
  abbrev IsDigest : (ℕ → Cell) → List ℕ → ℕ → ℕ → Type 0
  IsDigest cells master level block =
      hash_entry cells master difi level block ≡ sha256 (padded_block cells difi level block)

  -- a block more of a level was sealed
  pub digests_more : (block : ℕ) → HasBlock difi level block
      → ((x : ℕ) → x < base.size → ¬ MarkedEntry difi marked level block x → new x ≡ now x)
      → DiffersAt (MarkedFirst difi marked level block) master new_master
      → ((number : ℕ) → number < block → HasMarkedBlock difi marked level number → IsDigest now master level number)
      → (marked level block ≡ true → IsDigest new new_master level block)
      → (number : ℕ) → number < block + 1 → HasMarkedBlock difi marked level number → IsDigest new new_master
      level number
  digests_more block there stays first before next number less here =
      ⊎_elim
      (λ (below : number < block).
      digest_stays base difi master_len tree now new master new_master (MarkedEntry difi marked level block)
      (MarkedFirst difi marked level block) stays first level number here.there
      (λ x entry (other, others). omega (arith, below, entry.1.1, others.1.0))
      (λ x entry (other, others). omega (arith, below, entry.1.1, others.1.0))
      (λ x within (other, others).
      (let above = entry_in_block base difi master_len tree level level number block x here.there there within
      others in
      omega (arith, above.0)))
      (before number below here))
      (λ (last : block ≤ number).
      let one : number ≡ block = omega arith in
      rw one (next (ap (marked level) (sym one) ∙ here.is_marked)))
      (cases_lt number block)

  -- the digests of a deeper level stay
  digests_deeper : IsLevel level → ((x : ℕ) → x < base.size → ¬ LevelSites difi marked level x → new x ≡ now x)
      → DiffersAt (MasterSites difi marked level) master new_master → (deeper : ℕ) → level < deeper
      → AreDigests now master difi marked deeper → AreDigests new new_master difi marked deeper
  digests_deeper there stays first deeper less before block here =
      digest_stays base difi master_len tree now new master new_master (LevelSites difi marked level)
      (MasterSites difi marked level) stays first deeper block here.there
      (λ x entry (number, (other, others)).
      entries_apart base difi master_len tree deeper level block number x (λ same. omega (arith, same, less))
      here.there
      other.there entry others)
      (λ x entry site. omega (arith, entry.0, there.0, less))
      (λ x within (number, (other, others)).
      (let above = entry_in_block base difi master_len tree deeper level block number x here.there other.there
      within others in
      omega (arith, above.0, less)))
      (before block here)

  -- a level more was sealed
  pub levels_more : IsLevel level → ((x : ℕ) → x < base.size → ¬ LevelSites difi marked level x → new x ≡ now x)
      → DiffersAt (MasterSites difi marked level) master new_master
      → ((deeper : ℕ) → level < deeper → AreDigests now master difi marked deeper)
      → AreDigests new new_master difi marked level → (deeper : ℕ) → level - 1 < deeper
      → AreDigests new new_master difi marked deeper
  levels_more there stays first before next deeper from =
      ⊎_elim
      (λ (below : level < deeper). digests_deeper there stays first deeper below (before deeper below))
      (λ (last : deeper ≤ level).
      let one : deeper ≡ level = omega (arith, last, from, there.0) in
      rw one next)
      (cases_lt level deeper)

-- the entries of a level in the master hash are those of level 1
pub first_sites : (difi : Difi) (marked : ℕ → ℕ → Bool) (level x : ℕ) → MasterSites difi marked level x
    → MasterSites difi marked 1 x
first_sites difi marked level x (block, (here, entry)) =
    (block, (subst (λ (n : ℕ). HasMarkedBlock difi marked n block) entry.0 here, (refl, entry.1)))

-- the same blocks are marked where only more were hashed
pub marked-counts : (s t : IvfcState) → CountsOn s t → is_marked t ≡ is_marked s
marked-counts s t counts = ap (λ (m : Marks). λ level block. is_put (mark_in m level block)) counts.marks

pub CountsOn-join : (s t u : IvfcState) → CountsOn s t → CountsOn t u → CountsOn s u
CountsOn-join s t u h k = record { marks = k.marks ∙ h.marks; counted = omega (arith, h.counted, k.counted) }

-- what a seal leaves
module _ {A : Type 0} (states : A → State) (keeps : Spot → A → A → Type 0) (lands : A → ℕ → Spot → Type 0) where
  -- a level was sealed behind others
  pub record SealsMore (difi : Difi) (marked : ℕ → ℕ → Bool) (level : ℕ) (s t u : A) (first master new_master : List ℕ)
      (refusal : Option Bad) : Type 0 where
    pub sealed : SealsLevel states keeps lands difi marked level t master u new_master refusal
    pub writes : Writes states keeps lands (HashSites difi marked) s u refusal
    pub entries : DiffersAt (MasterSites difi marked 1) first new_master

  -- its marks are those of the start, and so are its places
  pub level_sealed : ((spot : Spot) (s t u : A) → keeps spot s t → keeps spot t u → keeps spot s u) → (difi : Difi)
      (start mid : IvfcState) (level : ℕ) (s t u : A) (first master new_master : List ℕ) (refusal : Option Bad)
      → CountsOn start mid → Writes states keeps lands (HashSites difi (is_marked start)) s t None
      → DiffersAt (MasterSites difi (is_marked start) 1) first master
      → SealsLevel states keeps lands difi (is_marked mid) level t master u new_master refusal
      → SealsMore difi (is_marked start) level s t u first master new_master refusal
  level_sealed join difi start mid level s t u first master new_master refusal counts writes changes now =
      let marked = is_marked start in
      let own = subst (λ (m : ℕ → ℕ → Bool). SealsLevel states keeps lands difi m level t master u new_master refusal)
      (marked-counts start mid counts) now in
      record {
        sealed = own;
        writes = Writes-then states keeps lands join (HashSites difi marked) (LevelSites difi marked level) s t u
            refusal
            (λ told x inside site. (level, site)) writes own.writes;
        entries = DiffersAt-then (MasterSites difi marked 1) (MasterSites difi marked level) first master new_master
            (first_sites difi marked level) changes own.master_hash;
      }

  pub seals_tree : (s t : A) (difi : Difi) (marked : ℕ → ℕ → Bool) (master new_master : List ℕ) (refusal : Option Bad)
      → HasTree (states s).shape difi (length master)
      → (IsTrue (states s).told → IfDone refusal ((level : ℕ) → 0 < level → AreDigests (states t).cells
      new_master difi marked level))
      → Writes states keeps lands (HashSites difi marked) s t refusal → DiffersAt (MasterSites difi marked 1)
      master new_master
      → SealsTree states keeps lands difi marked s master t new_master refusal
  seals_tree s t difi marked master new_master refusal tree digests writes first = record {
    hashed = λ told. IfDone-map refusal (digests_hash (states t).cells new_master difi marked) (digests told);
    shown = λ told closed. UnlessDisk-map refusal
        (λ stays. seal_shows (states s).shape difi (length master) tree marked closed (states s).cells (states
        t).cells
        master new_master stays first) (writes.others told);
    writes = writes;
    master_hash = first;
  }
