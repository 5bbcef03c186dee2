-- What blocks come to behind a seal.
use Rattle.std.proofs.Common.{◌≡◌, ◌≢◌, ℕ, zero, suc, ◌+◌, ◌-◌, ◌*◌, ◌<◌, ◌≤◌, Bool, true, false, List, refl, sym}
use Rattle.std.proofs.Common.{◌∙◌, ap, subst, arith, ⊎_elim}
use Rattle.std.specs.Str.{bytes_eq}
use Rattle.std.proofs.lemmas.Bool.{cases_Bool, cases_eq}
use Rattle.std.proofs.lemmas.Slice.Eq.{bytes_eq-Decides}
use Rattle.sha2.specs.Sha256.{sha256}
use Rattle.save_bytes.specs.Cells.{Cell}
use Rattle.save_bytes.specs.State.{Shape}
use Rattle.difi.specs.declared.descriptor.Difi.{Difi}
use Rattle.ivfc_tree.specs.declared.path.BlockState.TheVariants.{Good}
use Rattle.ivfc_tree.specs.Levels.{IsLevel, level_of, HasBlock, padded_block, hash_entry, zero_entry, parent_of}
use Rattle.ivfc_tree.specs.Paths.{IsHashed, own_state, marked_state}
use Rattle.ivfc_tree.specs.View.{HasTree}
use Rattle.ivfc_tree.specs.ViewLaws.{parent_there, level4_size}
use Rattle.ivfc_tree.specs.Seals.{HasMarkedBlock, MarksParents, HashSites, MasterSites, DiffersAt, AreDigests}
use Rattle.ivfc_tree.specs.Seals.{HasNoZeroDigest, AreHashed, ShowsSame}
use Rattle.ivfc_tree.proofs.EntryLemmas.{apart_levels, entry_inside, entries_apart, entry_in_block, in_base}
use Rattle.ivfc_tree.proofs.EntryLemmas.{entry_stays, block_stays}

-- a hashed block is good by its entry and its bytes
pub own_good : (cells : ℕ → Cell) (master : List ℕ) (difi : Difi) (level block : ℕ) → IsHashed cells master difi
    level block
    → own_state cells master difi level block ≡ Good
own_good cells master difi level block hashed =
    let entry = hash_entry cells master difi level block in
    let digest = sha256 (padded_block cells difi level block) in
    let same : bytes_eq entry digest ≡ true = (bytes_eq-Decides entry digest).1 hashed.digest in
    let written : bytes_eq entry zero_entry ≡ false =
    ⊎_elim (λ (zeros : bytes_eq entry zero_entry ≡ true). absurd (hashed.written ((bytes_eq-Decides entry
    zero_entry).0 zeros)))
    (λ (other : bytes_eq entry zero_entry ≡ false). other) (cases_Bool (bytes_eq entry zero_entry)) in
    rw (written, same) refl

module _ (base : Shape) (difi : Difi) (master_len : ℕ) (tree : HasTree base difi master_len) (marked : ℕ → ℕ →
    Bool) where
  -- what each block comes to stays where those that aren't marked tell the same
  pub states_stay : (old new : ℕ → Cell) (master new_master : List ℕ)
      → ((level block : ℕ) → HasBlock difi level block → marked level block ≡ false
      → own_state new new_master difi level block ≡ own_state old master difi level block)
      → (level block : ℕ) → HasBlock difi level block
      → marked_state new new_master difi marked level block ≡ marked_state old master difi marked level block
  unfolding marked_state
  states_stay old new master new_master own zero block there = refl
  states_stay old new master new_master own (suc zero) block there =
      ⊎_elim
      (λ (is : marked 1 block ≡ true). rw is refl)
      (λ (isnt : marked 1 block ≡ false). rw (isnt, own 1 block there isnt) refl)
      (cases_Bool (marked 1 block))
  states_stay old new master new_master own (suc (suc level)) block there =
      let parent = parent_there base difi master_len (suc level) block tree (omega arith) there in
      ⊎_elim
      (λ (is : marked (suc (suc level)) block ≡ true). rw is refl)
      (λ (isnt : marked (suc (suc level)) block ≡ false).
      rw (
        isnt,
        own (suc (suc level)) block there isnt,
        states_stay old new master new_master own (suc level) (parent_of difi (suc level) block) parent.parent,
      ) refl)
      (cases_Bool (marked (suc (suc level)) block))

  module _ (closed : MarksParents difi marked) where
    -- where each marked block is hashed, blocks come to the same without marks
    pub states_settle : (cells : ℕ → Cell) (master : List ℕ) (still : ℕ → ℕ → Bool)
        → ((level block : ℕ) → still level block ≡ false) → AreHashed cells master difi marked → (level block : ℕ)
        → HasBlock difi level block
        → marked_state cells master difi still level block ≡ marked_state cells master difi marked level block
    unfolding marked_state
    states_settle cells master still none hashed zero block there = refl
    states_settle cells master still none hashed (suc zero) block there =
        ⊎_elim
        (λ (is : marked 1 block ≡ true).
        let good = own_good cells master difi 1 block (hashed 1 block (record { there = there; is_marked = is })) in
        rw (none 1 block, is, good) refl)
        (λ (isnt : marked 1 block ≡ false). rw (none 1 block, isnt) refl)
        (cases_Bool (marked 1 block))
    states_settle cells master still none hashed (suc (suc level)) block there =
        let parent = parent_there base difi master_len (suc level) block tree (omega arith) there in
        let above = states_settle cells master still none hashed (suc level) (parent_of difi (suc level) block)
        parent.parent in
        ⊎_elim
        (λ (is : marked (suc (suc level)) block ≡ true).
        let here : HasMarkedBlock difi marked (suc (suc level)) block = record { there = there; is_marked = is } in
        let good = own_good cells master difi (suc (suc level)) block (hashed (suc (suc level)) block here) in
        let upper = closed (suc level) block (omega arith) there is in
        rw (none (suc (suc level)) block, is, good, above, upper) refl)
        (λ (isnt : marked (suc (suc level)) block ≡ false). rw (none (suc (suc level)) block, isnt, above) refl)
        (cases_Bool (marked (suc (suc level)) block))

    module _ (old new : ℕ → Cell) (master new_master : List ℕ)
        (stays : (x : ℕ) → x < base.size → ¬ HashSites difi marked x → new x ≡ old x)
        (first : DiffersAt (MasterSites difi marked 1) master new_master) where
      -- the bytes and the entry of a block that is not marked stay
      unmarked_block : (level block : ℕ) → HasBlock difi level block → marked level block ≡ false
          → padded_block new difi level block ≡ padded_block old difi level block
      unmarked_block level block there isnt =
          block_stays base difi master_len tree old new master new_master (HashSites difi marked) (MasterSites
          difi marked 1)
          stays first level block there
          (λ x within (other, (number, (here, entry))).
          (let in_block = entry_in_block base difi master_len tree level other block number x there here.there
          within entry in
          let next : HasMarkedBlock difi marked (suc level) number =
          subst (λ (n : ℕ). HasMarkedBlock difi marked n number) in_block.0 here in
          let mark : marked level block ≡ true =
          ap (marked level) (sym in_block.1) ∙ closed level number there.in_tree.0 next.there next.is_marked in
          absurd cc))

      unmarked_entry : (level block : ℕ) → HasBlock difi level block → marked level block ≡ false
          → hash_entry new new_master difi level block ≡ hash_entry old master difi level block
      unmarked_entry level block there isnt =
          entry_stays base difi master_len tree old new master new_master (HashSites difi marked) (MasterSites
          difi marked 1)
          stays first level block there
          (λ x entry (other, (number, (here, others))).
          ⊎_elim
          (λ (same : level ≡ other).
          let is : marked level number ≡ true = ap (λ (n : ℕ). marked n number) same ∙ here.is_marked in
          let start : (level_of difi (level - 1)).at + 32 * number ≤ x = rw (← same) at others.1.0 in
          let end : x < (level_of difi (level - 1)).at + 32 * number + 32 = rw (← same) at others.1.1 in
          let one : number ≡ block = omega (arith, start, end, entry.1.0, entry.1.1) in
          let mark : marked level block ≡ true = ap (marked level) (sym one) ∙ is in
          absurd cc)
          (λ (differ : level ≢ other).
          absurd (entries_apart base difi master_len tree level other block number x differ there here.there
          entry others))
          (cases_eq level other))
          (λ x entry (number, (here, others)).
          (let one : number ≡ block = omega (arith, others.1.0, others.1.1, entry.1.0, entry.1.1) in
          let mark : marked level block ≡ true =
          ap (λ (n : ℕ). marked n block) entry.0 ∙ ap (marked 1) (sym one) ∙ here.is_marked in
          absurd cc))

      unmarked_own : (level block : ℕ) → HasBlock difi level block → marked level block ≡ false
          → own_state new new_master difi level block ≡ own_state old master difi level block
      unmarked_own level block there isnt =
          rw (unmarked_block level block there isnt, unmarked_entry level block there isnt) refl

      -- so a view shows the same
      pub seal_shows : ShowsSame difi marked old master new new_master
      seal_shows = record {
        blocks = states_stay old new master new_master unmarked_own;
        unmarked = unmarked_own;
        contents = λ x below.
            (let inside : x < (level_of difi 4).size = rw level4_size below in
            let four : IsLevel 4 = (omega arith, omega arith) in
            stays ((level_of difi 4).at + x)
            (in_base base difi master_len tree 4 ((level_of difi 4).at + x) four (omega arith, omega (arith, inside)))
            (λ (other, (number, (here, entry))).
            (let there = entry_inside base difi master_len tree other number _ here.there entry in
            apart_levels base difi tree.levels (other - 1) 4 (
              omega (arith, entry.0),
              omega (
                arith,
                here.there.in_tree.1,
              ),
            )
            four (λ same. omega (arith, same, here.there.in_tree.1, entry.0)) _ there.0 there.1 (omega arith)
            (omega (arith, inside)))));
      }

-- blocks whose entries are their digests are hashed, where none of these is 32 zero bytes
pub digests_hash : (cells : ℕ → Cell) (master : List ℕ) (difi : Difi) (marked : ℕ → ℕ → Bool)
    → ((level : ℕ) → 0 < level → AreDigests cells master difi marked level) → HasNoZeroDigest cells difi marked
    → AreHashed cells master difi marked
digests_hash cells master difi marked digests some level block here = record {
  written = λ zeros. some level block here (sym (digests level here.there.in_tree.0 block here) ∙ zeros);
  digest = digests level here.there.in_tree.0 block here;
}
