-- States in which nothing was put.
use Rattle.std.proofs.Common.{◌≡◌, ℕ, ◌<◌, ◌≤◌, ◌==◌, Bool, true, false, List, get_or, replicate, cond, refl, arith}
use Rattle.std.proofs.Common.{⊎_elim}
use Rattle.std.proofs.lemmas.Bool.{cases_lt}
use Rattle.std.proofs.lemmas.List.{get_or-replicate, get_or_past, length-replicate}
use Rattle.difi.specs.declared.descriptor.Difi.{Difi}
use Rattle.ivfc_tree.specs.declared.marks.BlockMark.{BlockMark}
use Rattle.ivfc_tree.specs.declared.marks.BlockMark.TheVariants.{Unknown}
use Rattle.ivfc_tree.specs.declared.marks.Marks.{Marks}
use Rattle.ivfc_tree.specs.Marks.{mark_in, AreNew}

-- nothing is kept in a list of marks that say nothing
clear : (marks : List BlockMark) (n : ℕ) → marks ≡ replicate n Unknown → (block : ℕ)
    → get_or marks block Unknown ≡ Unknown
clear marks n are block =
    rw are
    (⊎_elim (λ (within : block < n). get_or-replicate n block Unknown Unknown within)
    (λ (past : n ≤ block). get_or_past (replicate n Unknown) block Unknown
    (omega (arith, length-replicate n Unknown, past)))
    (cases_lt block n))

either : (b : Bool) (xs ys : List BlockMark) (block : ℕ) → get_or xs block Unknown ≡ Unknown
    → get_or ys block Unknown ≡ Unknown
    → get_or (cond b xs ys) block Unknown ≡ Unknown
either true xs ys block one other = one
either false xs ys block one other = other

pub new_marks : (difi : Difi) (marks : Marks) → AreNew difi marks → (level block : ℕ)
    → mark_in marks level block ≡ Unknown
unfolding mark_in
new_marks difi marks new level block =
    either (level == 1) _ _ block (clear marks.level1.items _ new.level1 block)
    (either (level == 2) _ _ block (clear marks.level2.items _ new.level2 block)
    (either (level == 3) _ _ block (clear marks.level3.items _ new.level3 block)
    (either (level == 4) _ _ block (clear marks.level4.items _ new.level4 block) refl)))
