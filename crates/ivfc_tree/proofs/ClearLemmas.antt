-- A block of level four that became zero below a path that was made ready.
use Rattle.std.proofs.Common.{◌≡◌, ◌≢◌, ◌⊎◌, ℕ, suc, ◌+◌, ◌*◌, ◌/◌, ◌<◌, ◌≤◌, true, false, Result, Ok, Err, MatchResult}
use Rattle.std.proofs.Common.{List, length, replicate, get_or, refl, sym, ◌∙◌}
use Rattle.std.proofs.Common.{ap, subst, arith, inl, inr, ⊎_elim}
use Rattle.std.proofs.lemmas.Bool.{cases_eq}
use Rattle.std.proofs.lemmas.List.{get_or-replicate, length-replicate}
use Rattle.std.proofs.lemmas.Nat.{pow_pos}
use Rattle.save_bytes.specs.declared.space.Bad.{Bad}
use Rattle.save_bytes.specs.Cells.{Cell}
use Rattle.save_bytes.specs.State.{State}
use Rattle.save_bytes.specs.Writes.{IsWithin}
use Rattle.save_bytes.specs.Puts.{HasPut}
use Rattle.difi.specs.declared.descriptor.Difi.{Difi}
use Rattle.difi.specs.Places.{block_size}
use Rattle.difi.proofs.PlaceLemmas.{block_begins}
use Rattle.ivfc_tree.specs.declared.marks.BlockMark.TheVariants.{Put}
use Rattle.ivfc_tree.specs.declared.state.IvfcState.{IvfcState}
use Rattle.ivfc_tree.specs.Levels.{IsLevel, level_of, HasBlock, parent_of}
use Rattle.ivfc_tree.specs.Marks.{mark_at, is_put, is_marked, MarksBlock}
use Rattle.ivfc_tree.specs.Paths.{block_above}
use Rattle.ivfc_tree.specs.Known.{HasMarkedParents}
use Rattle.ivfc_tree.specs.View.{HasTree, view_state, cell_of}
use Rattle.ivfc_tree.specs.ViewLaws.{level4_size, level4_log}
use Rattle.ivfc_tree.specs.Eases.{MeetsBlock, marked_cell, MarksOne, ZeroesBlock}
use Rattle.ivfc_tree.specs.Readies.{IsInPath, contents_len, MarksWithin, ReadiesPath, PutsContents}
use Rattle.ivfc_tree.proofs.ByteLemmas.{in_block_from, block_from}
use Rattle.ivfc_tree.proofs.ZeroLemmas.{level_byte, block_byte}
use Rattle.ivfc_tree.proofs.FillLemmas.{marks_one}
use Rattle.ivfc_tree.proofs.OriginLemmas.{CameFrom-more}
use Rattle.ivfc_tree.proofs.PathLemmas.{block_above-here}
use Rattle.ivfc_tree.proofs.NameLemmas.{block_above-parent}
use Rattle.ivfc_tree.proofs.ReadyLemmas.{marks_grow, StaysUnder-same}
use Rattle.ivfc_tree.proofs.WrittenLemmas.{state_kept, written_more, written_cell, kept_cell, eased_put}
use Rattle.ivfc_tree.proofs.StartLemmas.{remembers_after}

module _ (base : State) (difi : Difi) (master : List ℕ) (tree : HasTree base.shape difi (length master)) (block : ℕ)
    (there : HasBlock difi 4 block) (mid new : ℕ → Cell) (was then_state now : IvfcState)
    (path : ReadiesPath master difi block 3 base.cells was mid then_state)
    (zeroed : ZeroesBlock base.shape.size difi 4 block mid new) (marks : MarksBlock 4 block then_state now) where
  abbrev size : ℕ
  size = block_size difi.ivfc4

  abbrev begin : ℕ
  begin = block * size

  abbrev zeros : List ℕ
  zeros = replicate (contents_len difi block) 0

  one_marked : MarksOne 4 block (is_marked then_state) (is_marked now)
  one_marked = marks_one 4 block then_state now marks

  begins : begin < difi.ivfc4.size
  begins = block_begins block difi.ivfc4.size difi.ivfc4.log (rw (level4_size, level4_log) at there.in_level)

  long : length zeros ≡ contents_len difi block
  long = length-replicate {A = ℕ} (contents_len difi block) 0

  fits : begin + length zeros ≤ difi.ivfc4.size
  fits = omega (arith, long, begins)

  -- the places of the block are those of the range
  in_range : (x : ℕ) → x < difi.ivfc4.size → x / size ≡ block → IsWithin begin (length zeros) x
  in_range x below is =
      let range = in_block_from x block size (pow_pos difi.ivfc4.log) is in
      (range.0, omega (arith, range.0, range.1, long, below))

  of_range : (x : ℕ) → IsWithin begin (length zeros) x → x / size ≡ block
  of_range x within = block_from x block size within.0 (omega (arith, within.1, long))

  met : MeetsBlock difi begin (length zeros) block
  met =
      let some : 0 < length zeros = omega (arith, long, begins, pow_pos difi.ivfc4.log) in
      (0, some, sym (of_range (begin + 0) (omega arith, omega (arith, some))))

  upper_stays : (level y : ℕ) → IsLevel level → level < 4 → y < (level_of difi level).size
      → new ((level_of difi level).at + y) ≡ mid ((level_of difi level).at + y)
  upper_stays level y here above inside =
      level_byte base.shape difi master tree 4 block there mid new zeroed level y here inside
      (λ last. absurd (omega (arith, last, above)))

  contents_stay : (x : ℕ) → x < difi.ivfc4.size → x / size ≢ block → new ((level_of difi 4).at + x) ≡ mid
      ((level_of difi 4).at + x)
  contents_stay x below apart =
      level_byte base.shape difi master tree 4 block there mid new zeroed 4 x (omega arith, omega arith)
      (rw level4_size below)
      (λ _. rw level4_log apart)

  free_stays : (x : ℕ) → x < difi.ivfc4.size → is_marked now 4 (x / size) ≡ false
      → new ((level_of difi 4).at + x) ≡ mid ((level_of difi 4).at + x)
  free_stays x below free =
      contents_stay x below (λ is. (let here = one_marked.here in
      let freed : is_marked now 4 block ≡ false = subst (λ (b : ℕ). is_marked now 4 b ≡ false) is free in cc))

  upper_marks : (level other : ℕ) → level < 4 → is_marked now level other ≡ is_marked then_state level other
  upper_marks level other above = one_marked.others level other (λ last. absurd (omega (arith, last, above)))

  grows : (level other : ℕ) → is_marked then_state level other ≡ true → is_marked now level other ≡ true
  grows = marks_grow 4 block (is_marked then_state) (is_marked now) one_marked

  cleared_put : (part : ℕ) → HasPut (view_state base part master difi was) begin zeros
      (cell_of new part master difi now)
  cleared_put part =
      eased_put difi (view_state base part master difi was) begin zeros
      (marked_cell mid part master difi (is_marked then_state))
      (marked_cell new part master difi (is_marked now)) refl (λ x. refl) (λ x. refl) fits
      ((path.prepares begin (length zeros) fits met).eases part)
      (λ k less.
      (let below : begin + k < difi.ivfc4.size = omega (arith, less, fits) in
      let of = of_range (begin + k) (omega arith, omega (arith, less)) in
      let zero : ℕ = 0 in
      let byte = block_byte base.shape difi master tree 4 block there mid new zeroed (begin + k)
      (rw level4_size below) (rw level4_log of) in
      let value : get_or zeros k 0 ≡ 0 = get_or-replicate {A = ℕ} (contents_len difi block) k zero zero
      (omega (arith, less, long)) in
      rw value (written_cell base.shape difi master tree mid new (is_marked then_state) (is_marked now) upper_stays
      free_stays upper_marks grows
      part (begin + k) below 0 (rw of one_marked.here) byte)))
      (λ x below out.
      (let apart : x / size ≢ block = λ is. out (in_range x below is) in
      kept_cell base.shape difi master tree mid new (is_marked then_state) (is_marked now) upper_stays free_stays
      upper_marks grows
      part x below (λ is. sym (one_marked.others 4 (x / size) (λ _. apart)) ∙ is) (contents_stay x below apart)))
      (λ x below (k, less, is) out. absurd (out (in_range x below (is ∙ of_range (begin + k)
      (omega arith, omega (arith, less))))))

  closed : HasMarkedParents difi now
  closed upper other some here is =
      let elsewhere : (suc upper ≡ 4 → other ≢ block) → is_marked now upper (parent_of difi upper other) ≡ true =
      λ apart. grows upper (parent_of difi upper other)
      (path.remembers.closed upper other some here (sym (one_marked.others (suc upper) other apart) ∙ is)) in
      ⊎_elim
      (λ (last : suc upper ≡ 4).
      ⊎_elim
      (λ (same : other ≡ block).
      (let three : upper ≡ 3 = omega (arith, last) in
      let up : parent_of difi 3 block ≡ block_above difi 4 block 3 =
      ap (λ (b : ℕ). parent_of difi 3 b) (sym (block_above-here difi 3 block)) ∙ block_above-parent difi 4 block 3
      (omega arith) (omega arith) in
      let marked = grows 3 (block_above difi 4 block 3) (path.marked 3 (omega arith) (omega arith)) in
      rw (three, same, up) marked))
      (λ (apart : other ≢ block). elsewhere (λ _. apart))
      (cases_eq other block))
      (λ (above : suc upper ≢ 4). elsewhere (λ last. absurd (above last)))
      (cases_eq (suc upper) 4)

  put_or_same : (level other : ℕ) → (mark_at now level other ≡ mark_at then_state level other)
      ⊎ (mark_at now level other ≡ Put)
  put_or_same level other =
      ⊎_elim
      (λ (last : level ≡ 4).
      ⊎_elim
      (λ (same : other ≡ block).
      inr (ap (λ (m : ℕ). mark_at now m other) last ∙ ap (λ (b : ℕ). mark_at now 4 b) same ∙ marks.0.here))
      (λ (apart : other ≢ block). inl (marks.0.others level other (λ _. apart)))
      (cases_eq other block))
      (λ (above : level ≢ 4). inl (marks.0.others level other (λ last. absurd (above last))))
      (cases_eq level 4)

  -- it makes a put of zeros of the view
  pub clears_contents : PutsContents base master difi was begin zeros new now
  clears_contents = record {
    put = cleared_put;
    remembers = remembers_after master difi mid new then_state now closed put_or_same
        (λ level other here free. StaysUnder-same level _ _
        (state_kept base.shape difi master tree mid new (is_marked then_state) (is_marked now) upper_stays free_stays
        upper_marks grows
        level other (λ _. here) (λ last. free))) path.remembers;
    origins = λ was_cells was_master came.
        CameFrom-more base.shape difi (length master) tree (is_marked then_state) was_cells mid was_master master
        ((path.prepares begin (length zeros) fits met).origins was_cells was_master came) (is_marked now) new master
        (written_more base.shape difi master tree mid new (is_marked then_state) (is_marked now) upper_stays
        free_stays upper_marks grows);
  }

-- what the call that marks it leaves of the marks
pub marks_cleared : (difi : Difi) (block : ℕ) (was then_state now : IvfcState) (result : Result (Unit {0}) Bad)
    → MatchResult result (λ done. MarksBlock 4 block then_state now) (λ bad. now ≡ then_state)
    → MarksWithin (IsInPath difi block) was then_state → MarksWithin (IsInPath difi block) was now
marks_cleared difi block was then_state now (Ok done) marks before = record {
  many = λ level. marks.0.many level ∙ before.many level;
  others = λ level other here apart.
      ap is_put (marks.0.others level other (λ last is. apart
      (is ∙ sym (block_above-here difi 3 block) ∙ ap (λ (m : ℕ). block_above difi 4 block m) (sym last))))
      ∙ before.others level other here apart;
}
marks_cleared difi block was then_state now (Err bad) same before = subst
    (λ (s : IvfcState). MarksWithin (IsInPath difi block) was s) (sym same) before
