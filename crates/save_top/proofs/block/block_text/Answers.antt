use Rattle.std.proofs.Common.{◌≡◌, ◌++◌, ◌∙◌, List, ℕ, length, ap, append_assoc, append-nil, rules, codes}
use Rattle.std.proofs.lemmas.List.{nil_from_length}
use Rattle.std.specs.Slice.Iter.{chunks_rest}
use Rattle.save_top.specs.Texts.{triple_line}
use Rattle.save_top.proofs.Blocks.{lines_of, lines_of-nil, first_line, block_text_is}
use Rattle.save_top.proofs.block.block_text.Goals as goal

pub loop-piece-init : goal.loop-piece-init
loop-piece-init c =
    let front : c.extend_from_slice.new.self.items ≡ triple_line (codes "block ") c.args.part c.args.block (length c.args.bytes.now) = search rules in
    let rest : chunks_rest c.into_iter-piece-iterator.result ≡ c.args.bytes.now = search rules in (
      search rules,
      tt,
      search rules,
      rw (front, rest) (block_text_is c.args.part c.args.block c.args.bytes.now),
    )

pub loop-piece-preserved : goal.loop-piece-preserved
loop-piece-preserved c =
    let before = c.loop-piece.invariant in
    let steps = c.in-Some.ensures.steps in
    let piece = c.in-Some.piece.now in
    let text = c.loop-piece.text.items in
    let left = chunks_rest c.next.new.self in (
      search rules,
      tt,
      steps.0 ∙ before.2,
      ap (λ (l : List ℕ). l ++ lines_of left) c.in_ok-push_line.ensures
          ∙ append_assoc text _ _
          ∙ ap (λ (l : List ℕ). text ++ l) (first_line (chunks_rest c.loop-piece.piece-iterator) piece left steps.1.0 (rw before.2 at steps.1.1) steps.1.2)
          ∙ before.3,
    )

pub returns : goal.returns
returns c =
    let none = nil_from_length _ c.in-None.ensures.steps.1.0 in
    rw (none, lines_of-nil, append-nil) at c.loop-piece.invariant.3
