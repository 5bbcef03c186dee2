use Rattle.std.proofs.Common.{ℕ, ◌≤◌, List, length, get_or, take, drop, ◌++◌, ◌≡◌, ◌∙◌, sym, arith}
use Rattle.std.proofs.lemmas.List.{places, length-take-le}
use Rattle.page_image.proofs.state.put_front.Goals as goal

behind_part : (n : ℕ) (xs front : List ℕ) (k : ℕ) → n ≤ length xs → length front ≡ length (take n xs) → n ≤ k
    → get_or (front ++ drop n xs) k 0 ≡ get_or xs k 0
behind_part n xs front k fits long from = grind (arith, places)

pub copy_from_slice-requires : goal.copy_from_slice-requires
copy_from_slice-requires c = length-take-le 512 c.args.out.now c.requires ∙ sym c.told-header

pub returns-clause-behind : goal.returns-clause-behind
returns-clause-behind c = λ k from.
    behind_part 512 c.args.out.now c.copy_from_slice.new.self k c.requires c.copy_from_slice.ensures.len from
