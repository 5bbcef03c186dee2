use Rattle.std.proofs.Common.{◌-◌, ◌/◌, ℕ, length, min, sym, ◌∙◌, ap, arith}
use Rattle.save_bytes.specs.Spots.{Frame}
use Rattle.page_image.specs.Spots.{SameImage}
use Rattle.page_image.proofs.DiskLemmas.{kept_disk}
use Rattle.page_image.proofs.PageLemmas.{IsClaimed, claimed, claim_touched, put_claimed}
use Rattle.page_image.proofs.PutLemmas.{puts_first}
use Rattle.page_image.proofs.RefillLemmas.{touched_held}
use Rattle.page_image.proofs.putting.put_page.Given.{Over}
use Rattle.page_image.proofs.putting.put_page.Goals.{After-settle}
use Rattle.page_image.proofs.putting.put_page.Goals as goal

same : (g : Over) (c : After-settle g)
    → SameImage (g.D.Disk.state c.args.disk.now) c.args.image.now (g.D.Disk.state c.give_up.new.disk)
    c.give_up.new.image
same g c = (c.in_ok-give_up.ensures.leaves Frame tt).0

-- the page lies in the frame that was given up
claim : (g : Over) (c : After-settle g) → IsClaimed (c.args.at / 4096) c.give_up.new.image c.settle.new.self
claim g c =
    let gave = c.in_ok-give_up.ensures in
    let frames = (same g c).frames in
    claimed c.oldest-frame.result (c.args.at / 4096) c.give_up.new.image c.settle.new.self c.settle.ensures gave.empty
    (omega (arith, c.oldest-frame.ensures))
    (let layout = c.args.image.now.layout in omega (arith, ap length gave.slots, c.requires.inside))
    (gave.apart (c.args.at / 4096) c.requires.apart)

pub touch-requires-clause-held : goal.touch-requires-clause-held
touch-requires-clause-held g c = (claim g (goal.at.touch-requires-clause-held g c).After-settle).held

pub put-requires-clause-inside : goal.put-requires-clause-inside
put-requires-clause-inside g c =
    let last = goal.at.put-requires-clause-inside g c in
    omega (
      arith,
      c.requires.fills,
      c.requires.inside,
      (same g last.After-settle).len,
      (claim g last.After-settle).same.len,
      c.touch.ensures.same.len,
    )

pub put-requires-clause-there : goal.put-requires-clause-there
put-requires-clause-there g c =
    touched_held _ _ _ c.touch.ensures (claim g (goal.at.put-requires-clause-there g c).After-settle).held

pub returns-clause-done : goal.returns-clause-done
returns-clause-done g c =
    let d = g.D.Disk.state c.args.disk.now in
    let e = g.D.Disk.state c.give_up.new.disk in
    let i = c.args.image.now in
    let j = c.give_up.new.image in
    let last = (goal.at.returns-clause-done g c).After-settle in
    let gave = c.in_ok-give_up.ensures in
    puts_first d e i j c.put.new.self c.args.at c.args.piece.now gave.leaves gave.told
    (kept_disk d e i j (same g last) c.requires.disk_of)
    (put_claimed e j c.touch.new.self c.put.new.self c.args.at c.args.piece.now
    (claim_touched (c.args.at / 4096) j c.settle.new.self c.touch.new.self (claim g last) c.touch.ensures)
    c.put.ensures c.requires.behind
    c.requires.begins (c.requires.fills ∙ ap (λ (n : ℕ). min 4096 (n - c.args.at)) (sym (same g last).len)))
    (omega (arith, c.requires.fills, c.requires.inside))
