use Rattle.page_image.proofs.RefillLemmas.{refilled_read, refilled_settled, settled_held}
use Rattle.page_image.proofs.fetching.fetch.Goals as goal

pub returns-in_err-read_page-clause-refilled : goal.returns-in_err-read_page-clause-refilled
returns-in_err-read_page-clause-refilled g c =
    refilled_read c.args.frame c.args.image.now c.read_page.new.image c.read_page.ensures.frame c.requires.empty
    (g.D.Disk.state c.args.disk.now)

pub returns-clause-refilled : goal.returns-clause-refilled
returns-clause-refilled g c =
    refilled_settled c.args.frame c.args.image.now c.read_page.new.image c.in_ok-read_page.ensures.frame
    c.requires.empty
    c.args.page c.settle.new.self c.settle.ensures c.requires.frame c.requires.page c.requires.apart
    (g.D.Disk.state c.args.disk.now)
    c.in_ok-read_page.ensures.read

pub returns-clause-held : goal.returns-clause-held
returns-clause-held g c =
    settled_held c.args.frame c.args.image.now c.read_page.new.image c.in_ok-read_page.ensures.frame c.requires.empty
    c.args.page c.settle.new.self c.settle.ensures c.requires.frame c.requires.page c.requires.apart
