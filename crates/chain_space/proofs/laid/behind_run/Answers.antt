use Rattle.chain_space.specs.Laid.{extra_of}
use Rattle.chain_space.proofs.LaidLemmas.{some_bytes, number_inside, behind_run}
use Rattle.chain_space.proofs.laid.behind_run.Goals as goal

pub nonzero_div-at : goal.nonzero_div-at
nonzero_div-at c =
    some_bytes (extra_of c.args.region_at c.args.block c.args.blocks.now) c.args.size c.args.at c.requires.lie
    c.requires.behind c.requires.inside

pub nonzero_rem-skipped : goal.nonzero_rem-skipped
nonzero_rem-skipped c =
    some_bytes (extra_of c.args.region_at c.args.block c.args.blocks.now) c.args.size c.args.at c.requires.lie
    c.requires.behind c.requires.inside

pub bounds-blocks-at : goal.bounds-blocks-at
bounds-blocks-at c =
    number_inside (extra_of c.args.region_at c.args.block c.args.blocks.now) c.args.size c.args.at c.requires.lie
    c.requires.behind c.requires.inside

pub returns : goal.returns
returns c =
    rw (c.from-number.ensures, c.min.ensures)
    (behind_run (extra_of c.args.region_at c.args.block c.args.blocks.now) c.args.size c.args.at c.requires.lie
    c.requires.behind c.requires.inside c.args.most c.requires.some)
