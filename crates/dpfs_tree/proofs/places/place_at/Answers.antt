use Rattle.std.proofs.Common.{ℕ, ◌+◌, ◌-◌, ◌≤◌, arith}
use Rattle.dpfs_tree.specs.Picks.{bytes_of}
use Rattle.dpfs_tree.specs.SameLaws.{behind_level3}
use Rattle.dpfs_tree.proofs.PickLemmas.{place_of-external, run_of-is}
use Rattle.save_bytes.proofs.CallLemmas.{IfOk-map}
use Rattle.dpfs_tree.proofs.places.place_at.Goals as goal

pub returns-then-at-difi-clause-place : goal.returns-then-at-difi-clause-place
returns-then-at-difi-clause-place g c = λ told.
    place_of-external (bytes_of (g.S.Space.state c.args.base.now).cells) c.args.part_at c.args.difi.now c.args.state.now
    c.args.at c.if-at-difi.true

pub returns-then-at-difi-clause-in_base : goal.returns-then-at-difi-clause-in_base
returns-then-at-difi-clause-in_base g c =
    let external = behind_level3 c.args.difi.now c.args.at c.if-at-difi.true c.requires.inside in
    let run = run_of-is c.args.difi.now c.args.at c.requires.inside in
    omega (arith, external.1, run.in_view, c.requires.tree.external external.0)

pub returns-clause-in_base : goal.returns-clause-in_base
returns-clause-in_base g c =
    let run = run_of-is c.args.difi.now c.args.at c.requires.inside in
    IfOk-map c.level3_place.result
    (λ (place : ℕ). λ (h : place + (c.args.difi.now.dpfs3.size - c.args.at) ≤ (g.S.Space.state
    c.args.base.now).shape.size). omega (arith, h, run.in_level3 c.if-at-difi.false)) c.level3_place.ensures.in_base
