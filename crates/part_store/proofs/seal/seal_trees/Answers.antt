use Rattle.std.proofs.Common.{◌≡◌, ◌+◌, ◌-◌, arith, rules}
use Rattle.part_store.proofs.SealLemmas.{seals_trees, seals_master}
use Rattle.part_store.proofs.seal.seal_trees.Goals as goal

pub returns-clause-trees : goal.returns-clause-trees
returns-clause-trees g c =
    let space = g.S.Space in
    let laws = g.met.S.Space in
    let holds = c.new-contents.ensures.holds in
    let part = c.args.part.now in
    let start = part.difi.place + part.difi.master.at in
    let size : start + part.difi.master.size - start ≡ part.difi.master.size = omega arith in
    let end : _ ≡ c.seal_contents.new.contents.base.now = search rules in
    seals_trees space.state space.keeps space.lands laws.size_fits laws.plain_bytes laws.keeps_join laws.keeps_shape
    c.args.base.now
    c.args.part.now c.args.table.now c.requires c.new-contents.result c.seal_contents.new.contents
    c.seal_contents.new.state
    c.seal_contents.new.master _ holds.base_now holds.same_place holds.same_difi holds.state_now size
    c.seal_contents.result c.seal_contents.ensures _ end

pub returns-clause-master : goal.returns-clause-master
returns-clause-master g c =
    let space = g.S.Space in
    let laws = g.met.S.Space in
    let holds = c.new-contents.ensures.holds in
    seals_master space.state space.keeps space.lands laws.size_fits laws.plain_bytes laws.keeps_join laws.keeps_shape
    c.args.base.now
    c.args.part.now c.args.table.now c.requires c.new-contents.result c.seal_contents.new.contents
    c.seal_contents.new.state
    c.seal_contents.new.master _ holds.base_now holds.same_place holds.same_difi holds.state_now (omega arith)
    c.seal_contents.result c.seal_contents.ensures
