use Rattle.std.proofs.Common.{◌+◌, arith}
use Rattle.dpfs_tree.specs.Picks.{bytes_of}
use Rattle.difi.proofs.PlaceLemmas.{block_below}
use Rattle.dpfs_tree.proofs.PickLemmas.{place_of-copy}
use Rattle.dpfs_tree.specs.SameLaws.{in_copy}
use Rattle.dpfs_tree.proofs.places.level3_place.Goals as goal

pub level3_copy-requires-clause-block : goal.level3_copy-requires-clause-block
level3_copy-requires-clause-block g c = block_below c.args.at c.args.difi.now.dpfs3.size c.args.difi.now.dpfs3.log
    c.requires.inside

pub overflow_add-result : goal.overflow_add-result
overflow_add-result g c =
    let level = c.args.difi.now.dpfs3 in
    let tree = c.requires.tree in
    omega (
      arith,
      tree.small,
      c.requires.inside,
      c.copy_start.ensures,
      in_copy (c.args.part_at + level.at) level.size c.copy_read-copy.result level.size _
          c.copy_read-copy.ensures.one_of_two (omega arith) tree.level3,
    )

pub returns-in-Ok-clause-place : goal.returns-in-Ok-clause-place
returns-in-Ok-clause-place g c = λ told.
    place_of-copy (bytes_of (g.S.Space.state c.args.base.now).cells) c.args.part_at c.args.difi.now c.args.state.now
    c.args.at c.in-Ok.chosen c.copy_read-copy.result c.copy_start.result c.requires.inside
    (rw c.selector.ensures at c.in-Ok.ensures.bit told) c.copy_read-copy.ensures.copy c.copy_start.ensures

pub returns-in-Ok-clause-in_base : goal.returns-in-Ok-clause-in_base
returns-in-Ok-clause-in_base g c =
    let level = c.args.difi.now.dpfs3 in
    let tree = c.requires.tree in
    omega (
      arith,
      c.requires.inside,
      c.copy_start.ensures,
      in_copy (c.args.part_at + level.at) level.size c.copy_read-copy.result level.size _
          c.copy_read-copy.ensures.one_of_two (omega arith) tree.level3,
    )
