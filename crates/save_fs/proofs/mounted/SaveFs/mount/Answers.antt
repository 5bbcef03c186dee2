use Rattle.save_fs.proofs.MountLemmas.{mounted_on, some_on}
use Rattle.save_fs.proofs.mounted.SaveFs.mount.Goals as goal

pub returns-in-Ok-clause-mounted : goal.returns-in-Ok-clause-mounted
returns-in-Ok-clause-mounted g c told tree reads =
    let s = g.S.Space.state c.args.store.now in
    let found = c.in-Ok.ensures.mounted told in
    mounted_on s.shape.size c.args.split s.cells c.in-Ok.mounted found.0 found.1 tree reads

pub returns-in-Ok-clause-some_tree : goal.returns-in-Ok-clause-some_tree
returns-in-Ok-clause-some_tree g c told =
    let s = g.S.Space.state c.args.store.now in
    let found = c.in-Ok.ensures.mounted told in
    some_on s.shape.size c.args.split s.cells c.in-Ok.mounted found.0 found.1
