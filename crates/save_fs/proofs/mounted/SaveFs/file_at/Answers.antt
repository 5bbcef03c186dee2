use Rattle.save_fs.proofs.NamedLemmas.{get_named}
use Rattle.std.proofs.Common.{arith}
use Rattle.save_fs.proofs.GetLemmas.{found_file, found_dir, found_nothing}
use Rattle.save_fs.proofs.mounted.SaveFs.file_at.Goals as goal

pub returns-in-Some-default-clause-found : goal.returns-in-Some-default-clause-found
returns-in-Some-default-clause-found g c told tree h =
    let s = g.S.Space.state c.args.store.now in
    found_file s.shape.size c.args.self.now s.cells tree h c.args.path.now c.in-Ok.standing
    (c.in-Ok.ensures.standing told h.reads.lists h.mount)
    (omega (arith, c.if-len-eq0.false, c.len.ensures.len)) c.in-Some-default.file c.in-Some-default.is-0

pub returns-in-None-Some-clause-found : goal.returns-in-None-Some-clause-found
returns-in-None-Some-clause-found g c told tree h =
    let s = g.S.Space.state c.args.store.now in
    found_dir s.shape.size c.args.self.now s.cells tree h c.args.path.now c.in-Ok.standing
    (c.in-Ok.ensures.standing told h.reads.lists h.mount)
    (omega (arith, c.if-len-eq0.false, c.len.ensures.len)) c.in-None-Some.is-0 c.in-None-Some.field-0-1
    c.in-None-Some.is-1

pub returns-in-None-None-clause-found : goal.returns-in-None-None-clause-found
returns-in-None-None-clause-found g c told tree h =
    let s = g.S.Space.state c.args.store.now in
    found_nothing s.shape.size c.args.self.now s.cells tree h c.args.path.now c.in-Ok.standing
    (c.in-Ok.ensures.standing told h.reads.lists h.mount)
    (omega (arith, c.if-len-eq0.false, c.len.ensures.len)) c.in-None-None.is-0 c.in-None-None.is-1

pub returns-in-Err-clause-named : goal.returns-in-Err-clause-named
returns-in-Err-clause-named g c = get_named c.in-Err.fault c.in-Err.ensures.named
