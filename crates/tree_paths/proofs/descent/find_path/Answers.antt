use Rattle.std.proofs.Common.{◌≡◌, ℕ, Option, Err, arith, length}
use Rattle.save_bytes.proofs.CallLemmas.{Reads-same, reads_then}
use Rattle.entry_tables.specs.declared.table.EntryKind.TheVariants.{Dir, File}
use Rattle.entry_tables.specs.Tables.{tables_in, info_of}
use Rattle.entry_tables.proofs.StayLemmas.{HasEntryTable-stays}
use Rattle.tree_paths.specs.declared.descent.Standing.{Standing}
use Rattle.tree_paths.proofs.DescentLemmas.{descended_none, descended_more, descended_root, descended_all}
use Rattle.tree_paths.proofs.CauseLemmas.{reads_passed, lists_of, path_exact, found_before, cause_before}
use Rattle.tree_paths.proofs.descent.find_path.Goals as goal

pub loop-i-init : goal.loop-i-init
loop-i-init g c = record {
  reads = Reads-same g.S.Space.state g.S.Space.keeps g.S.Space.lands g.met.S.Space.keeps_same c.args.space.now;
  descended = λ tells orderly.
      descended_none (tables_in (g.S.Space.state c.args.space.now).cells c.args.dirs c.args.files) orderly
      ((tells.tells Dir).least (tells.known Dir));
}

pub find_child-requires : goal.find_child-requires
find_child-requires g c = λ kind.
    HasEntryTable-stays (g.S.Space.state c.args.space.now) (g.S.Space.state c.loop-i.space)
    c.loop-i.invariant.reads.stays kind (info_of c.args.dirs c.args.files kind) (c.requires kind)

pub returns-in-Err-clause-exact : goal.returns-in-Err-clause-exact
returns-in-Err-clause-exact g c = λ tells orderly bytes.
    let s = g.S.Space.state c.args.space.now in
    path_exact {A = Standing} s c.args.dirs c.args.files (Err c.in-Err.fault) tells orderly bytes
    (cause_before s (g.S.Space.state c.loop-i.space) c.loop-i.invariant.reads.stays c.args.dirs c.args.files c.requires
    c.in-Err.fault c.in-Err.ensures.cause)

pub returns-in-Err-clause-cause : goal.returns-in-Err-clause-cause
returns-in-Err-clause-cause g c =
    cause_before (g.S.Space.state c.args.space.now) (g.S.Space.state c.loop-i.space) c.loop-i.invariant.reads.stays
    c.args.dirs c.args.files c.requires c.in-Err.fault c.in-Err.ensures.cause

pub returns-in-Err-clause-reads : goal.returns-in-Err-clause-reads
returns-in-Err-clause-reads g c =
    reads_passed (Option ℕ) Standing c.in-Err.fault
    (reads_then g.met.S.Space.keeps_join c.loop-i.invariant.reads c.in-Err.ensures.reads)

pub loop-i-preserved : goal.loop-i-preserved
loop-i-preserved g c = record {
  reads = reads_then g.met.S.Space.keeps_join c.loop-i.invariant.reads c.in-Ok.ensures.reads;
  descended = λ tells orderly.
      (let s = g.S.Space.state c.args.space.now in
      let t = tables_in s.cells c.args.dirs c.args.files in
      let before = c.loop-i.invariant in
      let name = c.name-name.result.0 in
      let found = c.in-Ok.found in
      descended_more t orderly c.args.path.now c.loop-i.i name c.loop-i.parent c.loop-i.dir found
      c.name-name.ensures.name (before.descended tells orderly)
      (found_before s (g.S.Space.state c.loop-i.space) before.reads.stays c.args.dirs c.args.files c.requires tells Dir
      c.loop-i.dir name found (lists_of t orderly) c.in-Ok.ensures.found));
}

pub returns-then-count-eq0-clause-standing : goal.returns-then-count-eq0-clause-standing
returns-then-count-eq0-clause-standing g c = λ tells orderly.
    let t = tables_in (g.S.Space.state c.args.space.now).cells c.args.dirs c.args.files in
    let end : c.loop-i.i ≡ length c.args.path.now =
    omega (arith, c.len-count.ensures.len, c.loop-i-test.false, c.loop-i.auto.i-end) in
    descended_root t orderly c.args.path.now c.loop-i.i c.loop-i.parent c.loop-i.dir end
    (omega (arith, end, c.len-count.ensures.len, c.if-count-eq0.true)) (c.loop-i.invariant.descended tells orderly)

pub find_child-requires-2 : goal.find_child-requires-2
find_child-requires-2 g c = λ kind.
    HasEntryTable-stays (g.S.Space.state c.args.space.now) (g.S.Space.state c.loop-i.space)
    c.loop-i.invariant.reads.stays kind (info_of c.args.dirs c.args.files kind) (c.requires kind)

pub returns-in-Err-find_child-clause-exact : goal.returns-in-Err-find_child-clause-exact
returns-in-Err-find_child-clause-exact g c = λ tells orderly bytes.
    let s = g.S.Space.state c.args.space.now in
    path_exact {A = Standing} s c.args.dirs c.args.files (Err c.in-Err-find_child.fault) tells orderly bytes
    (cause_before s (g.S.Space.state c.loop-i.space) c.loop-i.invariant.reads.stays c.args.dirs c.args.files c.requires
    c.in-Err-find_child.fault c.in-Err-find_child.ensures.cause)

pub returns-in-Err-find_child-clause-cause : goal.returns-in-Err-find_child-clause-cause
returns-in-Err-find_child-clause-cause g c =
    cause_before (g.S.Space.state c.args.space.now) (g.S.Space.state c.loop-i.space) c.loop-i.invariant.reads.stays
    c.args.dirs c.args.files c.requires c.in-Err-find_child.fault c.in-Err-find_child.ensures.cause

pub returns-in-Err-find_child-clause-reads : goal.returns-in-Err-find_child-clause-reads
returns-in-Err-find_child-clause-reads g c =
    reads_passed (Option ℕ) Standing c.in-Err-find_child.fault
    (reads_then g.met.S.Space.keeps_join c.loop-i.invariant.reads c.in-Err-find_child.ensures.reads)

pub returns-clause-standing : goal.returns-clause-standing
returns-clause-standing g c = λ tells orderly.
    let s = g.S.Space.state c.args.space.now in
    let t = tables_in s.cells c.args.dirs c.args.files in
    let count = c.len-count.result in
    let end : c.loop-i.i ≡ count = omega (arith, c.loop-i-test.false, c.loop-i.auto.i-end) in
    let before = c.loop-i.invariant in
    let last = c.name-last.result.0 in
    let found = c.in-Ok-find_child.found in
    descended_all t orderly c.args.path.now c.loop-i.i count last c.loop-i.parent c.loop-i.dir found end
    c.len-count.ensures.len c.name-last.ensures.name (before.descended tells orderly)
    (found_before s (g.S.Space.state c.loop-i.space) before.reads.stays c.args.dirs c.args.files c.requires tells File
    c.loop-i.parent last found (lists_of t orderly) c.in-Ok-find_child.ensures.found)
