use Rattle.std.proofs.Common.{◌≡◌, ◌+◌, ◌*◌, ◌≤◌, ℕ, List, length, take, drop, sym, subst, arith}
use Rattle.std.proofs.lemmas.List.{places, length-take-le}
use Rattle.save_bytes.proofs.CallLemmas.{reads_then}
use Rattle.chain_nodes.specs.declared.info.ChainInfo.{ChainInfo}
use Rattle.chain_nodes.specs.Table.{table_in}
use Rattle.file_reader.specs.Contents.{contents_in}
use Rattle.file_reader.specs.Reading.{IsReadingAt}
use Rattle.save_bytes.specs.Answers.{IsFirstFault}
use Rattle.file_reader.proofs.PlaceLemmas.{StayContents, run_read, run_fault, fault_stays, err_whole, bad_damaged}
use Rattle.file_reader.proofs.piece.copy_run.Goals.{After-space_copy}
use Rattle.file_reader.proofs.piece.copy_run.Goals as goal

pub returns-in-Err-clause-piece : goal.returns-in-Err-clause-piece
returns-in-Err-clause-piece g c = λ told start size list x at.
    err_whole c.in-Err.fault _ _ _
    (c.in-Err.ensures.taken told start size list x at (omega (arith, at.left, c.requires.some, c.requires.within)))

pub returns-in-Ok-space_copy-clause-piece : goal.returns-in-Ok-space_copy-clause-piece
returns-in-Ok-space_copy-clause-piece g c = λ told start size list x at.
    let reading = c.args.reading.now in
    let next = c.in-Ok.next in
    let old = g.S.Space.state c.args.store.now in
    let new = g.S.Space.state c.with_bytes.new.store in
    let table = table_in old.cells reading.info in
    let stays = c.in-Ok.ensures.reads.stays in
    let there : IsReadingAt table start size list x next =
    c.in-Ok.ensures.taken told start size list x at (omega (arith, at.left, c.requires.some, c.requires.within)) in
    run_read table start size list x c.min-n.result old.cells new.cells next c.behind.result c.space_copy.new.out
    (drop c.min-n.result c.args.out.now) there (grind arith) (grind arith)
    (record {
      info = c.behind.ensures.info;
      cursor = c.behind.ensures.cursor;
      at = c.behind.ensures.at;
      run = c.behind.ensures.run;
      left = c.behind.ensures.left;
    })
    (record {
      contents = there.contents;
      space = old.shape.size;
      inside = subst (λ (info : ChainInfo). info.region_at + info.count * info.block ≤ old.shape.size)
          (sym c.in-Ok.ensures.info) c.requires.table.region;
      same = stays.cells told;
    })
    (grind (arith, places))
    (c.in-Ok-space_copy.ensures.bytes (stays.space.told told))

pub returns-in-Ok-space_copy-clause-reads : goal.returns-in-Ok-space_copy-clause-reads
returns-in-Ok-space_copy-clause-reads g c =
    reads_then g.met.S.Space.keeps_join c.in-Ok.ensures.reads c.in-Ok-space_copy.ensures.reads

pub returns-in-Err-space_copy-clause-piece : goal.returns-in-Err-space_copy-clause-piece
returns-in-Err-space_copy-clause-piece g c = λ told start size list x at.
    let reading = c.args.reading.now in
    let next = c.in-Ok.next in
    let old = g.S.Space.state c.args.store.now in
    let new = g.S.Space.state c.with_bytes.new.store in
    let table = table_in old.cells reading.info in
    let stays = c.in-Ok.ensures.reads.stays in
    let there : IsReadingAt table start size list x next =
    c.in-Ok.ensures.taken told start size list x at (omega (arith, at.left, c.requires.some, c.requires.within)) in
    let stay : StayContents table next.info start size list old.cells new.cells = record {
      contents = there.contents;
      space = old.shape.size;
      inside = subst (λ (info : ChainInfo). info.region_at + info.count * info.block ≤ old.shape.size)
          (sym c.in-Ok.ensures.info) c.requires.table.region;
      same = stays.cells told;
    } in
    let front : List ℕ = take c.min-n.result c.args.out.now in
    let inside : c.min-n.result ≤ length c.args.out.now = grind arith in
    let in_run : c.min-n.result ≤ next.run = grind arith in
    let long : length front ≡ c.min-n.result = length-take-le c.min-n.result c.args.out.now inside in
    bad_damaged c.in-Err-space_copy.bad _ (IsFirstFault new.cells next.at (length front)) _
    (λ part level block found. subst (λ (info : ChainInfo). IsFirstFault (contents_in info list old.cells) x
    (length c.args.out.now) part level block) c.in-Ok.ensures.info
    (fault_stays stay x (length c.args.out.now) part level block (omega (arith, at.left, c.requires.within))
    (run_fault next.info list new.cells x next.at next.run there.run (length front)
    (length c.args.out.now) part level block
    (omega (arith, long, in_run)) (omega (arith, long, inside))
    found)))
    (c.in-Err-space_copy.ensures.read.damaged (stays.space.told told))

pub returns-in-Err-space_copy-clause-reads : goal.returns-in-Err-space_copy-clause-reads
returns-in-Err-space_copy-clause-reads g c =
    reads_then g.met.S.Space.keeps_join c.in-Ok.ensures.reads c.in-Err-space_copy.ensures.reads
