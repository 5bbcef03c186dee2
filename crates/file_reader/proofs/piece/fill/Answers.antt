use Rattle.std.proofs.Common.{◌≡◌, ◌+◌, ◌-◌, ◌*◌, ◌≤◌, ℕ, List, length, take, drop, length-drop, length-take, IsTrue}
use Rattle.std.proofs.Common.{sym, ◌∙◌, ap, subst, arith}
use Rattle.std.proofs.lemmas.List.{places}
use Rattle.save_bytes.specs.Cells.{Cell, IsByte}
use Rattle.save_bytes.specs.Answers.{IsFirstFault}
use Rattle.std.proofs.Common.{◌<◌}
use Rattle.save_bytes.proofs.CallLemmas.{reads_then}
use Rattle.chain_nodes.specs.declared.info.ChainInfo.{ChainInfo}
use Rattle.chain_nodes.specs.Table.{table_in}
use Rattle.chain_nodes.proofs.TableLemmas.{table_stays}
use Rattle.file_reader.specs.Contents.{contents_in}
use Rattle.file_reader.specs.Reading.{IsReadingAt, IsPieceRead}
use Rattle.file_reader.proofs.PlaceLemmas.{StayContents, pieces_join, piece_whole, piece_bytes, fault_behind}
use Rattle.file_reader.proofs.PlaceLemmas.{fault_stays}
use Rattle.file_reader.proofs.PlaceLemmas.{err_damaged}
use Rattle.file_reader.proofs.piece.fill.Given.{Over}
use Rattle.file_reader.proofs.piece.fill.Goals.{After-copy_run}
use Rattle.file_reader.proofs.piece.fill.Goals as goal

-- the table is as it was
table_now : (g : Over) (c : After-copy_run g) → IsTrue (g.S.Space.state c.args.store.now).told
    → table_in (g.S.Space.state c.loop-done.store).cells c.loop-done.reading.info
    ≡ table_in (g.S.Space.state c.args.store.now).cells c.args.reading.now.info
table_now g c told =
    ap (table_in (g.S.Space.state c.loop-done.store).cells) c.loop-done.invariant.info
    ∙ table_stays (g.S.Space.state c.args.store.now) (g.S.Space.state c.loop-done.store) c.args.reading.now.info
    c.requires.table c.loop-done.invariant.reads.stays told

-- and so are the cells of the contents
stay_now : (g : Over) (c : After-copy_run g) (start size : ℕ) (list : List ℕ) (x : ℕ)
    → IsTrue (g.S.Space.state c.args.store.now).told
    → IsReadingAt (table_in (g.S.Space.state c.args.store.now).cells c.args.reading.now.info) start size list x
    c.loop-done.reading
    → StayContents (table_in (g.S.Space.state c.args.store.now).cells c.args.reading.now.info)
    c.loop-done.reading.info start size list
    (g.S.Space.state c.args.store.now).cells (g.S.Space.state c.loop-done.store).cells
stay_now g c start size list x told at = record {
  contents = at.contents;
  space = (g.S.Space.state c.args.store.now).shape.size;
  inside = subst (λ (info : ChainInfo). info.region_at + info.count * info.block
      ≤ (g.S.Space.state c.args.store.now).shape.size)
      (sym c.loop-done.invariant.info) c.requires.table.region;
  same = c.loop-done.invariant.reads.stays.cells told;
}

pub loop-done-preserved : goal.loop-done-preserved
loop-done-preserved g c =
    let before = c.loop-done.invariant in
    let out = c.loop-done.out in
    let part = c.copy_run.new.out in
    let long : length part ≡ length out - c.loop-done.done = grind (arith, places) in
    let some : c.in-Ok.n ≤ length part = grind (arith, places) in
    record {
      within = grind (arith, places);
      info = c.in-Ok.ensures.info ∙ before.info;
      left = omega (arith, c.in-Ok.ensures.left, before.left);
      piece = λ told start size list x at.
          (let old = g.S.Space.state c.args.store.now in
          let now = g.S.Space.state c.loop-done.store in
          let table = table_in old.cells c.args.reading.now.info in
          let same = table_now g (goal.at.loop-done-preserved g c).After-copy_run told in
          let front = before.piece told start size list x at in
          let y : ℕ = x + c.loop-done.done in
          let behind = c.in-Ok.ensures.piece (before.reads.stays.space.told told) start size list y
          (subst (λ (t : ℕ → ℕ → Cell). IsReadingAt t start size list y c.loop-done.reading)
          (sym same) front.stands) in
          pieces_join table start size list x c.loop-done.done c.in-Ok.n old.cells now.cells c.loop-done.reading
          c.copy_run.new.reading out part c.in-Ok.ensures.info front
          (subst (λ (t : ℕ → ℕ → Cell). IsPieceRead t now.cells start size list y c.in-Ok.n (take c.in-Ok.n part)
          c.copy_run.new.reading) same behind)
          (stay_now g (goal.at.loop-done-preserved g c).After-copy_run start size list y told front.stands)
          long before.within some);
      reads = reads_then g.met.S.Space.keeps_join before.reads c.in-Ok.ensures.reads;
    }

pub returns-in-Err-clause-piece : goal.returns-in-Err-clause-piece
returns-in-Err-clause-piece g c = λ told start size list x at.
    let here = (goal.at.returns-in-Err-clause-piece g c).After-copy_run in
    let before = c.loop-done.invariant in
    let old = g.S.Space.state c.args.store.now in
    let now = g.S.Space.state c.loop-done.store in
    let info = c.args.reading.now.info in
    let out = c.loop-done.out in
    let done = c.loop-done.done in
    let rest : List ℕ = take (length out - done) (drop done out) in
    let long : length rest ≡ length out - done = simp (length-take, length-drop) (omega arith) in
    let same_len : length out ≡ length c.args.out.now = omega arith in
    let same = table_now g here told in
    let front = before.piece told start size list x at in
    let stay = stay_now g here start size list (x + done) told front.stands in
    let there = c.loop-done.reading.info in
    err_damaged c.in-Err.fault _ _ _ _
    (λ part level block found. fault_behind (contents_in info list old.cells) x done (length rest)
    (length c.args.out.now) part level block (omega (arith, long, before.within, same_len))
    (subst (λ (i : ChainInfo). (k : ℕ) → k < done → IsByte (contents_in i list old.cells (x + k))) before.info
    (piece_bytes (contents_in there list old.cells) x done out before.within front.bytes))
    (subst (λ (i : ChainInfo). IsFirstFault (contents_in i list old.cells) (x + done) (length rest) part level
    block) before.info
    (fault_stays stay (x + done) (length rest) part level block
    (omega (arith, long, before.within, same_len, front.stands.left, before.left, c.requires.within)) found)))
    (c.in-Err.ensures.piece (before.reads.stays.space.told told) start size list (x + done)
    (subst (λ (t : ℕ → ℕ → Cell). IsReadingAt t start size list (x + done) c.loop-done.reading) (sym same)
    front.stands))

pub returns-in-Err-clause-reads : goal.returns-in-Err-clause-reads
returns-in-Err-clause-reads g c =
    reads_then g.met.S.Space.keeps_join c.loop-done.invariant.reads c.in-Err.ensures.reads

pub returns-clause-piece : goal.returns-clause-piece
returns-clause-piece g c = λ told start size list x at.
    let all : c.loop-done.done ≡ length c.loop-done.out =
    omega (arith, c.loop-done.invariant.within, c.loop-done-test.false) in
    let long : length c.loop-done.out ≡ length c.args.out.now = omega arith in
    let cells = (g.S.Space.state c.args.store.now).cells in
    let table = table_in cells c.args.reading.now.info in
    subst (λ (n : ℕ). IsPieceRead table cells start size list x n c.loop-done.out c.loop-done.reading) long
    (piece_whole table cells start size list x c.loop-done.done c.loop-done.out c.loop-done.reading all
    (c.loop-done.invariant.piece told start size list x at))
