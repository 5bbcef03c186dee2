use Rattle.std.proofs.Common.{◌≡◌, ◌+◌, ◌*◌, ◌≤◌, ℕ, List, length, take, min, IsTrue, ◌∙◌, ap, sym, subst, arith}
use Rattle.std.proofs.lemmas.List.{length-take-le}
use Rattle.save_bytes.specs.Cells.{Cell, AreBytesAt}
use Rattle.save_bytes.specs.Answers.{IsFirstFault}
use Rattle.save_bytes.proofs.CallLemmas.{Reads-same, reads_then}
use Rattle.chain_nodes.specs.declared.info.ChainInfo.{ChainInfo}
use Rattle.chain_nodes.specs.Table.{table_in}
use Rattle.chain_nodes.proofs.TableLemmas.{table_stays}
use Rattle.file_reader.specs.Contents.{contents_in}
use Rattle.file_reader.specs.Reading.{IsReadingAt}
use Rattle.file_reader.proofs.PlaceLemmas.{StayContents, fault_of_all, bytes_more, fault_stays, bytes_stay}
use Rattle.file_reader.proofs.PlaceLemmas.{err_damaged}
use Rattle.file_reader.proofs.begin.begin_reading.Given.{Over}
use Rattle.file_reader.proofs.begin.begin_reading.Goals.{After-read_piece}
use Rattle.file_reader.proofs.begin.begin_reading.Goals as goal

-- the table is as it was
table_now : (g : Over) (c : After-read_piece g) → IsTrue (g.S.Space.state c.args.store.now).told
    → table_in (g.S.Space.state c.loop-ahead.store).cells c.loop-ahead.ahead.info
    ≡ table_in (g.S.Space.state c.args.store.now).cells c.args.info
table_now g c told =
    ap (table_in (g.S.Space.state c.loop-ahead.store).cells) c.loop-ahead.invariant.info
    ∙ table_stays (g.S.Space.state c.args.store.now) (g.S.Space.state c.loop-ahead.store) c.args.info
    c.requires c.loop-ahead.invariant.reads.stays told

-- and so are the cells of the contents
stay_now : (g : Over) (c : After-read_piece g) (start size : ℕ) (list : List ℕ) (x : ℕ)
    → IsTrue (g.S.Space.state c.args.store.now).told
    → IsReadingAt (table_in (g.S.Space.state c.args.store.now).cells c.args.info) start size list x c.loop-ahead.ahead
    → StayContents (table_in (g.S.Space.state c.args.store.now).cells c.args.info) c.loop-ahead.ahead.info start size
    list (g.S.Space.state c.args.store.now).cells (g.S.Space.state c.loop-ahead.store).cells
stay_now g c start size list x told at = record {
  contents = at.contents;
  space = (g.S.Space.state c.args.store.now).shape.size;
  inside = subst (λ (info : ChainInfo). info.region_at + info.count * info.block
      ≤ (g.S.Space.state c.args.store.now).shape.size)
      (sym c.loop-ahead.invariant.info) c.requires.region;
  same = c.loop-ahead.invariant.reads.stays.cells told;
}

pub loop-ahead-init : goal.loop-ahead-init
loop-ahead-init g c = record {
  info = c.start-begun.ensures.info;
  done = 0;
  left = omega (arith, c.start-begun.ensures.left);
  piece = λ told list contents. (
    c.start-begun.ensures.stands (table_in (g.S.Space.state c.args.store.now).cells c.args.info) list c.requires.few
        contents,
    λ x less. absurd (omega (arith, less)),
  );
  reads = Reads-same g.S.Space.state g.S.Space.keeps g.S.Space.lands g.met.S.Space.keeps_same c.args.store.now;
}

pub loop-ahead-preserved : goal.loop-ahead-preserved
loop-ahead-preserved g c =
    let before = c.loop-ahead.invariant in
    let n = c.in-Ok.field-0 in
    let piece = c.read_piece.new.into in
    record {
      info = c.in-Ok.ensures.info ∙ before.info;
      done = before.done + n;
      left = omega (arith, c.in-Ok.ensures.left, before.left);
      piece = λ told list contents.
          (let here = (goal.at.loop-ahead-preserved g c).After-read_piece in
          let old = g.S.Space.state c.args.store.now in
          let now = g.S.Space.state c.loop-ahead.store in
          let same = table_now g here told in
          let front = before.piece told list contents in
          let start = c.args.start in
          let size = c.args.size in
          let done = before.done in
          let after = c.read_piece.new.reading in
          let fits : n ≤ length piece = omega (arith, c.in-Ok.ensures.count) in
          let behind = c.in-Ok.ensures.piece (before.reads.stays.space.told told) start size list done
          (subst (λ (t : ℕ → ℕ → Cell). IsReadingAt t start size list done c.loop-ahead.ahead) (sym same) front.0) in
          let bytes : AreBytesAt (contents_in c.args.info list old.cells) done (take n piece) =
          subst (λ (i : ChainInfo). AreBytesAt (contents_in i list old.cells) done (take n piece)) before.info
          (bytes_stay (stay_now g here start size list done told front.0) done (take n piece)
          (omega (arith, behind.stands.left, length-take-le n piece fits))
          (subst (λ (i : ChainInfo). AreBytesAt (contents_in i list now.cells) done
          (take n piece)) c.in-Ok.ensures.info
          behind.bytes)) in (
            subst (λ (t : ℕ → ℕ → Cell). IsReadingAt t start size list (done + n) after) same behind.stands,
            bytes_more (contents_in c.args.info list old.cells) done n piece fits front.1 bytes,
          ));
      reads = reads_then g.met.S.Space.keeps_join before.reads c.in-Ok.ensures.reads;
    }

pub returns-in-Err-clause-begun : goal.returns-in-Err-clause-begun
returns-in-Err-clause-begun g c = λ told list contents.
    let here = (goal.at.returns-in-Err-clause-begun g c).After-read_piece in
    let before = c.loop-ahead.invariant in
    let old = g.S.Space.state c.args.store.now in
    let start = c.args.start in
    let size = c.args.size in
    let done = before.done in
    let m = min c.loop-ahead.ahead.left (length c.loop-ahead.piece) in
    let front = before.piece told list contents in
    let stay = stay_now g here start size list done told front.0 in
    let fits : done + m ≤ size = omega (arith, before.left) in
    err_damaged c.in-Err.fault _ _ _ _
    (λ part level block found. fault_of_all (contents_in c.args.info list old.cells) done m size part level block fits
    front.1
    (subst (λ (i : ChainInfo). IsFirstFault (contents_in i list old.cells) done m part level block) before.info
    (fault_stays stay done m part level block fits found)))
    (c.in-Err.ensures.piece (before.reads.stays.space.told told) start size list done
    (subst (λ (t : ℕ → ℕ → Cell). IsReadingAt t start size list done c.loop-ahead.ahead) (sym (table_now g here told))
    front.0))

pub returns-in-Err-clause-reads : goal.returns-in-Err-clause-reads
returns-in-Err-clause-reads g c =
    reads_then g.met.S.Space.keeps_join c.loop-ahead.invariant.reads c.in-Err.ensures.reads
