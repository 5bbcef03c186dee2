use Rattle.std.proofs.Common.{sym, ◌∙◌, subst, arith}
use Rattle.std.proofs.lemmas.Bool.{false≢true}
use Rattle.std.specs.Result.{result_err}
use Rattle.chain_nodes.specs.Table.{table_in}
use Rattle.chain_nodes.proofs.FaultLemmas.{FaultsOnly-map}
use Rattle.chain_nodes.proofs.ExactLemmas.{run_in, list_done}
use Rattle.chain_nodes.specs.Runs.{IsRunIn, DoneUnlessDisk}
use Rattle.save_bytes.proofs.CallLemmas.{IfOk-map}
use Rattle.file_reader.proofs.PlaceLemmas.{next_run_there, run_in_hand, err_done}
use Rattle.file_reader.proofs.piece.next_run.Goals.{then-not-is_within-via-then-not-is_within}
use Rattle.file_reader.proofs.piece.next_run.Goals.{then-not-is_within-via-else-not-is_within+then-is_at_end}
use Rattle.file_reader.proofs.piece.next_run.Goals.{then-not-is_within-via-else-not-is_within+else-is_at_end+then-info-eq0}
use Rattle.file_reader.proofs.piece.next_run.Goals as goal

pub returns-then-not-is_within-clause-taken : goal.returns-then-not-is_within-clause-taken
returns-then-not-is_within-clause-taken g c = λ told start size list x at none less.
    let table = table_in (g.S.Space.state c.args.store.now).cells c.args.reading.info in
    let there = next_run_there table start size list x c.args.reading c.requires.few at none less in
    elim c.then-not-is_within.branch [
      | then-not-is_within-via-then-not-is_within w ↦ absurd (false≢true (sym w.if-not-is_within.true
          ∙ c.is_within.ensures.1 (there.first, there.next, there.bounded)))
      | then-not-is_within-via-else-not-is_within+then-is_at_end w ↦
          there.not_at_end (w.is_at_end.ensures.0 w.if-is_at_end.true)
      | then-not-is_within-via-else-not-is_within+else-is_at_end+then-info-eq0 w ↦ omega
          (arith, there.some, w.if-info-eq0.true)
    ]

pub returns-in-Ok-clause-taken : goal.returns-in-Ok-clause-taken
returns-in-Ok-clause-taken g c = λ told start size list x at none less.
    let reading = c.args.reading in
    let table = table_in (g.S.Space.state c.args.store.now).cells reading.info in
    let there = next_run_there table start size list x reading c.requires.few at none less in
    let cursor = reading.cursor in
    run_in_hand table start size list x reading c.with_run.result c.in-Ok.run' c.in-Ok.behind there.some there.passed
    (record {
      in_run = run_in table reading.info.count c.requires.few cursor.opens cursor.first list there.linked cursor.passed
          c.in-Ok.run' (c.in-Ok.ensures.run told there.reached);
      opens = c.in-Ok.ensures.opens;
      first = c.in-Ok.ensures.first;
      reached = c.in-Ok.ensures.reached told there.reached;
      bounded = c.in-Ok.ensures.bounded;
      moved = c.in-Ok.ensures.passed;
    })
    (record {
      info = c.with_run.ensures.info;
      cursor = c.with_run.ensures.cursor;
      at = c.with_run.ensures.at;
      run = c.with_run.ensures.run;
      left = c.with_run.ensures.left;
    })
    at

pub returns-in-Err-clause-taken : goal.returns-in-Err-clause-taken
returns-in-Err-clause-taken g c = λ told start size list x at none less.
    let s = g.S.Space.state c.args.store.now in
    let reading = c.args.reading in
    let table = table_in s.cells reading.info in
    let there = next_run_there table start size list x reading c.requires.few at none less in
    let cursor = reading.cursor in
    err_done c.in-Err.fault _ _
    (subst (λ r. DoneUnlessDisk r (λ step. IsRunIn list cursor.passed step.0)) c.in-Err.is
    (list_done
    (λ step. IsRunIn list cursor.passed step.0) s reading.info cursor.opens cursor.first list c.advance.result
    c.requires.few told there.linked there.once
    (FaultsOnly-map s reading.info (result_err c.advance.result) (λ _ e broken. broken there.reached)
    (λ _ e fails. fails there.reached) c.advance.ensures.faults)
    (IfOk-map c.advance.result (λ step. run_in table reading.info.count c.requires.few cursor.opens cursor.first list
    there.linked cursor.passed step.0) (c.advance.ensures.run told there.reached))))
