use Rattle.std.proofs.Common.{◌≡◌, ◌<◌, ◌≤◌, ℕ, [], ◌∷◌, get_or, Some, subst, arith, ⊎_elim}
use Rattle.std.proofs.lemmas.Bool.{cases_lt}
use Rattle.std.proofs.lemmas.Grind.{get_or_default_zero}
use Rattle.save_bytes.specs.Cells.{Cell}
use Rattle.save_bytes.proofs.CallLemmas.{reads_then}
use Rattle.save_bytes.proofs.SpaceLemmas.{IfDamaged-map}
use Rattle.chain_nodes.proofs.TableLemmas.{table_stays}
use Rattle.chain_links.specs.Alters.{AreUnspoilt, IsOfEntries}
use Rattle.alloc_chain.specs.Swaps.{HasSpoilt}
use Rattle.alloc_chain.proofs.SwapLemmas.{unspoilt_before, unspoilt_all}
use Rattle.alloc_chain.proofs.swap.ready_entries.Goals as goal

pub returns-in-Err-clause-damaged : goal.returns-in-Err-clause-damaged
returns-in-Err-clause-damaged g c = λ told.
    let s = g.S.Space.state c.args.base.now in
    let m = g.S.Space.state c.loop-entry.base in
    let info = c.args.info in
    let stays = c.loop-entry.invariant.reads.stays in
    let index = c.loop-entry.entry-index in
    let entry : ℕ = get_or c.args.entries.now index 0 in
    IfDamaged-map (Some c.in-Err.bad)
    (λ part level block fault. (
      entry,
      (index, c.loop-entry-test.true, get_or_default_zero c.args.entries.now index entry c.loop-entry-test.true),
      subst (λ (t : ℕ → ℕ → Cell). HasSpoilt t entry part level block) (table_stays s m info c.requires.table stays
          told) fault,
    ))
    (c.in-Err.ensures.damaged (stays.space.told told))

pub returns-in-Err-clause-reads : goal.returns-in-Err-clause-reads
returns-in-Err-clause-reads g c =
    reads_then g.met.S.Space.keeps_join c.loop-entry.invariant.reads c.in-Err.ensures.reads

pub loop-entry-preserved : goal.loop-entry-preserved
loop-entry-preserved g c =
    let s = g.S.Space.state c.args.base.now in
    let m = g.S.Space.state c.loop-entry.base in
    let info = c.args.info in
    let invariant = c.loop-entry.invariant in
    let stays = invariant.reads.stays in
    let index = c.loop-entry.entry-index in
    let list = c.args.entries.now in
    record {
      ready = λ told k less.
          ⊎_elim
          (λ (before : k < index). invariant.ready told k before)
          (λ (here : index ≤ k).
          let is : index ≡ k = omega (arith, here, less) in
          subst (λ (i : ℕ). AreUnspoilt s (IsOfEntries info (get_or list i 0 ∷ []))) is
          (unspoilt_before s m info (get_or list index 0 ∷ []) stays told
          (c.in-Ok.ensures.ready (stays.space.told told))))
          (cases_lt k index);
      reads = reads_then g.met.S.Space.keeps_join invariant.reads c.in-Ok.ensures.reads;
    }

pub returns-clause-ready : goal.returns-clause-ready
returns-clause-ready g c = λ told.
    unspoilt_all (g.S.Space.state c.args.base.now) c.args.info c.args.entries.now
    (λ k within. c.loop-entry.invariant.ready told k (omega (arith, within, c.loop-entry-test.false)))
