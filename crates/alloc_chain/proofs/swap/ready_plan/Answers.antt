use Rattle.std.proofs.Common.{ℕ, List, ◌++◌, subst}
use Rattle.std.proofs.Common.{Some}
use Rattle.std.specs.Result.{result_err}
use Rattle.std.proofs.lemmas.List.Elements.{Contains-append_left, Contains-append_right}
use Rattle.std.specs.List.{Contains}
use Rattle.save_bytes.specs.Cells.{Cell}
use Rattle.save_bytes.proofs.CallLemmas.{reads_then}
use Rattle.save_bytes.proofs.SpaceLemmas.{IfDone-map, IfDamaged-map}
use Rattle.chain_nodes.proofs.TableLemmas.{table_stays}
use Rattle.chain_links.specs.Alters.{AreUnspoilt, IsOfEntries}
use Rattle.alloc_chain.specs.Swaps.{first_of, given_entries, taken_entries}
use Rattle.alloc_chain.specs.Swaps.{HasSpoilt}
use Rattle.alloc_chain.proofs.SwapLemmas.{unspoilt_before, unspoilt_both}
use Rattle.alloc_chain.proofs.swap.ready_plan.Goals as goal

pub returns-in-Err-clause-damaged : goal.returns-in-Err-clause-damaged
returns-in-Err-clause-damaged g c = λ told.
    let plan = c.args.plan in
    let given : List ℕ = given_entries plan.given plan.head in
    let taken : List ℕ = taken_entries (first_of plan.given plan.head) plan.boundary in
    IfDamaged-map (Some c.in-Err.bad)
    (λ part level block fault. (fault.0, Contains-append_left given taken fault.0 fault.1, fault.2))
    (c.in-Err.ensures.damaged told)

pub returns-clause-ready : goal.returns-clause-ready
returns-clause-ready g c = λ told.
    let s = g.S.Space.state c.args.base.now in
    let m = g.S.Space.state c.ready_given.new.base in
    let info = c.args.info in
    let plan = c.args.plan in
    let stays = c.in-Ok.ensures.reads.stays in
    let given : List ℕ = given_entries plan.given plan.head in
    let taken : List ℕ = taken_entries c.first_free.result plan.boundary in
    IfDone-map (result_err c.ready_taken.result)
    (λ (un : AreUnspoilt m (IsOfEntries info taken)).
    subst (λ (first : ℕ). AreUnspoilt s (IsOfEntries info (given ++ taken_entries first plan.boundary)))
    c.first_free.ensures
    (unspoilt_both s info given taken (c.in-Ok.ensures.ready told) (unspoilt_before s m info taken stays told un)))
    (c.ready_taken.ensures.ready (stays.space.told told))

pub returns-clause-damaged : goal.returns-clause-damaged
returns-clause-damaged g c = λ told.
    let s = g.S.Space.state c.args.base.now in
    let m = g.S.Space.state c.ready_given.new.base in
    let info = c.args.info in
    let plan = c.args.plan in
    let stays = c.in-Ok.ensures.reads.stays in
    let given : List ℕ = given_entries plan.given plan.head in
    IfDamaged-map (result_err c.ready_taken.result)
    (λ part level block fault. (
      fault.0,
      subst (λ (first : ℕ). Contains (given ++ taken_entries first plan.boundary) fault.0) c.first_free.ensures
          (Contains-append_right given (taken_entries c.first_free.result plan.boundary) fault.0 fault.1),
      subst (λ (t : ℕ → ℕ → Cell). HasSpoilt t fault.0 part level block) (table_stays s m info c.requires.table stays
          told) fault.2,
    ))
    (c.ready_taken.ensures.damaged (stays.space.told told))

pub returns-clause-reads : goal.returns-clause-reads
returns-clause-reads g c = reads_then g.met.S.Space.keeps_join c.in-Ok.ensures.reads c.ready_taken.ensures.reads
