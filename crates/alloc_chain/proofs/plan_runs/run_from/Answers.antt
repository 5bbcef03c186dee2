use Rattle.std.proofs.Common.{◌≡◌, ◌<◌, ◌≤◌, ◌++◌, ◌-◌, ℕ, length, Some, refl, sym, subst, arith}
use Rattle.std.specs.Result.{result_err}
use Rattle.save_bytes.specs.Cells.{Cell}
use Rattle.chain_nodes.specs.declared.node.Lead.TheVariants.{Opens, OpensFree}
use Rattle.chain_nodes.specs.Table.{table_in, index_of, word_v, IsEntry}
use Rattle.chain_nodes.specs.Chains.{IsChain, IsFreeList}
use Rattle.chain_nodes.specs.Faults.{FailsAt, IsBroken, IsFreeBroken, IsFreeNeeded}
use Rattle.chain_nodes.specs.Runs.{HasPosition, IsRunIn}
use Rattle.chain_nodes.proofs.TableLemmas.{table_stays}
use Rattle.chain_nodes.proofs.FaultLemmas.{FaultsOnly-map, FaultsOnly-later}
use Rattle.save_bytes.proofs.CallLemmas.{reads_then}
use Rattle.alloc_chain.specs.PlanRuns.IsPlanBroken.{InOld, InFree}
use Rattle.alloc_chain.specs.PlanRuns.IsPlanNeeded.{ForOld, ForFree}
use Rattle.alloc_chain.proofs.PlanRunLemmas.{done_map, has_position, run_left, run_right}
use Rattle.alloc_chain.proofs.plan_runs.run_from.Goals as goal

pub returns-in-Err-clause-faults : goal.returns-in-Err-clause-faults
returns-in-Err-clause-faults g c =
    FaultsOnly-map (g.S.Space.state c.args.base.now) c.args.info (Some c.in-Err.fault)
    (λ told e broken entry _. InOld c.args.first refl (broken entry))
    (λ told e fails. ForOld c.args.first refl fails) c.in-Err.ensures.faults

pub returns-then-pos-len-clause-exact : goal.returns-then-pos-len-clause-exact
returns-then-pos-len-clause-exact g c = λ told mine free can less.
    let s = g.S.Space.state c.args.base.now in
    let info = c.args.info in
    let stays = c.in-Ok.ensures.reads.stays in
    let later = table_stays s (g.S.Space.state c.chain_len.new.base) info c.requires stays told in
    let chain = subst (λ (table : ℕ → ℕ → Cell). IsChain table info.count c.args.first mine) (sym later) can.chain in
    let len_is = c.in-Ok.ensures.exact told mine can.chain in
    let inside : c.args.pos < length mine = omega (arith, len_is, c.if-pos-len.true) in
    done_map (IsRunIn mine c.args.pos) (IsRunIn (mine ++ free) c.args.pos) c.chain_run.result
    (run_left mine free c.args.pos) (c.chain_run.ensures.exact (stays.space.told told) mine chain inside)

pub returns-then-pos-len-clause-faults : goal.returns-then-pos-len-clause-faults
returns-then-pos-len-clause-faults g c =
    let s = g.S.Space.state c.args.base.now in
    let t = g.S.Space.state c.chain_len.new.base in
    let info = c.args.info in
    let first = c.args.first in
    let pos = c.args.pos in
    let table = table_in s.cells info in
    let stays = c.in-Ok.ensures.reads.stays in
    FaultsOnly-later s t info (result_err c.chain_run.result) c.requires stays
    (λ told e broken entry _.
    let later = table_stays s t info c.requires stays told in
    let (list, linked, is) = c.in-Ok.ensures.length told in
    let has = has_position table info.count c.requires.few Opens first list pos linked
    (omega (arith, is, c.if-pos-len.true)) in
    let here = subst (λ (table : ℕ → ℕ → Cell). IsEntry info.count first
    → HasPosition table info.count Opens first pos → IsBroken table info.count Opens first e) later broken in
    InOld first refl (here entry has))
    (λ told e fails. ForOld first refl (subst (λ (table : ℕ → ℕ → Cell). FailsAt table info.count Opens first e)
    (table_stays s t info c.requires stays told) fails))
    c.chain_run.ensures.faults

pub returns-then-pos-len-clause-reads : goal.returns-then-pos-len-clause-reads
returns-then-pos-len-clause-reads g c =
    reads_then g.met.S.Space.keeps_join c.in-Ok.ensures.reads c.chain_run.ensures.reads

pub returns-else-pos-len-clause-exact : goal.returns-else-pos-len-clause-exact
returns-else-pos-len-clause-exact g c = λ told mine free can less.
    let s = g.S.Space.state c.args.base.now in
    let info = c.args.info in
    let pos = c.args.pos in
    let stays = c.in-Ok.ensures.reads.stays in
    let later = table_stays s (g.S.Space.state c.chain_len.new.base) info c.requires stays told in
    let listed = subst (λ (table : ℕ → ℕ → Cell). IsFreeList table info.count free) (sym later) can.listed in
    let len_is : c.in-Ok.len ≡ length mine = c.in-Ok.ensures.exact told mine can.chain in
    let behind : length mine ≤ pos = omega (arith, len_is, c.if-pos-len.false) in
    let run = c.free_run.ensures.exact (stays.space.told told) free listed
    (omega (arith, len_is, less, c.if-pos-len.false)) in
    done_map (IsRunIn free (pos - c.in-Ok.len)) (IsRunIn (mine ++ free) pos) c.free_run.result
    (λ run is. run_right mine free pos run behind (subst (λ (n : ℕ). IsRunIn free (pos - n) run) len_is is)) run

pub returns-else-pos-len-clause-faults : goal.returns-else-pos-len-clause-faults
returns-else-pos-len-clause-faults g c =
    let s = g.S.Space.state c.args.base.now in
    let t = g.S.Space.state c.chain_len.new.base in
    let info = c.args.info in
    let pos = c.args.pos in
    let stays = c.in-Ok.ensures.reads.stays in
    FaultsOnly-later s t info (result_err c.free_run.result) c.requires stays
    (λ told e broken _ has.
    let later = table_stays s t info c.requires stays told in
    let (mine, linked, is) = c.in-Ok.ensures.length told in
    let here = subst (λ (table : ℕ → ℕ → Cell).
    HasPosition table info.count OpensFree (index_of (word_v table 0)) (pos - c.in-Ok.len)
    → IsFreeBroken table info.count e) later broken in
    InFree (here (λ free listed. omega (arith, is, has mine free linked listed, c.if-pos-len.false))))
    (λ told e needed. ForFree (subst (λ (table : ℕ → ℕ → Cell). IsFreeNeeded table info.count e)
    (table_stays s t info c.requires stays told) needed))
    c.free_run.ensures.faults

pub returns-else-pos-len-clause-reads : goal.returns-else-pos-len-clause-reads
returns-else-pos-len-clause-reads g c =
    reads_then g.met.S.Space.keeps_join c.in-Ok.ensures.reads c.free_run.ensures.reads
