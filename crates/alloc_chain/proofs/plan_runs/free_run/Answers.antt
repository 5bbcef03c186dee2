use Rattle.std.proofs.Common.{Some, Err, IfOk}
use Rattle.std.specs.Result.{result_err}
use Rattle.save_bytes.proofs.CallLemmas.{IfOk-map}
use Rattle.chain_nodes.specs.declared.node.Lead.TheVariants.{OpensFree}
use Rattle.chain_nodes.specs.Table.{table_in, index_of, word_v}
use Rattle.chain_nodes.specs.Faults.{FailsAt, IsBroken}
use Rattle.chain_nodes.specs.Faults.IsFreeBroken.{InList}
use Rattle.chain_nodes.specs.Faults.IsFreeNeeded.{Listed}
use Rattle.chain_nodes.specs.Runs.{HasPosition, IsRunIn, IsRestOfNode}
use Rattle.chain_nodes.proofs.FaultLemmas.{FaultsOnly-map, FaultsOnly-later}
use Rattle.chain_nodes.proofs.ExactLemmas.{run_in, done_unless_disk, no_free_break, no_free_need}
use Rattle.alloc_chain.proofs.PlanRunLemmas.{has_position, free_later}
use Rattle.alloc_chain.proofs.plan_runs.free_run.Goals as goal

pub returns-in-Err-clause-exact : goal.returns-in-Err-clause-exact
returns-in-Err-clause-exact g c = λ told list free less.
    let s = g.S.Space.state c.args.base.now in
    let table = table_in s.cells c.args.info in
    done_unless_disk s c.args.info told (IsRunIn list c.args.pos) (Err c.in-Err.fault)
    (no_free_break table c.args.info.count list c.requires.few free.linked free.once)
    (no_free_need table c.args.info.count list c.requires.few free.read free.linked)
    c.in-Err.ensures.faults tt

pub returns-in-Err-clause-faults : goal.returns-in-Err-clause-faults
returns-in-Err-clause-faults g c =
    FaultsOnly-map (g.S.Space.state c.args.base.now) c.args.info (Some c.in-Err.fault) (λ told e broken _. broken)
    (λ told e needed. needed) c.in-Err.ensures.faults

pub returns-clause-faults : goal.returns-clause-faults
returns-clause-faults g c =
    let s = g.S.Space.state c.args.base.now in
    let t = g.S.Space.state c.free_first.new.base in
    let info = c.args.info in
    let first = c.in-Ok.first in
    let stays = c.in-Ok.ensures.reads.stays in
    FaultsOnly-later s t info (result_err c.free_run_from.result) c.requires stays
    (λ told e broken has. InList (free_later s t info first c.requires stays told (c.in-Ok.ensures.first told).1
    (λ table f. HasPosition table info.count OpensFree f c.args.pos → IsBroken table info.count OpensFree f e) broken
    has))
    (λ told e fails. Listed (free_later s t info first c.requires stays told (c.in-Ok.ensures.first told).1
    (λ table f. FailsAt table info.count OpensFree f e) fails))
    c.free_run_from.ensures.faults

pub returns-clause-exact : goal.returns-clause-exact
returns-clause-exact g c = λ told list free less.
    let s = g.S.Space.state c.args.base.now in
    let t = g.S.Space.state c.free_first.new.base in
    let info = c.args.info in
    let pos = c.args.pos in
    let table = table_in s.cells info in
    let few = c.requires.few in
    let stays = c.in-Ok.ensures.reads.stays in
    let head = index_of (word_v table 0) in
    let result = c.free_run_from.result in
    let rest = free_later s t info c.in-Ok.first c.requires stays told (c.in-Ok.ensures.first told).1
    (λ table f. IfOk result (IsRestOfNode table info.count OpensFree f pos))
    (c.free_run_from.ensures.run (stays.space.told told)) in
    let has = has_position table info.count few OpensFree head list pos free.linked less in
    done_unless_disk s info told (IsRunIn list pos) result
    (λ e broken. no_free_break table info.count list few free.linked free.once e (broken has))
    (no_free_need table info.count list few free.read free.linked)
    (returns-clause-faults g c)
    (IfOk-map result (λ run is. run_in table info.count few OpensFree head list free.linked pos run is) rest)
