use Rattle.std.proofs.Common.{ℕ, IsTrue, Some, sym, ◌∙◌, ap, subst, arith, inl, inr}
use Rattle.save_bytes.specs.Cells.{Cell}
use Rattle.save_bytes.proofs.CallLemmas.{reads_then}
use Rattle.chain_nodes.specs.Table.{table_in}
use Rattle.chain_nodes.specs.Chains.{IsNode}
use Rattle.chain_nodes.specs.Between.{count_between}
use Rattle.chain_nodes.proofs.TableLemmas.{table_stays}
use Rattle.chain_nodes.proofs.FaultLemmas.{FaultsOnly-map}
use Rattle.chain_nodes.proofs.ListLemmas.{list_faults}
use Rattle.save_bytes.proofs.CallLemmas.{Reads-same}
use Rattle.chain_nodes.proofs.SharedLemmas.{step_within, same_entries, counted_start, counted_more}
use Rattle.chain_nodes.proofs.shared.list_between.Goals as goal

pub loop-cursor-init : goal.loop-cursor-init
loop-cursor-init g c =
    let started = c.start-cursor.ensures in
    record {
      next = omega (arith, started.next);
      between = omega arith;
      reached = λ told. counted_start (table_in (g.S.Space.state c.args.base.now).cells c.args.info) c.args.info.count
          c.args.lead c.args.first c.start-cursor.result c.args.low c.args.high c.requires.first started.lead
          started.next started.passed;
      within = λ told end. omega (arith, started.passed);
      reads = Reads-same g.S.Space.state g.S.Space.keeps g.S.Space.lands g.met.S.Space.keeps_same c.args.base.now;
    }

pub returns-in-Err-clause-faults : goal.returns-in-Err-clause-faults
returns-in-Err-clause-faults g c =
    let before = c.loop-cursor.invariant in
    FaultsOnly-map (g.S.Space.state c.args.base.now) c.args.info (Some c.in-Err.fault)
    (λ told e broken. broken (before.reached told).0) (λ told e fails. fails (before.reached told).0)
    (list_faults c.requires.table before.reads.stays c.args.first c.loop-cursor.cursor (Some c.in-Err.fault)
    (record { some = omega arith; inside = before.next }) c.in-Err.ensures.faults)

pub returns-in-Err-clause-reads : goal.returns-in-Err-clause-reads
returns-in-Err-clause-reads g c =
    reads_then g.met.S.Space.keeps_join c.loop-cursor.invariant.reads c.in-Err.ensures.reads

pub loop-cursor-preserved : goal.loop-cursor-preserved
loop-cursor-preserved g c =
    let space = g.S.Space in
    let old = space.state c.args.base.now in
    let now = space.state c.loop-cursor.base in
    let invariant = c.loop-cursor.invariant in
    let info = c.args.info in
    let table = table_in old.cells info in
    let cursor = c.loop-cursor.cursor in
    let behind = c.behind-cursor.result in
    let link = c.in-Ok.link in
    let is_node = λ (told : IsTrue old.told).
    (let here : IsNode table info.count cursor.lead link.node link.next =
    subst (λ (t : ℕ → ℕ → Cell). IsNode t info.count cursor.lead link.node link.next)
    (table_stays old now info c.requires.table invariant.reads.stays told) (c.in-Ok.ensures.node
    (invariant.reads.stays.space.told told)) in
    subst (λ (n : ℕ). IsNode table info.count cursor.lead link.node n) (sym c.behind-cursor.ensures.next) here) in
    record {
      next = omega (arith, c.in-Ok.ensures.next);
      between = omega (arith, c.node_between.ensures.small, invariant.between);
      reached = λ told. counted_more table info.count c.args.lead c.args.first cursor behind link.node c.args.low
          c.args.high c.loop-cursor.between c.from-between.result (invariant.reached told) (is_node told)
          (omega (arith, c.in-Ok.ensures.next, c.behind-cursor.ensures.next)) c.in-Ok.ensures.first
          c.behind-cursor.ensures.lead c.behind-cursor.ensures.passed
          (c.from-between.ensures ∙ c.node_between.ensures.between);
      within = λ told end.
          (let step = step_within table info.count c.requires.table.few c.args.lead c.args.first cursor c.args.end
          (invariant.reached told).0 end invariant.next c.requires.next (invariant.within told end) link.node
          behind.next (omega (arith, c.in-Ok.ensures.next)) (is_node told) c.in-Ok.ensures.first (omega arith) in
          omega (arith, step));
      reads = reads_then g.met.S.Space.keeps_join invariant.reads c.in-Ok.ensures.reads;
    }

pub returns-else-cursor-ne0-clause-between : goal.returns-else-cursor-ne0-clause-between
returns-else-cursor-ne0-clause-between g c = λ told end.
    let counted = c.loop-cursor.invariant.reached told in
    let same = same_entries (table_in (g.S.Space.state c.args.base.now).cells c.args.info) c.args.info.count
    c.requires.table.few c.args.lead c.args.first c.loop-cursor.cursor c.args.end counted.0 end
    c.loop-cursor.invariant.next c.requires.next (c.loop-cursor.invariant.within told end) (inr (omega arith)) in
    counted.1 ∙ ap (count_between c.args.low c.args.high) same

pub returns-after-loop-cursor-clause-between : goal.returns-after-loop-cursor-clause-between
returns-after-loop-cursor-clause-between g c = λ told end.
    let counted = c.loop-cursor.invariant.reached told in
    let same = same_entries (table_in (g.S.Space.state c.args.base.now).cells c.args.info) c.args.info.count
    c.requires.table.few c.args.lead c.args.first c.loop-cursor.cursor c.args.end counted.0 end
    c.loop-cursor.invariant.next c.requires.next (c.loop-cursor.invariant.within told end) (inl (omega arith)) in
    counted.1 ∙ ap (count_between c.args.low c.args.high) same
