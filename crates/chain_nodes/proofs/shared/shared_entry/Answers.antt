use Rattle.std.proofs.Common.{◌≡◌, ℕ, ◌+◌, ◌-◌, ◌/◌, ◌<◌, ◌≤◌, IsTrue, Some, subst, arith}
use Rattle.save_bytes.specs.Cells.{Cell}
use Rattle.save_bytes.proofs.CallLemmas.{reads_then}
use Rattle.chain_nodes.specs.Table.{table_in}
use Rattle.chain_nodes.specs.Chains.{entries_of}
use Rattle.chain_nodes.specs.Faults.{IsBroken, FailsAt}
use Rattle.chain_nodes.specs.declared.node.Lead.{Lead}
use Rattle.chain_nodes.specs.declared.walk.Cursor.{Cursor}
use Rattle.chain_nodes.specs.Runs.{IsReached}
use Rattle.chain_nodes.specs.Between.{count_between}
use Rattle.chain_nodes.proofs.TableLemmas.{table_stays}
use Rattle.chain_nodes.proofs.FaultLemmas.{FaultsOnly-later}
use Rattle.save_bytes.proofs.CallLemmas.{Reads-same}
use Rattle.chain_nodes.proofs.SharedLemmas.{crowded_all, crowded_back}
use Rattle.chain_nodes.proofs.shared.shared_entry.Given.{Over}
use Rattle.chain_nodes.proofs.shared.shared_entry.Goals.{In-Ok}
use Rattle.chain_nodes.proofs.shared.shared_entry.Goals as goal

pub loop-low-init : goal.loop-low-init
loop-low-init g c =
    record {
      low = c.requires.some;
      high = omega arith;
      crowded = λ told whole. crowded_all (table_in (g.S.Space.state c.args.base.now).cells c.args.info)
          c.args.info.count c.args.lead c.args.first c.args.end whole c.requires.many;
      reads = Reads-same g.S.Space.state g.S.Space.keeps g.S.Space.lands g.met.S.Space.keeps_same c.args.base.now;
    }

pub returns-in-Err-clause-faults : goal.returns-in-Err-clause-faults
returns-in-Err-clause-faults g c =
    let old = g.S.Space.state c.args.base.now in
    let now = g.S.Space.state c.loop-low.base in
    let info = c.args.info in
    let same = table_stays old now info c.requires.table c.loop-low.invariant.reads.stays in
    FaultsOnly-later old now info (Some c.in-Err.fault) c.requires.table c.loop-low.invariant.reads.stays
    (λ told e. subst (λ (t : ℕ → ℕ → Cell). IsBroken t info.count c.args.lead c.args.first e) (same told))
    (λ told e. subst (λ (t : ℕ → ℕ → Cell). FailsAt t info.count c.args.lead c.args.first e) (same told))
    c.in-Err.ensures.faults

pub returns-in-Err-clause-reads : goal.returns-in-Err-clause-reads
returns-in-Err-clause-reads g c =
    reads_then g.met.S.Space.keeps_join c.loop-low.invariant.reads c.in-Err.ensures.reads

-- the count in a table that is the same
between_in : (old now : ℕ → ℕ → Cell) (count : ℕ) (lead : Lead) (first : ℕ) (end : Cursor) (low high between : ℕ)
    → now ≡ old → ((whole : IsReached now count lead first end)
    → between ≡ count_between low high (entries_of whole.nodes)) → (whole : IsReached old count lead first end)
    → between ≡ count_between low high (entries_of whole.nodes)
between_in old now count lead first end low high between same is =
    subst (λ (t : ℕ → ℕ → Cell). (whole : IsReached t count lead first end)
    → between ≡ count_between low high (entries_of whole.nodes)) same is

-- what was counted, of the table as the search began
counted : (g : Over) (c : In-Ok g) → IsTrue (g.S.Space.state c.args.base.now).told
    → (whole : IsReached (table_in (g.S.Space.state c.args.base.now).cells c.args.info) c.args.info.count c.args.lead
    c.args.first c.args.end)
    → c.in-Ok.between ≡ count_between c.loop-low.low (c.loop-low.low + (c.loop-low.high - c.loop-low.low) / 2)
    (entries_of whole.nodes)
counted g c told =
    let stays = c.loop-low.invariant.reads.stays in
    between_in (table_in (g.S.Space.state c.args.base.now).cells c.args.info)
    (table_in (g.S.Space.state c.loop-low.base).cells c.args.info) c.args.info.count c.args.lead c.args.first c.args.end
    c.loop-low.low (c.loop-low.low + (c.loop-low.high - c.loop-low.low) / 2) c.in-Ok.between
    (table_stays (g.S.Space.state c.args.base.now) (g.S.Space.state c.loop-low.base) c.args.info c.requires.table stays
    told)
    (c.in-Ok.ensures.between (stays.space.told told))

pub loop-low-preserved-then-between-from : goal.loop-low-preserved-then-between-from
loop-low-preserved-then-between-from g c =
    record {
      low = omega arith;
      high = omega (arith, c.loop-low.invariant.high);
      crowded = λ told whole.
          (let is = counted g (goal.at.loop-low-preserved-then-between-from g c).In-Ok told whole in omega (arith, is));
      reads = reads_then g.met.S.Space.keeps_join c.loop-low.invariant.reads c.in-Ok.ensures.reads;
    }

pub loop-low-preserved : goal.loop-low-preserved
loop-low-preserved g c =
    let middle = c.loop-low.low + (c.loop-low.high - c.loop-low.low) / 2 in
    let below : middle < c.loop-low.high = omega arith in
    let from : c.loop-low.low ≤ middle = omega arith in
    record {
      low = omega arith;
      high = c.loop-low.invariant.high;
      crowded = λ told whole.
          (let is = counted g (goal.at.loop-low-preserved g c).In-Ok told whole in
          crowded_back (table_in (g.S.Space.state c.args.base.now).cells c.args.info) c.args.info.count c.args.lead
          c.args.first c.args.end whole c.loop-low.low middle c.loop-low.high from below
          (c.loop-low.invariant.crowded told whole) (omega (arith, is)));
      reads = reads_then g.met.S.Space.keeps_join c.loop-low.invariant.reads c.in-Ok.ensures.reads;
    }
