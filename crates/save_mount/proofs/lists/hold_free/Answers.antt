use Rattle.std.proofs.Common.{refl, Some, ◌≡◌, ◌%◌, ◌^◌, ap, ℕ, List, length}
use Rattle.save_bytes.proofs.CallLemmas.{reads_then}
use Rattle.save_bytes.proofs.SpaceLemmas.{IfDamaged-map}
use Rattle.chain_nodes.specs.declared.node.Lead.TheVariants.{OpensFree}
use Rattle.chain_nodes.specs.Table.{table_in}
use Rattle.chain_nodes.specs.Faults.IsFreeNeeded.{Root}
use Rattle.held_lists.specs.Walks.{IsHeldList}
use Rattle.save_mount.proofs.HeldLemmas.{free_list, held_later, free_faults_later}
use Rattle.save_mount.proofs.lists.hold_free.Goals as goal

pub returns-in-Err-clause-faults : goal.returns-in-Err-clause-faults
returns-in-Err-clause-faults g c = record {
  broken = λ told. tt;
  damaged = λ told. IfDamaged-map (Some c.in-Err.bad) (λ part level block has. (0, Root refl, has))
      (c.in-Err.ensures.damaged told);
  plain = c.in-Err.ensures.plain;
  never_short = tt;
}

pub returns-in-Ok-hold_list-clause-held : goal.returns-in-Ok-hold_list-clause-held
returns-in-Ok-hold_list-clause-held g c told =
    let stays = c.in-Ok.ensures.reads.stays in
    let words = c.in-Ok.ensures.words told in
    let walked = held_later c.requires.table stays (λ table. (list : List ℕ)
    × IsHeldList table c.args.info.count OpensFree (c.in-Ok.root.v % 2 ^ 31) c.args.held.now c.hold_list.new.held list
    × (c.in-Ok-hold_list.len ≡ length list)) told (c.in-Ok-hold_list.ensures.held (stays.space.told told)) in (
      walked.0,
      (
        free_list (table_in (g.S.Space.state c.args.base.now).cells c.args.info) c.args.info.count
            (c.in-Ok.root.v % 2 ^ 31) c.args.held.now c.hold_list.new.held walked.0 words.0
            (ap (λ (n : ℕ). n % 2 ^ 31) words.2) walked.1,
        (walked.1.takes, walked.2),
      ),
    )

pub returns-in-Err-hold_list-clause-faults : goal.returns-in-Err-hold_list-clause-faults
returns-in-Err-hold_list-clause-faults g c =
    free_faults_later c.requires.table c.in-Ok.ensures.reads.stays (c.in-Ok.root.v % 2 ^ 31) c.args.held.now
    (Some c.in-Err-hold_list.fault) (λ told. ap (λ (n : ℕ). n % 2 ^ 31) (c.in-Ok.ensures.words told).2)
    c.in-Err-hold_list.ensures.faults

pub returns-in-Err-hold_list-clause-reads : goal.returns-in-Err-hold_list-clause-reads
returns-in-Err-hold_list-clause-reads g c =
    reads_then g.met.S.Space.keeps_join c.in-Ok.ensures.reads c.in-Err-hold_list.ensures.reads

pub returns-in-Ok-hold_list-clause-reads : goal.returns-in-Ok-hold_list-clause-reads
returns-in-Ok-hold_list-clause-reads g c =
    reads_then g.met.S.Space.keeps_join c.in-Ok.ensures.reads c.in-Ok-hold_list.ensures.reads
