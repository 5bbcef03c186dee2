use Rattle.std.proofs.Common.{sym, subst}
use Rattle.chain_nodes.specs.Table.{table_in}
use Rattle.chain_nodes.specs.Faults.{IsFreeNeeded}
use Rattle.save_mount.specs.declared.fault.MountFault.{MountFault}
use Rattle.save_mount.specs.Causes.{list_fault, HasListCause}
use Rattle.save_mount.specs.Structure.{FailsFree}
use Rattle.save_mount.proofs.CauseLemmas.{list_cause, cause_map}
use Rattle.save_mount.proofs.structure.with_free.Goals as goal

pub returns-in-Err-clause-cause : goal.returns-in-Err-clause-cause
returns-in-Err-clause-cause g c told =
    let s = g.S.Space.state c.args.base.now in
    subst (λ (fault : MountFault). HasListCause s.cells c.args.info
    (FailsFree (table_in s.cells c.args.info) c.args.info.count)
    (IsFreeNeeded (table_in s.cells c.args.info) c.args.info.count) fault) (sym c.refused_list.ensures)
    (cause_map s.cells c.args.info (list_fault c.in-Err.fault)
    (λ e fault. record { none = c.in-Ok.held; is_none = c.in-Ok.ensures.none; fault = fault }) (λ e needed. needed)
    (list_cause s c.args.info c.in-Err.fault told c.in-Err.ensures.faults))

pub returns-clause-held : goal.returns-clause-held
returns-clause-held g c told =
    let walked = c.in-Ok-hold_free.ensures.held told in
    record {
      list = walked.0;
      free = walked.1.0;
      none = c.in-Ok.held;
      is_none = c.in-Ok.ensures.none;
      takes = walked.1.1.0;
      len = walked.1.1.1;
      no_blocks = c.new-blocks.ensures.items;
    }
