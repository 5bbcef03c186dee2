use Rattle.std.proofs.Common.{refl, Some, sym, arith, ◌+◌, []}
use Rattle.chain_nodes.specs.Table.{table_in}
use Rattle.chain_nodes.proofs.FaultLemmas.{FaultsOnly-map}
use Rattle.held_lists.proofs.TakeLemmas.{takes_none}
use Rattle.tree_rules.specs.Lists.IsFileList.{HasNone}
use Rattle.tree_rules.specs.Fails.IsWrongFile.{TooShort}
use Rattle.save_mount.proofs.HeldLemmas.{chain_list}
use Rattle.save_mount.proofs.lists.hold_file.Goals as goal

pub returns-then-size-eq0-clause-held : goal.returns-then-size-eq0-clause-held
returns-then-size-eq0-clause-held g c told = ([], (HasNone c.if-start-eq-NO_BLOCK.true c.if-size-eq0.true refl, takes_none c.args.held.now))

pub returns-in-Err-clause-faults : goal.returns-in-Err-clause-faults
returns-in-Err-clause-faults g c = record {
  chain = FaultsOnly-map (g.S.Space.state c.args.base.now) c.args.info (Some c.in-Err.fault)
      (λ told e fault. (c.if-start-info.false, fault)) (λ told e needed. (c.if-start-info.false, needed)) c.in-Err.ensures.faults;
  wrong = λ told. tt;
}

pub returns-then-from-size-clause-faults : goal.returns-then-from-size-clause-faults
returns-then-from-size-clause-faults g c = record {
  chain = record { broken = λ told. tt; damaged = λ told. tt; plain = λ plain. tt; never_short = tt };
  wrong = λ told. (
      let walked = c.in-Ok.ensures.held told in
      TooShort c.if-start-info.false walked.0
      (chain_list (table_in (g.S.Space.state c.args.base.now).cells c.args.info) c.args.info.count
      (c.args.start + 1) c.args.held.now c.hold_list.new.held walked.0 (omega arith) walked.1)
      (rw (sym walked.2, sym c.from.ensures, sym c.from-2.ensures) c.if-from-size.true));
}
