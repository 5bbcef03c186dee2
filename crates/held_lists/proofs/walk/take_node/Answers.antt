use Rattle.std.proofs.Common.{refl, Some, subst, arith, ℕ}
use Rattle.chain_nodes.specs.Table.{table_in}
use Rattle.held_lists.specs.Sets.{IsInRun, TakesRun}
use Rattle.held_lists.proofs.WalkLemmas.{met_fault, taken_few, walked_more, node_faults}
use Rattle.held_lists.proofs.walk.take_node.Goals as goal

pub returns-in-Some-clause-faults : goal.returns-in-Some-clause-faults
returns-in-Some-clause-faults g c = record {
  broken = λ told lead first before nodes w. met_fault (table_in (g.S.Space.state c.args.base.now).cells c.args.info) c.args.info.count lead
      first before nodes c.args.at.now c.args.held.now w c.in-Ok.link.node c.in-Ok.link.next
      (c.in-Ok.ensures.node told) c.in-Ok.ensures.first c.in-Ok.ensures.next c.in-Some.entry
      (subst (λ (n : ℕ). IsInRun c.in-Ok.link.node.first n c.in-Some.entry) c.node_len-len.ensures
      c.in-Some.ensures.met)
      c.in-Some.ensures.held;
  damaged = λ told. tt;
  plain = λ plain. tt;
  never_short = tt;
}

pub returns-then-passed-from-clause-faults : goal.returns-then-passed-from-clause-faults
returns-then-passed-from-clause-faults g c = record {
  broken = λ told lead first before nodes w. (
      let few = taken_few (table_in (g.S.Space.state c.args.base.now).cells c.args.info) c.args.info.count lead
      first before nodes c.args.at.now c.args.held.now w c.in-Ok.link.node c.in-Ok.link.next
      (c.in-Ok.ensures.node told) c.in-Ok.ensures.first c.in-Ok.ensures.next
      c.take_run.new.held
      (subst (λ (n : ℕ). TakesRun c.args.held.now c.take_run.new.held c.in-Ok.link.node.first n) c.node_len-len.ensures
      c.in_default.ensures.taken) in
      absurd (omega (
        arith,
        few,
        c.from.ensures,
        c.from-2.ensures,
        c.from-3.ensures,
        c.node_len-len.ensures,
        c.if-passed-from.true,
      )));
  damaged = λ told. tt;
  plain = λ plain. tt;
  never_short = tt;
}

pub returns-clause-walked : goal.returns-clause-walked
returns-clause-walked g c told lead first before nodes w =
    walked_more (table_in (g.S.Space.state c.args.base.now).cells c.args.info) c.args.info.count lead
    first before nodes c.args.at.now c.args.held.now w c.in-Ok.link.node c.in-Ok.link.next
    (c.in-Ok.ensures.node told) c.in-Ok.ensures.first c.in-Ok.ensures.next c.take_run.new.held
    (subst (λ (n : ℕ). TakesRun c.args.held.now c.take_run.new.held c.in-Ok.link.node.first n) c.node_len-len.ensures
    c.in_default.ensures.taken) _ refl refl
    (omega (arith, c.from.ensures, c.from-2.ensures, c.node_len-len.ensures))

pub returns-in-Err-clause-faults : goal.returns-in-Err-clause-faults
returns-in-Err-clause-faults g c = node_faults (g.S.Space.state c.args.base.now) c.args.info c.args.at.now
    c.args.held.now (Some c.in-Err.fault) c.requires.next.some c.in-Err.ensures.faults
