use Rattle.std.proofs.Common.{◌≡◌, refl, sym, subst, arith, ℕ, ◌+◌, List, [], ◌++◌, Err}
use Rattle.std.specs.Bool.{⊤}
use Rattle.std.proofs.lemmas.List.{append-nil}
use Rattle.chain_nodes.specs.Table.{table_in}
use Rattle.chain_nodes.proofs.FaultLemmas.{FaultsOnly-map}
use Rattle.held_lists.specs.Walks.{TakesAll, chain_fault_of}
use Rattle.tree_rules.specs.Lists.{IsTableList}
use Rattle.tree_rules.specs.Places.{table_blocks}
use Rattle.held_lists.proofs.TakeLemmas.{takes_none}
use Rattle.chain_nodes.specs.Faults.{FaultsOnly}
use Rattle.tree_rules.specs.declared.information.TableAt.{TableAt}
use Rattle.save_mount.specs.Held.{IsTableFault, TableNeeds}
use Rattle.save_mount.specs.Held.IsChainFault.{InTableChain, TooFewBlocks}
use Rattle.save_mount.proofs.HeldLemmas.{chain_list}
use Rattle.save_mount.proofs.lists.hold_table.Goals as goal

pub returns-in-Err-clause-faults : goal.returns-in-Err-clause-faults
returns-in-Err-clause-faults g c =
    subst (λ (at : TableAt). FaultsOnly (g.S.Space.state c.args.base.now) c.args.info
    (IsTableFault (table_in (g.S.Space.state c.args.base.now).cells c.args.info) c.args.info.count at c.args.held.now)
    (TableNeeds (table_in (g.S.Space.state c.args.base.now).cells c.args.info) c.args.info.count at)
    (chain_fault_of {A = ⊤} (Err c.in-Err.fault)))
    (sym c.in-InChain.is)
    (FaultsOnly-map (g.S.Space.state c.args.base.now) c.args.info (chain_fault_of {A = ⊤} (Err c.in-Err.fault))
    (λ told e fault. InTableChain fault) (λ told e needed. needed) c.in-Err.ensures.faults)

pub returns-then-len-most-clause-faults : goal.returns-then-len-most-clause-faults
returns-then-len-most-clause-faults g c = record {
  broken = λ told. (
      let walked = c.in-Ok.ensures.held told in
      subst (λ (at : TableAt). IsTableFault (table_in (g.S.Space.state c.args.base.now).cells c.args.info)
      c.args.info.count at c.args.held.now (c.in-InChain.first + 1)) (sym c.in-InChain.is)
      (TooFewBlocks refl walked.0
      (chain_list (table_in (g.S.Space.state c.args.base.now).cells c.args.info) c.args.info.count
      (c.in-InChain.first + 1) c.args.held.now c.hold_blocks.new.held walked.0 (omega arith) walked.1)
      (omega (arith, walked.2.0, c.if-len-most.true))));
  damaged = λ told. tt;
  plain = λ plain. tt;
  never_short = tt;
}

pub returns-in-Plainly-clause-held : goal.returns-in-Plainly-clause-held
returns-in-Plainly-clause-held g c told =
    subst (λ (at : TableAt). (list : List ℕ)
    × (IsTableList (table_in (g.S.Space.state c.args.base.now).cells c.args.info) c.args.info.count at list
    × (TakesAll c.args.held.now c.args.held.now list
    × (c.args.blocks.now.items ≡ c.args.blocks.now.items ++ table_blocks at list))))
    (sym c.in-Plainly.is)
    ([], (refl, (takes_none c.args.held.now, sym (append-nil c.args.blocks.now.items))))

pub returns-else-len-most-clause-held : goal.returns-else-len-most-clause-held
returns-else-len-most-clause-held g c told =
    let walked = c.in-Ok.ensures.held told in
    subst (λ (at : TableAt). (list : List ℕ)
    × (IsTableList (table_in (g.S.Space.state c.args.base.now).cells c.args.info) c.args.info.count at list
    × (TakesAll c.args.held.now c.hold_blocks.new.held list
    × (c.hold_blocks.new.blocks.items ≡ c.args.blocks.now.items ++ table_blocks at list))))
    (sym c.in-InChain.is) (
      walked.0,
      (
        (
          chain_list (table_in (g.S.Space.state c.args.base.now).cells c.args.info) c.args.info.count
              (c.in-InChain.first + 1) c.args.held.now c.hold_blocks.new.held walked.0 (omega arith) walked.1,
          omega (arith, walked.2.0, c.if-len-most.false),
        ),
        (walked.1.takes, walked.2.1),
      ),
    )
