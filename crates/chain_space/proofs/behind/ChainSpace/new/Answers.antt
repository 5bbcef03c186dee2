use Rattle.std.proofs.Common.{◌≡◌, ◌<◌, ◌≤◌, ◌^◌, ℕ, true, List, [], length, Option, unwrap_or, refl, ap, arith}
use Rattle.std.proofs.Math.Bool.{and-true}
use Rattle.save_bytes.specs.State.{State}
use Rattle.chain_nodes.specs.declared.info.ChainInfo.{ChainInfo}
use Rattle.chain_nodes.specs.declared.node.Lead.TheVariants.{Opens}
use Rattle.chain_nodes.specs.Table.{table_in}
use Rattle.chain_nodes.specs.Chains.{IsLinkedBy}
use Rattle.chain_space.specs.Shown.{is_shown, chain_list}
use Rattle.chain_nodes.proofs.ExactLemmas.{same_list}
use Rattle.chain_space.proofs.ShownLemmas.{true-can_show, true-is_shown, linked-found}
use Rattle.chain_space.proofs.behind.ChainSpace.new.Goals as goal

pub returns-clause-sound : goal.returns-clause-sound
returns-clause-sound g c =
    true-can_show (g.S.Space.state c.args.base.now).shape c.args.info c.args.blocks c.requires.table c.requires.fits

pub returns-clause-told : goal.returns-clause-told
returns-clause-told g c = λ chain.
    let base = g.S.Space.state c.args.base.now in
    let info = c.args.info in
    let len = chain.linked in
    let good : is_shown base info c.args.first c.args.blocks ≡ true = true-is_shown base info c.args.first
    c.args.blocks len.0
    c.requires.table.few len.1 (omega (arith, len.2, chain.few)) (omega (arith, len.2, chain.enough)) in
    rw (good, and-true) refl

list_is : (base : State) (info : ChainInfo) (first : ℕ) (list : List ℕ) → info.count < 2 ^ 31
    → IsLinkedBy (table_in base.cells info) info.count Opens first list → length list ≤ info.count
    → chain_list base info first ≡ list
unfolding chain_list
list_is base info first list few linked small =
    ap (λ (o : Option (List ℕ)). unwrap_or o []) (linked-found base info first list few linked small)

pub returns-clause-chain : goal.returns-clause-chain
returns-clause-chain g c = λ chain list linked.
    let base = g.S.Space.state c.args.base.now in
    let info = c.args.info in
    let len = chain.linked in
    let same = same_list (table_in base.cells info) info.count c.requires.table.few Opens c.args.first list linked
    len.0 len.1 in
    list_is base info c.args.first list c.requires.table.few linked (omega (arith, ap length same, len.2, chain.few))
