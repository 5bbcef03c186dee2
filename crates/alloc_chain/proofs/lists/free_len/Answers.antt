use Rattle.std.proofs.Common.{◌≡◌, ℕ, length, IfOk, Err, ◌∙◌, ap, subst}
use Rattle.std.specs.Result.{result_err}
use Rattle.save_bytes.specs.Cells.{Cell}
use Rattle.save_bytes.proofs.CallLemmas.{IfOk-map}
use Rattle.chain_nodes.specs.declared.node.Lead.TheVariants.{OpensFree}
use Rattle.chain_nodes.specs.Table.{table_in, index_of, word_v}
use Rattle.chain_nodes.specs.Runs.{HasLength}
use Rattle.chain_nodes.proofs.TableLemmas.{table_stays}
use Rattle.chain_nodes.proofs.ListLemmas.{free_faults_later}
use Rattle.chain_nodes.proofs.ExactLemmas.{same_list, done_unless_disk, no_free_break, no_free_need}
use Rattle.alloc_chain.proofs.lists.free_len.Goals as goal

pub returns-in-Err-clause-exact : goal.returns-in-Err-clause-exact
returns-in-Err-clause-exact g c = λ told list free.
    let info = c.args.info in
    let table = table_in (g.S.Space.state c.args.base.now).cells info in
    done_unless_disk (g.S.Space.state c.args.base.now) info told (λ n. n ≡ length list) (Err c.in-Err.fault)
    (no_free_break table info.count list c.requires.few free.linked free.once)
    (no_free_need table info.count list c.requires.few free.read free.linked)
    c.in-Err.ensures.faults tt

pub returns-clause-length : goal.returns-clause-length
returns-clause-length g c = λ told.
    let info = c.args.info in
    let stays = c.in-Ok.ensures.reads.stays in
    let here : IfOk c.list_len.result (HasLength (table_in (g.S.Space.state c.args.base.now).cells info) info.count
    OpensFree c.in-Ok.first) =
    subst (λ (t : ℕ → ℕ → Cell). IfOk c.list_len.result (HasLength t info.count OpensFree c.in-Ok.first))
    (table_stays (g.S.Space.state c.args.base.now) (g.S.Space.state c.free_first.new.base) info c.requires stays told)
    (c.list_len.ensures.length (stays.space.told told)) in
    subst (λ (f : ℕ). IfOk c.list_len.result (HasLength (table_in
    (g.S.Space.state c.args.base.now).cells info) info.count OpensFree f))
    (c.in-Ok.ensures.first told).1 here

pub returns-clause-faults : goal.returns-clause-faults
returns-clause-faults g c =
    free_faults_later (g.S.Space.state c.args.base.now) (g.S.Space.state c.free_first.new.base) c.args.info
    c.in-Ok.first
    (result_err c.list_len.result) c.requires c.in-Ok.ensures.reads.stays (λ told. (c.in-Ok.ensures.first told).1)
    c.list_len.ensures.faults

pub returns-clause-exact : goal.returns-clause-exact
returns-clause-exact g c = λ told list free.
    let info = c.args.info in
    let table = table_in (g.S.Space.state c.args.base.now).cells info in
    done_unless_disk (g.S.Space.state c.args.base.now) info told (λ n. n ≡ length list) c.list_len.result
    (no_free_break table info.count list c.requires.few free.linked free.once)
    (no_free_need table info.count list c.requires.few free.read free.linked)
    (returns-clause-faults g c)
    (IfOk-map c.list_len.result (λ n (other, linked, is). is
    ∙ ap length (same_list table info.count c.requires.few OpensFree (index_of (word_v table 0)) list free.linked
    other
    linked)) (returns-clause-length g c told))
