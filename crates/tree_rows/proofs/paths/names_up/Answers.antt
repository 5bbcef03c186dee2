use Rattle.std.proofs.Common.{reverse, sym, ap, ◌∙◌, arith}
use Rattle.entry_tables.specs.declared.table.EntryKind.TheVariants.{Dir}
use Rattle.entry_tables.specs.Tables.{Tables}
use Rattle.tree_model.specs.Trees.{Names}
use Rattle.tree_rows.proofs.PathLemmas.{IsRisen-none, IsRisen-more, risen_to_root, risen_all, short_rising}
use Rattle.tree_rows.proofs.paths.names_up.Goals as goal

pub loop-risen-init : goal.loop-risen-init
loop-risen-init c = λ (t : Tables) path read orderly at.
    rw c.new-names.ensures.items (IsRisen-none (t.table Dir) c.args.dir path at.0 at.1)

pub loop-risen-preserved : goal.loop-risen-preserved
loop-risen-preserved c = λ (t : Tables) (path : Names) read orderly at.
    let before = c.loop-risen.invariant t path read orderly at in
    let entry = c.in-Some.ensures.named t read in
    let placed = orderly.placed Dir c.loop-risen.at entry.0 in
    rw (entry.1.parent, c.in_ok-push.ensures.items, entry.1.name) (IsRisen-more before entry.0 placed.parent)

pub returns-in_default : goal.returns-in_default
returns-in_default c = λ (t : Tables) path read orderly at.
    ap reverse (risen_to_root (c.loop-risen.invariant t path read orderly at) (c.in_default.ensures.other t read))
    ∙ sym at.1.names

pub returns : goal.returns
returns c = λ (t : Tables) path read orderly at.
    ap reverse (risen_all (c.loop-risen.invariant t path read orderly at)
    (omega (arith, short_rising t orderly path c.args.dir at, c.loop-risen-test.false))) ∙ sym at.1.names
