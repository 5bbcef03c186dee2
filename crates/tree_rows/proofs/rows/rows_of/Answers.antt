use Rattle.std.proofs.Common.{◌≡◌, [], sym, subst}
use Rattle.std.proofs.lemmas.List.Elements.{All-nil, All-same}
use Rattle.std.specs.Map.{values_of}
use Rattle.std.proofs.lemmas.Result.{IfOk-weaker}
use Rattle.std.specs.Global.{Vec}
use Rattle.entry_tables.specs.Tables.{Tables}
use Rattle.tree_model.specs.declared.listing.Row.{Row}
use Rattle.tree_model.specs.Listings.{ListsTree}
use Rattle.tree_rows.specs.Rows.{IsEntryRow}
use Rattle.tree_rows.proofs.RowLemmas.{both_kinds, lists_tree}
use Rattle.tree_rows.proofs.rows.rows_of.Goals as goal

pub returns : goal.returns
returns c = λ cells lists p (t : Tables) tree read orderly by.
    let kind = c.args.kind in
    let entries = c.add_rows-2.new.found.entries in
    let none = All-same (IsEntryRow kind t) c.new-found.result.entries [] c.new-found.ensures.empty
    (All-nil (IsEntryRow kind t)) in
    let dirs = c.in_ok-add_rows.ensures t read orderly none in
    let files = c.in_ok-add_rows-2.ensures t read orderly dirs.true_rows in
    let all = both_kinds kind t orderly c.new-found.result.entries c.add_rows.new.found.entries entries dirs files in
    let lists_all =
    lists_tree kind cells lists p t tree orderly by entries files.true_rows all c.rows_in.ensures.ordered in
    IfOk-weaker c.rows_in.result (λ (rows : Vec Row). rows.items ≡ values_of entries)
    (λ (rows : Vec Row). ListsTree tree rows.items)
    (λ (rows : Vec Row) is. subst (ListsTree tree) (sym is) lists_all) c.rows_in.ensures.rows
