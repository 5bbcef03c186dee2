use Rattle.std.proofs.Common.{◌≡◌, refl, sym, ap, subst}
use Rattle.entry_tables.specs.declared.table.EntryKind.TheVariants.{Dir}
use Rattle.entry_tables.specs.Tables.{Tables}
use Rattle.tree_model.specs.declared.listing.Row.TheVariants as row
use Rattle.tree_model.specs.Trees.{Names}
use Rattle.tree_rules.specs.Reading.{IsDirAt}
use Rattle.tree_rows.proofs.PathLemmas.{some_dir, short_path, named_path}
use Rattle.tree_rows.proofs.rows.dir_pair.Goals as goal

pub returns : goal.returns
returns c = λ (t : Tables) read orderly.
    let items = c.in_ok-names.names.items in
    let found = some_dir t orderly c.args.dir (c.in-Some.ensures.used Dir t read).0 in
    let names : items ≡ found.0 = c.in_ok-names.ensures t found.0 read orderly found.1 in
    let at : IsDirAt t items c.args.dir =
    subst (λ (path : Names). IsDirAt t path c.args.dir) (sym names) found.1 in
    let made = rw c.deref.ensures.value at c.path_of.ensures in
    let path : c.path_of.result ≡ items =
    made (short_path t orderly Dir items c.args.dir at) (named_path t orderly Dir items c.args.dir at) in
    (at, refl, ap row.Dir path)
