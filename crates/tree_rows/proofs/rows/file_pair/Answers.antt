use Rattle.std.proofs.Common.{◌≡◌, ℕ, List, [], ◌∷◌, ◌++◌, refl, sym, ap, subst, ◌∙◌}
use Rattle.entry_tables.specs.declared.table.EntryKind.TheVariants.{Dir, File}
use Rattle.entry_tables.specs.Tables.{Tables}
use Rattle.tree_model.specs.Trees.{Names}
use Rattle.tree_rules.specs.Reading.{IsDirAt, IsFileAt}
use Rattle.tree_rows.specs.Rows.{sized_row}
use Rattle.tree_rows.proofs.PathLemmas.{short_path, named_path}
use Rattle.tree_rows.proofs.rows.file_pair.Goals as goal

pub returns : goal.returns
returns c = λ (t : Tables) read orderly.
    let items = c.push.new.self.items in
    let entry = c.in-Some.ensures.named t (read File) in
    let placed = orderly.placed File c.args.file entry.0 in
    let way = placed.path.1 in
    let dir : IsDirAt t way.parents_path c.in-Some.entry.parent =
    subst (λ (d : ℕ). IsDirAt t way.parents_path d) (sym entry.1.parent) (placed.parent, way.parent) in
    let front : c.in_ok-names.names.items ≡ way.parents_path =
    c.in_ok-names.ensures t way.parents_path (read Dir) orderly dir in
    let names : items ≡ placed.path.0 =
    c.in_ok-push.ensures.items ∙ ap (λ (names : Names). names ++ c.in-Some.entry.name.0 ∷ []) front
    ∙ ap (λ (name : List ℕ). way.parents_path ++ name ∷ []) entry.1.name ∙ sym way.names in
    let at : IsFileAt t items c.args.file =
    subst (λ (path : Names). IsFileAt t path c.args.file) (sym names) (entry.0, way) in
    let made = rw c.deref.ensures.value at c.path_of.ensures in
    let path : c.path_of.result ≡ items =
    made (short_path t orderly File items c.args.file at) (named_path t orderly File items c.args.file at) in (
      at,
      refl,
      c.file_row-row.ensures ∙ ap (λ (names : Names). sized_row c.args.kind names c.in-Some.entry.wide) path
          ∙ ap (sized_row c.args.kind items) entry.1.own.1,
    )
