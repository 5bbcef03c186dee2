use Rattle.std.proofs.Common.{◌≡◌, ◌≢◌, ◌==◌, ap, ◌∙◌, List, [], length, true, subst}
use Rattle.save_bytes.specs.declared.name.Name.{Name}
use Rattle.save_bytes.specs.Paths.{IsPath, path_text}
use Rattle.save_bytes.proofs.PathCodeLemmas.{path_text_is, texts_of}
use Rattle.save_bytes.proofs.path.Path.write.Goals as goal
use Rattle.save_bytes.proofs.path.Path.write.Goals.{After-put_names}

written : (c : After-put_names) → c.put_names.new.out.items ≡ path_text c.args.self.now
written c =
    let items : List Name = c.self.inside.names.items in
    let some : items ≢ [] = λ none.
    let test : (length items == 0) ≡ true = ap (λ (xs : List Name). length xs == 0) none in
    let failed = c.if-is_empty.ensures in absurd (cc (test, failed)) in
    c.put_names.ensures ∙ rw c.as_slice.ensures.value (texts_of items some) ∙ ap path_text c.self.view_is

pub returns-else-is_empty-clause-text : goal.returns-else-is_empty-clause-text
returns-else-is_empty-clause-text c = written c

pub returns-else-is_empty-clause-read : goal.returns-else-is_empty-clause-read
returns-else-is_empty-clause-read c =
    rw written (path_text_is c.args.self.now (subst IsPath c.self.view_is c.self.invariant))
