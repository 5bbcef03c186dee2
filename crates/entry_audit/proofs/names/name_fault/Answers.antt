use Rattle.std.proofs.Common.{◌≡◌, ℕ, false, cond, Option, Some, None, sym, ◌∙◌, refl}
use Rattle.std.specs.Option.{is_some}
use Rattle.std.specs.Ordering.{is_eq}
use Rattle.std.specs.BTreeMap.{get}
use Rattle.std.proofs.lemmas.Bool.{false≢true}
use Rattle.entry_tables.specs.Tables.{Tables}
use Rattle.entry_audit.proofs.NameLemmas.{Key, key_of, key_cmp, HasNames-other, HasNames-more, name_shared}
use Rattle.entry_audit.proofs.names.name_fault.Goals.{in-Some+in-Ok+else-is_some, in_default}
use Rattle.entry_audit.proofs.names.name_fault.Goals as goal

not_some : (found : Option ℕ) → is_some found ≡ false → found ≡ None
not_some None is = refl
not_some (Some e) is = absurd (false≢true (sym is))

pub returns-then-is_some-clause-fault : goal.returns-then-is_some-clause-fault
returns-then-is_some-clause-fault c = λ (t : Tables) read.
    let entry = c.loop-entry.entry in
    let found = c.in-Some.ensures.named t read in
    let old : c.in-Ok.before ≡ get key_cmp c.loop-entry.names (key_of (t.table c.args.kind) entry) =
    rw (sym found.1.parent, sym found.1.name) c.in-Ok.ensures.old in
    name_shared (c.loop-entry.invariant t read) c.in-Ok.before old (sym c.is_some.ensures ∙ c.if-is_some.true) found.0

pub loop-entry-preserved : goal.loop-entry-preserved
loop-entry-preserved c = λ (t : Tables) read.
    let entry = c.loop-entry.entry in
    let before = c.loop-entry.invariant t read in
    elim c.match-named_of.branch [
      | in-Some+in-Ok+else-is_some w ↦
          (let found = w.in-Some.ensures.named t read in
          let old : w.in-Ok.before ≡ get key_cmp c.loop-entry.names (key_of (t.table c.args.kind) entry) =
          rw (sym found.1.parent, sym found.1.name) w.in-Ok.ensures.old in
          let none = not_some w.in-Ok.before (sym w.is_some.ensures ∙ w.if-is_some.false) in
          let put : (q : Key) → get key_cmp w.insert.new.self q
          ≡ cond (is_eq (key_cmp (key_of (t.table c.args.kind) entry) q)) (Some entry) (get key_cmp
          c.loop-entry.names q) =
          λ q. rw (sym found.1.parent, sym found.1.name) (w.in-Ok.ensures.updates.0 q) in
          rw w.names-is (HasNames-more before found.0 (sym old ∙ none) (get key_cmp w.insert.new.self) put))
      | in_default w ↦ rw w.names-is (HasNames-other before (w.in_default.ensures.other t read))
    ]
