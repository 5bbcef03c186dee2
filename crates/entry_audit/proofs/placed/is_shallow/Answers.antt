use Rattle.std.proofs.Common.{sym, subst, arith}
use Rattle.entry_tables.specs.declared.table.EntryKind.TheVariants.{Dir}
use Rattle.entry_tables.specs.Tables.{Tables}
use Rattle.entry_tables.specs.Used.{used_entries}
use Rattle.entry_audit.proofs.PlaceLemmas.{HasRisen-none, HasRisen-more, risen_shallow, risen_deep}
use Rattle.entry_audit.proofs.placed.is_shallow.Goals as goal

pub loop-passed-init : goal.loop-passed-init
loop-passed-init c = record {
  risen = λ (t : Tables) read. HasRisen-none (t.table Dir) c.args.dir;
  used = λ t read parents used. used;
}

pub returns-then-at-eq1-clause-yes : goal.returns-then-at-eq1-clause-yes
returns-then-at-eq1-clause-yes c = λ t read result.
    risen_shallow (c.loop-passed.invariant.risen t read) c.if-at-eq1.true (omega (arith, c.loop-passed-test.true))

pub returns-in_default-clause-no : goal.returns-in_default-clause-no
returns-in_default-clause-no c = λ t read parents used result.
    absurd (c.in_default.ensures.unused Dir t read (c.loop-passed.invariant.used t read parents used))

pub loop-passed-preserved : goal.loop-passed-preserved
loop-passed-preserved c =
    let before = c.loop-passed.invariant in
    record {
      risen = λ (t : Tables) read.
          (let entry = c.in-Some.ensures.used Dir t read in
          HasRisen-more (before.risen t read) c.in-Some.read.parent c.if-at-eq1.false
          (λ none. (omega (arith, entry.0.some, none))) entry.1.parent);
      used = λ (t : Tables) read parents used.
          (let entry = c.in-Some.ensures.used Dir t read in
          subst (used_entries (t.table Dir)) (sym entry.1.parent)
          (parents c.loop-passed.at (record { used = entry.0; other = c.if-at-eq1.false })));
    }

pub returns-clause-no : goal.returns-clause-no
returns-clause-no c = λ t read parents used result.
    risen_deep (c.loop-passed.invariant.risen t read) (omega (arith, c.loop-passed-test.false))
