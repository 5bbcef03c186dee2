use Rattle.std.proofs.Common.{◌≡◌, Option, Some, None, ℕ, List, IfSome, IfNone, subst, refl}
use Rattle.entry_tables.specs.declared.table.EntryKind.{EntryKind}
use Rattle.entry_tables.specs.declared.table.EntryKind.TheVariants.{Dir, File}
use Rattle.entry_tables.specs.Tables.{Tables}
use Rattle.entry_tables.specs.Used.{used_entries}
use Rattle.entry_tables.specs.Rules.{IsChildList, HasApartNames, HasBucketLists}
use Rattle.entry_tables.specs.Fails.{IsBrokenDirectory, RuleFailsAt}
use Rattle.entry_tables.specs.Fails.RuleFailsAt.{OfPlace, OfDirectory}
use Rattle.entry_audit.specs.declared.table.RuleFault.{RuleFault}
use Rattle.entry_audit.proofs.rules.rule_fault.Goals as goal

pub returns-in-Some-clause-fault : goal.returns-in-Some-clause-fault
returns-in-Some-clause-fault c t read =
    let fails = c.in-Some.ensures.fault t read in
    OfPlace fails.0 fails.1 fails.2

pub returns-in-Some-2-clause-fault : goal.returns-in-Some-2-clause-fault
returns-in-Some-2-clause-fault c t read = OfDirectory refl
    (subst (λ (found : Option ℕ). IfSome found (IsBrokenDirectory t)) c.in-Some-2.is
    (c.in_ok-entry.ensures.fault t read (c.in_default.ensures.parents t read)))

pub returns-in-Some-3-clause-fault : goal.returns-in-Some-3-clause-fault
returns-in-Some-3-clause-fault c t read =
    subst (λ (found : Option RuleFault). IfSome found (λ fault. RuleFailsAt t fault.table fault.entry)) c.in-Some-3.is
    (c.in_ok-fault.ensures.fault t (read Dir))

IfNone-map : {A B : Type 0} (found : Option RuleFault) → (A → B) → IfNone found A → IfNone found B
IfNone-map None f h = f h
IfNone-map (Some fault) f h = tt

-- of both kinds
both : (P : EntryKind → Type 0) → P Dir → P File → (kind : EntryKind) → P kind
both P dirs files Dir = dirs
both P dirs files File = files

pub returns-clause-none : goal.returns-clause-none
returns-clause-none c t read =
    IfNone-map c.in_ok-found.found (λ files. record {
      freed = λ kind. (read kind).freed;
      placed = c.in_default.ensures.none t read;
      listed = subst (λ (found : Option ℕ). IfNone found ((kind : EntryKind) (dir : ℕ) → used_entries (t.table Dir) dir
          → (list : List ℕ) × IsChildList t kind dir list)) c.in_default-2.is (c.in_ok-entry.ensures.none t read);
      names_apart = λ kind. both (λ k. HasApartNames k (t.table k)) (dirs.0) files.0 kind;
      buckets = λ kind. both (λ k. HasBucketLists k (t.table k)) (dirs.1) files.1 kind;
    }) (c.in_ok-found.ensures.none t (read File)) where
      dirs : HasApartNames Dir (t.table Dir) × HasBucketLists Dir (t.table Dir)
      dirs = subst (λ (found : Option RuleFault). IfNone found
          (HasApartNames Dir (t.table Dir) × HasBucketLists Dir (t.table Dir))) c.in_default-3.is
          (c.in_ok-fault.ensures.none t (read Dir))
