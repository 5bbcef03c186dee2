-- A removal as a whole: calls that only read, and then the four words.
use Rattle.std.proofs.Common.{◌≡◌, ◌∙◌, ℕ, IsTrue, List, Option, Some, None, Result, sym, ap, subst}
use Rattle.std.proofs.lemmas.List.Elements.{All-weaker}
use Rattle.save_bytes.specs.declared.space.Bad.{Bad}
use Rattle.save_bytes.specs.declared.space.Bad.TheVariants.{Disk, Damaged}
use Rattle.save_bytes.specs.Cells.{IsUnspoilt}
use Rattle.save_bytes.specs.State.{State}
use Rattle.save_bytes.specs.Refusals.{UnlessDisk, IfDamaged, NeverDamaged}
use Rattle.save_bytes.specs.Stays.{Stays, SameCells}
use Rattle.save_bytes.specs.Reads.{Reads}
use Rattle.save_bytes.specs.Spots.{Spot, Hold}
use Rattle.save_bytes.proofs.SpaceLemmas.{UnlessDisk-map, SameSpace-where}
use Rattle.save_bytes.proofs.WithinLemmas.{ChangesWithin-same, ChangesWithin-wider}
use Rattle.entry_tables.specs.declared.table.EntryKind.{EntryKind}
use Rattle.entry_tables.specs.declared.table.EntryKind.TheVariants.{Dir}
use Rattle.entry_tables.specs.declared.table.TableInfo.{TableInfo}
use Rattle.entry_tables.specs.declared.table.EntryFault.{EntryFault}
use Rattle.entry_tables.specs.declared.word.Edit.{Edit}
use Rattle.entry_tables.specs.Used.{used_entries}
use Rattle.entry_tables.specs.Fails.{RuleFailsAt}
use Rattle.entry_tables.specs.Causes.{IfRuleBroken}
use Rattle.entry_tables.proofs.CauseLemmas.{IfRuleBroken-map}
use Rattle.entry_tables.proofs.FailLemmas.{nowhere_fails}
use Rattle.entry_tables.specs.Tables.{Tables, table_in, tables_in, info_of}
use Rattle.entry_tables.specs.Rules.{IsOrderly}
use Rattle.entry_tables.specs.Layout.{HasEntryTables}
use Rattle.entry_tables.specs.Words.{HasWord, tables_after}
use Rattle.entry_tables.specs.Changes.{CanChangeTables, IsBounded, CanSet, CanSetAll, AreSet, IsSite, ChangesAt}
use Rattle.entry_tables.proofs.ChangeLemmas.{ChangesAt-where, ChangesAt-then}
use Rattle.entry_tables.proofs.QuietLemmas.{stays_tables, stays_can}
use Rattle.entry_changes.specs.Removed.{tables_without}
use Rattle.entry_changes.specs.Lacks.{LacksOne, IsTakenOut, IsRemovalSite}
use Rattle.entry_changes.specs.Plans.{HasChangeCause, MayRemove, IsRemovalPlan, IsRemovalReady}
use Rattle.entry_changes.proofs.WalkLemmas.{same_cell}
use Rattle.entry_changes.proofs.RemovedLemmas.{removed_orderly, removed_lacks, removal_after}

-- refused for a damaged cell no cell changed, as in each refusal but that for the disk's sake
same_damaged : (s t : State) (refusal : Option Bad) → UnlessDisk refusal (SameCells s t)
    → IfDamaged refusal (λ part level block. SameCells s t)
same_damaged s t None same = tt
same_damaged s t (Some Disk) same = tt
same_damaged s t (Some (Damaged part level block)) same = same

module _ {A : Type 0} (states : A → State) (keeps : Spot → A → A → Type 0) (lands : A → ℕ → Spot → Type 0) {P : Type 0}
  where
    -- a call that only reads is one that changes, wherever
    pub reads_change : (sites : ℕ → Type 0) (s t : A) (refusal : Option Bad) → (P → IsTrue (states s).told)
        → keeps Hold s t
        → (IsTrue (states s).shape.plain → NeverDamaged refusal) → Reads states keeps lands s t refusal
        → ChangesAt states keeps lands P sites s t refusal
    reads_change sites s t refusal told hold plain reads = record {
      space = SameSpace-where (states s) (states t) refusal told reads.stays.space;
      plain = plain;
      within = λ p. UnlessDisk-map refusal
          (λ (same : SameCells (states s) (states t)). ChangesWithin-same (states s) sites (states t).cells same)
          (reads.stays.cells (told p));
      damaged = λ p. same_damaged (states s) (states t) refusal (reads.stays.cells (told p));
      hold = hold;
      spots = λ p spot misses. reads.spots (told p) spot;
      reach = λ p. reads.reach (told p);
    }

    -- fewer places are some of more
    pub more_sites : (few many : ℕ → Type 0) (s t : A) (refusal : Option Bad) → (P → (x : ℕ) → few x → many x)
        → ChangesAt states keeps lands P few s t refusal → ChangesAt states keeps lands P many s t refusal
    more_sites few many s t refusal wider h = record {
      space = h.space;
      plain = h.plain;
      within = λ p. UnlessDisk-map refusal
          (ChangesWithin-wider (states s) few many (states t).cells (λ x below. wider p x)) (h.within p);
      damaged = h.damaged;
      hold = h.hold;
      spots = λ p spot misses. h.spots p spot (λ x below here. misses x below (wider p x here));
      reach = h.reach;
    }

-- behind calls that only read the same numbers may be put
module _ (s t : State) (dirs files : TableInfo) (tables : HasEntryTables s.shape dirs files)
    (can : CanChangeTables s dirs files) (stays : Stays s t None) where
  set_later : (edit : Edit) → CanSet s dirs files edit → CanSet t dirs files edit
  set_later edit is =
      let same = stays_tables s dirs files tables can t stays in
      record {
        has = subst (λ (u : Tables). HasWord u edit.word) (sym same) is.has;
        bounded = subst (λ (u : Tables). IsBounded u edit.word edit.value) (sym same) is.bounded;
        ready = λ k less. subst IsUnspoilt
            (sym (same_cell s t dirs files tables can stays edit.word is.has k less)) (is.ready k less);
      }

  pub all_later : (edits : List Edit) → CanSetAll s dirs files edits → CanSetAll t dirs files edits
  all_later edits all = record {
    can = stays_can s dirs files tables can t stays;
    each = All-weaker (CanSet s dirs files) (CanSet t dirs files) set_later edits all.each;
  }

  -- the four words take the entry out
  pub taken_out : (u : State) (kind : EntryKind) (e : ℕ) → MayRemove (tables_in s.cells dirs files) kind e
      → (edits : List Edit) → IsRemovalPlan s dirs files kind e (Some edits)
      → (CanSetAll t dirs files edits → AreSet t u dirs files edits) → IsTakenOut s u dirs files kind e
  taken_out u kind e may edits (xs, us, behind, is, all) done =
      let old = tables_in s.cells dirs files in
      let set = done (all_later edits all) in
      let are : tables_in u.cells dirs files ≡ tables_without old kind e xs us =
      set.tables ∙ ap (λ (v : Tables). tables_after v edits) (stays_tables s dirs files tables can t stays)
      ∙ ap (λ (l : List Edit). tables_after old l) is ∙ removal_after old kind e xs us in
      record {
        xs = xs;
        us = us;
        behind = behind;
        tables = are;
        rules = subst (λ (v : Tables). IsOrderly v) (sym are)
            (removed_orderly old may.rules kind e may.can xs us behind (tables kind).some);
        lacks = subst (λ (v : Tables). LacksOne old v kind e) (sym are)
            (removed_lacks old may.rules kind e may.can xs us behind (tables kind).some);
        can = set.can;
      }

-- a plan that was made may be carried out behind calls that only read
pub planned_later : (s t : State) (dirs files : TableInfo) → HasEntryTables s.shape dirs files → Stays s t None
    → (kind : EntryKind) (e : ℕ) (edits : List Edit)
    → (CanChangeTables s dirs files → MayRemove (tables_in s.cells dirs files) kind e
    → IsRemovalPlan s dirs files kind e (Some edits))
    → CanChangeTables s dirs files × MayRemove (tables_in s.cells dirs files) kind e → CanSetAll t dirs files edits
planned_later s t dirs files tables stays kind e edits plan (can, may) =
    let made = plan can may in
    all_later s t dirs files tables can stays edits made.4

-- and so one that was made says that the entry may go
pub ready_planned : (s : State) (dirs files : TableInfo) (kind : EntryKind) (e : ℕ) (plan : Option (List Edit))
    → IsRemovalPlan s dirs files kind e plan → IsRemovalReady s dirs files kind e
ready_planned s dirs files kind e None none = absurd none
ready_planned s dirs files kind e (Some edits) (xs, us, behind, is, all) =
    (xs, us, behind, subst (λ (l : List Edit). CanSetAll s dirs files l) is all)

planned_site : (s : State) (dirs files : TableInfo) (kind : EntryKind) (e : ℕ) (edits : List Edit)
    → IsRemovalPlan s dirs files kind e (Some edits) → (x : ℕ) → IsSite dirs files edits x
    → IsRemovalSite (tables_in s.cells dirs files) dirs files kind e x
planned_site s dirs files kind e edits (xs, us, behind, is, all) x site =
    (xs, us, behind, subst (λ (l : List Edit). IsSite dirs files l x) is site)

-- what the calls of a removal change together
pub removal_changes : {A : Type 0} (states : A → State) (keeps : Spot → A → A → Type 0) (lands : A → ℕ → Spot → Type 0)
    → ((spot : Spot) (s t u : A) → keeps spot s t → keeps spot t u → keeps spot s u) → (s t u : A)
    (dirs files : TableInfo) → HasEntryTables (states s).shape dirs files → keeps Hold s t
    → Reads states keeps lands s t None → (kind : EntryKind) (e : ℕ) (edits : List Edit) (refusal : Option Bad)
    → (CanChangeTables (states s) dirs files → MayRemove (tables_in (states s).cells dirs files) kind e
    → IsRemovalPlan (states s) dirs files kind e (Some edits))
    → (CanSetAll (states t) dirs files edits → NeverDamaged refusal)
    → ChangesAt states keeps lands (CanSetAll (states t) dirs files edits) (IsSite dirs files edits) t u refusal
    → ChangesAt states keeps lands
    (CanChangeTables (states s) dirs files × MayRemove (tables_in (states s).cells dirs files) kind e)
    (IsRemovalSite (tables_in (states s).cells dirs files) dirs files kind e) s u refusal
removal_changes states keeps lands join s t u dirs files tables hold reads kind e edits refusal plan never changes =
    let sites = IsRemovalSite (tables_in (states s).cells dirs files) dirs files kind e in
    let gives = planned_later (states s) (states t) dirs files tables reads.stays kind e edits plan in
    ChangesAt-then states keeps lands join sites sites s t u refusal (λ p. p) (λ p. never (gives p)) (λ x here. here)
    (reads_change states keeps lands sites s t None (λ p. (p.0.tells Dir).told) hold (λ plain. tt) reads)
    (more_sites states keeps lands (IsSite dirs files edits) sites t u refusal
    (λ p x. planned_site (states s) dirs files kind e edits (plan p.0 p.1) x)
    (ChangesAt-where states keeps lands (IsSite dirs files edits) t u refusal gives changes))

-- for callers: as far as the rules hold, none is said to fail
pub never_broken : {A : Type 0} (s : State) (dirs files : TableInfo) (kind : EntryKind) (e : ℕ)
    (result : Result A EntryFault)
    → HasChangeCause s dirs files (MayRemove (tables_in s.cells dirs files) kind e)
    (λ table number. used_entries (table_in s.cells kind (info_of dirs files kind)) e
    → used_entries (table_in s.cells Dir dirs) ((table_in s.cells kind (info_of dirs files kind)).parent e)
    → RuleFailsAt (tables_in s.cells dirs files) table number) result
    → CanChangeTables s dirs files → MayRemove (tables_in s.cells dirs files) kind e
    → IfRuleBroken result (λ table number. ⊥)
never_broken s dirs files kind e result cause can may =
    IfRuleBroken-map result
    (λ table number fails. nowhere_fails (tables_in s.cells dirs files) table number may.rules
    (fails may.can.named.used (may.rules.placed kind e may.can.named).parent))
    (cause.broken can)
