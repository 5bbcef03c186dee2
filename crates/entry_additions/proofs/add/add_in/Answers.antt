use Rattle.std.proofs.Common.{Some, None, sym, subst, ◌∙◌, ◌≡◌, length, rules}
use Rattle.save_bytes.specs.State.{Shape}
use Rattle.save_bytes.specs.Writes.{IsWithin}
use Rattle.save_bytes.proofs.SpaceLemmas.{IfDamaged-never}
use Rattle.entry_tables.specs.declared.table.EntryKind.TheVariants.{Dir}
use Rattle.entry_tables.specs.Kinds.{entry_size}
use Rattle.entry_tables.specs.Tables.{tables_in, info_of, entry_place}
use Rattle.entry_tables.specs.Layout.{HasEntryTables}
use Rattle.entry_tables.specs.Changes.{CanChangeTables, IsSite}
use Rattle.entry_tables.proofs.CauseLemmas.{passed_on, passed_error, plain_stays}
use Rattle.entry_tables.proofs.QuietLemmas.{stays_can}
use Rattle.entry_tables.proofs.ChangeLemmas.{ChangesAt-where, ChangesAt-then}
use Rattle.entry_changes.proofs.TakenLemmas.{reads_change, more_sites, all_later}
use Rattle.entry_additions.specs.Additions.{MayAdd}
use Rattle.entry_additions.specs.Results.{IsAdditionSite}
use Rattle.entry_additions.proofs.PlanLemmas.{addition_bad_cause}
use Rattle.entry_additions.proofs.AddLemmas.{set_behind_put, added_to, entry_bytes_stay, taken_blamed, taken_never}
use Rattle.entry_additions.proofs.AddLemmas.{cause_again}
use Rattle.entry_additions.proofs.AddLemmas.{addition_bytes_later, read_then_change, planned_entry}
use Rattle.entry_additions.proofs.AddLemmas.{planned_words, has_later}
use Rattle.entry_additions.proofs.PutLemmas.{written_long}
use Rattle.entry_additions.proofs.add.add_in.Goals as goal

pub returns-in_err-plan-clause-cause : goal.returns-in_err-plan-clause-cause
returns-in_err-plan-clause-cause g c =
    rw (passed_error _ c.in_err-plan.field-0.0 c.from_residual.ensures.1)
    (cause_again (g.S.Space.state c.args.space.now) c.args.dirs c.args.files c.args.kind c.args.new.parent
    c.args.new.name.0 c.in_err-plan.field-0.0 c.in_err-plan.ensures.cause)

pub returns-in_err-plan-clause-exact : goal.returns-in_err-plan-clause-exact
returns-in_err-plan-clause-exact g c = λ was could bytes soft can may.
    rw (passed_error _ c.in_err-plan.field-0.0 c.from_residual.ensures.1)
    (c.in_err-plan.ensures.exact can may
    (addition_bytes_later was (g.S.Space.state c.args.space.now) c.args.dirs c.args.files c.requires could soft
    c.args.kind c.args.new.parent c.args.new.name.0 may bytes).words)

pub returns-in_err-plan-clause-changes : goal.returns-in_err-plan-clause-changes
returns-in_err-plan-clause-changes g c =
    let s = g.S.Space.state c.args.space.now in
    rw (passed_error _ c.in_err-plan.field-0.0 c.from_residual.ensures.1)
    (reads_change g.S.Space.state g.S.Space.keeps g.S.Space.lands
    (IsAdditionSite (tables_in s.cells c.args.dirs c.args.files) c.args.dirs c.args.files c.args.kind c.args.new.parent
    c.args.new.name.0)
    c.args.space.now c.plan_addition.new.space _ (λ p. (p.0.tells Dir).told)
    (g.met.S.Space.keeps_hold c.args.space.now c.plan_addition.new.space c.in_err-plan.ensures.reads.frame)
    c.in_err-plan.ensures.cause.plain c.in_err-plan.ensures.reads)

pub put_entry-requires : goal.put_entry-requires
put_entry-requires g c =
    subst (λ (shape : Shape). HasEntryTables shape c.args.dirs c.args.files)
    (sym c.in_ok-plan.ensures.reads.stays.space.shape) c.requires

pub returns-in_err-put_entry-clause-cause : goal.returns-in_err-put_entry-clause-cause
returns-in_err-put_entry-clause-cause g c =
    let s = g.S.Space.state c.args.space.now in
    let t = g.S.Space.state c.plan_addition.new.space in
    let read = c.in_ok-plan.ensures.reads.stays in
    let bad = c.in_err-put_entry.field-0.0 in
    rw (passed_on _ bad c.from_residual-in_err-put_entry.ensures.1)
    (addition_bad_cause s c.args.dirs c.args.files c.args.kind c.args.new.parent c.args.new.name.0 bad
    (λ can may. (let made = c.in_ok-plan.ensures.plan can may in
    taken_blamed s t c.args.dirs c.args.files can read c.args.kind c.args.new.parent c.args.new.name.0 c.in_ok-plan.plan
    (Some bad) may made
    (c.in_err-put_entry.ensures.ready (stays_can s c.args.dirs c.args.files c.requires can t read)
    (has_later s t c.args.dirs c.args.files c.requires can read c.args.kind c.args.new.parent c.args.new.name.0
    c.in_ok-plan.plan made))))
    (λ is. c.in_err-put_entry.ensures.changes.plain (plain_stays s.shape t.shape read.space.shape is)))

pub returns-in_err-put_entry-clause-exact : goal.returns-in_err-put_entry-clause-exact
returns-in_err-put_entry-clause-exact g c = λ was could bytes soft can may.
    let s = g.S.Space.state c.args.space.now in
    let t = g.S.Space.state c.plan_addition.new.space in
    let read = c.in_ok-plan.ensures.reads.stays in
    let bad = c.in_err-put_entry.field-0.0 in
    let made = c.in_ok-plan.ensures.plan can may in
    rw (passed_on _ bad c.from_residual-in_err-put_entry.ensures.1)
    (taken_never s t c.args.dirs c.args.files can read c.args.kind c.args.new.parent c.args.new.name.0
    c.in_ok-plan.plan (Some bad) made
    (addition_bytes_later was s c.args.dirs c.args.files c.requires could soft c.args.kind c.args.new.parent
    c.args.new.name.0 may bytes)
    (c.in_err-put_entry.ensures.ready (stays_can s c.args.dirs c.args.files c.requires can t read)
    (has_later s t c.args.dirs c.args.files c.requires can read c.args.kind c.args.new.parent c.args.new.name.0
    c.in_ok-plan.plan made)))

pub returns-in_err-put_entry-clause-changes : goal.returns-in_err-put_entry-clause-changes
returns-in_err-put_entry-clause-changes g c =
    let s = g.S.Space.state c.args.space.now in
    let t = g.S.Space.state c.plan_addition.new.space in
    let read = c.in_ok-plan.ensures.reads.stays in
    let bad = c.in_err-put_entry.field-0.0 in
    rw (passed_on _ bad c.from_residual-in_err-put_entry.ensures.1)
    (read_then_change g.S.Space.state g.S.Space.keeps g.S.Space.lands g.met.S.Space.keeps_join
    (IsAdditionSite (tables_in s.cells c.args.dirs c.args.files) c.args.dirs c.args.files c.args.kind c.args.new.parent
    c.args.new.name.0)
    (IsWithin (entry_place c.args.kind (info_of c.args.dirs c.args.files c.args.kind) c.in_ok-plan.plan.place.entry)
    (entry_size c.args.kind))
    c.args.space.now c.plan_addition.new.space c.put_entry.new.space (Some bad) (λ p. (p.0.tells Dir).told)
    (g.met.S.Space.keeps_hold c.args.space.now c.plan_addition.new.space c.in_ok-plan.ensures.reads.frame)
    (λ p. (
      stays_can s c.args.dirs c.args.files c.requires p.0 t read,
      has_later s t c.args.dirs c.args.files c.requires p.0 read c.args.kind c.args.new.parent c.args.new.name.0
          c.in_ok-plan.plan (c.in_ok-plan.ensures.plan p.0 p.1),
    ))
    (λ p. planned_entry s c.args.dirs c.args.files c.args.kind c.args.new.parent c.args.new.name.0 c.in_ok-plan.plan
    (c.in_ok-plan.ensures.plan p.0 p.1))
    c.in_ok-plan.ensures.reads c.in_err-put_entry.ensures.changes)

pub set_words-requires : goal.set_words-requires
set_words-requires g c =
    subst (λ (shape : Shape). HasEntryTables shape c.args.dirs c.args.files)
    (sym (c.in_ok-put_entry.ensures.changes.space.shape ∙ c.in_ok-plan.ensures.reads.stays.space.shape)) c.requires

pub returns-in_err-set_words-clause-cause : goal.returns-in_err-set_words-clause-cause
returns-in_err-set_words-clause-cause g c =
    let s = g.S.Space.state c.args.space.now in
    let t = g.S.Space.state c.plan_addition.new.space in
    let read = c.in_ok-plan.ensures.reads.stays in
    let u = g.S.Space.state c.put_entry.new.space in
    let gives = λ (p : CanChangeTables s c.args.dirs c.args.files
    × MayAdd (tables_in s.cells c.args.dirs c.args.files) c.args.kind c.args.new.parent c.args.new.name.0).
    (let made = c.in_ok-plan.ensures.plan p.0 p.1 in
    let can_then = stays_can s c.args.dirs c.args.files c.requires p.0 t read in
    let has = has_later s t c.args.dirs c.args.files c.requires p.0 read c.args.kind c.args.new.parent
    c.args.new.name.0 c.in_ok-plan.plan made in
    set_behind_put t u c.args.dirs c.args.files
    (subst (λ (shape : Shape). HasEntryTables shape c.args.dirs c.args.files) (sym read.space.shape) c.requires)
    can_then c.args.kind c.in_ok-plan.plan.place c.args.new has (c.in_ok-put_entry.ensures.put can_then has)
    (c.in_ok-put_entry.ensures.changes.within (can_then, has)) c.in_ok-plan.plan.edits
    (all_later s t c.args.dirs c.args.files c.requires p.0 read c.in_ok-plan.plan.edits made.can)) in
    let bad = c.in_err-set_words.field-0.0 in
    rw (passed_on _ bad c.from_residual-in_err-set_words.ensures.1)
    (addition_bad_cause s c.args.dirs c.args.files c.args.kind c.args.new.parent c.args.new.name.0 bad
    (λ can may. IfDamaged-never (Some bad) _ (c.in_err-set_words.ensures.never (gives (can, may))))
    (λ is. c.in_err-set_words.ensures.changes.plain (plain_stays s.shape u.shape
    (c.in_ok-put_entry.ensures.changes.space.shape ∙ read.space.shape) is)))

pub returns-in_err-set_words-clause-exact : goal.returns-in_err-set_words-clause-exact
returns-in_err-set_words-clause-exact g c = λ was could bytes soft can may.
    let s = g.S.Space.state c.args.space.now in
    let t = g.S.Space.state c.plan_addition.new.space in
    let read = c.in_ok-plan.ensures.reads.stays in
    let u = g.S.Space.state c.put_entry.new.space in
    let gives = λ (p : CanChangeTables s c.args.dirs c.args.files
    × MayAdd (tables_in s.cells c.args.dirs c.args.files) c.args.kind c.args.new.parent c.args.new.name.0).
    (let made = c.in_ok-plan.ensures.plan p.0 p.1 in
    let can_then = stays_can s c.args.dirs c.args.files c.requires p.0 t read in
    let has = has_later s t c.args.dirs c.args.files c.requires p.0 read c.args.kind c.args.new.parent
    c.args.new.name.0 c.in_ok-plan.plan made in
    set_behind_put t u c.args.dirs c.args.files
    (subst (λ (shape : Shape). HasEntryTables shape c.args.dirs c.args.files) (sym read.space.shape) c.requires)
    can_then c.args.kind c.in_ok-plan.plan.place c.args.new has (c.in_ok-put_entry.ensures.put can_then has)
    (c.in_ok-put_entry.ensures.changes.within (can_then, has)) c.in_ok-plan.plan.edits
    (all_later s t c.args.dirs c.args.files c.requires p.0 read c.in_ok-plan.plan.edits made.can)) in
    rw (passed_on _ c.in_err-set_words.field-0.0 c.from_residual-in_err-set_words.ensures.1)
    (c.in_err-set_words.ensures.never (gives (can, may)))

pub returns-in_err-set_words-clause-changes : goal.returns-in_err-set_words-clause-changes
returns-in_err-set_words-clause-changes g c =
    let s = g.S.Space.state c.args.space.now in
    let t = g.S.Space.state c.plan_addition.new.space in
    let read = c.in_ok-plan.ensures.reads.stays in
    let u = g.S.Space.state c.put_entry.new.space in
    let gives = λ (p : CanChangeTables s c.args.dirs c.args.files
    × MayAdd (tables_in s.cells c.args.dirs c.args.files) c.args.kind c.args.new.parent c.args.new.name.0).
    (let made = c.in_ok-plan.ensures.plan p.0 p.1 in
    let can_then = stays_can s c.args.dirs c.args.files c.requires p.0 t read in
    let has = has_later s t c.args.dirs c.args.files c.requires p.0 read c.args.kind c.args.new.parent
    c.args.new.name.0 c.in_ok-plan.plan made in
    set_behind_put t u c.args.dirs c.args.files
    (subst (λ (shape : Shape). HasEntryTables shape c.args.dirs c.args.files) (sym read.space.shape) c.requires)
    can_then c.args.kind c.in_ok-plan.plan.place c.args.new has (c.in_ok-put_entry.ensures.put can_then has)
    (c.in_ok-put_entry.ensures.changes.within (can_then, has)) c.in_ok-plan.plan.edits
    (all_later s t c.args.dirs c.args.files c.requires p.0 read c.in_ok-plan.plan.edits made.can)) in
    let put = read_then_change g.S.Space.state g.S.Space.keeps g.S.Space.lands g.met.S.Space.keeps_join
    {P = CanChangeTables s c.args.dirs c.args.files
    × MayAdd (tables_in s.cells c.args.dirs c.args.files) c.args.kind c.args.new.parent c.args.new.name.0}
    (IsAdditionSite (tables_in s.cells c.args.dirs c.args.files) c.args.dirs c.args.files c.args.kind c.args.new.parent
    c.args.new.name.0)
    (IsWithin (entry_place c.args.kind (info_of c.args.dirs c.args.files c.args.kind) c.in_ok-plan.plan.place.entry)
    (entry_size c.args.kind))
    c.args.space.now c.plan_addition.new.space c.put_entry.new.space None (λ p. (p.0.tells Dir).told)
    (g.met.S.Space.keeps_hold c.args.space.now c.plan_addition.new.space c.in_ok-plan.ensures.reads.frame)
    (λ p. (
      stays_can s c.args.dirs c.args.files c.requires p.0 t read,
      has_later s t c.args.dirs c.args.files c.requires p.0 read c.args.kind c.args.new.parent c.args.new.name.0
          c.in_ok-plan.plan (c.in_ok-plan.ensures.plan p.0 p.1),
    ))
    (λ p. planned_entry s c.args.dirs c.args.files c.args.kind c.args.new.parent c.args.new.name.0 c.in_ok-plan.plan
    (c.in_ok-plan.ensures.plan p.0 p.1))
    c.in_ok-plan.ensures.reads c.in_ok-put_entry.ensures.changes in
    let sites = IsAdditionSite (tables_in s.cells c.args.dirs c.args.files) c.args.dirs c.args.files c.args.kind
    c.args.new.parent c.args.new.name.0 in
    let bad = c.in_err-set_words.field-0.0 in
    rw (passed_on _ bad c.from_residual-in_err-set_words.ensures.1)
    (ChangesAt-then g.S.Space.state g.S.Space.keeps g.S.Space.lands g.met.S.Space.keeps_join sites sites
    c.args.space.now c.put_entry.new.space c.set_words.new.space (Some bad) (λ p. p)
    (λ p. c.in_err-set_words.ensures.never (gives p)) (λ x here. here) put
    (more_sites g.S.Space.state g.S.Space.keeps g.S.Space.lands
    (IsSite c.args.dirs c.args.files c.in_ok-plan.plan.edits)
    sites c.put_entry.new.space c.set_words.new.space (Some bad)
    (λ p. planned_words s c.args.dirs c.args.files c.args.kind c.args.new.parent c.args.new.name.0 c.in_ok-plan.plan
    (c.in_ok-plan.ensures.plan p.0 p.1))
    (ChangesAt-where g.S.Space.state g.S.Space.keeps g.S.Space.lands
    (IsSite c.args.dirs c.args.files c.in_ok-plan.plan.edits) c.put_entry.new.space c.set_words.new.space (Some bad)
    gives c.in_err-set_words.ensures.changes)))

pub returns-clause-added : goal.returns-clause-added
returns-clause-added g c = λ can may.
    let name_long : length c.args.new.name.0 ≡ 16 = search rules in
    let s = g.S.Space.state c.args.space.now in
    let t = g.S.Space.state c.plan_addition.new.space in
    let read = c.in_ok-plan.ensures.reads.stays in
    let u = g.S.Space.state c.put_entry.new.space in
    let gives = λ (p : CanChangeTables s c.args.dirs c.args.files
    × MayAdd (tables_in s.cells c.args.dirs c.args.files) c.args.kind c.args.new.parent c.args.new.name.0).
    (let made = c.in_ok-plan.ensures.plan p.0 p.1 in
    let can_then = stays_can s c.args.dirs c.args.files c.requires p.0 t read in
    let has = has_later s t c.args.dirs c.args.files c.requires p.0 read c.args.kind c.args.new.parent
    c.args.new.name.0 c.in_ok-plan.plan made in
    set_behind_put t u c.args.dirs c.args.files
    (subst (λ (shape : Shape). HasEntryTables shape c.args.dirs c.args.files) (sym read.space.shape) c.requires)
    can_then c.args.kind c.in_ok-plan.plan.place c.args.new has (c.in_ok-put_entry.ensures.put can_then has)
    (c.in_ok-put_entry.ensures.changes.within (can_then, has)) c.in_ok-plan.plan.edits
    (all_later s t c.args.dirs c.args.files c.requires p.0 read c.in_ok-plan.plan.edits made.can)) in
    let made = c.in_ok-plan.ensures.plan can may in
    let can_then = stays_can s c.args.dirs c.args.files c.requires can t read in
    let has = has_later s t c.args.dirs c.args.files c.requires can read c.args.kind c.args.new.parent
    c.args.new.name.0 c.in_ok-plan.plan made in
    added_to s t u (g.S.Space.state c.set_words.new.space) c.args.dirs c.args.files c.requires can read c.args.kind
    c.args.new c.in_ok-plan.plan may made (c.in_ok-put_entry.ensures.put can_then has)
    (c.in_ok-set_words.ensures.set (gives (can, may)))
    (entry_bytes_stay s t u (g.S.Space.state c.set_words.new.space) c.args.dirs c.args.files c.requires
    (subst (λ (shape : Shape). HasEntryTables shape c.args.dirs c.args.files)
    (sym (c.in_ok-put_entry.ensures.changes.space.shape ∙ read.space.shape)) c.requires) can read c.args.kind c.args.new
    c.in_ok-plan.plan may made (c.in_ok-put_entry.ensures.put can_then has)
    (written_long c.args.kind c.args.new c.in_ok-plan.plan.place.sibling c.in_ok-plan.plan.place.link name_long)
    (gives (can, may)) (c.in_ok-set_words.ensures.changes.within (gives (can, may))))

pub returns-clause-cause : goal.returns-clause-cause
returns-clause-cause g c = record {
  damaged = λ can may. tt;
  plain = λ is. tt;
  broken = λ can. tt;
  full = λ can. tt;
  room = c.in_ok-plan.ensures.cause.room;
}

pub returns-clause-changes : goal.returns-clause-changes
returns-clause-changes g c =
    let s = g.S.Space.state c.args.space.now in
    let t = g.S.Space.state c.plan_addition.new.space in
    let read = c.in_ok-plan.ensures.reads.stays in
    let u = g.S.Space.state c.put_entry.new.space in
    let gives = λ (p : CanChangeTables s c.args.dirs c.args.files
    × MayAdd (tables_in s.cells c.args.dirs c.args.files) c.args.kind c.args.new.parent c.args.new.name.0).
    (let made = c.in_ok-plan.ensures.plan p.0 p.1 in
    let can_then = stays_can s c.args.dirs c.args.files c.requires p.0 t read in
    let has = has_later s t c.args.dirs c.args.files c.requires p.0 read c.args.kind c.args.new.parent
    c.args.new.name.0 c.in_ok-plan.plan made in
    set_behind_put t u c.args.dirs c.args.files
    (subst (λ (shape : Shape). HasEntryTables shape c.args.dirs c.args.files) (sym read.space.shape) c.requires)
    can_then c.args.kind c.in_ok-plan.plan.place c.args.new has (c.in_ok-put_entry.ensures.put can_then has)
    (c.in_ok-put_entry.ensures.changes.within (can_then, has)) c.in_ok-plan.plan.edits
    (all_later s t c.args.dirs c.args.files c.requires p.0 read c.in_ok-plan.plan.edits made.can)) in
    let put = read_then_change g.S.Space.state g.S.Space.keeps g.S.Space.lands g.met.S.Space.keeps_join
    {P = CanChangeTables s c.args.dirs c.args.files
    × MayAdd (tables_in s.cells c.args.dirs c.args.files) c.args.kind c.args.new.parent c.args.new.name.0}
    (IsAdditionSite (tables_in s.cells c.args.dirs c.args.files) c.args.dirs c.args.files c.args.kind c.args.new.parent
    c.args.new.name.0)
    (IsWithin (entry_place c.args.kind (info_of c.args.dirs c.args.files c.args.kind) c.in_ok-plan.plan.place.entry)
    (entry_size c.args.kind))
    c.args.space.now c.plan_addition.new.space c.put_entry.new.space None (λ p. (p.0.tells Dir).told)
    (g.met.S.Space.keeps_hold c.args.space.now c.plan_addition.new.space c.in_ok-plan.ensures.reads.frame)
    (λ p. (
      stays_can s c.args.dirs c.args.files c.requires p.0 t read,
      has_later s t c.args.dirs c.args.files c.requires p.0 read c.args.kind c.args.new.parent c.args.new.name.0
          c.in_ok-plan.plan (c.in_ok-plan.ensures.plan p.0 p.1),
    ))
    (λ p. planned_entry s c.args.dirs c.args.files c.args.kind c.args.new.parent c.args.new.name.0 c.in_ok-plan.plan
    (c.in_ok-plan.ensures.plan p.0 p.1))
    c.in_ok-plan.ensures.reads c.in_ok-put_entry.ensures.changes in
    let sites = IsAdditionSite (tables_in s.cells c.args.dirs c.args.files) c.args.dirs c.args.files c.args.kind
    c.args.new.parent c.args.new.name.0 in
    ChangesAt-then g.S.Space.state g.S.Space.keeps g.S.Space.lands g.met.S.Space.keeps_join sites sites c.args.space.now
    c.put_entry.new.space c.set_words.new.space None (λ p. p) (λ p. tt) (λ x here. here) put
    (more_sites g.S.Space.state g.S.Space.keeps g.S.Space.lands
    (IsSite c.args.dirs c.args.files c.in_ok-plan.plan.edits)
    sites c.put_entry.new.space c.set_words.new.space None
    (λ p. planned_words s c.args.dirs c.args.files c.args.kind c.args.new.parent c.args.new.name.0 c.in_ok-plan.plan
    (c.in_ok-plan.ensures.plan p.0 p.1))
    (ChangesAt-where g.S.Space.state g.S.Space.keeps g.S.Space.lands
    (IsSite c.args.dirs c.args.files c.in_ok-plan.plan.edits) c.put_entry.new.space c.set_words.new.space None
    gives c.in_ok-set_words.ensures.changes))
