use Rattle.std.proofs.Common.{◌≡◌, ℕ, List, sym, ◌∙◌, subst, refl}
use Rattle.save_bytes.specs.State.{Shape}
use Rattle.save_bytes.proofs.CallLemmas.{reads_then}
use Rattle.chain_nodes.specs.Table.{table_in, HasAllocationTable}
use Rattle.entry_tables.specs.Tables.{Tables}
use Rattle.tree_model.specs.declared.kind.TreeKind.TheVariants.{Save}
use Rattle.tree_rules.specs.declared.information.Places.{Places}
use Rattle.tree_rules.specs.Lists.{Holder}
use Rattle.tree_rules.specs.Places.{tree_tables}
use Rattle.tree_rules.specs.Trees.{table_chains}
use Rattle.save_mount.specs.declared.structure.Structure.{Structure}
use Rattle.save_mount.specs.Files.{AreReadFiles, HasNoFileLists, HasFileLists, HasFilesCause}
use Rattle.save_mount.specs.Stored.{StandsIn}
use Rattle.save_mount.proofs.BeginLemmas.{table_there}
use Rattle.save_mount.proofs.ExactLemmas.{no_cause}
use Rattle.save_mount.proofs.HeldLemmas.{held_later}
use Rattle.save_mount.proofs.MountLemmas.{audited_by, caused_by, files_read, mounted_by, tables_refused, files_refused}
use Rattle.save_mount.proofs.PlaceLemmas.{front_small}
use Rattle.save_mount.proofs.mounting.mount.Goals as goal

pub returns-in-Err-clause-exact : goal.returns-in-Err-clause-exact
returns-in-Err-clause-exact g c told tree read =
    let s = g.S.Space.state c.args.store.now in
    no_cause c.args.kind s.shape.size c.args.split s.cells read.lists read.consistent c.in-Err.fault
    (c.in-Err.ensures.cause told)

pub returns-in-Err-audit_tables-clause-cause : goal.returns-in-Err-audit_tables-clause-cause
returns-in-Err-audit_tables-clause-cause g c told =
    let s = g.S.Space.state c.args.store.now in
    let begun = c.in-Ok.begun in
    let stands : StandsIn s.shape c.args.kind c.args.split begun.info begun.places begun.found.blocks.items = record {
      sound = c.requires.sound;
      first = c.requires.first;
      small = c.requires.small;
      split_inside = c.requires.inside;
      placed = c.in-Ok.ensures.places;
      faultless = c.in-Ok.ensures.faultless;
      blocks_are = c.in-Ok.ensures.blocks;
    } in
    let h = c.in-Ok.ensures.begun told in
    let chains = table_chains h.lists in
    tables_refused c.args.kind s.shape.size c.args.split s.cells begun.info h.placed begun.found h.lists begun.places
    h.places h.structure c.in-Err-audit_tables.fault
    (caused_by s (g.S.Space.state c.begin.new.store) c.in-Ok.ensures.reads.stays told c.args.kind
    c.args.split begun.info begun.places begun.found.blocks.items stands chains h.structure.blocks
    c.in-Err-audit_tables.fault (c.in-Err-audit_tables.ensures.cause (c.in-Ok.ensures.reads.stays.space.told told)
    chains (c.deref.ensures.value ∙ h.structure.blocks)))

pub returns-in-Err-audit_tables-clause-exact : goal.returns-in-Err-audit_tables-clause-exact
returns-in-Err-audit_tables-clause-exact g c told tree read =
    let s = g.S.Space.state c.args.store.now in
    no_cause c.args.kind s.shape.size c.args.split s.cells read.lists read.consistent c.in-Err-audit_tables.fault
    (returns-in-Err-audit_tables-clause-cause g c told)

pub returns-in-Err-audit_tables-clause-reads : goal.returns-in-Err-audit_tables-clause-reads
returns-in-Err-audit_tables-clause-reads g c =
    reads_then g.met.S.Space.keeps_join c.in-Ok.ensures.reads c.in-Err-audit_tables.ensures.reads

pub hold_chains-requires-clause-table : goal.hold_chains-requires-clause-table
hold_chains-requires-clause-table g c =
    let s = g.S.Space.state c.args.store.now in
    let begun = c.in-Ok.begun in
    let both = (reads_then g.met.S.Space.keeps_join c.in-Ok.ensures.reads c.in-Ok-audit_tables.ensures.reads).stays in
    let there : HasAllocationTable s.shape begun.places.chain =
    subst (λ (q : Places). HasAllocationTable s.shape q.chain) (sym c.in-Ok.ensures.places)
    (table_there s.shape c.args.kind c.args.split begun.info c.requires.sound c.requires.first c.requires.inside
    c.in-Ok.ensures.faultless) in
    subst (λ (shape : Shape). HasAllocationTable shape begun.places.chain) (sym both.space.shape) there

pub kept-requires-clause-small : goal.kept-requires-clause-small
kept-requires-clause-small g c =
    let s = g.S.Space.state c.args.store.now in
    let begun = c.in-Ok.begun in
    let there : HasAllocationTable s.shape begun.places.chain =
    subst (λ (q : Places). HasAllocationTable s.shape q.chain) (sym c.in-Ok.ensures.places)
    (table_there s.shape c.args.kind c.args.split begun.info c.requires.sound c.requires.first c.requires.inside
    c.in-Ok.ensures.faultless) in
    there.few

pub returns-in-Ok-hold_chains-clause-mounted : goal.returns-in-Ok-hold_chains-clause-mounted
returns-in-Ok-hold_chains-clause-mounted g c told =
    let s = g.S.Space.state c.args.store.now in
    let begun = c.in-Ok.begun in
    let both = (reads_then g.met.S.Space.keeps_join c.in-Ok.ensures.reads c.in-Ok-audit_tables.ensures.reads).stays in
    let there : HasAllocationTable s.shape begun.places.chain =
    subst (λ (q : Places). HasAllocationTable s.shape q.chain) (sym c.in-Ok.ensures.places)
    (table_there s.shape c.args.kind c.args.split begun.info c.requires.sound c.requires.first c.requires.inside
    c.in-Ok.ensures.faultless) in
    let stands : StandsIn s.shape c.args.kind c.args.split begun.info begun.places begun.found.blocks.items = record {
      sound = c.requires.sound;
      first = c.requires.first;
      small = c.requires.small;
      split_inside = c.requires.inside;
      placed = c.in-Ok.ensures.places;
      faultless = c.in-Ok.ensures.faultless;
      blocks_are = c.in-Ok.ensures.blocks;
    } in
    let h = c.in-Ok.ensures.begun told in
    let chains = table_chains h.lists in
    let audited = audited_by s (g.S.Space.state c.begin.new.store) c.in-Ok.ensures.reads.stays told c.args.kind
    c.args.split begun.info begun.places begun.found.blocks.items stands chains h.structure.blocks
    c.in-Ok-audit_tables.audited (c.in-Ok-audit_tables.ensures.audited (c.in-Ok.ensures.reads.stays.space.told told)
    chains (c.deref.ensures.value ∙ h.structure.blocks)) in
    let t = tree_tables s.shape.size begun.places chains s.cells in
    let read : AreReadFiles t c.deref-2.result.now =
    subst (AreReadFiles t) (sym c.deref-2.ensures.value) (files_read t c.in-Ok-audit_tables.audited.read audited.read) in
    let none : HasNoFileLists c.args.kind (table_in s.cells begun.places.chain) begun.places t begun.found.held h.lists =
    record { holds = h.structure.holds c.args.kind t; files = h.structure.files } in
    let walked = held_later there both (λ table. (t : Tables) (lists : Holder → List ℕ)
    → AreReadFiles t c.deref-2.result.now → HasNoFileLists c.args.kind table begun.places t begun.found.held lists
    → (all : Holder → List ℕ) × HasFileLists c.args.kind table begun.places t lists c.hold_chains.new.held all) told
    (c.in-Ok-hold_chains.ensures.held (both.space.told told)) t h.lists read none in
    let done : Structure = record {
      held = c.hold_chains.new.held;
      blocks = begun.found.blocks;
      free = begun.found.free;
    } in (
      walked.0,
      mounted_by c.args.kind s.shape.size c.args.split s.cells (front_small c.args.split s.shape.size c.requires.inside)
          begun.info begun.places h.placed h.places begun.found done c.in-Ok-audit_tables.audited h.lists walked.0
          (record { structure = h.structure; tables = audited; files = walked.1; blocks = refl; free = refl })
          c.kept.result c.kept.ensures.is c.kept.ensures.lost,
    )

pub returns-in-Ok-hold_chains-clause-reads : goal.returns-in-Ok-hold_chains-clause-reads
returns-in-Ok-hold_chains-clause-reads g c =
    reads_then g.met.S.Space.keeps_join
    (reads_then g.met.S.Space.keeps_join c.in-Ok.ensures.reads c.in-Ok-audit_tables.ensures.reads)
    c.in-Ok-hold_chains.ensures.reads

pub returns-in-Err-hold_chains-clause-cause : goal.returns-in-Err-hold_chains-clause-cause
returns-in-Err-hold_chains-clause-cause g c told =
    let s = g.S.Space.state c.args.store.now in
    let begun = c.in-Ok.begun in
    let both = (reads_then g.met.S.Space.keeps_join c.in-Ok.ensures.reads c.in-Ok-audit_tables.ensures.reads).stays in
    let there : HasAllocationTable s.shape begun.places.chain =
    subst (λ (q : Places). HasAllocationTable s.shape q.chain) (sym c.in-Ok.ensures.places)
    (table_there s.shape c.args.kind c.args.split begun.info c.requires.sound c.requires.first c.requires.inside
    c.in-Ok.ensures.faultless) in
    let stands : StandsIn s.shape c.args.kind c.args.split begun.info begun.places begun.found.blocks.items = record {
      sound = c.requires.sound;
      first = c.requires.first;
      small = c.requires.small;
      split_inside = c.requires.inside;
      placed = c.in-Ok.ensures.places;
      faultless = c.in-Ok.ensures.faultless;
      blocks_are = c.in-Ok.ensures.blocks;
    } in
    let h = c.in-Ok.ensures.begun told in
    let chains = table_chains h.lists in
    let audited = audited_by s (g.S.Space.state c.begin.new.store) c.in-Ok.ensures.reads.stays told c.args.kind
    c.args.split begun.info begun.places begun.found.blocks.items stands chains h.structure.blocks
    c.in-Ok-audit_tables.audited (c.in-Ok-audit_tables.ensures.audited (c.in-Ok.ensures.reads.stays.space.told told)
    chains (c.deref.ensures.value ∙ h.structure.blocks)) in
    let t = tree_tables s.shape.size begun.places chains s.cells in
    let read : AreReadFiles t c.deref-2.result.now =
    subst (AreReadFiles t) (sym c.deref-2.ensures.value) (files_read t c.in-Ok-audit_tables.audited.read audited.read) in
    let none : HasNoFileLists c.args.kind (table_in s.cells begun.places.chain) begun.places t begun.found.held h.lists =
    record { holds = h.structure.holds c.args.kind t; files = h.structure.files } in
    let cause = held_later there both (λ table. (t : Tables) (lists : Holder → List ℕ)
    → AreReadFiles t c.deref-2.result.now → HasNoFileLists c.args.kind table begun.places t begun.found.held lists
    → (c.args.kind ≡ Save) × HasFilesCause table begun.places t c.in-Err-hold_chains.fault) told
    (c.in-Err-hold_chains.ensures.cause (both.space.told told)) t h.lists read none in
    files_refused c.args.kind s.shape.size c.args.split s.cells begun.info h.placed begun.found h.lists begun.places
    h.places h.structure audited.layout cause.0 c.in-Err-hold_chains.fault cause.1

pub returns-in-Err-hold_chains-clause-exact : goal.returns-in-Err-hold_chains-clause-exact
returns-in-Err-hold_chains-clause-exact g c told tree read =
    let s = g.S.Space.state c.args.store.now in
    no_cause c.args.kind s.shape.size c.args.split s.cells read.lists read.consistent c.in-Err-hold_chains.fault
    (returns-in-Err-hold_chains-clause-cause g c told)

pub returns-in-Err-hold_chains-clause-reads : goal.returns-in-Err-hold_chains-clause-reads
returns-in-Err-hold_chains-clause-reads g c =
    reads_then g.met.S.Space.keeps_join
    (reads_then g.met.S.Space.keeps_join c.in-Ok.ensures.reads c.in-Ok-audit_tables.ensures.reads)
    c.in-Err-hold_chains.ensures.reads
