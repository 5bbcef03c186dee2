use Rattle.std.proofs.Common.{ℕ, sym, ◌∙◌, ap, subst}
use Rattle.save_bytes.specs.State.{Shape}
use Rattle.save_bytes.proofs.CallLemmas.{reads_then}
use Rattle.save_bytes.specs.Cells.{Cell}
use Rattle.chain_nodes.specs.Table.{table_in, HasAllocationTable}
use Rattle.chain_nodes.proofs.TableLemmas.{table_stays}
use Rattle.tree_rules.specs.Fails.{allocation_number, TreeFailsAt}
use Rattle.tree_rules.specs.declared.information.Places.{Places}
use Rattle.tree_rules.specs.Places.{places_of}
use Rattle.save_mount.specs.Held.{TableLies}
use Rattle.save_mount.specs.Causes.{HasListCause}
use Rattle.save_mount.specs.Structure.{FailsInStructure, NeedsStructure}
use Rattle.save_mount.proofs.CauseLemmas.{cause_later}
use Rattle.save_mount.proofs.BeginLemmas.{table_there, dirs_lie, files_lie, structure_later, lists_cause}
use Rattle.save_mount.proofs.beginning.begin.Goals as goal

pub hold_structure-requires-clause-table : goal.hold_structure-requires-clause-table
hold_structure-requires-clause-table g c =
    let shape = (g.S.Space.state c.args.store.now).shape in
    subst (λ (s : Shape). HasAllocationTable s c.places_of-places.result.chain)
    (sym c.in-Ok.ensures.reads.stays.space.shape)
    (subst (λ (p : Places). HasAllocationTable shape p.chain) (sym c.places_of-places.ensures)
    (table_there shape c.args.kind c.args.split c.in-Ok.info c.requires.sound c.requires.first c.requires.inside
    c.in-Ok.ensures.faultless))

pub hold_structure-requires-clause-dirs : goal.hold_structure-requires-clause-dirs
hold_structure-requires-clause-dirs g c =
    subst (λ (p : Places). TableLies p.chain.count p.dirs.table) (sym c.places_of-places.ensures)
    (dirs_lie (g.S.Space.state c.args.store.now).shape c.args.kind c.args.split c.in-Ok.info c.requires.sound
    c.requires.first c.requires.inside c.in-Ok.ensures.faultless)

pub hold_structure-requires-clause-files : goal.hold_structure-requires-clause-files
hold_structure-requires-clause-files g c =
    subst (λ (p : Places). TableLies p.chain.count p.files.table) (sym c.places_of-places.ensures)
    (files_lie (g.S.Space.state c.args.store.now).shape c.args.kind c.args.split c.in-Ok.info c.requires.sound
    c.requires.first c.requires.inside c.in-Ok.ensures.faultless)

pub returns-in-Ok-hold_structure-clause-begun : goal.returns-in-Ok-hold_structure-clause-begun
returns-in-Ok-hold_structure-clause-begun g c told =
    let s = g.S.Space.state c.args.store.now in
    let stays = c.in-Ok.ensures.reads.stays in
    let placed = c.in-Ok.ensures.placed told in
    let p = c.places_of-places.result in
    let found = c.in-Ok-hold_structure.ensures.held (stays.space.told told) in
    let there : HasAllocationTable s.shape p.chain =
    subst (λ (p : Places). HasAllocationTable s.shape p.chain) (sym c.places_of-places.ensures)
    (table_there s.shape c.args.kind c.args.split c.in-Ok.info c.requires.sound c.requires.first c.requires.inside
    c.in-Ok.ensures.faultless) in
    record {
      placed = placed;
      places = c.places_of-places.ensures ∙ ap (places_of c.args.kind c.args.split) placed.info_is;
      lists = found.0;
      structure = structure_later s (g.S.Space.state c.read_places.new.store) p there stays told
          c.in-Ok-hold_structure.found found.0 found.1;
    }

pub returns-in-Ok-hold_structure-clause-reads : goal.returns-in-Ok-hold_structure-clause-reads
returns-in-Ok-hold_structure-clause-reads g c =
    reads_then g.met.S.Space.keeps_join c.in-Ok.ensures.reads c.in-Ok-hold_structure.ensures.reads

pub returns-in-Err-hold_structure-clause-cause : goal.returns-in-Err-hold_structure-clause-cause
returns-in-Err-hold_structure-clause-cause g c told =
    let s = g.S.Space.state c.args.store.now in
    let stays = c.in-Ok.ensures.reads.stays in
    let placed = c.in-Ok.ensures.placed told in
    let p = c.places_of-places.result in
    let there : HasAllocationTable s.shape p.chain =
    subst (λ (p : Places). HasAllocationTable s.shape p.chain) (sym c.places_of-places.ensures)
    (table_there s.shape c.args.kind c.args.split c.in-Ok.info c.requires.sound c.requires.first c.requires.inside
    c.in-Ok.ensures.faultless) in
    lists_cause c.args.kind s.shape.size c.args.split s.cells c.in-Err-hold_structure.fault
    (subst (λ (p : Places). HasListCause s.cells p.chain (FailsInStructure s.cells p)
    (NeedsStructure (table_in s.cells p.chain) p) c.in-Err-hold_structure.fault)
    (c.places_of-places.ensures ∙ ap (places_of c.args.kind c.args.split) placed.info_is)
    (cause_later there stays told c.in-Err-hold_structure.fault
    (λ e fails kind t. subst (λ (table : ℕ → ℕ → Cell). TreeFailsAt kind table p t allocation_number e)
    (table_stays s (g.S.Space.state c.read_places.new.store) p.chain there stays told) (fails kind t))
    (λ e needed. subst (λ (table : ℕ → ℕ → Cell). NeedsStructure table p e)
    (table_stays s (g.S.Space.state c.read_places.new.store) p.chain there stays told) needed)
    (c.in-Err-hold_structure.ensures.cause (stays.space.told told))))

pub returns-in-Err-hold_structure-clause-reads : goal.returns-in-Err-hold_structure-clause-reads
returns-in-Err-hold_structure-clause-reads g c =
    reads_then g.met.S.Space.keeps_join c.in-Ok.ensures.reads c.in-Err-hold_structure.ensures.reads
