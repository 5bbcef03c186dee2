use Rattle.std.proofs.Common.{◌≡◌, ℕ, List, [], None, get_or, sym, subst, arith}
use Rattle.save_bytes.specs.State.{Shape}
use Rattle.save_bytes.proofs.CallLemmas.{Reads-same, reads_then}
use Rattle.chain_nodes.specs.Table.{table_in, HasAllocationTable}
use Rattle.entry_tables.specs.declared.table.EntryKind.TheVariants.{File}
use Rattle.entry_tables.specs.Tables.{Tables}
use Rattle.entry_audit.specs.Read.{IsReadOf}
use Rattle.tree_model.specs.declared.kind.TreeKind.TheVariants.{Save}
use Rattle.tree_rules.specs.Lists.{Holder, OfFile}
use Rattle.save_mount.specs.Holders.{HoldsLists}
use Rattle.save_mount.specs.Files.{HasFileList, HasFilesCause}
use Rattle.save_mount.proofs.HeldLemmas.{held_later}
use Rattle.save_mount.proofs.FileLemmas.{below_none, below_more, below_all, file_at}
use Rattle.save_mount.proofs.files.hold_files.Goals as goal

pub loop-entry-init : goal.loop-entry-init
loop-entry-init g c =
    let table = table_in (g.S.Space.state c.args.base.now).cells c.args.p.now.chain in
    record {
      reads = Reads-same g.S.Space.state g.S.Space.keeps g.S.Space.lands g.met.S.Space.keeps_same c.args.base.now;
      room = λ entry h. h;
      below = λ told t lists read before.
          (lists, below_none table c.args.p.now t lists c.args.held.now before);
    }

pub hold_entry-requires-clause-table : goal.hold_entry-requires-clause-table
hold_entry-requires-clause-table g c = subst (λ (shape : Shape). HasAllocationTable shape c.args.p.now.chain)
    (sym c.loop-entry.invariant.reads.stays.space.shape) c.requires.table

pub hold_entry-requires-clause-room : goal.hold_entry-requires-clause-room
hold_entry-requires-clause-room g c entry inside = c.loop-entry.invariant.room entry (c.requires.room entry inside)

pub returns-in-Err-clause-cause : goal.returns-in-Err-clause-cause
returns-in-Err-clause-cause g c told t lists read before =
    let table = table_in (g.S.Space.state c.args.base.now).cells c.args.p.now.chain in
    let stays = c.loop-entry.invariant.reads.stays in
    let n = c.loop-entry.entry in
    let walked = c.loop-entry.invariant.below told t lists read before in
    held_later c.requires.table stays (λ table. (t : Tables) (lists : Holder → List ℕ)
    → IsReadOf File t n (get_or c.args.files.now n None) → HoldsLists Save table c.args.p.now t c.loop-entry.held lists
    → lists (OfFile n) ≡ [] → HasFilesCause table c.args.p.now t c.in-Err.fault) told
    (c.in-Err.ensures.cause (stays.space.told told)) t walked.0
    (file_at t c.args.files.now n read c.loop-entry-test.true) walked.1.holds (walked.1.rest n (omega arith))

pub loop-entry-preserved : goal.loop-entry-preserved
loop-entry-preserved g c =
    let table = table_in (g.S.Space.state c.args.base.now).cells c.args.p.now.chain in
    let stays = c.loop-entry.invariant.reads.stays in
    let n = c.loop-entry.entry in
    record {
      reads = reads_then g.met.S.Space.keeps_join c.loop-entry.invariant.reads c.in-Ok.ensures.reads;
      room = λ entry h. c.in-Ok.ensures.room entry (c.loop-entry.invariant.room entry h);
      below = λ told t lists read before.
          (let walked = c.loop-entry.invariant.below told t lists read before in
          let more = held_later c.requires.table stays (λ table. (t : Tables) (lists : Holder → List ℕ)
          → IsReadOf File t n (get_or c.args.files.now n None)
          → HoldsLists Save table c.args.p.now t c.loop-entry.held lists → lists (OfFile n) ≡ []
          → (all : Holder → List ℕ) × HasFileList table c.args.p.now t n lists c.hold_entry.new.held all) told
          (c.in-Ok.ensures.held (stays.space.told told)) t walked.0
          (file_at t c.args.files.now n read c.loop-entry-test.true) walked.1.holds (walked.1.rest n (omega arith)) in (
            more.0,
            below_more table c.args.p.now t lists n c.loop-entry.held walked.0 walked.1 c.hold_entry.new.held more.0
                more.1,
          ));
    }

pub returns-clause-held : goal.returns-clause-held
returns-clause-held g c told t lists read before =
    let table = table_in (g.S.Space.state c.args.base.now).cells c.args.p.now.chain in
    let walked = c.loop-entry.invariant.below told t lists read before in (
      walked.0,
      below_all table c.args.p.now t lists c.loop-entry.entry c.loop-entry.held walked.0 walked.1 c.args.files.now read
          c.loop-entry-test.false,
    )
