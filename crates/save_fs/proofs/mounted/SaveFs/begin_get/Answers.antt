use Rattle.save_fs.specs.Faults.{chain_fault}
use Rattle.save_fs.proofs.NamedLemmas.{get_named, chain_named}
use Rattle.std.proofs.Common.{◌≡◌, ap, sym, subst, ◌∙◌, Some}
use Rattle.save_bytes.specs.State.{Shape}
use Rattle.save_bytes.proofs.CallLemmas.{reads_then}
use Rattle.chain_nodes.specs.Table.{table_in, HasAllocationTable}
use Rattle.chain_nodes.specs.Faults.{refusal_of}
use Rattle.file_reader.specs.declared.reading.Reading.{Reading}
use Rattle.file_reader.specs.Reading.{IsBegun}
use Rattle.save_fs.specs.Faults.{bad_in}
use Rattle.save_fs.proofs.LookupLemmas.{chain_bad}
use Rattle.save_fs.proofs.GetLemmas.{begin_refused}
use Rattle.save_fs.proofs.LaterLemmas.{table_at}
use Rattle.save_fs.proofs.ReadLemmas.{contents_mid, has_begun, not_begun}
use Rattle.save_fs.proofs.mounted.SaveFs.begin_get.Goals as goal

pub returns-in-Err-clause-begun : goal.returns-in-Err-clause-begun
returns-in-Err-clause-begun g c told tree h =
    let old = g.S.Space.state c.args.store.now in
    begin_refused old.cells c.args.self.now.mounted.places.chain tree c.args.path.now h.reads.read.kind_is
    c.in-Err.fault (c.in-Err.ensures.found told tree h)

pub begin_reading-requires : goal.begin_reading-requires
begin_reading-requires g c =
    let chain = c.args.self.now.mounted.places.chain in
    subst (λ (s : Shape). HasAllocationTable s chain) (sym c.in-Ok.ensures.reads.stays.space.shape)
    (table_at (g.S.Space.state c.args.store.now).shape c.args.self.now c.requires)

pub returns-in-Ok-begin_reading-clause-begun : goal.returns-in-Ok-begin_reading-clause-begun
returns-in-Ok-begin_reading-clause-begun g c told tree h =
    let old = g.S.Space.state c.args.store.now in
    let mid = g.S.Space.state c.file_fields.new.store in
    let fs = c.args.self.now in
    let chain = fs.mounted.places.chain in
    let stays = c.in-Ok.ensures.reads.stays in
    let file = c.in-Ok.ensures.found told tree h in
    let fields = c.in-Ok.fields in
    let table = table_at old.shape fs c.requires in
    has_begun old.cells mid.cells old.shape chain table (stays.cells told) tree c.args.path.now fields.start
    fields.wide h.reads.read.kind_is file c.in-Ok-begin_reading.reading c.in-Ok-begin_reading.ensures.info
    (c.in-Ok-begin_reading.ensures.begun (stays.space.told told) file.list
    (contents_mid old.cells mid.cells old.shape chain table (stays.cells told) tree c.args.path.now fields.start
    fields.wide h.reads.read.kind_is file))

pub returns-in-Ok-begin_reading-clause-reads : goal.returns-in-Ok-begin_reading-clause-reads
returns-in-Ok-begin_reading-clause-reads g c =
    reads_then g.met.S.Space.keeps_join c.in-Ok.ensures.reads c.in-Ok-begin_reading.ensures.reads

pub returns-in-Err-begin_reading-clause-begun : goal.returns-in-Err-begin_reading-clause-begun
returns-in-Err-begin_reading-clause-begun g c told tree h =
    let old = g.S.Space.state c.args.store.now in
    let mid = g.S.Space.state c.file_fields.new.store in
    let fs = c.args.self.now in
    let chain = fs.mounted.places.chain in
    let stays = c.in-Ok.ensures.reads.stays in
    let file = c.in-Ok.ensures.found told tree h in
    let fields = c.in-Ok.fields in
    let table = table_at old.shape fs c.requires in
    rw c.refused_chain.ensures (not_begun old.cells mid.cells old.shape chain table (stays.cells told) tree
    c.args.path.now fields.start fields.wide h.reads.read.kind_is file Reading
    (IsBegun (table_in mid.cells chain) mid.cells fields.start fields.wide file.list) c.in-Err-begin_reading.fault
    (c.in-Err-begin_reading.ensures.begun (stays.space.told told) file.list
    (contents_mid old.cells mid.cells old.shape chain table (stays.cells told) tree c.args.path.now fields.start
    fields.wide h.reads.read.kind_is file)))

pub returns-in-Err-begin_reading-clause-reads : goal.returns-in-Err-begin_reading-clause-reads
returns-in-Err-begin_reading-clause-reads g c =
    let refusal : bad_in c.refused_chain.result ≡ refusal_of (Some c.in-Err-begin_reading.fault) =
    ap bad_in c.refused_chain.ensures ∙ chain_bad c.in-Err-begin_reading.fault in
    rw refusal (reads_then g.met.S.Space.keeps_join c.in-Ok.ensures.reads c.in-Err-begin_reading.ensures.reads)

pub returns-in-Err-begin_reading-clause-named : goal.returns-in-Err-begin_reading-clause-named
returns-in-Err-begin_reading-clause-named g c =
    rw c.refused_chain.ensures (get_named (chain_fault c.in-Err-begin_reading.fault)
    (chain_named c.in-Err-begin_reading.fault))
