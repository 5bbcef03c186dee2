use Rattle.std.proofs.Common.{◌≡◌, ◌≤◌, arith, sym, ◌∙◌, true}
use Rattle.tree_layout.proofs.HeaderLemmas.{header_found, at_front}
use Rattle.tree_layout.proofs.reading.read_header.Goals as goal

pub returns-clause-found : goal.returns-clause-found
returns-clause-found g c = λ told. (
    let old = g.S.Space.state c.args.store.now in
    let first = c.in_ok-space_copy.ensures in
    let second = c.in_ok-space_copy-2.ensures in
    let still = first.reads.stays.space.told told in
    let len : c.len.result ≡ old.shape.size = c.len.ensures c.requires in
    header_found c.args.kind old.shape.size old.cells _ c.u64_at.result _
    (omega (arith, len, c.if-len-lt32.false)) (first.reads.stays.cells told)
    ((c.is_lettered.ensures old.cells (first.bytes told)).0 c.if-not-is_lettered.false)
    (at_front old.cells (first.read.done told)) (second.read.done still) (second.bytes still)
    (omega arith) c.u64_at.ensures
    )
