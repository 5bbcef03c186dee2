use Rattle.std.proofs.Common.{◌≡◌, ◌<◌, ◌≤◌, ◌+◌, ◌-◌, ◌*◌, ◌/◌, ℕ, length, refl, sym, ◌∙◌, ap, subst, arith}
use Rattle.std.proofs.lemmas.Result.{IfOk-weaker}
use Rattle.page_image.specs.Frames.{IsByteRead}
use Rattle.page_image.specs.Reading.{AreSectorsRead}
use Rattle.page_image.proofs.ReadLemmas.{first_inside, page_read, back_inside, part_long}
use Rattle.page_image.proofs.fetching.read_page.Goals as goal

pub overflow_sub-count : goal.overflow_sub-count
overflow_sub-count g c =
    let i = c.args.image.now in
    let inside : c.args.page < (i.len + 4095) / 4096 = (let layout = i.layout in omega (arith, c.requires.page)) in
    let first = first_inside i.grain i.layout.known i.len c.args.page (c.args.page * (4096 / i.grain)) 0
    c.sectors.result
    inside refl c.sectors.ensures.covers in
    omega (arith, c.min.ensures)

pub returns-clause-read : goal.returns-clause-read
returns-clause-read g c =
    let i = c.args.image.now in
    let d = g.D.Disk.state c.args.disk.now in
    let out = c.read_sectors.new.bytes in
    let first : ℕ = c.args.page * (4096 / i.grain) in
    let count : ℕ = c.min.result - first in
    let inside : c.args.page < (i.len + 4095) / 4096 = (let layout = i.layout in omega (arith, c.requires.page)) in
    let whole = c.deref_mut.ensures.len in
    let there = ap length c.deref_mut.ensures.value in
    let fits : c.args.frame * 4096 + 4096 ≤ length c.deref_mut.result.now =
    (let layout = i.layout in omega (arith, c.requires.frame)) in
    let long : length out ≡ 4096 = c.read_sectors.auto.bytes
    ∙ part_long (c.args.frame * 4096) 4096 c.deref_mut.result.now fits in
    IfOk-weaker c.read_sectors.result (λ done. AreSectorsRead d i.grain first out (count * i.grain)) _
    (λ done read k small below.
    subst (λ (b : ℕ). IsByteRead d i.grain (c.args.page * 4096 + k) b)
    (sym (back_inside _ (c.args.frame * 4096) 4096 c.deref_mut.result.now out _ whole (omega arith) long k small))
    (page_read i.grain i.layout.known i.len c.args.page first count c.sectors.result inside refl
    c.sectors.ensures.covers d out read
    (ap (λ (n : ℕ). n - first) c.min.ensures) k small below))
    c.read_sectors.ensures.read
