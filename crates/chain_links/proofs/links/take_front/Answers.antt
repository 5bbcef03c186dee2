use Rattle.std.proofs.Common.{ℕ, List, [], ◌∷◌, None, Some, refl, sym, subst, arith}
use Rattle.std.specs.Result.{result_err}
use Rattle.save_bytes.specs.State.{Shape}
use Rattle.save_bytes.proofs.SpaceLemmas.{IfDone-map}
use Rattle.chain_nodes.specs.Table.{table_in, word_u, HasAllocationTable}
use Rattle.chain_nodes.specs.Edits.{IsEntrySet, AreFreeAround}
use Rattle.chain_links.specs.Alters.{Alters, IsOfEntries, cut_entries}
use Rattle.chain_links.proofs.AlterLemmas.{alters_of, alters_then, among_all, among_one, among_behind}
use Rattle.chain_links.proofs.WordLemmas.{words_stay}
use Rattle.chain_links.proofs.TakeLemmas.{first_read, taken}
use Rattle.chain_links.proofs.links.take_front.Goals as goal

pub returns-in-Ok-set_u-clause-taken : goal.returns-in-Ok-set_u-clause-taken
returns-in-Ok-set_u-clause-taken g c = λ told xs ys free next_is starts.
    let s = g.S.Space.state c.args.base.now in
    let m = g.S.Space.state c.cut.new.base in
    let chained = g.S.Space.state c.set_u.new.base in
    let new = g.S.Space.state c.set_v.new.base in
    let info = c.args.info in
    let count = info.count in
    let node = c.args.node in
    let middle = c.args.middle in
    let first = c.args.first in
    let rest = c.in-Ok.rest in
    let few = c.requires.table.few in
    let around : AreFreeAround (table_in s.cells info) count xs node ys c.args.next =
    record { linked = free.linked; starts = next_is; once = free.once } in
    let cut_ensures = c.in-Ok.ensures in
    let cut = cut_ensures.cut told xs ys around in
    let told_m = cut_ensures.alters.space.told told in
    let shape = cut_ensures.alters.space.shape in
    let read_m = words_stay s m info 0 c.requires.table (cut_ensures.alters.bytes told) (omega arith) free.read in
    let mid = table_in m.cells info in
    let head = c.in-Ok-set_u.ensures in
    let set = head.set told_m (first_read count few xs node ys middle rest mid cut free.once first starts) in
    let read_chained = words_stay m chained info 0
    (subst (λ (shape : Shape). HasAllocationTable shape info) (sym shape) c.requires.table) (head.alters.bytes told_m)
    (omega arith) read_m in
    let u : ℕ = word_u (table_in chained.cells info) 0 in
    IfDone-map (result_err c.set_v.result)
    (λ (root : IsEntrySet (table_in chained.cells info) (table_in new.cells info) count 0 u rest).
    taken count few xs node ys middle rest mid cut free.once first starts (table_in chained.cells info) (table_in
    new.cells info)
    u cut_ensures.small set root)
    (c.set_v.ensures.set (head.alters.space.told told_m) read_chained)

pub returns-in-Err-clause-alters : goal.returns-in-Err-clause-alters
returns-in-Err-clause-alters g c =
    let space = g.S.Space in
    let first = c.args.first in
    let few : List ℕ = cut_entries c.args.node c.args.middle c.args.next in
    alters_of space.state space.keeps space.lands c.args.info few (first ∷ few) c.args.base.now c.cut.new.base
    (Some c.in-Err.bad) (among_behind first few) c.in-Err.ensures.alters

pub returns-in-Err-set_u-clause-alters : goal.returns-in-Err-set_u-clause-alters
returns-in-Err-set_u-clause-alters g c =
    let space = g.S.Space in
    let first = c.args.first in
    let few : List ℕ = cut_entries c.args.node c.args.middle c.args.next in
    alters_then space.state space.keeps space.lands g.met.S.Space.keeps_join c.args.info few (first ∷ []) (first ∷
    few)
    c.args.base.now c.cut.new.base c.set_u.new.base (Some c.in-Err-set_u.bad) (among_behind first few)
    (among_one first (first ∷ few) (0, omega arith, refl)) c.in-Ok.ensures.alters c.in-Err-set_u.ensures.alters

pub returns-in-Ok-set_u-clause-alters : goal.returns-in-Ok-set_u-clause-alters
returns-in-Ok-set_u-clause-alters g c =
    let space = g.S.Space in
    let first = c.args.first in
    let few : List ℕ = cut_entries c.args.node c.args.middle c.args.next in
    let both : Alters space.state space.keeps space.lands (IsOfEntries c.args.info (first ∷ few)) c.args.base.now
    c.set_u.new.base None =
    alters_then space.state space.keeps space.lands g.met.S.Space.keeps_join c.args.info few (first ∷ []) (first ∷
    few)
    c.args.base.now c.cut.new.base c.set_u.new.base None (among_behind first few)
    (among_one first (first ∷ few) (0, omega arith, refl)) c.in-Ok.ensures.alters c.in-Ok-set_u.ensures.alters in
    alters_then space.state space.keeps space.lands g.met.S.Space.keeps_join c.args.info (first ∷ few) (0 ∷ [])
    (first ∷ few)
    c.args.base.now c.set_u.new.base c.set_v.new.base (result_err c.set_v.result) (among_all (first ∷ few))
    (among_one 0 (first ∷ few) (1, omega arith, refl)) both c.set_v.ensures.alters
