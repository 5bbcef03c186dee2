use Rattle.std.proofs.Common.{ℕ, List, [], ◌∷◌, None, Some, refl, sym, subst, arith}
use Rattle.std.specs.Result.{result_err}
use Rattle.save_bytes.specs.State.{Shape}
use Rattle.save_bytes.proofs.SpaceLemmas.{IfDone-map}
use Rattle.chain_nodes.specs.declared.node.Lead.TheVariants.{OpensFree}
use Rattle.chain_nodes.specs.Table.{table_in, word_u, HasAllocationTable}
use Rattle.chain_nodes.specs.Edits.{IsEntrySet}
use Rattle.chain_links.specs.Alters.{Alters, IsOfEntries}
use Rattle.chain_links.proofs.AlterLemmas.{alters_of, alters_then, among_all, among_one, among_two}
use Rattle.chain_links.proofs.WordLemmas.{words_stay}
use Rattle.chain_links.proofs.TakeLemmas.{chain_read, can_give, given}
use Rattle.chain_links.proofs.links.give_back.Goals as goal

pub returns-in-Ok-link-clause-given : goal.returns-in-Ok-link-clause-given
returns-in-Ok-link-clause-given g c = λ told xs ys apart.
    let s = g.S.Space.state c.args.base.now in
    let opened = g.S.Space.state c.set_u.new.base in
    let linked = g.S.Space.state c.link.new.base in
    let new = g.S.Space.state c.set_v.new.base in
    let info = c.args.info in
    let count = info.count in
    let tail = c.args.tail in
    let first = c.args.first in
    let head = c.args.head in
    let few = c.requires.table.few in
    let table = table_in s.cells info in
    let begun = c.in-Ok.ensures in
    let told_opened = begun.alters.space.told told in
    let shape = begun.alters.space.shape in
    let joined = c.in-Ok-link.ensures in
    let all = joined.linked told_opened OpensFree OpensFree xs ys
    (can_give count few xs tail ys first head table apart (table_in opened.cells info)
    (begun.set told (chain_read count few xs tail ys first head table apart))) in
    let read_opened = words_stay s opened info 0 c.requires.table (begun.alters.bytes told) (omega arith) apart.read
    in
    let read_linked = words_stay opened linked info 0
    (subst (λ (shape : Shape). HasAllocationTable shape info) (sym shape) c.requires.table) (joined.alters.bytes
    told_opened)
    (omega arith) read_opened in
    let u : ℕ = word_u (table_in linked.cells info) 0 in
    IfDone-map (result_err c.set_v.result)
    (λ (root : IsEntrySet (table_in linked.cells info) (table_in new.cells info) count 0 u first).
    given count few xs tail ys first head table apart (table_in linked.cells info) (table_in new.cells info) u
    c.requires.first
    all root)
    (c.set_v.ensures.set (joined.alters.space.told told_opened) read_linked)

pub returns-in-Err-clause-alters : goal.returns-in-Err-clause-alters
returns-in-Err-clause-alters g c =
    let space = g.S.Space in
    let first = c.args.first in
    let many : List ℕ = 0 ∷ first ∷ c.args.tail.first ∷ c.args.head ∷ [] in
    alters_of space.state space.keeps space.lands c.args.info (first ∷ []) many c.args.base.now c.set_u.new.base
    (Some c.in-Err.bad) (among_one first many (1, omega arith, refl)) c.in-Err.ensures.alters

pub returns-in-Err-link-clause-alters : goal.returns-in-Err-link-clause-alters
returns-in-Err-link-clause-alters g c =
    let space = g.S.Space in
    let first = c.args.first in
    let tail = c.args.tail in
    let head = c.args.head in
    let many : List ℕ = 0 ∷ first ∷ tail.first ∷ head ∷ [] in
    alters_then space.state space.keeps space.lands g.met.S.Space.keeps_join c.args.info (first ∷ []) (tail.first ∷
    head ∷ [])
    many c.args.base.now c.set_u.new.base c.link.new.base (Some c.in-Err-link.bad) (among_one first many (
      1,
      omega
          arith,
      refl,
    ))
    (among_two tail.first head many (2, omega arith, refl) (3, omega arith, refl)) c.in-Ok.ensures.alters
    c.in-Err-link.ensures.alters

pub returns-in-Ok-link-clause-alters : goal.returns-in-Ok-link-clause-alters
returns-in-Ok-link-clause-alters g c =
    let space = g.S.Space in
    let first = c.args.first in
    let tail = c.args.tail in
    let head = c.args.head in
    let many : List ℕ = 0 ∷ first ∷ tail.first ∷ head ∷ [] in
    let both : Alters space.state space.keeps space.lands (IsOfEntries c.args.info many) c.args.base.now c.link.new.base
    None =
    alters_then space.state space.keeps space.lands g.met.S.Space.keeps_join c.args.info (first ∷ []) (tail.first ∷
    head ∷ [])
    many c.args.base.now c.set_u.new.base c.link.new.base None (among_one first many (1, omega arith, refl))
    (among_two tail.first head many (2, omega arith, refl) (3, omega arith, refl)) c.in-Ok.ensures.alters
    c.in-Ok-link.ensures.alters in
    alters_then space.state space.keeps space.lands g.met.S.Space.keeps_join c.args.info many (0 ∷ []) many
    c.args.base.now
    c.link.new.base c.set_v.new.base (result_err c.set_v.result) (among_all many) (among_one 0 many (
      0,
      omega arith,
      refl,
    )) both
    c.set_v.ensures.alters
