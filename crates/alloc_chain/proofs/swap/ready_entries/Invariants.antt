use Rattle.std.proofs.Common.{ℕ, ◌<◌, IsTrue, [], ◌∷◌, get_or, None}
use Rattle.save_bytes.specs.Reads.{Reads}
use Rattle.chain_links.specs.Alters.{AreUnspoilt, IsOfEntries}
use Rattle.alloc_chain.proofs.swap.ready_entries.Given as goal

abbrev pub invariant-loop-entry : goal.invariant-loop-entry
invariant-loop-entry g l = record {
  ready : IsTrue (g.S.Space.state l.initial.base).told → (k : ℕ) → k < l.entry-index
      → AreUnspoilt (g.S.Space.state l.initial.base) (IsOfEntries l.info (get_or l.entries k 0 ∷ []));
  reads : Reads g.S.Space.state g.S.Space.keeps g.S.Space.lands l.initial.base l.base None;
}
