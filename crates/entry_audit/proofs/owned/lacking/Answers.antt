use Rattle.std.proofs.Common.{◌≡◌, ℕ, inl, inr, subst, sym, arith}
use Rattle.std.proofs.lemmas.Bool.{cases_lt}
use Rattle.entry_audit.specs.Owned.{link_at, MustStandIn, IsSeen}
use Rattle.entry_audit.proofs.OwnedLemmas.{must_inside}
use Rattle.entry_audit.proofs.owned.lacking.Goals as goal

pub loop-entry-preserved : goal.loop-entry-preserved
loop-entry-preserved c = λ owner e below listed must. elim (cases_lt e c.loop-entry.entry) [
  | inl before ↦ c.loop-entry.invariant owner e before listed must
  | inr behind ↦ (let here : e ≡ c.loop-entry.entry = omega (arith, below, behind) in
      subst (λ (n : ℕ). IsSeen c.args.seen.now n) (sym here)
      (c.in_default.ensures.none owner listed (subst (λ (n : ℕ). MustStandIn owner (link_at c.args.links.now n))
      here must)))
]

pub returns-clause-none : goal.returns-clause-none
returns-clause-none c = λ owner e listed must.
    c.loop-entry.invariant owner e (omega (arith, must_inside c.args.links.now owner e must, c.loop-entry-test.false))
    listed must
