use Rattle.std.proofs.Common.{◌++◌, ◌∷◌, ◌∙◌, ℕ, [], true, refl, subst, length-set}
use Rattle.entry_audit.specs.Owned.{IsFollowed}
use Rattle.entry_audit.proofs.OwnedLemmas.{unseen_less, followed_none, followed_more, followed_strange}
use Rattle.entry_audit.proofs.owned.follow.Goals as goal

pub loop-entry-init : goal.loop-entry-init
loop-entry-init c = record {
  len = refl;
  followed = ([], followed_none c.args.links.now c.args.list c.args.head c.args.seen.now.items);
}

pub returns-in_default-clause-strange : goal.returns-in_default-clause-strange
returns-in_default-clause-strange c = λ is.
    followed_strange c.loop-entry.invariant.followed.1 c.loop-entry-test.true c.requires.apart
    (rw c.deref.ensures.value at c.in_default.ensures.none)

pub loop-entry-smaller : goal.loop-entry-smaller
loop-entry-smaller c =
    unseen_less c.loop-entry.seen.items c.loop-entry.entry (rw c.deref.ensures.value at c.in-Some.ensures.inside)
    (rw c.deref.ensures.value at c.in-Some.ensures.unseen)

pub loop-entry-preserved : goal.loop-entry-preserved
loop-entry-preserved c = record {
  len = length-set c.loop-entry.seen.items c.loop-entry.entry true ∙ c.loop-entry.invariant.len;
  followed = (
    c.loop-entry.invariant.followed.0 ++ c.loop-entry.entry ∷ [],
    followed_more c.loop-entry.invariant.followed.1 c.loop-entry-test.true c.in-Some.next
        (rw c.deref.ensures.value at c.in-Some.ensures.inside) c.in-Some.ensures.may c.in-Some.ensures.next,
  );
}

pub returns-clause-ends : goal.returns-clause-ends
returns-clause-ends c = λ is. (
  c.loop-entry.invariant.followed.0,
  subst (λ (n : ℕ). IsFollowed c.args.links.now c.args.list c.args.head c.args.seen.now.items c.loop-entry.seen.items
      c.loop-entry.invariant.followed.0 n) c.loop-entry-test.false c.loop-entry.invariant.followed.1,
)
