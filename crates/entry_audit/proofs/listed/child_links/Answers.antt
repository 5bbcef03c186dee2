use Rattle.std.proofs.Common.{None}
use Rattle.entry_audit.specs.Listed.{IsChildLink}
use Rattle.entry_audit.proofs.ListedLemmas.{read_at, past_unused, pushed_len, made_more, made_all}
use Rattle.entry_audit.proofs.listed.child_links.Goals as goal

pub loop-entry-preserved : goal.loop-entry-preserved
loop-entry-preserved c =
    let before = c.loop-entry.invariant in
    let xs = c.loop-entry.links.items in
    let ys = c.push.new.self.items in
    let n = c.loop-entry.entry in
    record {
      len = pushed_len xs ys c.child_link.result n c.in_ok-push.ensures.items before.len;
      made = λ t is. made_more (IsChildLink t c.args.kind) xs ys c.child_link.result None n c.in_ok-push.ensures.items
          before.len (before.made t is) (c.child_link.ensures t (read_at c.args.kind t c.args.table.now
          c.deref-read-items.result.now n c.deref-read-items.ensures.value is c.loop-entry-test.true));
    }

pub returns : goal.returns
returns c = λ t is. made_all (IsChildLink t c.args.kind) c.loop-entry.links.items None c.loop-entry.entry
    c.loop-entry.invariant.len (c.loop-entry.invariant.made t is) (λ e past named.
    past_unused c.args.kind t c.args.table.now c.deref-read-items.result.now c.loop-entry.entry e
    c.deref-read-items.ensures.value is c.loop-entry-test.false past named.used)
