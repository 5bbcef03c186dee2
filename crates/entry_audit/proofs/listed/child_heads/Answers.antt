use Rattle.std.proofs.Common.{length, refl, ap, arith}
use Rattle.entry_tables.specs.declared.table.EntryKind.TheVariants.{Dir}
use Rattle.entry_audit.specs.Listed.{IsChildHead}
use Rattle.entry_audit.proofs.ListedLemmas.{read_at, past_unused, pushed_len, made_more, made_all}
use Rattle.entry_audit.proofs.listed.child_heads.Goals as goal

pub loop-read-preserved : goal.loop-read-preserved
loop-read-preserved c =
    let before = c.loop-read.invariant in
    let xs = c.loop-read.heads.items in
    let ys = c.push.new.self.items in
    let n = c.loop-read.read-index in
    record {
      len = pushed_len xs ys c.child_head.result n c.in_ok-push.ensures.items before.len;
      made = λ t is. made_more (IsChildHead t c.args.kind) xs ys c.child_head.result 0 n
          c.in_ok-push.ensures.items before.len (before.made t is) (c.child_head.ensures t n
          (read_at Dir t c.args.dirs.now c.deref-read-items.result.now n c.deref-read-items.ensures.value is
          c.loop-read-test.true));
    }

pub returns-clause-len : goal.returns-clause-len
returns-clause-len c =
    omega (
      arith,
      c.loop-read.invariant.len,
      c.loop-read-test.false,
      c.loop-read.auto.read-index-end,
      ap length c.deref-read-items.ensures.value,
    )

pub returns-clause-heads : goal.returns-clause-heads
returns-clause-heads c = λ t is. record {
  count = omega (
    arith,
    c.loop-read.invariant.len,
    c.loop-read-test.false,
    c.loop-read.auto.read-index-end,
    ap length c.deref-read-items.ensures.value,
    is.count,
  );
  begin = made_all (IsChildHead t c.args.kind) c.loop-read.heads.items 0 c.loop-read.read-index
      c.loop-read.invariant.len (c.loop-read.invariant.made t is) (λ d past.
      (let unused = past_unused Dir t c.args.dirs.now c.deref-read-items.result.now c.loop-read.read-index d
      c.deref-read-items.ensures.value is c.loop-read-test.false past in
      record { used = λ used. absurd (unused used); unused = λ not. refl }));
}
