use Rattle.std.proofs.Common.{arith, sym, ◌∙◌, take, length-set, ◌<◌}
use Rattle.std.proofs.lemmas.List.{take_rest, length-drop}
use Rattle.save_bytes.proofs.PathCodeLemmas.{name_full, name_bad, name_more, name_done, filled_more}
use Rattle.save_bytes.proofs.path.read_name.Goals as goal

pub returns-then-count-eq16 : goal.returns-then-count-eq16
returns-then-count-eq16 c =
    name_full c.args.text.now c.loop-bytes.at c.loop-bytes.count c.loop-bytes.bytes
    c.loop-bytes.invariant.read c.if-count-eq16.true
    (rw take_rest at (sym c.loop-bytes-test.ensures))

pub returns-in_default : goal.returns-in_default
returns-in_default c =
    name_bad c.args.text.now c.loop-bytes.at c.loop-bytes.count c.loop-bytes.bytes c.loop-bytes.invariant.read
    (omega arith)
    (rw take_rest at (sym c.loop-bytes-test.ensures)) (rw take_rest at c.in_default.ensures)

pub loop-bytes-preserved : goal.loop-bytes-preserved
loop-bytes-preserved c =
    let read = rw take_rest at c.in-Some.ensures in
    let room : c.loop-bytes.count < 16 = omega arith in
    record {
      read = name_more c.args.text.now c.loop-bytes.at c.loop-bytes.count c.loop-bytes.bytes
          c.loop-bytes.invariant.read room
          c.loop-bytes.invariant.long (rw take_rest at
          (sym c.loop-bytes-test.ensures)) c.in-Some.byte c.in-Some.taken read.0;
      inside = omega (arith, read.2, length-drop c.loop-bytes.at c.args.text.now);
      short = omega arith;
      long = rw length-set c.loop-bytes.invariant.long;
      filled = filled_more c.loop-bytes.bytes c.loop-bytes.count c.in-Some.byte c.loop-bytes.invariant.long room
          c.loop-bytes.invariant.filled;
    }

pub returns : goal.returns
returns c = record {
  bytes = take c.loop-bytes.count c.loop-bytes.bytes;
  read = name_done c.args.text.now c.loop-bytes.at c.loop-bytes.count c.loop-bytes.bytes c.loop-bytes.invariant.read
      (rw take_rest at (sym c.name_ends.ensures ∙ c.loop-bytes-test.false));
  is = c.loop-bytes.invariant.filled;
  inside = c.loop-bytes.invariant.inside;
}
